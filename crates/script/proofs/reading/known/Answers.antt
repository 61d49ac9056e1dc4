-- Each letter has its kind, and a line without one is unknown.
use mathlib.Core.Path.{refl, sym, ◌∙◌}
use native.Mathlib.Omega.{arith}
use Rattle.script.proofs.Letters.{read_letter, unknown_read, line_long, line_short, line_unparted, line_letter, no_letter_lem, letter_t, letter_a, letter_c, letter_l, letter_f, letter_e, letter_r}
use Rattle.script.proofs.reading.known.Goals as goal

pub returns-then-n-gt512 : goal.returns-then-n-gt512
returns-then-n-gt512 c = unknown_read _ (line_long _ c.if-n-gt512.true)

pub returns-then-n-lt2 : goal.returns-then-n-lt2
returns-then-n-lt2 c = unknown_read _ (line_short _ c.if-n-lt2.true)

pub returns-then-line-ne44 : goal.returns-then-line-ne44
returns-then-line-ne44 c = unknown_read _ (line_unparted _ c.if-n-lt2.false c.if-line-ne44.true)

pub returns-in-69 : goal.returns-in-69
returns-in-69 c =
    read_letter _ 69 refl c.if-n-lt2.false c.if-n-gt512.false c.if-line-ne44.false c.in-69.is (letter_e _) c.engagement.ensures

pub returns-in-70 : goal.returns-in-70
returns-in-70 c =
    read_letter _ 70 refl c.if-n-lt2.false c.if-n-gt512.false c.if-line-ne44.false c.in-70.is (letter_f _) c.file.ensures

pub returns-in-84 : goal.returns-in-84
returns-in-84 c =
    read_letter _ 84 refl c.if-n-lt2.false c.if-n-gt512.false c.if-line-ne44.false c.in-84.is (letter_t _) c.advance.ensures

pub returns-in-82 : goal.returns-in-82
returns-in-82 c =
    read_letter _ 82 refl c.if-n-lt2.false c.if-n-gt512.false c.if-line-ne44.false c.in-82.is (letter_r _) c.record_of.ensures

pub returns-in-76 : goal.returns-in-76
returns-in-76 c =
    read_letter _ 76 refl c.if-n-lt2.false c.if-n-gt512.false c.if-line-ne44.false c.in-76.is (letter_l _) c.load.ensures

pub returns-in-65 : goal.returns-in-65
returns-in-65 c =
    read_letter _ 65 refl c.if-n-lt2.false c.if-n-gt512.false c.if-line-ne44.false c.in-65.is (letter_a _) c.enrol.ensures

pub returns-in-67 : goal.returns-in-67
returns-in-67 c =
    read_letter _ 67 refl c.if-n-lt2.false c.if-n-gt512.false c.if-line-ne44.false c.in-67.is (letter_c _) c.category.ensures

pub returns-in_default : goal.returns-in_default
returns-in_default c =
    unknown_read _
    (no_letter_lem _ _ (omega arith) (omega arith) (omega arith) (omega arith) (omega arith) (omega arith) (omega arith) ∙ sym (line_letter _ c.if-n-lt2.false c.if-n-gt512.false c.if-line-ne44.false))
