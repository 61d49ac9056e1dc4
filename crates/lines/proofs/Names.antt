-- Which lines name a file, and where its name starts: it is the rest of the line, from one after the comma before it on.
use Rattle.std.proofs.Common.{◌≡◌, ℕ, suc, ◌+◌, ◌-◌, ◌<◌, true, false, List, length, drop, sym, refl, ap, ◌∙◌, subst, arith, length-drop}
use Rattle.lists.proofs.Parts.{rest_all}
use Rattle.lists.proofs.Tests.{by_test, true_false}
use Rattle.script.specs.Lines.{file_of, line_of}
use Rattle.script.specs.Spans.{first_text, second_text, asked_of, asked, names_file, line_read}
use Rattle.script.specs.declared.reading.Kind.{Kind}
use Rattle.script.specs.declared.reading.Kind.TheVariants.{Calls, Files, Engagement, RecordOf, Unknown}
use Rattle.script.specs.declared.reading.Line.{Line}
use Rattle.script.proofs.ReadAgain.{asked_line, named_line}
use Rattle.std.specs.Prelude.{Option, Some, None}
use Rattle.session.specs.Lines.{File, line_step}
use Rattle.register.specs.View.{Register}
use Rattle.register.specs.Told.{Told}
use Rattle.lines.specs.Walking.{name_from, name_at, wanted, NamedIn}

pub none_wanted : (given : Option File) (line : List ℕ) → name_at line ≡ 0 → wanted given line ≡ 0
none_wanted (Some file) line e = refl
none_wanted None line e = e

-- ---- a line that was read

none_by : (n : ℕ) (k : Kind) (x y : List ℕ) (day v : ℕ) (powers : List ℕ) → names_file k ≡ false → name_from n (asked_of k x y day v powers) ≡ 0
none_by n (Calls call) x y day v powers e = refl
none_by n Files x y day v powers e = true_false true refl e
none_by n Engagement x y day v powers e = refl
none_by n RecordOf x y day v powers e = refl
none_by n Unknown x y day v powers e = refl

files_by : (k : Kind) (x y : List ℕ) (day v : ℕ) (powers : List ℕ) → names_file k ≡ true → asked_of k x y day v powers ≡ file_of x y
files_by (Calls call) x y day v powers e = true_false false e refl
files_by Files x y day v powers e = refl
files_by Engagement x y day v powers e = true_false false e refl
files_by RecordOf x y day v powers e = true_false false e refl
files_by Unknown x y day v powers e = true_false false e refl

-- a line that names no file does the same whatever file is given
any_by : (reg : Register) (file other : File) (k : Kind) (x y : List ℕ) (day v : ℕ) (powers : List ℕ) → names_file k ≡ false →
    line_step reg file (asked_of k x y day v powers) ≡ line_step reg other (asked_of k x y day v powers)
unfolding line_step
any_by reg file other (Calls call) x y day v powers e = refl
any_by reg file other Files x y day v powers e = true_false true refl e
any_by reg file other Engagement x y day v powers e = refl
any_by reg file other RecordOf x y day v powers e = refl
any_by reg file other Unknown x y day v powers e = refl

module _ (line : List ℕ) {r : Line} (w : r ≡ line_read line) where
  pub says : asked line r ≡ line_of line
  says = ap (asked line) w ∙ asked_line line

  named : names_file r.kind ≡ true → (r.first < length line) × (r.second ≡ length line)
  named e = rw w (named_line line (rw w at e))

  none_read : names_file r.kind ≡ false → name_at line ≡ 0
  unfolding name_at asked
  none_read e = ap (name_from (length line)) (sym says) ∙ none_by (length line) r.kind _ _ _ _ _ e

  -- the name is the rest of the line after the comma that ends the first text
  files_read : names_file r.kind ≡ true → line_of line ≡ file_of (first_text line r) (second_text line r)
  unfolding asked
  files_read e = sym says ∙ files_by r.kind _ _ _ _ _ e

  rest_read : names_file r.kind ≡ true → line_of line ≡ file_of (first_text line r) (drop (r.first + 1) line)
  rest_read e =
      let d : second_text line r ≡ drop (r.first + 1) line = rw (named e).1 (rest_all (r.first + 1) line) in
      files_read e ∙ ap (file_of (first_text line r)) d

  pub named_read : names_file r.kind ≡ true → NamedIn line (r.first + 1)
  named_read e = record { inside = omega (arith, (named e).0); submitter = first_text line r; files = rest_read e }

  name_read_lem : names_file r.kind ≡ true → r.first + 1 ≡ name_at line
  unfolding name_at
  name_read_lem e =
      let l : length (drop (r.first + 1) line) ≡ length line - (r.first + 1) = length-drop (r.first + 1) line in
      let n : suc (length line - suc (length (drop (r.first + 1) line))) ≡ r.first + 1 = rw l (omega (arith, (named e).0)) in
      sym (ap (name_from (length line)) (rest_read e) ∙ n)

  -- what is told of a line that names none
  pub none_told : (reg : Register) (file other : File) {x : Told} → names_file r.kind ≡ false →
      x ≡ line_step reg file (asked line r) → x ≡ line_step reg other (line_of line)
  unfolding asked
  none_told reg file other e f = f ∙ any_by reg file other r.kind _ _ _ _ _ e ∙ ap (line_step reg other) says

  -- what is told of a line that names a file
  pub file_told : (reg : Register) (file : File) {x : Told} → names_file r.kind ≡ true →
      x ≡ line_step reg file (file_of (first_text line r) (second_text line r)) → x ≡ line_step reg file (line_of line)
  file_told reg file e f = f ∙ ap (line_step reg file) (sym (files_read e))

  -- a file is wanted where the line names one and it isn't given
  pub file_wanted : (given : Option File) → names_file r.kind ≡ true → given ≡ None → r.first + 1 ≡ wanted given line
  file_wanted given e g = rw g (name_read_lem e)

  pub no_file : (given : Option File) → names_file r.kind ≡ false → wanted given line ≡ 0
  no_file given e = none_wanted given line (none_read e)

pub given_none : {file : File} (given : Option File) (line : List ℕ) → given ≡ Some file → wanted given line ≡ 0
given_none given line e = rw e refl

-- where a file is wanted, the line names one
name_there : (line : List ℕ) → 0 < name_at line → NamedIn line (name_at line)
name_there line h =
    by_test (names_file (line_read line).kind)
    (λ t. subst (NamedIn line) (name_read_lem line refl t) (named_read line refl t))
    (λ t. absurd (omega (arith, h, none_read line refl t)))

pub wanted_named : (given : Option File) (line : List ℕ) → 0 < wanted given line → NamedIn line (wanted given line) × (given ≡ None)
wanted_named (Some file) line h = absurd (omega (arith, h))
wanted_named None line h = (name_there line h, refl)
