-- Number 11 (document 01, "Refusals that come from the input"): "program only: a script line over its length or of no known form .., or a
-- file that can't be read". It is said with the place 0, and leaves the register as it was, whatever the register.
use mathlib.Core.Path.{◌≡◌, refl}
use mathlib.Core.Bool.{true}
use Rattle.std.specs.Prelude.{Some, None}
use mathlib.Core.List.{List, [], ◌∷◌}
use Prim.Native.Nat.{ℕ}
use lib.ListN.{replicate}
use Rattle.ledger.specs.Ledger.{Ledger}
use Rattle.ledger.specs.declared.Entry.TheVariants.{SevenDays}
use Rattle.answers.specs.Values.{said_refusal}
use Rattle.register.specs.View.{Register}
use Rattle.register.specs.Written.{does_reading}
use Rattle.register.specs.Told.{told, tells}
use Rattle.script.specs.Lines.{fields, category_line, file_line, by_letter, line_of}
use Rattle.session.specs.Lines.{Reading, File, only_asks, ask_step, line_step}

-- `Z`, `C,` with 511 bytes more, and `F,X,Y`
abbrev no_form : List ℕ
no_form = 90 ∷ []

abbrev too_long : List ℕ
too_long = 67 ∷ 44 ∷ replicate 511 49

abbrev file_of_xY : List ℕ
file_of_xY = 70 ∷ 44 ∷ 88 ∷ 44 ∷ 89 ∷ []

pub record Eleven (r : Register) (l : Ledger) (file : File) (reading : Reading) : Type 0 where
  -- "of no known form", whether a file could be read or not
  pub no_form_lem : line_step r file (line_of no_form) ≡ tells r (said_refusal 11 0)
  -- "over its length"
  pub too_long_lem : line_step r file (line_of too_long) ≡ tells r (said_refusal 11 0)
  -- the same where lines that only ask are answered
  pub only_asked : (only_asks (line_of no_form) ≡ true) × (ask_step l (line_of no_form) ≡ said_refusal 11 0)
  -- "a file that can't be read", and one that can: it is filed as it was read
  pub no_file : line_step r None (line_of file_of_xY) ≡ tells r (said_refusal 11 0)
  pub a_file : line_step r (Some reading) (line_of file_of_xY) ≡ told (does_reading r SevenDays (88 ∷ []) reading)

pub eleven : (r : Register) (l : Ledger) (file : File) (reading : Reading) → Eleven r l file reading
unfolding fields category_line file_line by_letter line_of only_asks ask_step line_step
eleven r l file reading =
    record {
      no_form_lem = refl;
      too_long_lem = refl;
      only_asked = (refl, refl);
      no_file = refl;
      a_file = refl;
    }
