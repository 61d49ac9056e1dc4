-- The letter at the beginning of a line says of which kind it is.
use mathlib.Core.Path.{◌≡◌, refl, sym, ap, ap₂, ◌∙◌}
use mathlib.Core.Bool.{Bool, true, false, cond}
use mathlib.Core.List.{List, [], ◌∷◌}
use Prim.Native.Nat.{ℕ, ◌<◌, ◌≤◌}
use native.Mathlib.Omega.{arith}
use lib.Dec.{eqb, leb}
use lib.ListN.{length, get_or}
use borrow.Author.Tests.{eqb-true, eq-eqb, ne_eqb, le-leb, lt-leb}
use Rattle.notification.specs.Reading.{onto}
use Rattle.script.specs.Lines.{Asked, unknown, field, line_most, comma, fields, letter_of, by_letter, line_of, advance_line, enrol_line, category_line, load_line, file_line, engagement_line, record_line}
use Rattle.script.specs.Fields.{fields_from}
use Rattle.script.specs.Spans.{start, end_of, read_as, line_read}
use Rattle.script.specs.Walking.{lettered}
use Rattle.script.specs.declared.reading.Line.{Line}
use Rattle.script.proofs.Parting.{from_inside, fields_parted}
use Rattle.script.proofs.LineKinds.{no_line, Reads}

-- ---- no letter

unknown_either : (t : Bool) → cond t unknown unknown ≡ unknown
unknown_either true = refl
unknown_either false = refl

-- a letter with no field after it
letter_alone : (b : ℕ) → by_letter b [] ≡ unknown
unfolding by_letter advance_line enrol_line category_line load_line file_line engagement_line record_line
letter_alone b =
    simp (unknown_either (eqb b 82), unknown_either (eqb b 69), unknown_either (eqb b 70), unknown_either (eqb b 76), unknown_either (eqb b 67), unknown_either (eqb b 65), unknown_either (eqb b 84))

abbrev first_asks : List (List ℕ) → Asked
first_asks fs = field (λ letter. by_letter (letter_of letter)) fs

pub line_long : (line : List ℕ) → line_most < length line → unknown ≡ line_of line
unfolding line_of
line_long line h = rw (lt-leb (length line) line_most h)

one_byte : (t : Bool) (x : ℕ) → first_asks (onto t x ([] ∷ [])) ≡ unknown
unfolding by_letter
one_byte true x = refl
one_byte false x = letter_alone x

pub line_short : (line : List ℕ) → length line < 2 → unknown ≡ line_of line
unfolding line_of fields by_letter
line_short [] h = refl
line_short (x ∷ []) h = sym (rw (one_byte (eqb x comma) x))
line_short (x ∷ y ∷ s) h = absurd (omega arith)

two_bytes : (t : Bool) (x y : ℕ) (h : List ℕ) (fs : List (List ℕ)) → first_asks (onto t x ((y ∷ h) ∷ fs)) ≡ unknown
unfolding by_letter
two_bytes true x y h fs = refl
two_bytes false x y h fs = refl

pub line_unparted : (line : List ℕ) → 2 ≤ length line → (get_or line 1 0 ≡ comma → ⊥) → unknown ≡ line_of line
unfolding line_of fields
line_unparted [] h ne = absurd (omega arith)
line_unparted (x ∷ []) h ne = absurd (omega arith)
line_unparted (x ∷ y ∷ s) h ne =
    sym (rw (ne_eqb y comma ne, fields_parted s, two_bytes (eqb x comma) x y _ _) (unknown_either (leb (length (x ∷ y ∷ s)) line_most)))

-- ---- a letter and a comma

first_letter : (t : Bool) (x : ℕ) (fs : List (List ℕ)) → eqb x comma ≡ t → first_asks (onto t x ([] ∷ fs)) ≡ by_letter x fs
unfolding by_letter
first_letter true x fs e = rw (eqb-true x comma e)
first_letter false x fs e = refl

pub line_letter : (line : List ℕ) → 2 ≤ length line → length line ≤ line_most → get_or line 1 0 ≡ comma
    → line_of line ≡ by_letter (get_or line 0 0) (fields_from line start)
unfolding line_of fields
line_letter [] h l e = absurd (omega arith)
line_letter (x ∷ []) h l e = absurd (omega arith)
line_letter (x ∷ y ∷ s) h l e =
    rw (le-leb (length (x ∷ y ∷ s)) line_most l, eq-eqb y comma e, from_inside (x ∷ y ∷ s) start h) (first_letter (eqb x comma) x (fields s) refl)

-- ---- which letter

line_with : (line : List ℕ) (b : ℕ) → 2 ≤ length line → length line ≤ line_most → get_or line 1 0 ≡ comma → get_or line 0 0 ≡ b
    → line_of line ≡ by_letter b (fields_from line start)
line_with line b h l e k = rw (← k) (line_letter line h l e)

-- such a line's fields, where its letter is no comma itself
fields_lettered : (line : List ℕ) → 2 ≤ length line → get_or line 1 0 ≡ comma → eqb (get_or line 0 0) comma ≡ false → fields line ≡ lettered line
unfolding fields
fields_lettered [] h e f = absurd (omega arith)
fields_lettered (x ∷ []) h e f = absurd (omega arith)
fields_lettered (x ∷ y ∷ s) h e f = rw (eq-eqb y comma e, f, from_inside (x ∷ y ∷ s) start h) refl

-- a line is read as what its letter says that its fields are
pub read_letter : (line : List ℕ) {r : Line} {a : Asked} (b : ℕ) → eqb b comma ≡ false → 2 ≤ length line → length line ≤ line_most → get_or line 1 0 ≡ comma
    → get_or line 0 0 ≡ b → by_letter b (fields_from line start) ≡ a → Reads line r a → r ≡ line_read line
unfolding line_read
read_letter line b n h l e k f w =
    w ∙ sym (ap₂ (λ (fs : List (List ℕ)) (x : Asked). read_as (end_of fs) x) (fields_lettered line h e (rw k n)) (line_with line b h l e k ∙ f))

pub unknown_read : (line : List ℕ) → unknown ≡ line_of line → no_line ≡ line_read line
unfolding line_read
unknown_read line e = ap (read_as (end_of (fields line))) e

pub no_letter_lem : (b : ℕ) (fs : List (List ℕ)) → (b ≡ 84 → ⊥) → (b ≡ 65 → ⊥) → (b ≡ 67 → ⊥) → (b ≡ 76 → ⊥) → (b ≡ 70 → ⊥) → (b ≡ 69 → ⊥) → (b ≡ 82 → ⊥)
    → unknown ≡ by_letter b fs
unfolding by_letter
no_letter_lem b fs t a c l f e r = rw (ne_eqb b 84 t, ne_eqb b 65 a, ne_eqb b 67 c, ne_eqb b 76 l, ne_eqb b 70 f, ne_eqb b 69 e, ne_eqb b 82 r)

pub letter_t : (fs : List (List ℕ)) → by_letter 84 fs ≡ advance_line fs
unfolding by_letter
letter_t fs = refl

pub letter_a : (fs : List (List ℕ)) → by_letter 65 fs ≡ enrol_line fs
unfolding by_letter
letter_a fs = refl

pub letter_c : (fs : List (List ℕ)) → by_letter 67 fs ≡ category_line fs
unfolding by_letter
letter_c fs = refl

pub letter_l : (fs : List (List ℕ)) → by_letter 76 fs ≡ load_line fs
unfolding by_letter
letter_l fs = refl

pub letter_f : (fs : List (List ℕ)) → by_letter 70 fs ≡ file_line fs
unfolding by_letter
letter_f fs = refl

pub letter_e : (fs : List (List ℕ)) → by_letter 69 fs ≡ engagement_line fs
unfolding by_letter
letter_e fs = refl

pub letter_r : (fs : List (List ℕ)) → by_letter 82 fs ≡ record_line fs
unfolding by_letter
letter_r fs = refl
