-- The check character of an EIC code (document 02, K5).
use Rattle.std.specs.Prelude.{◌≡◌, ◌⊎◌, Bool, cond, not, ◌&&◌, List, ℕ, suc, ◌+◌, ◌-◌, ◌*◌, ◌%◌, leb, eqb, get_or}
use Rattle.lists.specs.Sums.{sum_to}
use Rattle.notification.specs.Forms.{is_digit}

-- a letter, A to Z
abbrev pub is_letter : ℕ → Bool
is_letter b = leb 65 b && leb b 90

-- "give 0 to 9 their values, A to Z 10 to 35, hyphen 36"
abbrev pub value_of : ℕ → ℕ
value_of b = cond (is_digit b) (b - 48) (cond (is_letter b) (10 + (b - 65)) 36)

-- "weigh the first fifteen characters 16 down to 2 and add"
abbrev pub weighed_at : List ℕ → ℕ → ℕ
weighed_at code i = (16 - i) * value_of (get_or code i 0)

unfoldable pub weighed : List ℕ → ℕ
weighed code = sum_to 15 (weighed_at code)

-- "The sixteenth has the value 36 less ((sum less 1) modulo 37), where a sum of 0 gives the value 0"
abbrev pub check_value : ℕ → ℕ
check_value sum = cond (eqb sum 0) 0 (36 - (sum - 1) % 37)

-- "and that value may not be 36"
unfoldable pub has_check : List ℕ → Bool
has_check code =
    let value = check_value (weighed code) in
    not (eqb value 36) && eqb (value_of (get_or code 15 0)) value

-- HOW CODES ARE MISTYPED

-- the two differ in exactly one place
pub record OneOther (s t : List ℕ) : Type 0 where
  pub place : ℕ
  pub differs : get_or s place 0 ≡ get_or t place 0 → ⊥
  pub elsewhere : (i : ℕ) → (i ≡ place → ⊥) → get_or s i 0 ≡ get_or t i 0

-- the two differ by two neighbouring characters, which are not the same, exchanged
pub record Exchanged (s t : List ℕ) : Type 0 where
  pub place : ℕ
  pub differs : get_or s place 0 ≡ get_or s (suc place) 0 → ⊥
  pub first : get_or t place 0 ≡ get_or s (suc place) 0
  pub second : get_or t (suc place) 0 ≡ get_or s place 0
  pub elsewhere : (i : ℕ) → (i ≡ place → ⊥) → (i ≡ suc place → ⊥) → get_or s i 0 ≡ get_or t i 0

abbrev pub Mistyped : List ℕ → List ℕ → Type 0
Mistyped s t = OneOther s t ⊎ Exchanged s t
