-- Tests of lists, and searches in them.
use Rattle.std.specs.Prelude.{Bool, true, false, cond, ◌&&◌, List, [], ◌∷◌, ℕ, zero, suc, ◌+◌, eqb, drop}
use Rattle.std.specs.List.{list_all, list_any}

-- two texts are the same, byte for byte
unfoldable pub same : List ℕ → List ℕ → Bool
same [] [] = true
same [] (y ∷ ys) = false
same (x ∷ xs) [] = false
same (x ∷ xs) (y ∷ ys) = eqb x y && same xs ys

module _ {A : Type 0} where
  -- every entry passes the test
  abbrev pub every : (A → Bool) → List A → Bool
  every p xs = list_all p xs

  -- some entry passes the test
  abbrev pub some : (A → Bool) → List A → Bool
  some p xs = list_any p xs

  -- the place, from 0, of the first entry that passes the test; the number of entries where none does
  unfoldable pub place_of : (A → Bool) → List A → ℕ
  place_of p [] = 0
  place_of p (x ∷ xs) = cond (p x) 0 (suc (place_of p xs))

-- the first of the n numbers from i on that passes the test; the number after them where none does
unfoldable pub first_from : (ℕ → Bool) → ℕ → ℕ → ℕ
first_from p i zero = i
first_from p i (suc n) = cond (p i) i (first_from p (suc i) n)

-- the place of a byte of a text, from a place on; the end of the text where there is none
abbrev pub is_byte : ℕ → ℕ → Bool
is_byte b x = eqb x b

unfoldable pub byte_from : ℕ → List ℕ → ℕ → ℕ
byte_from b s from = from + place_of (is_byte b) (drop from s)
