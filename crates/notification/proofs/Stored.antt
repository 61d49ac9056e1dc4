-- A code and a category in the bytes in which they are kept: a code byte by byte, a category with a 0 where it has no C.
use mathlib.Core.Path.{◌≡◌, refl, ◌∙◌}
use mathlib.Core.Bool.{true, ◌&&◌, ◌||◌}
use mathlib.Core.List.{List, [], ◌∷◌, ◌++◌}
use Prim.Native.Nat.{ℕ, zero, suc, ◌+◌, ◌<◌}
use native.Mathlib.Numerals.{add-one}
use native.Mathlib.Omega.{arith}
use lib.Dec.{eqb}
use lib.ListN.{length, get_or, take, set, replicate, length-append, length-replicate}
use lib.Seq.{take_at, take-suc, take-suc-set, length-take-le, get_or_at, get_or-take}
use borrow.Author.Tests.{eqb-true}
use Rattle.lists.specs.Searches.{every}
use Rattle.lists.proofs.Tests.{and_left, and_right, or_cases}
use Rattle.lists.proofs.Parts.{take_filled}
use Rattle.notification.specs.Forms.{is_digit, is_category, filled, six_bytes, category_text}

-- ---- entries in their places

-- as many entries as places are the places
pub filled_all : (n : ℕ) (s : List ℕ) → length s ≡ n → filled n s ≡ s
filled_all n s e = take_at s (replicate n 0) n e

pub filled_length : (n : ℕ) (s : List ℕ) → length (filled n s) ≡ n
filled_length n s = length-take-le n (s ++ replicate n 0) (omega (arith, length-append s (replicate n 0), length-replicate {A = ℕ} n 0))

-- what stands at a place: an entry, or 0 past them
pub filled_at : (n : ℕ) (s : List ℕ) (i : ℕ) → i < n → get_or (filled n s) i 0 ≡ get_or s i 0
filled_at n s i h = get_or-take n (s ++ replicate n 0) i 0 h ∙ zeros n s i
  where
    zeros : (n : ℕ) (s : List ℕ) (i : ℕ) → get_or (s ++ replicate n 0) i 0 ≡ get_or s i 0
    zeros zero [] i = refl
    zeros (suc n) [] zero = refl
    zeros (suc n) [] (suc i) = zeros n [] i
    zeros n (x ∷ s) zero = refl
    zeros n (x ∷ s) (suc i) = zeros n s i

-- ---- a copy: one entry more, and all of them

pub copied_more : (n : ℕ) (a s : List ℕ) (i x : ℕ) → i < n → length a ≡ n → x ≡ get_or s i 0 → take i a ≡ take i (filled n s) →
    take (i + 1) (set a i x) ≡ take (i + 1) (filled n s)
copied_more n a s i x h l v e =
    let k : i < length (filled n s) = omega (arith, filled_length n s) in
    rw (add-one, take-suc-set a i x (omega arith), take-suc (filled n s) i 0 k, filled_at n s i h, e, v)

-- ---- a category's six bytes

-- a text of five bytes has a 0 behind it
pub six_five : (s : List ℕ) → length s ≡ 5 → six_bytes s ≡ s ++ 0 ∷ []
six_five s n = let e = take_filled 0 s 6 (omega arith) in rw n at e

-- they stand for the category's text
pub six_back : (c : List ℕ) → is_category c ≡ true → category_text (six_bytes c) ≡ c
unfolding is_category category_text
six_back c e =
    let b = eqb (length c) 6 && eqb (get_or c 5 0) 67 in
    or_cases (eqb (length c) 5) b (and_right (every is_digit (take 5 c)) (eqb (length c) 5 || b) e)
    (λ a. let n = eqb-true (length c) 5 a in
    rw (six_five c n, get_or_at c 0 [] 0 5 n) (take_at c (0 ∷ []) 5 n))
    (λ a. let n = eqb-true (length c) 6 (and_left (eqb (length c) 6) (eqb (get_or c 5 0) 67) a) in
    let m = eqb-true (get_or c 5 0) 67 (and_right (eqb (length c) 6) (eqb (get_or c 5 0) 67) a) in
    rw (filled_all 6 c n, m))
