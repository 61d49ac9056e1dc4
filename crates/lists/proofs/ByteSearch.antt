-- The search for a byte from a place on: it stands there, or is looked for after it, or the text has ended.
use mathlib.Core.Path.{◌≡◌, refl, ap}
use mathlib.Core.Bool.{Bool, true, false, ◌||◌}
use mathlib.Core.List.{List, [], ◌∷◌}
use Prim.Native.Nat.{ℕ, zero, suc, ◌+◌, ◌<◌, ◌≤◌}
use native.Mathlib.Numerals.{add-one}
use native.Mathlib.Omega.{arith}
use lib.ListN.{length, get_or, take, drop, length-drop, take-append-drop, drop_of_length-le}
use lib.Seq.{drop-cons, drop-drop, length-take-le}
use borrow.Author.Tests.{eq-eqb, ne_eqb}
use Rattle.lists.specs.Searches.{some, place_of, is_byte, byte_from}
use Rattle.lists.proofs.Tests.{or_left, or_right}
use Rattle.lists.proofs.Places.{place_end, place_later}

-- one byte more
pub some_more : (p : ℕ → Bool) (s : List ℕ) (i : ℕ) → i < length s →
    some p (take (suc i) s) ≡ (some p (take i s) || p (get_or s i 0))
some_more p [] i h = absurd (omega arith)
some_more p (x ∷ s) zero h = go (p x)
  where
    go : (t : Bool) → (t || false) ≡ t
    go true = refl
    go false = refl
some_more p (x ∷ s) (suc i) h = go (p x) (some_more p s i (omega arith))
  where
    go : (t : Bool) → some p (take (suc i) s) ≡ (some p (take i s) || p (get_or s i 0)) →
        (t || some p (take (suc i) s)) ≡ ((t || some p (take i s)) || p (get_or s i 0))
    go true e = refl
    go false e = e

-- what no entry passes isn't found
pub place_none : (p : ℕ → Bool) (s : List ℕ) → some p s ≡ false → length s ≤ place_of p s
unfolding place_of
place_none p [] e = omega arith
place_none p (x ∷ s) e =
    let f = or_left (p x) (some p s) e in
    rw f (omega (arith, place_none p s (or_right (p x) (some p s) e)))

module _ (b : ℕ) (s : List ℕ) where
  pub byte_after : (from : ℕ) → from ≤ byte_from b s from
  unfolding byte_from
  byte_after from = omega arith

  pub byte_inside : (from : ℕ) → from ≤ length s → byte_from b s from ≤ length s
  unfolding byte_from
  byte_inside from h = omega (arith, place_end (is_byte b) (drop from s), length-drop from s)

  pub byte_here : (i : ℕ) → i < length s → get_or s i 0 ≡ b → i ≡ byte_from b s i
  unfolding byte_from place_of
  byte_here i h e = rw (drop-cons s i 0 h, eq-eqb (get_or s i 0) b e) (omega arith)

  pub byte_past : (i : ℕ) → i < length s → (get_or s i 0 ≡ b → ⊥) → byte_from b s (i + 1) ≡ byte_from b s i
  unfolding byte_from place_of
  byte_past i h ne = rw (drop-cons s i 0 h, ne_eqb (get_or s i 0) b ne, add-one) (omega arith)

  pub byte_nowhere : (i : ℕ) → length s ≤ i → i ≡ byte_from b s i
  unfolding byte_from place_of
  byte_nowhere i h = rw (drop_of_length-le s h) (omega arith)

  -- bytes without it are passed at once
  pub bytes_past : (i k : ℕ) → i + k ≤ length s → some (is_byte b) (take k (drop i s)) ≡ false → byte_from b s (i + k) ≡ byte_from b s i
  unfolding byte_from
  bytes_past i k h e =
      let l = length-drop i s in
      let m = length-take-le k (drop i s) (omega arith) in
      let p = place_later (is_byte b) (take k (drop i s)) (drop k (drop i s)) (place_none (is_byte b) (take k (drop i s)) e) in
      let q = ap (place_of (is_byte b)) (take-append-drop k (drop i s)) in
      let r = ap (place_of (is_byte b)) (drop-drop k i s) in
      omega arith
