-- A list of places, made while numbers are passed one by one, and used to pass over those that it doesn't have.
use mathlib.Core.Path.{◌≡◌, refl, sym, subst, ap, ◌∙◌}
use mathlib.Core.Bool.{Bool, false}
use mathlib.Core.List.{List}
use Prim.Native.Nat.{ℕ, zero, suc, ◌+◌, ◌<◌, ◌≤◌}
use native.Mathlib.Omega.{arith}
use native.Mathlib.Numerals.{add-one}
use native.Mathlib.Decide.{ℕ_discrete}
use lib.ListN.{get_or, set}
use lib.Seq.{get_or-set_other}
use Rattle.tables.specs.Passing.{reached, PlacesOf}

-- ---- from a number to a higher one, step by step

pub through : (P : ℕ → Type 0) (low high : ℕ) → low ≤ high → ((i : ℕ) → low ≤ i → i < high → P i → P (i + 1)) → P low → P high
through P low zero h next p = let e : low ≡ 0 = omega arith in subst P e p
through P low (suc high) h next p =
    go (ℕ_discrete low (suc high)) (λ k. through P low high k (λ i a b. next i a (omega arith)) p)
  where
    go : Dec (low ≡ suc high) → (low ≤ high → P high) → P (suc high)
    go (yes e) before = subst P e p
    go (no ne) before = subst P (add-one high) (next high (omega arith) (omega arith) (before (omega arith)))

-- ---- making the list

module _ (test : ℕ → Bool) (n count : ℕ) (places : List ℕ) (l : PlacesOf test n count places) where
  -- a number that fails the test is not listed
  pub listed_skip : test n ≡ false → PlacesOf test (n + 1) count places
  listed_skip e =
      record {
        few = omega (arith, l.few);
        up = l.up;
        below = λ j h. omega (arith, l.below j h);
        between = l.between;
        after = λ i a b. last i a b (ℕ_discrete i n);
      }
    where
      last : (i : ℕ) → reached places count ≤ i → i < n + 1 → Dec (i ≡ n) → test i ≡ false
      last i a b (yes q) = ap test q ∙ e
      last i a b (no ne) = l.after i a (omega arith)

  reached_set : (v j : ℕ) → j ≤ count → reached (set places count v) j ≡ reached places j
  reached_set v zero h = refl
  reached_set v (suc j) h = ap suc (get_or-set_other places count j v 0 (λ e. omega arith))

  -- ---- using it: what stays as it is where the test fails is carried from one listed place to the next

  module _ (P : ℕ → Type 0) (same : (i : ℕ) → test i ≡ false → P i → P (i + 1)) where
    pub listed_next : (j : ℕ) → j < count → P (reached places j) → P (get_or places j 0)
    listed_next j h p =
        through P (reached places j) (get_or places j 0) (l.up j h) (λ i a b. same i (l.between j i h a b)) p

    pub listed_end : P (reached places count) → P n
    listed_end p = through P (reached places count) n (reach count (omega arith)) (λ i a b. same i (l.after i a b)) p
      where
        reach : (j : ℕ) → j ≤ count → reached places j ≤ n
        reach zero a = omega arith
        reach (suc j) a = omega (arith, l.below j (omega arith))

-- the next listed place is reached
pub reached_more : (places : List ℕ) (j : ℕ) → reached places (j + 1) ≡ get_or places j 0 + 1
reached_more places j = ap (reached places) (add-one j) ∙ sym (add-one (get_or places j 0))
