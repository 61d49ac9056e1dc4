-- What a test of a list says of its entries, and what a search says of the numbers before its answer.
use mathlib.Core.Path.{◌≡◌, refl}
use mathlib.Core.Bool.{Bool, true, false, false≢true}
use mathlib.Core.List.{List, [], ◌∷◌, ◌++◌}
use Prim.Native.Nat.{ℕ, zero, suc, ◌+◌, ◌-◌, ◌<◌, ◌≤◌}
use native.Mathlib.Numerals.{add-one}
use native.Mathlib.Omega.{arith}
use lib.Dec.{eqb}
use lib.ListN.{length, get_or, take, replicate}
use borrow.Author.Tests.{eqb-true, eqb-false, eq-eqb}
use Rattle.lists.specs.Searches.{same, every, first_from}
use Rattle.lists.proofs.Tests.{by_test, and_left, and_right, and_true}

-- ---- same

pub same_refl : (s : List ℕ) → same s s ≡ true
unfolding same
same_refl [] = refl
same_refl (x ∷ s) = rw (eq-eqb x x refl) (same_refl s)

pub same_true : (s t : List ℕ) → same s t ≡ true → s ≡ t
unfolding same
same_true [] [] e = refl
same_true [] (y ∷ t) e = absurd (false≢true e)
same_true (x ∷ s) [] e = absurd (false≢true e)
same_true (x ∷ s) (y ∷ t) e =
    cc (eqb-true x y (and_left (eqb x y) (same s t) e), same_true s t (and_right (eqb x y) (same s t) e))

-- ---- every

module _ {A : Type 0} (p : A → Bool) where
  pub every_append : (s t : List A) → every p s ≡ true → every p t ≡ true → every p (s ++ t) ≡ true
  every_append [] t e f = f
  every_append (x ∷ s) t e f =
      and_true (p x) (every p (s ++ t)) (and_left (p x) (every p s) e) (every_append s t (and_right (p x) (every p s) e) f)

  pub every_first : (s t : List A) → every p (s ++ t) ≡ true → every p s ≡ true
  every_first [] t e = refl
  every_first (x ∷ s) t e =
      and_true (p x) (every p s) (and_left (p x) (every p (s ++ t)) e) (every_first s t (and_right (p x) (every p (s ++ t)) e))

  pub every_second : (s t : List A) → every p (s ++ t) ≡ true → every p t ≡ true
  every_second [] t e = e
  every_second (x ∷ s) t e = every_second s t (and_right (p x) (every p (s ++ t)) e)

  pub every_replicate : (n : ℕ) (x : A) → p x ≡ true → every p (replicate n x) ≡ true
  every_replicate zero x e = refl
  every_replicate (suc n) x e = and_true (p x) (every p (replicate n x)) e (every_replicate n x e)

  pub every_at : (s : List A) (i : ℕ) (d : A) → every p s ≡ true → i < length s → p (get_or s i d) ≡ true
  every_at [] i d e h = absurd (omega arith)
  every_at (x ∷ s) zero d e h = and_left (p x) (every p s) e
  every_at (x ∷ s) (suc i) d e h = every_at s i d (and_right (p x) (every p s) e) (omega arith)

  pub every_default : (s : List A) (d : A) → every p s ≡ true → p d ≡ true → (i : ℕ) → p (get_or s i d) ≡ true
  every_default [] d e h i = h
  every_default (x ∷ s) d e h zero = and_left (p x) (every p s) e
  every_default (x ∷ s) d e h (suc i) = every_default s d (and_right (p x) (every p s) e) h i

  pub every_take : (n : ℕ) (s : List A) → every p s ≡ true → every p (take n s) ≡ true
  every_take zero s e = refl
  every_take (suc n) [] e = refl
  every_take (suc n) (x ∷ s) e =
      rw (and_left (p x) (every p s) e) (every_take n s (and_right (p x) (every p s) e))

  pub every_other : (q : A → Bool) → ((x : A) → p x ≡ true → q x ≡ true) → (s : List A) → every p s ≡ true → every q s ≡ true
  every_other q f [] e = refl
  every_other q f (x ∷ s) e =
      and_true (q x) (every q s) (f x (and_left (p x) (every p s) e)) (every_other q f s (and_right (p x) (every p s) e))

-- a list of one number only
pub every_equal : (z : ℕ) (s : List ℕ) → every (λ x. eqb x z) s ≡ true → s ≡ replicate (length s) z
every_equal z [] e = refl
every_equal z (x ∷ s) e =
    let rest = every (λ x. eqb x z) s in
    cc (eqb-true x z (and_left (eqb x z) rest e), every_equal z s (and_right (eqb x z) rest e))

-- ---- first_from

left : (i n : ℕ) → i < n → n - i ≡ suc (n - (i + 1))
left i n h = omega arith

module _ (p : ℕ → Bool) where
  -- the answer is one of the numbers searched, or the one after them
  pub first_from_lem : (i n : ℕ) → i ≤ first_from p i n
  unfolding first_from
  first_from_lem i zero = omega arith
  first_from_lem i (suc n) =
      by_test (p i) (λ t. rw t (omega arith)) (λ t. rw t (omega (arith, first_from_lem (suc i) n)))

  pub first_until : (i n : ℕ) → first_from p i n ≤ i + n
  unfolding first_from
  first_until i zero = omega arith
  first_until i (suc n) =
      by_test (p i) (λ t. rw t (omega arith)) (λ t. rw t (omega (arith, first_until (suc i) n)))

  -- no number before it passes the test
  pub first_before : (i n k : ℕ) → i ≤ k → k < first_from p i n → p k ≡ false
  unfolding first_from
  first_before i zero k h l = absurd (omega arith)
  first_before i (suc n) k h l =
      by_test (p i)
      (λ t. let m : k < i = rw t at l in absurd (omega arith))
      (λ t. by_test (eqb i k)
      (λ u. rw (eqb-true i k u) at t)
      (λ u. first_before (suc i) n k (next u) (rw t at l)))
    where
      next : eqb i k ≡ false → suc i ≤ k
      next u = omega (arith, eqb-false i k u)

  -- where it is one of them, it passes the test
  pub first_passes : (i n : ℕ) → first_from p i n < i + n → p (first_from p i n) ≡ true
  unfolding first_from
  first_passes i zero h = absurd (omega arith)
  first_passes i (suc n) h =
      by_test (p i)
      (λ t. rw (t, t))
      (λ t. let k : first_from p (suc i) n < i + suc n = rw t at h in
      rw t (first_passes (suc i) n (omega arith)))

  -- where none of them does, it is the one after them
  pub first_none : (i n : ℕ) → ((k : ℕ) → i ≤ k → k < i + n → p k ≡ false) → first_from p i n ≡ i + n
  unfolding first_from
  first_none i zero h = omega arith
  first_none i (suc n) h =
      let e = first_none (suc i) n (λ k a b. h k (omega arith) (omega arith)) in
      rw (h i (omega arith) (omega arith)) (omega arith)

  -- a search up to a number, step by step: it ends where the test passes, goes on where it doesn't, and ends at that number
  pub first_here : (i n : ℕ) → i < n → p i ≡ true → first_from p i (n - i) ≡ i
  unfolding first_from
  first_here i n h e = rw (left i n h, e)

  pub first_past : (i n : ℕ) → i < n → p i ≡ false → first_from p i (n - i) ≡ first_from p (i + 1) (n - (i + 1))
  unfolding first_from
  first_past i n h e = rw (left i n h, e, add-one i)

  pub first_end : (i n : ℕ) → n ≤ i → first_from p i (n - i) ≡ i
  unfolding first_from
  first_end i n h = let z : n - i ≡ 0 = omega arith in rw z

-- two tests that agree on the numbers searched have the same answer
pub first_agree : (p q : ℕ → Bool) (i n : ℕ) → ((k : ℕ) → i ≤ k → k < i + n → p k ≡ q k) → first_from p i n ≡ first_from q i n
unfolding first_from
first_agree p q i zero h = refl
first_agree p q i (suc n) h =
    rw (h i (omega arith) (omega arith), first_agree p q (suc i) n (λ k a b. h k (omega arith) (omega arith)))
