-- Keys as numbers: which records move power for an actor, in a category and on a day, and which of these are under the key itself.
use Rattle.std.proofs.Common.{◌≡◌, ℕ, ◌+◌, ◌/◌, ◌%◌, ◌<◌, Bool, true, false, cond, not, ◌&&◌, ◌||◌, eqb, ltb, refl, ap, arith, ltb-true, lt-ltb, eq-eqb, eqb-true}
use mathlib.Core.Bool.{false≢true}
use Rattle.lists.proofs.Tests.{by_test, and_left, and_right, and_true}

-- ---- tests

-- two tests that follow from each other are the same
pub same_test : (t u : Bool) → (t ≡ true → u ≡ true) → (u ≡ true → t ≡ true) → t ≡ u
same_test t true f g = g refl
same_test t false f g = by_test t (λ e. absurd (false≢true (f e))) (λ e. e)

-- the same of two orders
pub same_order : (a b m n : ℕ) → (a < b → m < n) → (m < n → a < b) → ltb a b ≡ ltb m n
same_order a b m n f g =
    same_test (ltb a b) (ltb m n) (λ e. lt-ltb m n (f (ltb-true a b e))) (λ e. lt-ltb a b (g (ltb-true m n e)))

never : (t : Bool) → (t ≡ true → ⊥) → t ≡ false
never true f = absurd (f refl)
never false f = refl

-- one of four
module _ (p q r t : Bool) where
  pub any_1 : p ≡ true → (p || q || (r || t)) ≡ true
  any_1 e = rw e

  pub any_2 : q ≡ true → (p || q || (r || t)) ≡ true
  any_2 e = rw e (by_test p (λ f. rw f) (λ f. rw f))

  pub any_3 : r ≡ true → (p || q || (r || t)) ≡ true
  any_3 e = rw e (by_test p (λ f. rw f) (λ f. rw f (by_test q (λ g. rw g) (λ g. rw g))))

  pub any_4 : t ≡ true → (p || q || (r || t)) ≡ true
  any_4 e =
      rw e (by_test p (λ f. rw f) (λ f. rw f (by_test q (λ g. rw g) (λ g. rw g (by_test r (λ h. rw h) (λ h. rw h))))))

-- ---- the numbers of keys

module _ (m own : ℕ) where
  -- the same category and day
  abbrev pub same_day : Bool
  same_day = eqb (m / 64) (own / 64)

  day_of_lem : m / 64 % 4 ≡ own / 64 % 4 → m / 256 ≡ own / 256 → m / 64 ≡ own / 64
  day_of_lem e f = omega arith

  category_of_lem : m / 64 ≡ own / 64 → m / 64 % 4 ≡ own / 64 % 4
  category_of_lem e = omega arith

  whole_day_of : m / 64 ≡ own / 64 → m / 256 ≡ own / 256
  whole_day_of e = omega arith

  pub kind_packed : (k : Bool) → (k && eqb (m / 64 % 4) (own / 64 % 4) && eqb (m / 256) (own / 256)) ≡ (same_day && k)
  kind_packed k =
      same_test _ _
      (λ e.
      let f = and_left (k && eqb (m / 64 % 4) (own / 64 % 4)) _ e in
      and_true same_day k
      (eq-eqb (m / 64) (own / 64)
      (day_of_lem (eqb-true _ _ (and_right k _ f)) (eqb-true _ _ (and_right (k && eqb (m / 64 % 4) (own / 64 % 4)) _ e))))
      (and_left k _ f))
      (λ e.
      let f = eqb-true _ _ (and_left same_day k e) in
      and_true _ _ (and_true _ _ (and_right same_day k e) (eq-eqb _ _ (category_of_lem f))) (eq-eqb _ _ (whole_day_of f)))

  -- a record under the key is of each kind that the key is of, and of no other
  pub own_is : (k : Bool) → (m ≡ own → k ≡ true) → (eqb m own && (same_day && k)) ≡ eqb m own
  own_is k f =
      same_test _ _ (λ e. and_left (eqb m own) _ e)
      (λ e. and_true _ _ e (and_true _ _ (eq-eqb _ _ (ap (λ n. n / 64) (eqb-true m own e))) (f (eqb-true m own e))))

  pub own_is_not : (k : Bool) → (m ≡ own → k ≡ true → ⊥) → (eqb m own && (same_day && k)) ≡ false
  own_is_not k f =
      never _
      (λ e. f (eqb-true m own (and_left (eqb m own) _ e)) (and_right same_day k (and_right (eqb m own) _ e)))

-- ---- what a record moves

-- what a record of a kind moves is what it moves as another key's, and what it moves under the key itself
pub term_split : (e k o t p w : Bool) (n : ℕ) → (k ≡ true → p ≡ true) →
    cond (e && k) (cond (t && w) n 0) 0
    ≡ cond ((e && not o && (t && p)) && k) (cond w n 0) 0 + cond (o && (e && k)) (cond (t && w) n 0) 0
term_split false k true t p w n h = refl
term_split false k false t p w n h = refl
term_split true false true t p w n h = refl
term_split true false false false p w n h = refl
term_split true false false true true w n h = refl
term_split true false false true false w n h = refl
term_split true true true t p w n h = omega arith
term_split true true false false p w n h = refl
term_split true true false true p w n h = rw (h refl) (omega arith)
