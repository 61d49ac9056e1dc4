-- Tests tried one after another by `refuse_if` and `?`: each refuses, or leaves it to those after it.
use Rattle.std.specs.Prelude.{Result, Ok, Err, ⊤}
use mathlib.Core.Path.{◌≡◌, refl, ap}
use mathlib.Core.Bool.{Bool, true, false, cond}
use Prim.Native.Nat.{ℕ, min}
use native.Mathlib.Omega.{arith}
use lib.Dec.{ltb}
use borrow.Author.Tests.{ltb-true, ltb-false, lt-ltb, le-ltb}
use Rattle.lists.proofs.Tests.{by_test}
use Rattle.refusals.specs.Tests.{Verdict}
use Rattle.refusals.specs.declared.Refusal.{Refusal}

module _ {E : Type 0} (into : E → Refusal) where
  pub refuses : (met : Bool) (f g : E) (rest : Verdict) → ◌≡◌ {A = Result ⊤ E} (Err g) (cond met (Err f) (Ok tt)) →
      ◌≡◌ {A = Verdict} (cond met (Err (into f)) rest) (Err (into g))
  refuses true f g rest e = let k : f ≡ g = cc in ap (λ h. Err (into h)) k
  refuses false f g rest e = let z : ◌≡◌ {A = ℕ} 0 1 = cc in absurd (omega arith)

  pub goes_on : (met : Bool) (f : E) (u : ⊤) (rest : Verdict) → ◌≡◌ {A = Result ⊤ E} (Ok u) (cond met (Err f) (Ok tt)) →
      ◌≡◌ {A = Verdict} (cond met (Err (into f)) rest) rest
  goes_on true f u rest e = let z : ◌≡◌ {A = ℕ} 0 1 = cc in absurd (omega arith)
  goes_on false f u rest e = refl

-- what is told of the test
module _ {E : Type 0} where
  pub refused_by : (met : Bool) (f g : E) → ◌≡◌ {A = Result ⊤ E} (Err g) (cond met (Err f) (Ok tt)) → (met ≡ true) × (g ≡ f)
  refused_by true f g e = let k : g ≡ f = cc in (refl, k)
  refused_by false f g e = let z : ◌≡◌ {A = ℕ} 0 1 = cc in absurd (omega arith)

  pub passed_by : (met : Bool) (f : E) (u : ⊤) → ◌≡◌ {A = Result ⊤ E} (Ok u) (cond met (Err f) (Ok tt)) → met ≡ false
  passed_by true f u e = let z : ◌≡◌ {A = ℕ} 0 1 = cc in absurd (omega arith)
  passed_by false f u e = refl

-- a count has room below a number of places where what counts of it has
pub room_is : (n m : ℕ) → ltb (min n m) m ≡ ltb n m
room_is n m =
    by_test (ltb n m)
    (λ t. rw t (lt-ltb (min n m) m (omega (arith, ltb-true n m t))))
    (λ t. rw t (le-ltb (min n m) m (omega (arith, ltb-false n m t))))
