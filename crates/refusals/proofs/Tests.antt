-- A list of tests passes where each test is false, and refuses by the first that is true.
use mathlib.Core.Path.{◌≡◌, refl, sym, ap, ◌∙◌}
use mathlib.Core.Bool.{Bool, true, false, cond}
use mathlib.Core.List.{List, [], ◌∷◌, ◌++◌}
use Prim.Native.Nat.{ℕ, zero, suc, ◌<◌}
use native.Mathlib.Omega.{arith}
use lib.ListN.{length, get_or}
use Rattle.std.specs.Prelude.{Ok, Err}
use Rattle.refusals.specs.Tests.{Test, Verdict, pass, first_met, decide, tried}
use Rattle.refusals.specs.declared.Refusal.{Refusal}

-- a refusal is no pass
pub refused_pass : {P : Type 0} (r : Refusal) → Err r ≡ pass → P
refused_pass r e = let z : ◌≡◌ {A = ℕ} 0 1 = cc in absurd (omega arith)

-- ---- where the tests pass, each is false

pub pass_first : (t : Bool) (r : Refusal) (ts : List Test) → first_met ((t, r) ∷ ts) ≡ pass → t ≡ false
pass_first true r ts e = refused_pass r e
pass_first false r ts e = refl

pub pass_rest : (t : Bool) (r : Refusal) (ts : List Test) → first_met ((t, r) ∷ ts) ≡ pass → first_met ts ≡ pass
pass_rest true r ts e = refused_pass r e
pass_rest false r ts e = e

-- each test is false
abbrev pub AllFalse : List Test → Type 0
AllFalse [] = Unit {0}
AllFalse (t ∷ ts) = (t.0 ≡ false) × AllFalse ts

pub pass_all : (ts : List Test) → first_met ts ≡ pass → AllFalse ts
pass_all [] e = tt
pass_all (t ∷ ts) e = (pass_first t.0 t.1 ts e, pass_all ts (pass_rest t.0 t.1 ts e))

pub all_pass : (ts : List Test) → AllFalse ts → first_met ts ≡ pass
all_pass [] f = refl
all_pass (t ∷ ts) f = rw f.0 (all_pass ts f.1)

-- the same, test by test
pub passes : (ts : List Test) → first_met ts ≡ pass → (i : ℕ) (t : Test) → i < length ts → (get_or ts i t).0 ≡ false
passes [] e i t h = absurd (omega arith)
passes (x ∷ ts) e zero t h = pass_first x.0 x.1 ts e
passes (x ∷ ts) e (suc i) t h = passes ts (pass_rest x.0 x.1 ts e) i t (omega arith)

-- ---- where the first is false the rest decide, where it is true it refuses

pub first_false : (t : Bool) (r : Refusal) (ts : List Test) → t ≡ false → first_met ((t, r) ∷ ts) ≡ first_met ts
first_false t r ts e = rw e

pub first_true : (t : Bool) (r : Refusal) (ts : List Test) → t ≡ true → first_met ((t, r) ∷ ts) ≡ Err r
first_true t r ts e = rw e

-- a refusal is the first test's, or one of the rest where the first is false
pub refuse_cases : {P : Type 0} (t : Bool) (r : Refusal) (ts : List Test) (q : Refusal) → first_met ((t, r) ∷ ts) ≡ Err q
    → (t ≡ true → r ≡ q → P) → (t ≡ false → first_met ts ≡ Err q → P) → P
refuse_cases true r ts q e f g = f refl (cc)
refuse_cases false r ts q e f g = g refl e

-- ---- one list after another: the second is tried where the first passes

pub pass_append : (ts us : List Test) → first_met ts ≡ pass → first_met (ts ++ us) ≡ first_met us
pass_append [] us e = refl
pass_append (t ∷ ts) us e =
    rw (pass_first t.0 t.1 ts e) (pass_append ts us (pass_rest t.0 t.1 ts e))

refuse_by : (t : Bool) (r q : Refusal) (v w : Verdict) → cond t (Err q) v ≡ Err r → (v ≡ Err r → w ≡ Err r) → cond t (Err q) w ≡ Err r
refuse_by true r q v w e f = e
refuse_by false r q v w e f = f e

pub refuse_append : (r : Refusal) (ts us : List Test) → first_met ts ≡ Err r → first_met (ts ++ us) ≡ Err r
refuse_append r [] us e = refused_pass r (sym e)
refuse_append r (t ∷ ts) us e = refuse_by t.0 r t.1 (first_met ts) (first_met (ts ++ us)) e (refuse_append r ts us)

-- ---- what a call comes to

-- a call that ends as if it passed, where no refusal could end so, has passed
pub decide_pass : {A : Type 0} (read : A → Verdict) (v : Verdict) (done : A) (refused : Refusal → A) (a : A)
    → ((r : Refusal) → read (refused r) ≡ Err r) → read a ≡ pass → decide v done refused ≡ a → (v ≡ pass) × (done ≡ a)
decide_pass read (Ok u) done refused a f p e = (refl, e)
decide_pass read (Err r) done refused a f p e = refused_pass r (sym (f r) ∙ (ap read e ∙ p))

-- what holds of the effect where a call passes and of the refusal where it doesn't holds of what the call comes to
pub decided : {A : Type 0} (P : A → Type 0) (v : Verdict) (done : A) (refused : Refusal → A) →
    (v ≡ pass → P done) → ((r : Refusal) → v ≡ Err r → P (refused r)) → P (decide v done refused)
decided P (Ok u) done refused f g = f refl
decided P (Err r) done refused f g = g r refl

-- ---- tests tried one after another

pub tried_met : (v : Verdict) (met : Bool) (r : Refusal) → v ≡ pass → met ≡ true → Err r ≡ tried v (met, r)
tried_met v met r e m = rw (e, m)

pub tried_after : (v : Verdict) (q : Refusal) (met : Bool) (r : Refusal) → v ≡ Err q → Err q ≡ tried v (met, r)
tried_after v q met r e = rw e

abbrev pub tried_all : Verdict → List Test → Verdict
tried_all v [] = v
tried_all v (t ∷ ts) = tried_all (tried v t) ts

-- one test more, of a verdict that those before it came to
pub then_tried : (u v w : Verdict) (met : Bool) (r : Refusal) → w ≡ tried v (met, r) → v ≡ u → w ≡ tried u (met, r)
then_tried u v w met r e f = e ∙ ap (λ v. tried v (met, r)) f

refused_stays : (r : Refusal) (ts : List Test) → tried_all (Err r) ts ≡ Err r
refused_stays r [] = refl
refused_stays r (t ∷ ts) = refused_stays r ts

-- they come to the first that is met
pub tried_first : (ts : List Test) → tried_all pass ts ≡ first_met ts
tried_first [] = refl
tried_first (t ∷ ts) = go t.0 refl (tried_first ts)
  where
    go : (b : Bool) → t.0 ≡ b → tried_all pass ts ≡ first_met ts → tried_all (tried pass t) ts ≡ first_met (t ∷ ts)
    go true e h = rw e (refused_stays t.1 ts)
    go false e h = rw e h

-- one list, and a test after it
pub tried_append : (ts : List Test) (t : Test) → first_met (ts ++ (t ∷ [])) ≡ tried (first_met ts) t
tried_append ts t = go (first_met ts) refl
  where
    go : (v : Verdict) → first_met ts ≡ v → first_met (ts ++ (t ∷ [])) ≡ tried v t
    go (Ok u) e = pass_append ts (t ∷ []) e
    go (Err r) e = refuse_append r ts (t ∷ []) e

-- where it passes, those before it pass
pub tried_passed : (v : Verdict) (t : Test) → tried v t ≡ pass → v ≡ pass
tried_passed (Ok u) t e = refl
tried_passed (Err r) t e = refused_pass r e
