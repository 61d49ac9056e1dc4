-- A call's tests in the order of document 01 ("Order: .."), each with the refusal that it meets.
use Rattle.std.specs.Prelude.{Bool, cond, List, [], ◌∷◌, ⊤, Result, Ok, Err}
use Rattle.refusals.specs.declared.InputRefusal.{InputRefusal}
use Rattle.refusals.specs.declared.StateRefusal.{StateRefusal}
use Rattle.refusals.specs.declared.Refusal.{Refusal}
use Rattle.refusals.specs.declared.Refusal.TheVariants.{Input, State}

-- a refusal whose place isn't named has the place 0
abbrev pub input : InputRefusal → Refusal
input f = Input f 0

abbrev pub state : StateRefusal → Refusal
state f = State f 0

-- a test that is met refuses
abbrev pub Test : Type 0
Test = Bool × Refusal

-- what a list of tests comes to: a pass, or a refusal
abbrev pub Verdict : Type 0
Verdict = Result ⊤ Refusal

abbrev pub pass : Verdict
pass = Ok tt

-- the refusal of the first test that is met, else a pass
abbrev pub first_met : List Test → Verdict
first_met [] = pass
first_met (t ∷ ts) = cond t.0 (Err t.1) (first_met ts)

-- what a call comes to: its effect where it passes, its refusal where it doesn't
abbrev pub decide : {A : Type 0} → Verdict → A → (Refusal → A) → A
decide (Ok u) done refused = done
decide (Err r) done refused = refused r

-- whether what a call answers is a pass or a refusal
abbrev pub verdict : {A : Type 0} → Result A Refusal → Verdict
verdict (Ok x) = pass
verdict (Err r) = Err r

-- "Order": one test more, which is tried where those before it pass
abbrev pub tried : Verdict → Test → Verdict
tried v t = decide v (first_met (t ∷ [])) Err
