-- Document 01's two tables of refusals: the number of each, in the order of the rows, and the place 0 of one whose place isn't named.
use mathlib.Core.Path.{◌≡◌, refl}
use mathlib.Core.List.{List, [], ◌∷◌, map}
use Prim.Native.Nat.{ℕ, ◌<◌}
use native.Mathlib.Omega.{arith}
use Rattle.refusals.specs.Numbers.{input_number, state_number, number_of, place_of}
use Rattle.refusals.specs.Tests.{Test, input, state}
use Rattle.refusals.specs.declared.InputRefusal.{InputRefusal}
use Rattle.refusals.specs.declared.InputRefusal.TheVariants.{Name, Body, Header, Differs, Lines, Labels, Power, Zeros, Form, Range, Object, Origin}
use Rattle.refusals.specs.declared.StateRefusal.{StateRefusal}
use Rattle.refusals.specs.declared.StateRefusal.TheVariants.{CederUnknown, AcquirerUnknown, ActorUnknown, CategoryUnknown, NotParty, OneActor, DayPast, DayFar, NoStep, AcquirerContract, CederContract, NoLoad, CederBelow, AcquirerAbove, CederAbove, AcquirerBelow, Full, There, Back, LoadDay, NoRecord, NotAsker}
use Rattle.refusals.specs.declared.Refusal.{Refusal}
use Rattle.refusals.specs.declared.Refusal.TheVariants.{Input, State}

-- "Refusals that come from the input", 1 to 10; 11 is the program's alone
pub input_rows : map input_number (Name ∷ Body ∷ Header ∷ Differs ∷ Lines ∷ Labels ∷ Power ∷ Zeros ∷ Form ∷ Range ∷ [])
    ≡ 1 ∷ 2 ∷ 3 ∷ 4 ∷ 5 ∷ 6 ∷ 7 ∷ 8 ∷ 9 ∷ 10 ∷ []
input_rows = refl

-- document 02, K3: "42 when the text is over that, or isn't such an object ..; 43 when the origin member isn't the submitter"
pub object_rows : map input_number (Object ∷ Origin ∷ []) ≡ 42 ∷ 43 ∷ []
object_rows = refl

-- "Refusals that come from the state", 20 to 41
pub state_rows : map state_number
    (CederUnknown ∷ AcquirerUnknown ∷ ActorUnknown ∷ CategoryUnknown ∷ NotParty ∷ OneActor ∷ DayPast ∷ DayFar ∷ NoStep
    ∷ AcquirerContract ∷ CederContract ∷ NoLoad ∷ CederBelow ∷ AcquirerAbove ∷ CederAbove ∷ AcquirerBelow ∷ Full ∷ There
    ∷ Back ∷ LoadDay ∷ NoRecord ∷ NotAsker ∷ [])
    ≡ 20 ∷ 21 ∷ 22 ∷ 23 ∷ 24 ∷ 25 ∷ 26 ∷ 27 ∷ 28
    ∷ 29 ∷ 30 ∷ 31 ∷ 32 ∷ 33 ∷ 34 ∷ 35 ∷ 36 ∷ 37
    ∷ 38 ∷ 39 ∷ 40 ∷ 41 ∷ []
state_rows = refl

-- every number has two digits at most
input_two : (f : InputRefusal) → input_number f < 100
input_two Name = omega arith
input_two Body = omega arith
input_two Header = omega arith
input_two Differs = omega arith
input_two Lines = omega arith
input_two Labels = omega arith
input_two Power = omega arith
input_two Zeros = omega arith
input_two Form = omega arith
input_two Range = omega arith
input_two Object = omega arith
input_two Origin = omega arith

state_two : (f : StateRefusal) → state_number f < 100
state_two CederUnknown = omega arith
state_two AcquirerUnknown = omega arith
state_two ActorUnknown = omega arith
state_two CategoryUnknown = omega arith
state_two NotParty = omega arith
state_two OneActor = omega arith
state_two DayPast = omega arith
state_two DayFar = omega arith
state_two NoStep = omega arith
state_two AcquirerContract = omega arith
state_two CederContract = omega arith
state_two NoLoad = omega arith
state_two CederBelow = omega arith
state_two AcquirerAbove = omega arith
state_two CederAbove = omega arith
state_two AcquirerBelow = omega arith
state_two Full = omega arith
state_two There = omega arith
state_two Back = omega arith
state_two LoadDay = omega arith
state_two NoRecord = omega arith
state_two NotAsker = omega arith

pub number_two : (r : Refusal) → number_of r < 100
number_two (Input f p) = input_two f
number_two (State f p) = state_two f

-- "A refusal is a number and a place": those of the refusal itself
pub number_and_place : (f : InputRefusal) (g : StateRefusal) (p : ℕ) →
    (number_of (Input f p) ≡ input_number f) × (place_of (Input f p) ≡ p) × (number_of (State g p) ≡ state_number g) × (place_of (State g p) ≡ p)
number_and_place f g p = (refl, refl, refl, refl)

-- "the place is 0 unless named"
pub place_not_named : (f : InputRefusal) (g : StateRefusal) → (place_of (input f) ≡ 0) × (place_of (state g) ≡ 0)
place_not_named f g = (refl, refl)

-- ---- the tests of a call, as "Order" of document 01 lists them

-- number and place of the refusal of each test, in their order
abbrev pub rows : List Test → List (ℕ × ℕ)
rows ts = map (λ t. (number_of t.1, place_of t.1)) ts

-- numbers whose place isn't named
abbrev pub unplaced : List ℕ → List (ℕ × ℕ)
unplaced ns = map (λ n. (n, 0)) ns
