-- Document 01's number and place of each refusal ("Refusals that come from the input", "Refusals that come from the state"), and those of
-- document 02.
use Rattle.std.specs.Prelude.{ℕ}
use Rattle.refusals.specs.declared.InputRefusal.{InputRefusal}
use Rattle.refusals.specs.declared.InputRefusal.TheVariants.{Name, Body, Header, Differs, Lines, Labels, Power, Zeros, Form, Range, Object, Origin}
use Rattle.refusals.specs.declared.StateRefusal.{StateRefusal}
use Rattle.refusals.specs.declared.StateRefusal.TheVariants.{CederUnknown, AcquirerUnknown, ActorUnknown, CategoryUnknown, NotParty, OneActor, DayPast, DayFar, NoStep, AcquirerContract, CederContract, NoLoad, CederBelow, AcquirerAbove, CederAbove, AcquirerBelow, Full, There, Back, LoadDay, NoRecord, NotAsker}
use Rattle.refusals.specs.declared.Refusal.{Refusal}
use Rattle.refusals.specs.declared.Refusal.TheVariants.{Input, State}

abbrev pub input_number : InputRefusal → ℕ
input_number Name = 1
input_number Body = 2
input_number Header = 3
input_number Differs = 4
input_number Lines = 5
input_number Labels = 6
input_number Power = 7
input_number Zeros = 8
input_number Form = 9
input_number Range = 10
input_number Object = 42
input_number Origin = 43

abbrev pub state_number : StateRefusal → ℕ
state_number CederUnknown = 20
state_number AcquirerUnknown = 21
state_number ActorUnknown = 22
state_number CategoryUnknown = 23
state_number NotParty = 24
state_number OneActor = 25
state_number DayPast = 26
state_number DayFar = 27
state_number NoStep = 28
state_number AcquirerContract = 29
state_number CederContract = 30
state_number NoLoad = 31
state_number CederBelow = 32
state_number AcquirerAbove = 33
state_number CederAbove = 34
state_number AcquirerBelow = 35
state_number Full = 36
state_number There = 37
state_number Back = 38
state_number LoadDay = 39
state_number NoRecord = 40
state_number NotAsker = 41

abbrev pub number_of : Refusal → ℕ
number_of (Input f p) = input_number f
number_of (State f p) = state_number f

abbrev pub place_of : Refusal → ℕ
place_of (Input f p) = p
place_of (State f p) = p
