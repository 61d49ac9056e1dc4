-- "Order" of document 01 for the notification file, for every file and every notification: the numbers of the tests in the order in which
-- they are tried, each with its place.
use mathlib.Core.Path.{◌≡◌, refl}
use mathlib.Core.Bool.{Bool, true, false, cond, not}
use mathlib.Core.List.{List, [], ◌∷◌, ◌++◌}
use Prim.Native.Nat.{ℕ, ◌+◌}
use lib.ListN.{get_or}
use Rattle.calendar.specs.Steps.{steps_of}
use Rattle.refusals.specs.Numbers.{number_of, place_of}
use Rattle.refusals.specs.Tests.{Test, state, first_met}
use Rattle.refusals.specs.declared.Refusal.TheVariants.{Input}
use Rattle.refusals.specs.declared.InputRefusal.TheVariants.{Labels, Power}
use Rattle.refusals.specs.declared.StateRefusal.TheVariants.{Full}
use Rattle.refusals.proofs.Tables.{rows, unplaced}
use Rattle.notification.specs.Writing.{note_tests, too_short, write_verdict}
use Rattle.notification.specs.Reading.{name_key, step_lines, has_labels, first_bad, line_refusal, file_tests}
use Rattle.notification.specs.declared.Notification.{Notification}

-- 6 is tried before 7, and both have the place of the line or step at fault: by whether its labels are right
pub labels_first : (labels : Bool) (place : ℕ) →
    let r = cond (not labels) (Input Labels place) (Input Power place) in
    (number_of r ≡ cond labels 7 6) × (place_of r ≡ place)
labels_first true place = (refl, refl)
labels_first false place = (refl, refl)

-- "6 and 7 are tried line by line, 6 first" (place: the line, the header being 1): at the line of step k
pub line_refused : (steps : ℕ) (ls : List (List ℕ)) (k : ℕ) →
    (number_of (line_refusal steps ls k) ≡ cond (has_labels steps k (get_or ls k [])) 7 6) × (place_of (line_refusal steps ls k) ≡ k + 2)
line_refused steps ls k = labels_first (has_labels steps k (get_or ls k [])) (k + 2)

-- "filing 1 to 8": 6 and 7 are one test, whose number and place are those of the first bad line
pub file_order : (name body : List ℕ) →
    let steps = steps_of (name_key name).day in
    let bad = line_refusal steps (step_lines body) (first_bad steps (step_lines body)) in
    rows (file_tests name body) ≡ (1, 0) ∷ (2, 0) ∷ (3, 1) ∷ (4, 1) ∷ (5, 0) ∷ (number_of bad, place_of bad) ∷ (8, 0) ∷ []
unfolding file_tests
file_order name body = refl

-- the writer "refuses by 9, 10, 8, 36 in that order"
abbrev pub write_tests : Notification → ℕ → ℕ → List Test
write_tests n name body = note_tests n ++ (too_short n name body, state Full) ∷ []

pub writer_order : (n : Notification) (name body : ℕ) →
    (write_verdict n name body ≡ first_met (write_tests n name body)) × (rows (write_tests n name body) ≡ unplaced (9 ∷ 10 ∷ 8 ∷ 36 ∷ []))
unfolding write_verdict
writer_order n name body = (refl, refl)
