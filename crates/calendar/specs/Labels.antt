-- The labels of a step, for any count of steps. Document 01, "Days and steps": "Labels are `hh:mm` pairs, 00:00;00:30 up to
-- 23:30;24:00. On a short day step 3 is 01:30;03:00 .. On a long day steps 4 to 9 are ..".
use Rattle.std.specs.Prelude.{Bool, cond, ◌&&◌, List, [], ◌∷◌, ℕ, ◌+◌, ◌-◌, ◌*◌, ◌/◌, ◌%◌, leb, ltb}
use Rattle.calendar.specs.Steps.{plain_steps, long_steps, step_minutes}
use Rattle.calendar.specs.Texts.{tens, ones}
use Rattle.calendar.specs.declared.labels.Label.{Label}
use Rattle.calendar.specs.declared.labels.Labels.{Labels}

-- "On a short day .. On a long day": the boundary between steps from which on the labels are counted back from midnight,
-- where 02:00 would stand on a short day, and after 03:00 first stands on a long one
abbrev pub turn_of : ℕ → ℕ
turn_of steps = cond (ltb steps plain_steps) 4 7

-- "00:00 .. up to .. 24:00": the minute that a boundary between steps is labelled with
abbrev pub minute_of : ℕ → ℕ → ℕ
minute_of steps at = cond (ltb at (turn_of steps)) (step_minutes * at) (step_minutes * (at + plain_steps - steps))

-- "_BIS": a time after the turn that has stood before it
abbrev pub again_at : ℕ → ℕ → Bool
again_at steps at = leb (turn_of steps) at && ltb (minute_of steps at) (step_minutes * turn_of steps)

-- "`hh:mm`", "_BIS": their bytes that are no digits
abbrev pub colon : ℕ
colon = 58

abbrev pub bis_mark : List ℕ
bis_mark = 95 ∷ 66 ∷ 73 ∷ 83 ∷ []

-- "`hh:mm`": the digits of the hour, a colon and those of the minute, and what follows them
abbrev pub time_text : ℕ → List ℕ → List ℕ
time_text m more = tens (m / 60) ∷ ones (m / 60) ∷ colon ∷ tens (m % 60) ∷ ones (m % 60) ∷ more

-- "`hh:mm`", with "_BIS" after it where the time stands again: nine bytes, of which len count
unfoldable pub label_of : ℕ → ℕ → Label
label_of steps at =
    cond (again_at steps at)
    (record { bytes = time_text (minute_of steps at) bis_mark; len = 9 })
    (record { bytes = time_text (minute_of steps at) (0 ∷ 0 ∷ 0 ∷ 0 ∷ []); len = 5 })

-- "Labels are `hh:mm` pairs": those of the step's two ends
unfoldable pub labels_of : ℕ → ℕ → Labels
labels_of steps step = record { from = label_of steps step; until = label_of steps (step + 1) }

-- a label that is none: no byte counts
abbrev pub no_label : Label
no_label = record { bytes = 0 ∷ 0 ∷ 0 ∷ 0 ∷ 0 ∷ 0 ∷ 0 ∷ 0 ∷ 0 ∷ []; len = 0 }

abbrev pub no_labels : Labels
no_labels = record { from = no_label; until = no_label }

-- "Step k, from 0": a step of a day of so many steps, where no day has more than the long day
abbrev pub in_day : ℕ → ℕ → Bool
in_day steps step = leb steps long_steps && ltb step steps

-- the labels of any step of any count of steps: outside the day there are none
unfoldable pub labels_at : ℕ → ℕ → Labels
labels_at steps step = cond (in_day steps step) (labels_of steps step) no_labels
