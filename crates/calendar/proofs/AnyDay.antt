-- Facts about the labels of a day, for any count of steps: a step ends where the next begins, the day runs from 00:00 to 24:00,
-- and outside it there are none.
use mathlib.Core.Path.{◌≡◌, refl}
use mathlib.Core.Bool.{Bool, true, false, cond, ◌&&◌}
use mathlib.Core.List.{[], ◌∷◌}
use Prim.Native.Nat.{ℕ, ◌+◌, ◌*◌, ◌/◌, ◌%◌, ◌<◌, ◌≤◌}
use native.Mathlib.Omega.{arith}
use lib.Dec.{leb, ltb, lit≤}
use borrow.Author.Tests.{ltb-true, leb-true, lt-ltb, le-ltb, le-leb, lt-leb}
use Rattle.calendar.specs.Labels.{turn_of, minute_of, again_at, bis_mark, time_text, label_of, labels_of, no_labels, in_day, labels_at}
use Rattle.calendar.specs.Steps.{long_steps, step_minutes}
use Rattle.calendar.specs.Texts.{tens, ones}
use Rattle.calendar.specs.declared.labels.Label.{Label}
use Rattle.calendar.specs.declared.labels.Labels.{Labels}
use Rattle.lists.proofs.Tests.{both_true}

-- a time that stands for the first time, and one that stands again
abbrev plain : ℕ → Label
plain m = record { bytes = time_text m (0 ∷ 0 ∷ 0 ∷ 0 ∷ []); len = 5 }

abbrev bis : ℕ → Label
bis m = record { bytes = time_text m bis_mark; len = 9 }

turn_either : (b : Bool) → (4 ≤ cond b 4 7) × (cond b 4 7 ≤ 7)
turn_either true = (lit≤ tt, lit≤ tt)
turn_either false = (lit≤ tt, lit≤ tt)

-- a step ends where the next begins
pub labels_join : (steps step : ℕ) → (labels_of steps step).until ≡ (labels_of steps (step + 1)).from
unfolding labels_of
labels_join steps step = refl

-- a day begins at 00:00
pub begins : (steps : ℕ) → label_of steps 0 ≡ plain 0
unfolding label_of
begins steps =
    let t = turn_either (ltb steps 48) in
    rw (lt-leb (turn_of steps) 0 (omega arith), lt-ltb 0 (turn_of steps) (omega arith))

-- and ends at 24:00
pub ends : (steps : ℕ) → turn_of steps ≤ steps → label_of steps steps ≡ plain 1440
unfolding label_of
ends steps h =
    let t = turn_either (ltb steps 48) in
    let m : minute_of steps steps ≡ 1440 = rw (le-ltb steps (turn_of steps) h) (omega arith) in
    rw (m, le-leb (turn_of steps) steps h, le-ltb 1440 (30 * turn_of steps) (omega arith))

-- a label has 5 bytes or 9, so no label is empty
pub label_long : (steps at : ℕ) → (5 ≤ (label_of steps at).len) × ((label_of steps at).len ≤ 9)
unfolding label_of
label_long steps at = go (again_at steps at)
  where
    go : (b : Bool) → (5 ≤ (cond b (bis (minute_of steps at)) (plain (minute_of steps at))).len) × ((cond b (bis (minute_of steps at)) (plain (minute_of steps at))).len ≤ 9)
    go true = (lit≤ tt, lit≤ tt)
    go false = (lit≤ tt, lit≤ tt)

-- ---- the label of a boundary, by the parts that the code finds

module _ (steps at t m a b c d : ℕ) (et : t ≡ turn_of steps) (em : m ≡ minute_of steps at) (ea : a ≡ tens (m / 60)) (eb : b ≡ ones (m / 60)) (ec : c ≡ tens (m % 60)) (ed : d ≡ ones (m % 60)) where
  pub label_again : (leb t at && ltb m (step_minutes * t)) ≡ true
      → ◌≡◌ {A = Label} (record { bytes = a ∷ b ∷ 58 ∷ c ∷ d ∷ 95 ∷ 66 ∷ 73 ∷ 83 ∷ []; len = 9 }) (label_of steps at)
  unfolding label_of
  label_again e = rw (ea, eb, ec, ed, ← em, ← et, e)

  pub label_once : (leb t at && ltb m (step_minutes * t)) ≡ false
      → ◌≡◌ {A = Label} (record { bytes = a ∷ b ∷ 58 ∷ c ∷ d ∷ 0 ∷ 0 ∷ 0 ∷ 0 ∷ []; len = 5 }) (label_of steps at)
  unfolding label_of
  label_once e = rw (ea, eb, ec, ed, ← em, ← et, e)

-- ---- inside and outside the day

pub in_day_lem : (steps step : ℕ) → in_day steps step ≡ true → (step < steps) × (steps ≤ long_steps)
in_day_lem steps step e =
    let p = both_true (leb steps long_steps) (ltb step steps) e in
    (ltb-true step steps p.1, leb-true steps long_steps p.0)

-- inside the day the labels are those of the step
pub labels_inside : (steps step : ℕ) (l : Labels) → in_day steps step ≡ true → l ≡ labels_of steps step → l ≡ labels_at steps step
unfolding labels_at
labels_inside steps step l e p = rw e p

pub labels_step : (steps step : ℕ) → step < steps → steps ≤ long_steps → labels_at steps step ≡ labels_of steps step
unfolding labels_at
labels_step steps step h k = rw (le-leb steps long_steps k, lt-ltb step steps h)

-- outside it there are none
pub labels_outside : (steps step : ℕ) → in_day steps step ≡ false → no_labels ≡ labels_at steps step
unfolding labels_at
labels_outside steps step e = rw e
