-- The label of a boundary as an object has it is the calendar's with an h in its third place.
use mathlib.Core.Path.{◌≡◌, refl, ◌∙◌}
use mathlib.Core.Bool.{cond}
use Prim.Native.Nat.{ℕ, ◌+◌, ◌<◌, ◌≤◌}
use native.Mathlib.Omega.{arith}
use lib.Dec.{ltb, eqb}
use lib.ListN.{length, take, set}
use borrow.Author.Tests.{ltb-true, ltb-false, lt-ltb, le-leb, eqb-false}
use Rattle.lists.proofs.Tests.{by_test}
use Rattle.calendar.specs.Labels.{again_at, label_of, labels_of, labels_at}
use Rattle.calendar.specs.declared.labels.Label.{Label}
use Rattle.calendar.specs.declared.labels.Labels.{Labels}
use Rattle.notification.specs.Forms.{places}
use Rattle.request.specs.Writing.{hour_label}

-- a label with an h in its third place, and how long it is
abbrev pub Hours : ℕ → ℕ → Label → Type 0
Hours steps at l =
    (take l.len l.bytes ≡ hour_label steps at) × (l.len ≡ length (hour_label steps at)) × (length l.bytes ≡ 9) × (l.len ≤ 9) × (5 ≤ l.len)

abbrev marked : Label → Label
marked l = record { bytes = set l.bytes 2 104; len = l.len }

module _ (steps at step : ℕ) (e : step ≡ cond (eqb at steps) 0 at) where
  hours_made : Hours steps at (marked (label_of steps step))
  unfolding hour_label label_of
  hours_made =
      by_test (again_at steps step)
      (λ t. rw (← e, t) (refl, refl, refl, omega arith, omega arith))
      (λ t. rw (← e, t) (refl, refl, refl, omega arith, omega arith))

  below : at ≤ steps → 1 ≤ steps → step < steps
  below h g =
      by_test (eqb at steps)
      (λ t. let z : step ≡ 0 = e ∙ rw t in omega arith)
      (λ t. let z : step ≡ at = e ∙ rw t in
      by_test (ltb at steps)
      (λ u. let b = ltb-true at steps u in omega arith)
      (λ u. let b = ltb-false at steps u in absurd (eqb-false at steps t (omega arith))))

  pub hours_of : (l : Labels) → l ≡ labels_at steps step → at ≤ steps → 1 ≤ steps → steps ≤ places → Hours steps at (marked l.from)
  unfolding labels_at labels_of
  hours_of l p b o g =
      let h = below b o in
      let q : l ≡ record { from = label_of steps step; until = label_of steps (step + 1) } = p ∙ rw (le-leb steps places g, lt-ltb step steps h) in
      rw q hours_made
