-- The first counted step by the day's place before or after the clock's, the steps that count, and moments: none is before itself,
-- the first counted step of a day never falls from one moment to a later one, and what no longer counts never counts again. What is
-- replaced whole, and what can be loaded.
use Rattle.std.specs.Prelude.{Err, Ok}
use mathlib.Core.Path.{◌≡◌, refl, sym, ◌∙◌, ap}
use mathlib.Core.Bool.{Bool, true, false, not, ◌&&◌, ◌||◌, true≢false}
use mathlib.Core.List.{[], ◌∷◌}
use Prim.Native.Nat.{ℕ, ◌+◌, ◌-◌, ◌*◌, ◌/◌, ◌<◌, ◌≤◌}
use native.Mathlib.Omega.{arith}
use lib.Dec.{leb, ltb, eqb}
use borrow.Author.Tests.{ltb-true, ltb-false, leb-true, leb-false, eqb-true, le-ltb, le-leb, lt-leb, eq-eqb, ne_eqb}
use Rattle.calendar.specs.Dates.{date}
use Rattle.calendar.specs.Steps.{step_minutes, last_sunday, steps_of}
use Rattle.calendar.specs.Clocks.{fresh_clock, after_hour, first_counted, counts, replaces_whole, loadable, is_moment, is_before, advance_tests, advanced}
use Rattle.refusals.specs.Tests.{input, state, first_met, decide, Verdict, pass}
use Rattle.refusals.specs.declared.Refusal.{Refusal}
use Rattle.refusals.specs.declared.InputRefusal.TheVariants.{Range}
use Rattle.refusals.specs.declared.StateRefusal.TheVariants.{Back}
use Rattle.refusals.proofs.Tests.{tried_all, tried_first}
use Rattle.calendar.specs.declared.clock.Clock.{Clock}
use Rattle.lists.proofs.Tests.{both_true, both_false, right_false}

-- ---- first_counted

-- of a day that is reached, the steps after the neutral hour count
pub first_today : (c : Clock) (day : ℕ) → day ≤ c.day → first_counted c day ≡ after_hour c
unfolding first_counted
first_today c day h = rw (le-leb day c.day h)

-- of the next day, those after what the neutral hour takes past midnight
pub first_tomorrow : (c : Clock) (day : ℕ) → day ≡ c.day + 1 → first_counted c day ≡ after_hour c - steps_of c.day
unfolding first_counted
first_tomorrow c day e = rw (lt-leb day c.day (omega arith), eq-eqb day (c.day + 1) e)

-- of a day further ahead, every step
pub first_further : (c : Clock) (day : ℕ) → c.day + 1 < day → first_counted c day ≡ 0
unfolding first_counted
first_further c day h = rw (lt-leb day c.day (omega arith), ne_eqb day (c.day + 1) (omega arith))

-- ---- counts

pub counts_from : (c : Clock) (day step : ℕ) → c.day ≤ day → first_counted c day ≤ step → counts c day step ≡ true
unfolding counts
counts_from c day step h k = rw (le-leb c.day day h, le-leb (first_counted c day) step k)

pub counts_true : (c : Clock) (day step : ℕ) → counts c day step ≡ true → (c.day ≤ day) × (first_counted c day ≤ step)
unfolding counts
counts_true c day step e =
    let p = both_true (leb c.day day) (leb (first_counted c day) step) e in
    (leb-true c.day day p.0, leb-true (first_counted c day) step p.1)

-- no step of an earlier day counts
pub counts_past : (c : Clock) (day step : ℕ) → day < c.day → counts c day step ≡ false
unfolding counts
counts_past c day step h = rw (lt-leb c.day day h)

-- with a step, each later step of its day counts
pub counts_on : (c : Clock) (day step next : ℕ) → counts c day step ≡ true → step ≤ next → counts c day next ≡ true
counts_on c day step next e h =
    let p = counts_true c day step e in
    counts_from c day next p.0 (omega arith)

-- ---- is_before

-- "advance the clock (the same moment is accepted)": no moment is before itself, so that 38 never refuses it
pub is_before_same : (c : Clock) → is_before c c ≡ false
is_before_same c = rw (le-ltb c.day c.day (omega arith), eq-eqb c.day c.day refl, le-ltb c.minute c.minute (omega arith))

-- ---- is_moment

-- "Step k, from 0, covers minutes 30k to 30k+30 elapsed since local midnight": the step that a moment lies in is one of its day's, and the
-- first counted step of that day is the second after it
pub minute_in_step : (c : Clock) → is_moment c ≡ true →
    let k = c.minute / step_minutes in
    (k < steps_of c.day) × (step_minutes * k ≤ c.minute) × (c.minute < step_minutes * k + step_minutes) × (first_counted c c.day ≡ k + 2)
minute_in_step c e =
    let m = ltb-true c.minute (step_minutes * steps_of c.day) e in
    (omega arith, omega arith, omega arith, first_today c c.day (omega arith))

-- K2: "step 0 of tomorrow in the last half hour": up to the last step of the clock's day all of tomorrow counts, in it all but step 0
pub before_last_step : (c : Clock) → c.minute / step_minutes + 1 < steps_of c.day → first_counted c (c.day + 1) ≡ 0
before_last_step c h = omega (arith, first_tomorrow c (c.day + 1) refl)

pub in_last_step : (c : Clock) → c.minute / step_minutes + 1 ≡ steps_of c.day → first_counted c (c.day + 1) ≡ 1
in_last_step c h = omega (arith, first_tomorrow c (c.day + 1) refl)

-- a fresh clock stands at a moment
pub fresh_moment : is_moment fresh_clock ≡ true
unfolding steps_of last_sunday date
fresh_moment = refl

-- ---- the clock advances from a moment a to b

module _ (a b : Clock) (forward : is_before b a ≡ false) where
  pub day_mono : a.day ≤ b.day
  day_mono =
      ltb-false b.day a.day (both_false (ltb b.day a.day) (eqb b.day a.day && ltb b.minute a.minute) forward).0

  -- within a day the minute doesn't fall
  minute_mono : b.day ≡ a.day → a.minute ≤ b.minute
  minute_mono same =
      let q = (both_false (ltb b.day a.day) (eqb b.day a.day && ltb b.minute a.minute) forward).1 in
      ltb-false b.minute a.minute (right_false (eqb b.day a.day) (ltb b.minute a.minute) q (eq-eqb b.day a.day same))

  -- the first counted step of a day never falls, across midnight too: a moment of the eve takes at most step 0 from the next day, and
  -- midnight takes steps 0 and 1
  pub first_mono : is_moment a ≡ true → (day : ℕ) → b.day ≤ day → first_counted a day ≤ first_counted b day
  first_mono moment day h = go (leb day a.day) (leb day (a.day + 1)) (leb b.day a.day) refl refl refl
    where
      within : b.day ≡ a.day → after_hour a ≤ after_hour b
      within same = omega (arith, minute_mono same)

      go : (t u v : Bool) → leb day a.day ≡ t → leb day (a.day + 1) ≡ u → leb b.day a.day ≡ v → first_counted a day ≤ first_counted b day
      go true u v p q r =
          let d = leb-true day a.day p in
          omega (arith, first_today a day d, first_today b day (omega (arith, day_mono)), within (omega (arith, day_mono)))
      go false true true p q r =
          let ed : day ≡ a.day + 1 = omega (arith, leb-false day a.day p, leb-true day (a.day + 1) q) in
          let same : b.day ≡ a.day = omega (arith, day_mono, leb-true b.day a.day r) in
          omega (arith, first_tomorrow a day ed, first_tomorrow b day (omega arith), ap steps_of same, within same)
      go false true false p q r =
          let ed : day ≡ a.day + 1 = omega (arith, leb-false day a.day p, leb-true day (a.day + 1) q) in
          let reached = leb-false b.day a.day r in
          omega (arith, first_tomorrow a day ed, first_today b day (omega arith), (minute_in_step a moment).0)
      go false false v p q r = omega (arith, first_further a day (leb-false day (a.day + 1) q))

  -- a step that no longer counts never counts again
  pub ended_mono : is_moment a ≡ true → (day step : ℕ) → counts a day step ≡ false → counts b day step ≡ false
  ended_mono moment day step e = go (counts b day step) refl
    where
      go : (t : Bool) → counts b day step ≡ t → counts b day step ≡ false
      go true p =
          let r = counts_true b day step p in
          let now = counts_from a day step (omega (arith, day_mono)) (omega (arith, first_mono moment day r.0)) in
          absurd (true≢false (sym now ∙ e))
      go false p = p

-- ---- replacesWhole: a record that is replaced whole moves nothing before the new from-step

pub whole_first : (c : Clock) (from day : ℕ) → replaces_whole c from day ≡ true → first_counted c day ≤ from
unfolding replaces_whole
whole_first c from day e = go (eqb from (first_counted c day)) (eqb (first_counted c day) 0) refl refl e
  where
    go : (x y : Bool) → eqb from (first_counted c day) ≡ x → eqb (first_counted c day) 0 ≡ y → (x || y) ≡ true → first_counted c day ≤ from
    go true y p q e = omega (arith, eqb-true from (first_counted c day) p)
    go false true p q e = omega (arith, eqb-true (first_counted c day) 0 q)
    go false false p q e = let z : ◌≡◌ {A = ℕ} 0 1 = cc in absurd (omega arith)

-- ---- loadable: the day counts whole

pub loadable_counts : (c : Clock) (day step : ℕ) → loadable c day ≡ true → counts c day step ≡ true
unfolding loadable
loadable_counts c day step e =
    let p = both_true (ltb c.day day) (eqb (first_counted c day) 0) e in
    counts_from c day step (omega (arith, ltb-true c.day day p.0)) (omega (arith, eqb-true (first_counted c day) 0 p.1))

-- ---- advanced

-- 10, 38, tried one after the other
pub advance_tried : (c to : Clock) (moment before : Bool) → moment ≡ is_moment to → before ≡ is_before to c →
    tried_all pass ((not moment, input Range) ∷ (before, state Back) ∷ []) ≡ first_met (advance_tests c to)
advance_tried c to moment before em eb = tried_first ((not moment, input Range) ∷ (before, state Back) ∷ []) ∙ rw (em, eb)

-- what the clock answers tells what its tests come to
module _ (c to : Clock) where
  by_verdict : (v : Verdict) (x : Clock) → Ok x ≡ decide v (Ok to) Err → (x ≡ to) × (v ≡ pass)
  by_verdict (Ok u) x e = (cc, refl)
  by_verdict (Err r) x e = let z : ◌≡◌ {A = ℕ} 0 1 = cc in absurd (omega arith)

  pub advanced_moved : (x : Clock) → Ok x ≡ advanced c to → (x ≡ to) × (first_met (advance_tests c to) ≡ pass)
  unfolding advanced
  advanced_moved x e = by_verdict (first_met (advance_tests c to)) x e

  by_refusal : (v : Verdict) (r : Refusal) → Err r ≡ decide v (Ok to) Err → v ≡ Err r
  by_refusal (Ok u) r e = let z : ◌≡◌ {A = ℕ} 0 1 = cc in absurd (omega arith)
  by_refusal (Err q) r e = cc

  pub advanced_refused : (r : Refusal) → Err r ≡ advanced c to → first_met (advance_tests c to) ≡ Err r
  unfolding advanced
  advanced_refused r e = by_refusal (first_met (advance_tests c to)) r e

-- the same moment is accepted
pub advanced_same : (c : Clock) → is_moment c ≡ true → advanced c c ≡ Ok c
unfolding advanced
advanced_same c e = rw (e, is_before_same c)
