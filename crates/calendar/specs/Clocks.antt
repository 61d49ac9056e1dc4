-- The clock and the first counted step. Document 01, "Days and steps": "The clock is a day and an elapsed minute below 30
-- times the day's steps." "First counted step at clock minute m: .. floor(m/30)+2 for the clock's day." Document 02, K2: "For
-- the day after the clock's, the first counted step is floor(m/30)+2 less the clock day's step count, or 0 if that is negative".
use Rattle.refusals.specs.declared.Refusal.{Refusal}
use Rattle.std.specs.Prelude.{Bool, not, cond, ◌&&◌, ◌||◌, List, [], ◌∷◌, ℕ, ◌+◌, ◌-◌, ◌*◌, ◌/◌, leb, ltb, eqb, Err, Ok, Result}
use Rattle.calendar.specs.Steps.{step_minutes, steps_of}
use Rattle.refusals.specs.Tests.{Test, input, state, first_met, decide}
use Rattle.refusals.specs.declared.InputRefusal.TheVariants.{Range}
use Rattle.refusals.specs.declared.StateRefusal.TheVariants.{Back}
use Rattle.calendar.specs.declared.clock.Clock.{Clock}

-- "The ledger": "A fresh register .. with its clock at day 0, minute 0"
abbrev pub fresh_clock : Clock
fresh_clock = record { day = 0; minute = 0 }

-- "floor(m/30)+2": the first step that the neutral hour leaves, counted on past midnight
abbrev pub after_hour : Clock → ℕ
after_hour clock = clock.minute / step_minutes + 2

-- "First counted step": for a day before the clock's as for the clock's own, and 0 from the second day after it on. A difference
-- stops at 0: "or 0 if that is negative"
unfoldable pub first_counted : Clock → ℕ → ℕ
first_counted clock day =
    cond (leb day clock.day) (after_hour clock)
    (cond (eqb day (clock.day + 1)) (after_hour clock - steps_of clock.day)
    0)

-- "The ledger": "The clock lets a step count if its day isn't before the clock's day and it isn't below that day's first
-- counted step"
unfoldable pub counts : Clock → ℕ → ℕ → Bool
counts clock day step = leb clock.day day && leb (first_counted clock day) step

-- K2: "An earlier V becomes O only if its from-step equals the new one or the new one is 0": a record of a day, validated from a
-- step on, is replaced whole
unfoldable pub replaces_whole : Clock → (from day : ℕ) → Bool
replaces_whole clock from day = eqb from (first_counted clock day) || eqb (first_counted clock day) 0

-- refusal 39, "the load's day isn't after the clock's", and K2: "A load for the next day is refused with 39 when that day's first
-- counted step isn't 0": a day can be loaded
unfoldable pub loadable : Clock → ℕ → Bool
loadable clock day = ltb clock.day day && eqb (first_counted clock day) 0

-- "a day and an elapsed minute below 30 times the day's steps"
abbrev pub is_moment : Clock → Bool
is_moment clock = ltb clock.minute (step_minutes * steps_of clock.day)

-- refusal 38, "the clock would go back": one moment is before another
abbrev pub is_before : Clock → Clock → Bool
is_before a b = ltb a.day b.day || (eqb a.day b.day && ltb a.minute b.minute)

-- ADVANCE: 10, 38
abbrev pub advance_tests : Clock → Clock → List Test
advance_tests clock to = (not (is_moment to), input Range) ∷ (is_before to clock, state Back) ∷ []

-- "The ledger": "advance the clock (the same moment is accepted)": the clock at the new moment, or what refuses it
unfoldable pub advanced : Clock → Clock → Result Clock Refusal
advanced clock to = decide (first_met (advance_tests clock to)) (Ok to) Err
