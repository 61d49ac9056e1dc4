-- Day 0 is a Saturday, and the days of the week follow one another.
use mathlib.Core.Path.{◌≡◌, refl}
use mathlib.Core.Bool.{true}
use Prim.Native.Nat.{ℕ, ◌+◌, ◌%◌}
use native.Mathlib.Omega.{arith}
use Rattle.calendar.specs.Steps.{weekday, sunday}

pub day_0_saturday : weekday 0 ≡ 0
day_0_saturday = refl

pub day_1_sunday : sunday 1 ≡ true
day_1_sunday = refl

pub weekday_next : (n : ℕ) → weekday (n + 1) ≡ (weekday n + 1) % 7
weekday_next n = omega arith

pub weekday_week : (n : ℕ) → weekday (n + 7) ≡ weekday n
weekday_week n = omega arith
