-- `dates::leap_days` meets its contract: a test of each year, which antt computes.
use mathlib.Core.Bool.{Bool, cond}
use mathlib.Core.Path.{◌≡◌}
use Prim.Native.Nat.{ℕ, ◌%◌, ◌<◌}
use lib.Dec.{eqb, eqb→eq, lit<}
use borrow.Author.Tests.{eq-eqb, ne_eqb}
use Rattle.calendar.specs.Dates.{leap_days}
use Rattle.lists.proofs.Below.{below}
use Rattle.calendar.proofs.dates.leap_days.Goals as goal

abbrev fourth : ℕ → ℕ
fourth y = cond (eqb (y % 4) 0) 1 0

right : ℕ → Bool
right y = eqb (fourth y) (leap_days y)

every-fourth : (y : ℕ) → y < 100 → fourth y ≡ leap_days y
unfolding right leap_days
every-fourth y h = eqb→eq (fourth y) (leap_days y) (below right 100 tt y h)

pub returns-then-year-eq0 : goal.returns-then-year-eq0
returns-then-year-eq0 c = let y = c.args.year in (rw (eq-eqb (y % 4) 0 c.if-year-eq0.true) at (every-fourth y c.requires), lit< tt)

pub returns-else-year-eq0 : goal.returns-else-year-eq0
returns-else-year-eq0 c = let y = c.args.year in (rw (ne_eqb (y % 4) 0 c.if-year-eq0.false) at (every-fourth y c.requires), lit< tt)
