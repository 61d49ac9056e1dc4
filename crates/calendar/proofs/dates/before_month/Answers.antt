-- `dates::before_month` meets its contract: a test of each month, which antt computes.
use mathlib.Core.Bool.{Bool, cond}
use mathlib.Core.Path.{◌≡◌}
use Prim.Native.Nat.{ℕ, ◌+◌, ◌-◌, ◌*◌, ◌/◌, ◌<◌}
use lib.Dec.{ltb, eqb, eqb→eq}
use borrow.Author.Rules.{rules}
use borrow.Author.Tests.{lt-ltb, le-ltb}
use Rattle.calendar.specs.Dates.{before_month, month_length}
use Rattle.lists.proofs.Below.{within}
use Rattle.calendar.proofs.dates.before_month.Goals as goal

abbrev start : ℕ → ℕ → ℕ
start l m = cond (ltb m 3) (31 * (m / 2)) (59 + l + (153 * m - 457) / 5)

right : ℕ → ℕ → Bool
right l m = eqb (start l m) (before_month l m)

month-starts : (l m : ℕ) → l < 2 → m < 14 → start l m ≡ before_month l m
unfolding right before_month month_length
month-starts l m hl hm = eqb→eq (start l m) (before_month l m) (within right 2 14 tt l m hl hm)

pub returns-then-month-lt3 : goal.returns-then-month-lt3
returns-then-month-lt3 c =
    let m = c.args.month in
    rw (lt-ltb m 3 c.if-month-lt3.true) at (month-starts c.args.leaps m (search rules) (search rules))

pub returns-else-month-lt3 : goal.returns-else-month-lt3
returns-else-month-lt3 c =
    let m = c.args.month in
    rw (le-ltb m 3 c.if-month-lt3.false) at (month-starts c.args.leaps m (search rules) (search rules))
