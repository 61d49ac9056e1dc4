-- `dates::is_valid` meets its contract: its tests are the definition's.
use Rattle.calendar.specs.Dates.{valid}
use borrow.Author.Tests.{le-ltb, lt-ltb}
use Rattle.calendar.proofs.dates.is_valid.Goals as goal

pub returns-then-x-ge-YEARS : goal.returns-then-x-ge-YEARS
unfolding valid
returns-then-x-ge-YEARS c = rw (le-ltb _ _ c.if-x-ge-YEARS.true)

pub returns : goal.returns
unfolding valid
returns c =
    rw (
      lt-ltb _ _ c.if-x-ge-YEARS.false,
      c.month_length-length.ensures,
      c.leap_days.ensures.0,
    )
