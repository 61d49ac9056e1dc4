-- `texts::text_of` meets its contract: the digits are those of the day's date.
use Rattle.calendar.specs.Texts.{text_of, date_text}
use borrow.Author.Tests.{le-ltb, lt-ltb}
use mathlib.Core.Path.{◌∙◌, ap}
use Rattle.calendar.proofs.texts.text_of.Goals as goal

pub returns-then-day-ge-DAYS : goal.returns-then-day-ge-DAYS
unfolding text_of
returns-then-day-ge-DAYS c = rw (le-ltb _ _ c.if-day-ge-DAYS.true)

pub returns : goal.returns
unfolding text_of
returns c = rw (lt-ltb _ _ c.if-day-ge-DAYS.false) (c.digits.ensures ∙ ap date_text c.date_of.ensures)
