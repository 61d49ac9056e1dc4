-- `dates::year_of` meets its contract: the years' starts are a quotient, and so is the year of a day.
use Rattle.calendar.proofs.Decoding.{year_found}
use Rattle.calendar.proofs.dates.year_of.Goals as goal

pub returns : goal.returns
returns c = year_found _ c.requires
