-- `dates::before_year` meets its contract, by the years' starts.
use mathlib.Core.Path.{sym}
use Rattle.calendar.proofs.Decoding.{year_starts}
use Rattle.calendar.proofs.dates.before_year.Goals as goal

pub returns : goal.returns
returns c = sym (year_starts c.args.year c.requires)
