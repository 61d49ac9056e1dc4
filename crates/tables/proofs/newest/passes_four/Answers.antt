-- Four are there, and none of them is meant.
use native.Mathlib.Omega.{arith}
use mathlib.Core.Bool.{false≢true}
use Rattle.tables.proofs.newest.passes_four.Goals as goal

pub returns-then-i-lt4 : goal.returns-then-i-lt4
returns-then-i-lt4 g c = λ e. absurd (false≢true e)

pub returns : goal.returns
returns g c = λ e. (omega arith, c.none_of_four.ensures e)
