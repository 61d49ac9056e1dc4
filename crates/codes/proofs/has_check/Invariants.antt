-- `codes::has_check` meets its contract: what is known of the characters passed is their sum as they are weighed.
use mathlib.Core.Path.{◌≡◌}
use Rattle.lists.specs.Sums.{sum_to}
use Rattle.codes.specs.Codes.{weighed_at}
use Rattle.codes.proofs.has_check.Given as goal

abbrev pub invariant-loop-i : goal.invariant-loop-i
invariant-loop-i l = l.sum ≡ sum_to l.i (weighed_at l.s)
