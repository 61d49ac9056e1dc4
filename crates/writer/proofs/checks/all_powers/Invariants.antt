-- Whether the powers passed are below 10,000.
use mathlib.Core.Path.{◌≡◌}
use mathlib.Core.Bool.{◌&&◌}
use lib.Dec.{ltb}
use lib.ListN.{drop}
use Rattle.lists.specs.Searches.{every}
use Rattle.notification.specs.Forms.{power_end}
use Rattle.writer.proofs.checks.all_powers.Given as goal

abbrev pub invariant-loop-p : goal.invariant-loop-p
invariant-loop-p l = every (λ p. ltb p power_end) l.powers ≡ (l.good && every (λ p. ltb p power_end) (drop l.p-index l.powers))
