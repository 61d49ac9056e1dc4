-- While none of the steps passed failed, each of them fits.
use Rattle.std.proofs.Common.{◌≡◌, ℕ, ◌<◌, ◌≤◌, true, false, get_or}
use Rattle.judging.specs.Steps.{step_fits}
use Rattle.judging.proofs.steps.all_fit.Given as goal

abbrev pub invariant-loop-s : goal.invariant-loop-s
invariant-loop-s l =
    l.failed ≡ false → (j : ℕ) → l.first ≤ j → j < l.s → step_fits (get_or l.ceder j 0) (get_or l.acquirer j 0) (get_or l.ps j 0) l.ceders l.acquirers ≡ true
