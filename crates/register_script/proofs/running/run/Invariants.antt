-- The places stay in what is lent, and the input keeps its length.
use Rattle.std.proofs.Common.{◌≡◌, ◌≤◌, length}
use Rattle.register_script.proofs.running.run.Given as goal

abbrev pub invariant-loop : goal.invariant-loop
invariant-loop l = (l.end ≤ length l.input) × (l.out ≤ length l.output) × (length l.input ≡ length l.fn.input)
