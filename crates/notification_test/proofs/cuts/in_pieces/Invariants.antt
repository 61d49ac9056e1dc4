-- `cuts::in_pieces` ends where nothing of the body is left.
use Rattle.std.proofs.Common.{length}
use Rattle.notification_test.proofs.cuts.in_pieces.Given as goal

abbrev pub decreases-loop-rest : goal.decreases-loop-rest
decreases-loop-rest l = length l.rest
