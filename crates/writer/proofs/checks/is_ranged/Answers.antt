-- `checks::is_ranged` meets its contract: each part of the range is a test of its own.
use Rattle.notification.proofs.Tested.{ranged_tests}
use Rattle.writer.proofs.checks.is_ranged.Goals as goal

pub returns : goal.returns
returns c =
    ranged_tests _ _ _ _ c.steps_of.ensures c.all_powers.ensures c.zeros_from.ensures
