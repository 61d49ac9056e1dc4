-- `steps::fits` meets its contract: both are in their ranges.
use Rattle.std.proofs.Common.{◌&&◌, ap₂}
use Rattle.judging.proofs.steps.fits.Goals as goal

pub returns : goal.returns
returns c = ap₂ ◌&&◌ c.is_from.ensures c.is_from-2.ensures
