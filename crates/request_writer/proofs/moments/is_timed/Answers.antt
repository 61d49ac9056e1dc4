-- `moments::is_timed` meets its contract: its tests are the definition's.
use mathlib.Core.Path.{refl}
use Rattle.request.specs.Moments.{in_time}
use Rattle.request_writer.proofs.moments.is_timed.Goals as goal

pub returns : goal.returns
unfolding in_time
returns c = refl
