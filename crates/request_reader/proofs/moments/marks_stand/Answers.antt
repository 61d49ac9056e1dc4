-- `moments::marks_stand` meets its contract: the six bytes are the definition's.
use mathlib.Core.Path.{refl}
use Rattle.request_reader.specs.Walking.{marks_stand}
use Rattle.request_reader.proofs.moments.marks_stand.Goals as goal

pub returns : goal.returns
unfolding marks_stand
returns c = refl
