-- `runs::plain_next` meets its contract: what stands before the step are `}` and a comma.
use mathlib.Core.Path.{refl}
use mathlib.Core.List.{◌∷◌}
use Prim.Native.Nat.{◌+◌}
use Rattle.request_reader.specs.Walking.{part}
use Rattle.request_reader.specs.Steps.{open_text}
use Rattle.request_reader.proofs.PlainFronts.{plain_next}
use Rattle.request_reader.proofs.runs.plain_next.Goals as goal

pub returns : goal.returns
returns c =
    let a = c.args in
    plain_next (125 ∷ 44 ∷ open_text) (part (a.i + 4) 5 a.t.now) (part (a.i + 14) 5 a.t.now) a.s.now a.at c.plain_front.result refl
    c.plain_front.ensures
