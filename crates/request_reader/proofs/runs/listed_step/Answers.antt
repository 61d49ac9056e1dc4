-- `runs::listed_step` meets its contract: the step has the labels of its place in the list, at the places where it has them.
use Prim.Native.Nat.{◌+◌, ◌*◌}
use native.Mathlib.Omega.{arith}
use Rattle.request_reader.specs.Steps.{LabelEntry, label_list}
use Rattle.request_reader.proofs.RunStarts.{may_run, listed_entries, listed_next}
use Rattle.request_reader.proofs.StepLayouts.{own_front, laid_rooms}
use Rattle.request_reader.proofs.runs.listed_step.Goals as goal
use Rattle.request_reader.proofs.runs.listed_step.Goals.{In_ok-layout}

entries : (c : In_ok-layout) → LabelEntry label_list (c.half_hours.result * 10) × LabelEntry label_list (c.half_hours.result * 10 + 10)
entries c =
    let b = c.if-run_end-k.false in
    let h = c.half_hours.ensures.0 in
    listed_entries c.args.steps c.args.t c.run_end.result (c.half_hours.result * 10) (c.run_end.ensures (omega arith)) (omega arith) (omega arith)

pub own_front-requires : goal.own_front-requires
own_front-requires c =
    let rooms = laid_rooms c.args.s.now c.args.at c.in_ok-layout.layout c.in_ok-layout.ensures.laid_out in
    (omega (arith, rooms.0), omega (arith, rooms.1), c.in_ok-layout.ensures.power_in_bounds, rw c.requires.2 (omega (arith, (entries c).1.within)))

pub returns-clause-next_step : goal.returns-clause-next_step
returns-clause-next_step c =
    let a = c.args in
    let laid = c.in_ok-layout.ensures.laid_out in
    let half = c.half_hours in
    let h = half.ensures.0 in
    let b = c.if-run_end-k.false in
    let p = c.run_end.ensures (omega arith) in
    let e = entries (goal.at.returns-clause-next_step c).In_ok-layout in
    let m = may_run a.steps a.t _ c.is_over.ensures c.if-is_over-steps.false in
    let w = rw c.requires.2 at c.in_ok-power.ensures in
    let front = own_front a.s.now label_list a.at (half.result * 10) c.in_ok-layout.layout _ _ laid e.0 e.1 w in
    listed_next a.steps a.t c.run_end.result (half.result * 10) p (omega arith) (omega arith) a.s.now a.at _ _ a.powers.now
    m.1 m.0 m.2 c.requires.1 front
