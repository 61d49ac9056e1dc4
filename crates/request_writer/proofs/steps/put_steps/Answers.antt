-- `steps::put_steps` meets its contract: so far as it has come, the steps are put.
use Rattle.writer.specs.Placing.{step_texts}
use Rattle.writer.proofs.Placed.{placed_none}
use Rattle.writer.proofs.StepTexts.{step_power, step_room, step_placed}
use Rattle.request_writer.specs.Pieces.{marked_step}
use Rattle.request_writer.proofs.steps.put_steps.Goals as goal

pub loop-k-init : goal.loop-k-init
unfolding step_texts
loop-k-init c = placed_none c.args.buffer.now c.args.at

pub put_step-next-requires : goal.put_step-next-requires
put_step-next-requires c =
    let l = c.loop-k in
    let h = c.loop-k-test.true in
    (h, c.requires.0.few, step_power c.args.steps c.args.powers.now c.requires.0 l.k h, step_room (marked_step c.args.steps) c.args.steps c.args.powers.now c.requires.0 l.k h _ _ _ _ l.invariant c.requires.1)

pub loop-k-preserved : goal.loop-k-preserved
loop-k-preserved c =
    let l = c.loop-k in
    let h = c.loop-k-test.true in
    step_placed (marked_step c.args.steps) c.args.steps c.args.powers.now c.requires.0 l.k h _ _ _ _ l.invariant _ _ c.put_step-next.ensures
