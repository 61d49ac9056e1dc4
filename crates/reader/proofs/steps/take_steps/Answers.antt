-- What the lines from here on add to what is kept now is what all lines add to what was kept first.
use mathlib.Core.Path.{sym, ◌∙◌}
use native.Mathlib.Omega.{arith}
use Rattle.reader.specs.Walking.{LineEnd}
use Rattle.reader.proofs.Ends.{line_ends, whole_here, whole_over, take_first, take_none}
use Rattle.reader.proofs.steps.take_steps.Goals as goal
use Rattle.reader.proofs.steps.take_steps.Goals.{After-byte_from-end}

-- the line that begins where the good ones end

module _ (c : After-byte_from-end) where
  ended : LineEnd c.args.body.now c.good_run-run.result.at c.byte_from-end.result
  ended = line_ends _ c.good_run-run.ensures.within c.byte_from-end.ensures

pub returns-then-body-end : goal.returns-then-body-end
returns-then-body-end c =
    let h = c.if-body-end.true in
    let g = c.good_run-run in
    let a = c.args in record {
      powers_after = sym (c.loop-run.invariant.1 ∙ (g.ensures.kept ∙ take_none a.steps a.body.now g.result.at c.byte_from-end.result (ended (goal.at.returns-then-body-end c).After-byte_from-end) _ h));
      at_value = omega (arith, c.loop-run.invariant.2, g.ensures.rest, whole_over a.body.now g.result.at c.byte_from-end.result (ended (goal.at.returns-then-body-end c).After-byte_from-end) h);
    }

pub slice_bounds-take_step-count : goal.slice_bounds-take_step-count
slice_bounds-take_step-count c = omega (arith, (ended (goal.at.slice_bounds-take_step-count c).After-byte_from-end).after, (ended (goal.at.slice_bounds-take_step-count c).After-byte_from-end).within)

pub slice_bounds-take_step-start : goal.slice_bounds-take_step-start
slice_bounds-take_step-start c = omega (arith, (ended (goal.at.slice_bounds-take_step-start c).After-byte_from-end).after, (ended (goal.at.slice_bounds-take_step-start c).After-byte_from-end).within)

pub loop-run-smaller : goal.loop-run-smaller
loop-run-smaller c =
    omega (arith, (ended (goal.at.loop-run-smaller c).After-byte_from-end).after, c.good_run-run.ensures.after, c.if-body-end.false)

pub loop-run-preserved : goal.loop-run-preserved
loop-run-preserved c =
    let h = c.if-body-end.false in
    let g = c.good_run-run in
    let a = c.args in (
      omega (arith, h),
      c.loop-run.invariant.1
          ∙ (g.ensures.kept ∙ take_first a.steps a.body.now g.result.at c.byte_from-end.result (ended (goal.at.loop-run-preserved c).After-byte_from-end) _ _ h c.take_step-tally.ensures),
      c.loop-run.invariant.2 ∙ (g.ensures.rest ∙ whole_here a.body.now g.result.at c.byte_from-end.result (ended (goal.at.loop-run-preserved c).After-byte_from-end) h),
    )
