-- Each way through the fields.
use native.Mathlib.Omega.{arith}
use Rattle.script.proofs.EngagementLines.{engagement_one, engagement_two, engagement_three, engagement_read, engagement_rest}
use Rattle.script.proofs.LineKinds.{dated, undated, first_bad, second_bad}
use Rattle.script.proofs.reading.engagement.Goals as goal

pub returns-in_err-actor : goal.returns-in_err-actor
returns-in_err-actor c = rw c.from_residual.ensures (engagement_one _ _ c.in_err-actor.ensures (omega arith))

pub returns-in_err-category : goal.returns-in_err-category
returns-in_err-category c =
    rw c.from_residual-in_err-category.ensures (engagement_two _ _ c.in_ok-actor.ensures.0 _ c.in_err-category.ensures (omega arith))

pub returns-in_err-date : goal.returns-in_err-date
returns-in_err-date c =
    rw c.from_residual-in_err-date.ensures
    (engagement_three _ _ c.in_ok-actor.ensures.0 _ c.in_ok-category.ensures.0 _ c.in_err-date.ensures (omega arith))

pub returns-in_err-day : goal.returns-in_err-day
returns-in_err-day c =
    let d = c.in_ok-date.ensures in
    rw c.from_residual-in_err-day.ensures
    (engagement_rest _ _ c.in_ok-actor.ensures.0 _ c.in_ok-category.ensures.0 _ d.0 d.1 (first_bad _ (undated _ c.in_err-day.ensures)))

pub returns-in_err-step : goal.returns-in_err-step
returns-in_err-step c =
    let d = c.in_ok-date.ensures in
    rw c.from_residual-in_err-step.ensures
    (engagement_rest _ _ c.in_ok-actor.ensures.0 _ c.in_ok-category.ensures.0 _ d.0 d.1 (second_bad (dated _ _ c.in_ok-day.ensures).0 c.in_err-step.ensures))

pub returns : goal.returns
returns c =
    let d = c.in_ok-date.ensures in
    engagement_read _ _ c.in_ok-actor.ensures.0 _ c.in_ok-category.ensures.0 _ d.0 d.1 (dated _ _ c.in_ok-day.ensures) c.in_ok-step.ensures
