-- Each way through the fields.
use native.Mathlib.Omega.{arith}
use Rattle.script.proofs.LoadLines.{load_one, load_two, load_three, load_four, load_undated, load_unnumbered, load_powerless, load_good}
use Rattle.script.proofs.LineKinds.{dated, undated}
use Rattle.script.proofs.reading.load.Goals as goal

pub returns-in_err-actor : goal.returns-in_err-actor
returns-in_err-actor c = rw c.from_residual.ensures (load_one _ _ c.in_err-actor.ensures (omega arith))

pub returns-in_err-category : goal.returns-in_err-category
returns-in_err-category c =
    rw c.from_residual-in_err-category.ensures (load_two _ _ c.in_ok-actor.ensures.0 _ c.in_err-category.ensures (omega arith))

pub returns-in_err-date : goal.returns-in_err-date
returns-in_err-date c =
    rw c.from_residual-in_err-date.ensures (load_three _ _ c.in_ok-actor.ensures.0 _ c.in_ok-category.ensures.0 _ c.in_err-date.ensures (omega arith))

pub returns-in_err-end : goal.returns-in_err-end
returns-in_err-end c =
    rw c.from_residual-in_err-end.ensures
    (load_four _ _ c.in_ok-actor.ensures.0 _ c.in_ok-category.ensures.0 _ c.in_ok-date.ensures.0 _ c.in_err-end.ensures (omega arith))

pub returns-in_err-day : goal.returns-in_err-day
returns-in_err-day c =
    let d = c.in_ok-end.ensures in
    rw c.from_residual-in_err-day.ensures
    (load_undated _ _ c.in_ok-actor.ensures.0 _ c.in_ok-category.ensures.0 _ c.in_ok-date.ensures.0 _ d.0 d.1 (undated _ c.in_err-day.ensures))

pub returns-in_err-approved : goal.returns-in_err-approved
returns-in_err-approved c =
    let d = c.in_ok-end.ensures in
    rw c.from_residual-in_err-approved.ensures
    (load_unnumbered _ _ c.in_ok-actor.ensures.0 _ c.in_ok-category.ensures.0 _ c.in_ok-date.ensures.0 _ d.0 d.1 (dated _ _ c.in_ok-day.ensures).0 c.in_err-approved.ensures)

pub returns-in_err-count : goal.returns-in_err-count
returns-in_err-count c =
    let d = c.in_ok-end.ensures in
    rw c.from_residual-in_err-count.ensures
    (load_powerless _ _ c.in_ok-actor.ensures.0 _ c.in_ok-category.ensures.0 _ c.in_ok-date.ensures.0 _ d.0 d.1 (dated _ _ c.in_ok-day.ensures).0 c.in_ok-approved.ensures.0 c.in_err-count.ensures)

pub returns : goal.returns
returns c =
    let d = c.in_ok-end.ensures in
    let n = c.in_ok-count.ensures in
    load_good _ _ c.in_ok-actor.ensures.0 _ c.in_ok-category.ensures.0 _ c.in_ok-date.ensures.0 _ d.0 d.1 (dated _ _ c.in_ok-day.ensures) c.in_ok-approved.ensures n.0 n.1
