-- `Head::engagement` meets its contract: the tests, then the load and what the records move.
use mathlib.Core.Path.{◌≡◌, ◌∙◌}
use Prim.Native.Nat.{◌<◌}
use native.Mathlib.Omega.{arith}
use Rattle.std.proofs.lemmas.Result.{err_from_is_err_and}
use Rattle.refusals.specs.Tests.{first_met}
use Rattle.ledger.specs.Asking.{engagement_tests}
use Rattle.tables.specs.Tables.{Columns, LoadColumns, columns, load_columns}
use Rattle.register.specs.View.{view}
use Rattle.register.proofs.CallTests.{no_columns, no_loads}
use Rattle.register.proofs.Answers.{engaged_refused, engaged_in, engaged_power, engaged_by}
use Rattle.register.proofs.Head.engagement.Goals as goal
use Rattle.register.proofs.Head.engagement.Goals.{After-engagement_verdict, In_ok-engagement_verdict}

-- what the verdict is
verdict : (c : After-engagement_verdict) (cols : Columns) (loads : LoadColumns) →
    c.engagement_verdict.result ≡ first_met (engagement_tests (view c.args.self cols loads) c.args.actor.now c.args.category.now c.args.day c.args.step)
verdict c cols loads = c.engagement_verdict.ensures cols loads c.args.actor.now c.args.category.now c.place-a.ensures c.place-z.ensures

-- what the tests leave to be known
asked : (c : In_ok-engagement_verdict) →
    (c.place-a.result < 8) × (c.place-z.result < 4) × (c.args.day < 36525) × (c.args.step < 50)
asked c =
    let a = c.args in
    engaged_in a.self no_columns no_loads a.actor.now a.category.now a.day a.step _
    (verdict (goal.at.In_ok-engagement_verdict c).After-engagement_verdict no_columns no_loads) c.in_ok-engagement_verdict.was _ _ c.place-a.ensures c.place-z.ensures

pub returns-in_err-engagement_verdict : goal.returns-in_err-engagement_verdict
returns-in_err-engagement_verdict c ids approved =
    let a = c.args in
    let cols = columns a.statuses.now ids a.keys.now a.marks.now a.rows.now in
    let loads = load_columns a.numbers.now approved a.loads.now in
    let p = err_from_is_err_and c.from_residual.result c.from_residual.ensures.1 in
    rw (p.1, p.2)
    (engaged_refused a.self cols loads a.actor.now a.category.now a.day a.step _
    (verdict (goal.at.returns-in_err-engagement_verdict c).After-engagement_verdict cols loads) _ c.in_err-engagement_verdict.was)

pub load_number-requires : goal.load_number-requires
load_number-requires c = let i = asked (goal.at.load_number-requires c).In_ok-engagement_verdict in (i.0, i.1, i.2)

pub totals_of-totals-requires : goal.totals_of-totals-requires
totals_of-totals-requires c =
    let n = c.min-n.ensures in
    (omega arith, (asked (goal.at.totals_of-totals-requires c).In_ok-engagement_verdict).3)

pub offset_bounds-row-step : goal.offset_bounds-row-step
offset_bounds-row-step c = omega (arith, (asked (goal.at.offset_bounds-row-step c).In_ok-engagement_verdict).3)

pub bounds-row-step : goal.bounds-row-step
bounds-row-step c = omega (arith, (asked (goal.at.bounds-row-step c).In_ok-engagement_verdict).3)

pub returns : goal.returns
returns c ids approved =
    let a = c.args in
    let cols = columns a.statuses.now ids a.keys.now a.marks.now a.rows.now in
    let loads = load_columns a.numbers.now approved a.loads.now in
    let at = goal.at.returns c in
    let i = asked at.In_ok-engagement_verdict in
    engaged_power a.self cols loads a.actor.now a.category.now a.day a.step _ (verdict at.After-engagement_verdict cols loads) c.in_ok-engagement_verdict.was _ _ c.place-a.ensures c.place-z.ensures _
    (c.saturating_sub.ensures
    ∙ engaged_by a.self cols loads _ _ a.day a.step _ _ _ _ _ _ _ i.0 i.1 c.load_number.ensures
    c.last_of.ensures c.row_at-row.ensures c.from.ensures c.min-n.ensures
    (c.totals_of-totals.ensures.0 ids).0 (c.totals_of-totals.ensures.0 ids).1)
