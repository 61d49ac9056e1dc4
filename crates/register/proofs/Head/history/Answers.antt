-- `Head::history` meets its contract: the two tests, then the ids of the records below the count.
use mathlib.Core.Path.{◌≡◌, sym, ◌∙◌}
use mathlib.Core.List.{[]}
use native.Mathlib.Omega.{arith}
use lib.ListN.{length}
use Rattle.std.proofs.lemmas.Result.{err_from_is_err_and}
use Rattle.refusals.specs.Tests.{state, first_met, pass}
use Rattle.tables.specs.Tables.{columns}
use Rattle.register.proofs.Trying.{refuses, goes_on}
use Rattle.register.proofs.CallTests.{no_loads}
use Rattle.register.proofs.Answers.{history_tried, listed_refused, listed_room, listed_all}
use Rattle.register.proofs.Head.history.Goals as goal
use Rattle.register.proofs.Head.history.Goals.{In_ok-refuse_if-2}

-- both tests passed
passed : (c : In_ok-refuse_if-2) →
    first_met (history_tried c.place-a.result c.len.result (length c.args.out.now) c.count_ids-count.result) ≡ pass
passed c = goes_on state _ _ _ _ c.in_ok-refuse_if.ensures ∙ goes_on state _ _ _ _ c.in_ok-refuse_if-2.ensures

pub returns-in_err-refuse_if : goal.returns-in_err-refuse_if
returns-in_err-refuse_if c statuses marks rows loads =
    let a = c.args in
    let p = err_from_is_err_and c.from_residual.result c.from_residual.ensures.1 in
    rw (p.1, p.2)
    (listed_refused a.self (columns statuses a.ids.now a.keys.now marks rows) loads a.actor.now a.out.now _ _ _ _
    (sym c.len.ensures) c.place-a.ensures c.min-n.ensures (c.count_ids-count.ensures.0 a.ids.now) _
    (refuses state _ _ _ _ c.in_err-refuse_if.ensures))

pub returns-in_err-refuse_if-2 : goal.returns-in_err-refuse_if-2
returns-in_err-refuse_if-2 c statuses marks rows loads =
    let a = c.args in
    let p = err_from_is_err_and c.from_residual-in_err-refuse_if-2.result c.from_residual-in_err-refuse_if-2.ensures.1 in
    rw (p.1, p.2)
    (listed_refused a.self (columns statuses a.ids.now a.keys.now marks rows) loads a.actor.now a.out.now _ _ _ _
    (sym c.len.ensures) c.place-a.ensures c.min-n.ensures (c.count_ids-count.ensures.0 a.ids.now) _
    (goes_on state _ _ _ _ c.in_ok-refuse_if.ensures ∙ refuses state _ _ _ _ c.in_err-refuse_if-2.ensures))

pub put_ids-requires : goal.put_ids-requires
put_ids-requires c =
    let a = c.args in (
      omega (arith, c.min-n.ensures),
      listed_room a.self (columns [] a.ids.now a.keys.now [] []) no_loads a.actor.now a.out.now _ _ _ _
          (sym c.len.ensures) c.place-a.ensures c.min-n.ensures (c.count_ids-count.ensures.0 a.ids.now)
          (passed (goal.at.put_ids-requires c).In_ok-refuse_if-2),
    )

pub returns : goal.returns
returns c statuses marks rows loads =
    let a = c.args in
    listed_all a.self (columns statuses a.ids.now a.keys.now marks rows) loads a.actor.now a.out.now _ _ _ _
    (sym c.len.ensures) c.place-a.ensures c.min-n.ensures (c.count_ids-count.ensures.0 a.ids.now)
    (passed (goal.at.returns c).In_ok-refuse_if-2) _ c.put_ids.ensures
