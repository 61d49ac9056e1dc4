-- `Head::steps_fit` meets its contract: the loads that the searches find, and the sums by which the ledger judges.
use mathlib.Core.Path.{◌≡◌, sym, ◌∙◌}
use mathlib.Core.List.{List, [], ◌∷◌}
use Prim.Native.Nat.{ℕ}
use native.Mathlib.Omega.{arith}
use Rattle.std.proofs.lemmas.Result.{err_from_is_err_and}
use Rattle.calendar.proofs.StepCounts.{steps_small}
use Rattle.refusals.specs.Tests.{first_met}
use Rattle.ledger.specs.Filing.{load_test, step_tests}
use Rattle.tables.specs.Lent.{columns_of, loads_of}
use Rattle.register.specs.View.{view}
use Rattle.register.specs.Judging.{key_at}
use Rattle.request_reader.proofs.ObjectReads.{not_found}
use Rattle.register.proofs.Days.{load_refused, load_passed}
use Rattle.register.proofs.Fits.{fits_is}
use Rattle.register.proofs.Head.steps_fit.Goals as goal
use Rattle.register.proofs.Head.steps_fit.Goals.{After-step_verdict}

pub load_number-requires : goal.load_number-requires
load_number-requires c = let j = c.requires in (j.ceder, j.category, j.day)

pub returns-in_err-ceders : goal.returns-in_err-ceders
returns-in_err-ceders c =
    let a = c.args in
    let j = c.requires in
    let p = err_from_is_err_and c.from_residual.result c.from_residual.ensures.1 in
    let e = c.in_err-ceders.ensures in
    rw (p.1, p.2, not_found c.last_of.result _ _ e.ok_part e.value) (
      (λ ids. load_refused a.self (columns_of a.records ids) (loads_of a.loads) (key_at a.at) _ _ j.ceder j.category
          c.load_number.ensures c.last_of.ensures e.ok_part a.ps.now),
      tt,
    )

pub load_number-requires-2 : goal.load_number-requires-2
load_number-requires-2 c = let j = c.requires in (j.acquirer, j.category, j.day)

pub step_verdict-requires : goal.step_verdict-requires
step_verdict-requires c = (
  omega (arith, c.first_counted.ensures, c.steps_of.ensures, c.requires.counted),
  omega (arith, c.steps_of.ensures, steps_small c.args.at.day),
  c.approved_of.ensures.1,
  c.approved_of-2.ensures.1,
  (c.nets_of-count.ensures.0 []).netted.acquirer_high,
)

-- 31 passed, and 32 to 35 decide
judged : (c : After-step_verdict) (ids : List ℕ) →
    let l = view c.args.self (columns_of c.args.records ids) (loads_of c.args.loads) in
    c.step_verdict.result ≡ first_met (load_test l (key_at c.args.at) ∷ step_tests l (key_at c.args.at) c.args.ps.now)
judged c ids =
    let a = c.args in
    let j = c.requires in
    let cols = columns_of a.records ids in
    let loads = loads_of a.loads in
    let number = c.load_number.ensures in
    let some = c.in_ok-ceders.ensures.ok_part in
    let found = c.last_of.ensures in
    c.step_verdict.ensures
    ∙ fits_is a.self cols loads a.at a.ps.now j _ _ c.first_counted.ensures c.steps_of.ensures
    _ _ number c.load_number-2.ensures _ _ (sym some ∙ found) c.last_of-acquirers.ensures _ (c.nets_of-count.ensures.0 ids)
    _ _ c.approved_of.ensures.0 c.approved_of-2.ensures.0
    ∙ load_passed a.self cols loads (key_at a.at) _ _ j.ceder j.category number found _ some a.ps.now

pub returns-in_err-step_verdict : goal.returns-in_err-step_verdict
returns-in_err-step_verdict c =
    let p = err_from_is_err_and c.from_residual-in_err-step_verdict.result c.from_residual-in_err-step_verdict.ensures.1 in
    rw (p.1, p.2) (
      (λ ids. sym c.in_err-step_verdict.was ∙ judged (goal.at.returns-in_err-step_verdict c).After-step_verdict ids),
      tt,
    )

pub returns : goal.returns
returns c = (
  (λ ids. sym c.in_ok-step_verdict.was ∙ judged (goal.at.returns c).After-step_verdict ids),
  c.nets_of-count.ensures.1,
)
