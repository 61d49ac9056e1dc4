-- `Head::judge` meets its contract: the three parts, one after the other, and the free place.
use mathlib.Core.Path.{◌≡◌, sym, ap, ◌∙◌}
use mathlib.Core.List.{List, [], ◌∷◌}
use Prim.Native.Nat.{ℕ}
use Rattle.std.proofs.lemmas.Result.{err_from_is_err_and, IfOk-at_ok}
use Rattle.refusals.specs.Tests.{Verdict, Test, tried, state, first_met, verdict}
use Rattle.ledger.specs.Filing.{full_test, place_tests, load_test, step_tests}
use Rattle.tables.specs.Lent.{columns_of, loads_of}
use Rattle.register.specs.View.{view}
use Rattle.register.specs.Judging.{key_at}
use Rattle.register.proofs.Trying.{refuses, goes_on}
use Rattle.register.proofs.CallTests.{no_columns, no_loads}
use Rattle.register.proofs.Filings.{refused_20, refused_26, with_36, full_is, enrolled_of, judgeable_of}
use Rattle.register.proofs.Head.judge.Goals as goal
use Rattle.register.proofs.Head.judge.Goals.{In_ok-timely}

pub returns-in_err-enrolled : goal.returns-in_err-enrolled
returns-in_err-enrolled c =
    let p = err_from_is_err_and c.from_residual.result c.from_residual.ensures.1 in
    rw (p.1, p.2) ((λ ids. sym (refused_20 _ _ _ _ _ _ (sym (c.enrolled.ensures _ _) ∙ c.in_err-enrolled.was))), tt)

pub timely-requires : goal.timely-requires
timely-requires c =
    let a = c.args in
    let p = enrolled_of a.self no_columns no_loads a.entry a.at (sym (c.enrolled.ensures no_columns no_loads) ∙ c.in_ok-enrolled.was) in
    (p.ceder, p.acquirer)

pub returns-in_err-timely : goal.returns-in_err-timely
returns-in_err-timely c =
    let p = err_from_is_err_and c.from_residual-in_err-timely.result c.from_residual-in_err-timely.ensures.1 in
    rw (p.1, p.2) (
      (λ ids. sym (refused_26 _ _ _ _ _ (sym (c.enrolled.ensures _ _) ∙ c.in_ok-enrolled.was) _ (sym (c.timely.ensures _ _) ∙ c.in_err-timely.was))),
      tt,
    )

pub steps_fit-requires : goal.steps_fit-requires
steps_fit-requires c =
    let a = c.args in
    judgeable_of a.self no_columns no_loads a.entry a.at
    (sym (c.enrolled.ensures no_columns no_loads) ∙ c.in_ok-enrolled.was)
    (sym (c.timely.ensures no_columns no_loads) ∙ c.in_ok-timely.was)

-- 20 to 30 passed: 31 to 35 decide, and then 36
last : (c : In_ok-timely) (ids : List ℕ) → let a = c.args in
    let l = view a.self (columns_of a.records ids) (loads_of a.loads) in
    (v : Verdict) → v ≡ first_met (load_test l (key_at a.at) ∷ step_tests l (key_at a.at) a.ps.now) →
    tried v (full_test l) ≡ first_met (place_tests l a.entry (key_at a.at) a.at.submitter a.ps.now)
last c ids v e =
    let a = c.args in
    with_36 (view a.self (columns_of a.records ids) (loads_of a.loads)) a.entry (key_at a.at) a.at.submitter a.ps.now
    (sym (c.enrolled.ensures _ _) ∙ c.in_ok-enrolled.was)
    (sym (c.timely.ensures _ _) ∙ c.in_ok-timely.was) v e

pub returns-in_err-count : goal.returns-in_err-count
returns-in_err-count c =
    let p = err_from_is_err_and c.from_residual-in_err-count.result c.from_residual-in_err-count.ensures.1 in
    rw (p.1, p.2) (
      (λ ids. last (goal.at.returns-in_err-count c).In_ok-timely ids _ (ap verdict (sym c.in_err-count.was) ∙ c.steps_fit.ensures.0 ids)),
      tt,
    )

pub returns-in_err-refuse_if : goal.returns-in_err-refuse_if
returns-in_err-refuse_if c =
    let a = c.args in
    let p = err_from_is_err_and c.from_residual-in_err-refuse_if.result c.from_residual-in_err-refuse_if.ensures.1 in
    rw (p.1, p.2) (
      (λ ids. sym (refuses state _ _ _ _ c.in_err-refuse_if.ensures)
          ∙ ap (λ (t : Test). first_met (t ∷ [])) (full_is a.self (columns_of a.records ids) (loads_of a.loads))
          ∙ last (goal.at.returns-in_err-refuse_if c).In_ok-timely ids _ (ap verdict (sym c.in_ok-count.was) ∙ c.steps_fit.ensures.0 ids)),
      tt,
    )

pub returns : goal.returns
returns c =
    let a = c.args in (
      (λ ids. sym (goes_on state _ _ _ _ c.in_ok-refuse_if.ensures)
          ∙ ap (λ (t : Test). first_met (t ∷ [])) (full_is a.self (columns_of a.records ids) (loads_of a.loads))
          ∙ last (goal.at.returns c).In_ok-timely ids _ (ap verdict (sym c.in_ok-count.was) ∙ c.steps_fit.ensures.0 ids)),
      IfOk-at_ok _ c.in_ok-count.was c.steps_fit.ensures.1,
    )
