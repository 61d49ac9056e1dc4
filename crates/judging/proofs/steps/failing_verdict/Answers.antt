-- The four searches, one after the other, are tried in the order of the checks.
use Rattle.std.proofs.Common.{◌≡◌, ◌+◌, ◌-◌, ltb, get_or, replicate, refl, ◌∙◌}
use lib.ListN.{get_or-replicate}
use Rattle.std.proofs.lemmas.Result.{err_from_is_err_and}
use Rattle.lists.specs.Searches.{first_from}
use Rattle.refusals.specs.declared.StateRefusal.TheVariants.{CederBelow, AcquirerAbove, CederAbove}
use Rattle.judging.specs.Nets.{base}
use Rattle.judging.specs.Steps.{net_tests}
use Rattle.judging.proofs.Verdicts.{found_by, refused_at, passed_at}
use Rattle.judging.proofs.steps.failing_verdict.Goals as goal
use Rattle.judging.proofs.steps.failing_verdict.Goals.{After-first_below-s, After-first_below-s-2, After-first_below-s-3, After-first_below-s-4}

-- the step that each search found
ceders : (c : After-first_below-s) →
    first_from (λ s. ltb (get_or c.args.nets.ceder s 0) (base + get_or c.args.ps s 0)) c.args.first (c.args.until - c.args.first) ≡ c.first_below-s.result
ceders c =
    found_by _ _ c.requires.0 c.requires.1 _ _ _ _ (λ s h. refl) c.plus.ensures _ c.first_below-s.ensures

acquirers : (c : After-first_below-s-2) →
    first_from (λ s. ltb (base + c.args.acquirers) (get_or c.args.nets.acquirer s 0 + get_or c.args.ps s 0)) c.args.first (c.args.until - c.args.first)
    ≡ c.first_below-s-2.result
acquirers c =
    found_by _ _ c.requires.0 c.requires.1 (replicate 50 (base + c.args.acquirers)) _ _ _ (λ s h. get_or-replicate 50 s (base + c.args.acquirers) 0 h) c.sums-taken.ensures _ c.first_below-s-2.ensures

above : (c : After-first_below-s-3) →
    first_from (λ s. ltb (base + c.args.ceders + get_or c.args.ps s 0) (get_or c.args.nets.ceder s 0)) c.args.first (c.args.until - c.args.first)
    ≡ c.first_below-s-3.result
above c =
    found_by _ _ c.requires.0 c.requires.1 _ _ _ _ c.plus-2.ensures (λ s h. refl) _ c.first_below-s-3.ensures

below : (c : After-first_below-s-4) →
    first_from (λ s. ltb (get_or c.args.nets.acquirer s 0 + get_or c.args.ps s 0) base) c.args.first (c.args.until - c.args.first) ≡ c.first_below-s-4.result
below c =
    found_by _ _ c.requires.0 c.requires.1 _ (replicate 50 base) _ _ c.sums-taken.ensures (λ s h. get_or-replicate 50 s base 0 h) _ c.first_below-s-4.ensures

pub returns-in_err-refuse_if : goal.returns-in_err-refuse_if
unfolding net_tests
returns-in_err-refuse_if c =
    let p = err_from_is_err_and c.from_residual.result c.from_residual.ensures.1 in
    let at = goal.at.returns-in_err-refuse_if c in
    rw (p.1, p.2) (refused_at CederBelow _ _ _ _ (ceders at.After-first_below-s) _ _ c.in_err-refuse_if.ensures)

pub returns-in_err-refuse_if-2 : goal.returns-in_err-refuse_if-2
unfolding net_tests
returns-in_err-refuse_if-2 c =
    let p = err_from_is_err_and c.from_residual-in_err-refuse_if-2.result c.from_residual-in_err-refuse_if-2.ensures.1 in
    let at = goal.at.returns-in_err-refuse_if-2 c in
    rw (p.1, p.2)
    (refused_at AcquirerAbove _ _ _ _ (acquirers at.After-first_below-s-2) _ _ c.in_err-refuse_if-2.ensures
    ∙ passed_at CederBelow _ _ _ _ (ceders at.After-first_below-s) _ _ c.in_ok-refuse_if.ensures)

pub returns-in_err-refuse_if-3 : goal.returns-in_err-refuse_if-3
unfolding net_tests
returns-in_err-refuse_if-3 c =
    let p = err_from_is_err_and c.from_residual-in_err-refuse_if-3.result c.from_residual-in_err-refuse_if-3.ensures.1 in
    let at = goal.at.returns-in_err-refuse_if-3 c in
    rw (p.1, p.2)
    (refused_at CederAbove _ _ _ _ (above at.After-first_below-s-3) _ _ c.in_err-refuse_if-3.ensures
    ∙ passed_at AcquirerAbove _ _ _ _ (acquirers at.After-first_below-s-2) _ _ c.in_ok-refuse_if-2.ensures
    ∙ passed_at CederBelow _ _ _ _ (ceders at.After-first_below-s) _ _ c.in_ok-refuse_if.ensures)

pub returns : goal.returns
unfolding net_tests
returns c =
    let at = goal.at.returns c in
    rw (below at.After-first_below-s-4) c.refuse_if-4.ensures
    ∙ passed_at CederAbove _ _ _ _ (above at.After-first_below-s-3) _ _ c.in_ok-refuse_if-3.ensures
    ∙ passed_at AcquirerAbove _ _ _ _ (acquirers at.After-first_below-s-2) _ _ c.in_ok-refuse_if-2.ensures
    ∙ passed_at CederBelow _ _ _ _ (ceders at.After-first_below-s) _ _ c.in_ok-refuse_if.ensures
