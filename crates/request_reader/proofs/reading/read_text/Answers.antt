-- `reading::read_text` meets its contract: the members, the steps, and what they come to.
use mathlib.Core.Path.{refl}
use Prim.Native.Nat.{◌≤◌}
use lib.ListN.{length}
use borrow.Author.Tests.{ltb-true, ltb-false}
use Rattle.std.proofs.lemmas.Result.{err_from_is_err_and}
use Rattle.request.specs.Writing.{object_most}
use Rattle.request_reader.specs.Walking.{Walked}
use Rattle.request_reader.specs.Heads.{PartiesAt, TermsAt, begin_tests}
use Rattle.reader.proofs.Feeding.{is_met, is_unmet}
use Rattle.request_reader.proofs.ObjectReads.{not_found, by_object}
use Rattle.request_reader.proofs.ObjectReads.{too_long_lem, no_parties, no_terms, no_begin, steps_enough, series_lost, series_found}
use Rattle.request_reader.proofs.reading.read_text.Goals as goal
use Rattle.request_reader.proofs.reading.read_text.Goals.{In_ok-refuse_if, In_ok-parties, In_ok-terms, In_ok-from}

-- ---- what was found

few : (c : In_ok-refuse_if) → length c.args.body.now ≤ object_most
few c = ltb-false 8192 (length c.args.body.now) (is_unmet _ _ _ c.in_ok-refuse_if.ensures)

its_parties : (c : In_ok-parties) → PartiesAt c.args.body.now c.in_ok-parties.parties
its_parties c = rw c.in_ok-parties.ensures.ok_part at c.take_parties.ensures

its_terms : (c : In_ok-terms) → TermsAt c.args.body.now c.in_ok-parties.parties.at c.in_ok-terms.terms
its_terms c = rw c.in_ok-terms.ensures.ok_part at c.take_terms.ensures

its_begin : (c : In_ok-from) → Walked begin_tests c.args.body.now c.in_ok-terms.terms.at c.in_ok-from.from
its_begin c = rw c.in_ok-from.ensures.ok_part at c.series_from.ensures

-- ---- what is refused

pub returns-in_err-refuse_if : goal.returns-in_err-refuse_if
returns-in_err-refuse_if c =
    let p = err_from_is_err_and c.from_residual.result c.from_residual.ensures.1 in
    let f = is_met _ _ _ c.in_err-refuse_if.ensures in
    rw (p.1, p.2) (by_object c.args.body.now _ f.1 (too_long_lem c.args.body.now (ltb-true 8192 (length c.args.body.now) f.0)))

pub returns-in_err-parties : goal.returns-in_err-parties
returns-in_err-parties c =
    let p = err_from_is_err_and c.from_residual-in_err-parties.result c.from_residual-in_err-parties.ensures.1 in
    let e = c.in_err-parties.ensures in
    rw (p.1, p.2)
    (by_object c.args.body.now _ (not_found c.take_parties.result _ _ e.ok_part e.value)
    (no_parties c.args.body.now (few (goal.at.returns-in_err-parties c).In_ok-refuse_if) (rw e.ok_part at c.take_parties.ensures)))

pub returns-in_err-terms : goal.returns-in_err-terms
returns-in_err-terms c =
    let p = err_from_is_err_and c.from_residual-in_err-terms.result c.from_residual-in_err-terms.ensures.1 in
    let e = c.in_err-terms.ensures in
    let w = goal.at.returns-in_err-terms c in
    rw (p.1, p.2)
    (by_object c.args.body.now _ (not_found c.take_terms.result _ _ e.ok_part e.value)
    (no_terms c.args.body.now (few w.In_ok-refuse_if) _ (its_parties w.In_ok-parties) (rw e.ok_part at c.take_terms.ensures)))

pub returns-in_err-from : goal.returns-in_err-from
returns-in_err-from c =
    let p = err_from_is_err_and c.from_residual-in_err-from.result c.from_residual-in_err-from.ensures.1 in
    let e = c.in_err-from.ensures in
    let w = goal.at.returns-in_err-from c in
    rw (p.1, p.2)
    (by_object c.args.body.now _ (not_found c.series_from.result _ _ e.ok_part e.value)
    (no_begin c.args.body.now (few w.In_ok-refuse_if) _ (its_parties w.In_ok-parties) _ (its_terms w.In_ok-terms) (rw e.ok_part at c.series_from.ensures)))

pub take_series-requires : goal.take_series-requires
take_series-requires c =
    let w = goal.at.take_series-requires c in
    let b = its_begin w.In_ok-from in
    let n = steps_enough c.args.body.now (few w.In_ok-refuse_if) _ (its_parties w.In_ok-parties) _ (its_terms w.In_ok-terms) _ b _ c.steps_of-steps.ensures in
    (b.within, n.0, n.1)

pub returns-in_err-tally : goal.returns-in_err-tally
returns-in_err-tally c =
    let p = err_from_is_err_and c.from_residual-in_err-tally.result c.from_residual-in_err-tally.ensures.1 in
    let e = c.in_err-tally.ensures in
    let w = goal.at.returns-in_err-tally c in
    rw (p.1, p.2)
    (by_object c.args.body.now _ (not_found c.take_series.result _ _ e.ok_part e.value)
    (series_lost c.args.body.now (few w.In_ok-refuse_if) _ (its_parties w.In_ok-parties) _ (its_terms w.In_ok-terms) _ (its_begin w.In_ok-from) _
    c.steps_of-steps.ensures (rw e.ok_part at c.take_series.ensures)))

-- ---- what the steps come to

pub returns-in_err-outcome : goal.returns-in_err-outcome
returns-in_err-outcome c =
    let p = err_from_is_err_and c.from_residual-in_err-outcome.result c.from_residual-in_err-outcome.ensures.1 in
    let w = goal.at.returns-in_err-outcome c in
    rw (p.1, p.2)
    (series_found c.args.body.now (few w.In_ok-refuse_if) _ (its_parties w.In_ok-parties) _ (its_terms w.In_ok-terms) _ (its_begin w.In_ok-from) _
    c.steps_of-steps.ensures _ _ _ (rw c.in_ok-tally.ensures.ok_part at c.take_series.ensures) refl c.in_err-outcome.ensures)

pub returns : goal.returns
returns c =
    let w = goal.at.returns c in
    series_found c.args.body.now (few w.In_ok-refuse_if) _ (its_parties w.In_ok-parties) _ (its_terms w.In_ok-terms) _ (its_begin w.In_ok-from) _
    c.steps_of-steps.ensures _ _ _ (rw c.in_ok-tally.ensures.ok_part at c.take_series.ensures) refl c.in_ok-outcome.ensures
