-- A record under the filing's own key is noted; another one is applied to both nets, or moves nothing for the two.
use Rattle.std.proofs.Common.{sym, ◌∙◌, ne_eqb}
use Rattle.tables.specs.Lent.{columns_of}
use Rattle.judging.proofs.Passed.{passed_applied}
use Rattle.judging.proofs.passing.pass_record.Goals as goal

pub returns-then-is_concerned : goal.returns-then-is_concerned
returns-then-is_concerned c =
    let a = c.args in
    λ ids.
    let cols = columns_of a.records ids in
    passed_applied cols a.own a.first a.until a.i a.ceder.now a.acquirer.now a.places.now a.count
    c.requires.1 (ne_eqb _ _ c.if-key-own.false) (sym c.is_concerned.ensures ∙ c.if-is_concerned.true) _ _ c.apply_record.ensures c.apply_record-then-is_concerned.ensures
