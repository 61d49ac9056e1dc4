-- `Head::shown_at` meets its contract: each part of what is shown stands at the place or is told by it.
use Rattle.tables.specs.Lent.{columns_of}
use Rattle.register.proofs.ShownRecords.{shown_by}
use Rattle.register.proofs.Head.shown_at.Goals as goal

pub returns : goal.returns
returns c ids loads =
    let a = c.args in
    let cols = columns_of a.records ids in
    shown_by a.self cols loads a.i _ _ _ _ _ _ _ _ (c.code_at.ensures cols loads) (c.code_at-2.ensures cols loads)
    (c.category_at.ensures cols loads) c.steps_of.ensures (c.code_at-3.ensures cols loads) c.from.ensures
    c.from-2.ensures c.from-3.ensures
