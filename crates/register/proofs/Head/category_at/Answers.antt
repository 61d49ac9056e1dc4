-- `Head::category_at` meets its contract: the six bytes of the entry at the place, or zeros past the last.
use native.Mathlib.Omega.{arith}
use Rattle.register.proofs.Parties.{head_categories}
use mathlib.Core.Path.{◌∙◌}
use Rattle.tables.proofs.Entries.{categories_length}
use Rattle.register.proofs.ShownRecords.{category_here, category_past}
use Rattle.register.proofs.Head.category_at.Goals as goal

pub returns-then-place-len : goal.returns-then-place-len
returns-then-place-len c cols loads =
    let h = c.args.self in
    c.six_of.ensures
    ∙ category_here h cols loads c.args.place _ c.len.ensures (categories_length h.categories _ c.well_formed.0.1.1.1.1.0) _ c.if-place-len.true

pub returns : goal.returns
returns c cols loads =
    let h = c.args.self in
    category_past h cols loads c.args.place _ c.len.ensures (categories_length h.categories _ c.well_formed.0.1.1.1.1.0) c.if-place-len.false

pub bounds-self-place : goal.bounds-self-place
bounds-self-place c = omega (arith, head_categories c.args.self _ c.well_formed.0, c.len.ensures, c.if-place-len.true)
