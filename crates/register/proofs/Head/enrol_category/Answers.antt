-- `Head::enrol_category` meets its contract: the verdict decides, and the head has one category more.
use mathlib.Core.Path.{sym, ◌∙◌, ap}
use Prim.Native.Nat.{◌<◌}
use Rattle.ledger.specs.Call.{enrol_category}
use Rattle.ledger.specs.Calls.{verdict_of}
use Rattle.tables.proofs.Entries.{categories_length}
use Rattle.register.specs.View.{lent}
use Rattle.register.specs.Written.{seen}
use Rattle.register.specs.declared.Reply.{Reply}
use Rattle.register.proofs.CallTests.{no_columns, no_loads}
use Rattle.register.proofs.Steps.{does_refused, category_room, category_done}
use Rattle.register.proofs.Head.enrol_category.Goals as goal
use Rattle.register.proofs.Head.enrol_category.Goals.{In_default}

-- an accepted category has a place
room : (c : In_default) → c.args.self.categories.count < 4
room c =
    let a = c.args in
    let l = categories_length a.self.categories _ c.well_formed.0.1.1.1.1.0 in
    (category_room a.self no_columns no_loads a.text.now l (sym (c.category_verdict.ensures no_columns no_loads) ∙ c.in_default.is)).1

pub returns-in-Err : goal.returns-in-Err
unfolding verdict_of
returns-in-Err c =
    let a = c.args in
    λ columns loads.
    ap (λ (y : Reply). seen (lent y.head columns loads) y.answer) c.refused.ensures
    ∙ does_refused (lent a.self columns loads) (enrol_category a.text.now) _ _ (c.category_verdict.ensures columns loads) c.in-Err.is

pub with-categories-requires : goal.with-categories-requires
with-categories-requires c = room (goal.at.with-categories-requires c).In_default

pub returns : goal.returns
returns c =
    let a = c.args in
    let l = categories_length a.self.categories _ c.well_formed.0.1.1.1.1.0 in
    λ columns loads.
    category_done a.self columns loads a.text.now l (sym (c.category_verdict.ensures columns loads) ∙ c.in_default.is)
    _ c.with-categories.result c.in_bytes.ensures c.with-categories.ensures.1
