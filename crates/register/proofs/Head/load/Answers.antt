-- `Head::load` meets its contract: the verdict decides, and the lent columns have one load more.
use mathlib.Core.Path.{sym, ap, ◌∙◌}
use mathlib.Core.List.{[]}
use native.Mathlib.Omega.{arith}
use Rattle.ledger.specs.Call.{load}
use Rattle.ledger.specs.Calls.{verdict_of}
use Rattle.tables.specs.Tables.{load_columns}
use Rattle.tables.proofs.Entries.{categories_length}
use Rattle.register.specs.View.{lent}
use Rattle.register.specs.Written.{seen}
use Rattle.register.specs.declared.Reply.{Reply}
use Rattle.register.proofs.CallTests.{no_columns}
use Rattle.register.proofs.Parties.{head_entries}
use Rattle.register.proofs.Steps.{does_refused, LoadRoom, load_room, load_done}
use Rattle.register.proofs.Head.load.Goals as goal
use Rattle.register.proofs.Head.load.Goals.{In_default}

-- what an accepted load has shown
room : (t : In_default) → let a = t.args in
    LoadRoom a.self a.actor.now a.category.now a.day a.most a.powers.now
room t =
    let a = t.args in
    load_room a.self no_columns (load_columns a.numbers.now [] []) a.actor.now a.category.now a.day a.most a.powers.now
    (head_entries a.self _ t.well_formed.0) (categories_length a.self.categories _ t.well_formed.0.1.1.1.1.0)
    (sym (t.load_verdict.ensures no_columns [] []) ∙ t.in_default.is)

pub returns-in-Err : goal.returns-in-Err
unfolding verdict_of
returns-in-Err c =
    let a = c.args in
    let loads = load_columns a.numbers.now a.approved.now a.loads.now in
    λ columns.
    ap (λ (y : Reply). seen (lent y.head columns loads) y.answer) c.refused.ensures
    ∙ does_refused (lent a.self columns loads) (load a.actor.now a.category.now a.day a.most a.powers.now) _ _
    (c.load_verdict.ensures columns a.approved.now a.loads.now) c.in-Err.is

pub load_number-number-requires : goal.load_number-number-requires
load_number-number-requires c =
    let k = room (goal.at.load_number-number-requires c).In_default in
    (omega (arith, c.place.ensures, k.actor_small), omega (arith, c.place-2.ensures, k.category_small), k.day_small)

pub in_places-row-requires : goal.in_places-row-requires
in_places-row-requires c =
    let k = room (goal.at.in_places-row-requires c).In_default in
    (k.few, k.small)

pub overflow_cast-at : goal.overflow_cast-at
overflow_cast-at c = omega (arith, (room (goal.at.overflow_cast-at c).In_default).room)

pub offset_bounds-numbers-at : goal.offset_bounds-numbers-at
offset_bounds-numbers-at c = omega (arith, (room (goal.at.offset_bounds-numbers-at c).In_default).room)

pub bounds-numbers-at : goal.bounds-numbers-at
bounds-numbers-at c = (room (goal.at.bounds-numbers-at c).In_default).room

pub overflow_cast-approved : goal.overflow_cast-approved
overflow_cast-approved c = omega (arith, (room (goal.at.overflow_cast-approved c).In_default).most_small)

pub offset_bounds-approved-at : goal.offset_bounds-approved-at
offset_bounds-approved-at c = omega (arith, (room (goal.at.offset_bounds-approved-at c).In_default).room)

pub bounds-approved-at : goal.bounds-approved-at
bounds-approved-at c = (room (goal.at.bounds-approved-at c).In_default).room

pub offset_bounds-loads-at : goal.offset_bounds-loads-at
offset_bounds-loads-at c = omega (arith, (room (goal.at.offset_bounds-loads-at c).In_default).room)

pub bounds-loads-at : goal.bounds-loads-at
bounds-loads-at c = (room (goal.at.bounds-loads-at c).In_default).room

pub overflow_add-count : goal.overflow_add-count
overflow_add-count c = omega (arith, (room (goal.at.overflow_add-count c).In_default).room)

pub returns : goal.returns
returns c =
    let a = c.args in
    let loads = load_columns a.numbers.now a.approved.now a.loads.now in
    λ columns.
    load_done a.self columns loads a.actor.now a.category.now a.day a.most a.powers.now
    (head_entries a.self _ c.well_formed.0) (categories_length a.self.categories _ c.well_formed.0.1.1.1.1.0)
    (sym (c.load_verdict.ensures columns a.approved.now a.loads.now) ∙ c.in_default.is)
    _ _ _ _ c.place.ensures c.place-2.ensures c.load_number-number.ensures c.in_places-row.ensures
    c.told-numbers c.told-approved c.told-loads
