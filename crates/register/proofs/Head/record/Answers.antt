-- `Head::record` meets its contract: the three tests, then the record of the id.
use mathlib.Core.Path.{◌≡◌, refl, sym, ap, ◌∙◌}
use Prim.Native.Nat.{◌<◌, min}
use lib.Dec.{eqb}
use lib.ListN.{get_or}
use Rattle.std.specs.Prelude.{Some, Err}
use Rattle.std.proofs.lemmas.Result.{err_from_is_err_and}
use Rattle.refusals.specs.Tests.{state}
use Rattle.tables.specs.Tables.{Columns, columns}
use Rattle.tables.specs.Passing.{last_below}
use Rattle.request_reader.proofs.ObjectReads.{not_found}
use Rattle.register.proofs.Trying.{refuses, goes_on}
use Rattle.register.proofs.ShownRecords.{found_below, shown_refused, shown_found}
use Rattle.register.proofs.Head.record.Goals as goal
use Rattle.register.proofs.Head.record.Goals.{Start, In_ok-i}

abbrev cols : Start → Columns
cols b = let a = b.args in columns a.statuses.now a.ids.now a.keys.now a.marks.now a.rows.now

-- what was found
its_place : (c : In_ok-i) → Some c.in_ok-i.i ≡ last_below (λ j. eqb (get_or c.args.ids.now j 0) c.args.id) (min c.args.self.records 256)
its_place c = sym c.in_ok-i.ensures.ok_part ∙ c.find_id.ensures

-- a record that is found has a place in the columns
placed : (c : In_ok-i) → c.in_ok-i.i < 256
placed c = found_below c.args.ids.now c.args.id c.args.self.records _ (its_place c)

pub returns-in_err-refuse_if : goal.returns-in_err-refuse_if
returns-in_err-refuse_if c loads =
    let a = c.args in
    let p = err_from_is_err_and c.from_residual.result c.from_residual.ensures.1 in
    rw (p.1, p.2)
    (shown_refused a.self (cols (goal.at.returns-in_err-refuse_if c).Start) loads a.asker.now a.id _ _ _ (sym c.len.ensures) c.place-a.ensures refl _
    (refuses state _ _ _ _ c.in_err-refuse_if.ensures))

pub returns-in_err-i : goal.returns-in_err-i
returns-in_err-i c loads =
    let a = c.args in
    let p = err_from_is_err_and c.from_residual-in_err-i.result c.from_residual-in_err-i.ensures.1 in
    let e = c.in_err-i.ensures in
    rw (p.1, p.2)
    (shown_refused a.self (cols (goal.at.returns-in_err-i c).Start) loads a.asker.now a.id _ _ _ (sym c.len.ensures) c.place-a.ensures
    (sym e.ok_part ∙ c.find_id.ensures) _
    (goes_on state _ _ _ _ c.in_ok-refuse_if.ensures ∙ ap (λ r. Err (state r)) (sym (not_found c.find_id.result _ _ e.ok_part e.value))))

pub bounds-keys-i : goal.bounds-keys-i
bounds-keys-i c = placed (goal.at.bounds-keys-i c).In_ok-i

pub returns-in_err-refuse_if-2 : goal.returns-in_err-refuse_if-2
returns-in_err-refuse_if-2 c loads =
    let a = c.args in
    let w = goal.at.returns-in_err-refuse_if-2 c in
    let p = err_from_is_err_and c.from_residual-in_err-refuse_if-2.result c.from_residual-in_err-refuse_if-2.ensures.1 in
    rw (p.1, p.2)
    (shown_refused a.self (cols w.Start) loads a.asker.now a.id _ _ _ (sym c.len.ensures) c.place-a.ensures (its_place w.In_ok-i) _
    (goes_on state _ _ _ _ c.in_ok-refuse_if.ensures ∙ refuses state _ _ _ _ (rw c.is_party.ensures at c.in_err-refuse_if-2.ensures)))

pub shown_at-requires : goal.shown_at-requires
shown_at-requires c = placed (goal.at.shown_at-requires c).In_ok-i

pub returns : goal.returns
returns c loads =
    let a = c.args in
    let w = goal.at.returns c in
    shown_found a.self (cols w.Start) loads a.asker.now a.id _ _ _ (sym c.len.ensures) c.place-a.ensures (its_place w.In_ok-i)
    (goes_on state _ _ _ _ c.in_ok-refuse_if.ensures ∙ goes_on state _ _ _ _ (rw c.is_party.ensures at c.in_ok-refuse_if-2.ensures))
    _ (c.shown_at.ensures a.ids.now loads)
