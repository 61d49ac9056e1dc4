-- `Head::load_verdict` meets its contract: the first four tests, and then the load's place.
use mathlib.Core.Path.{◌≡◌, sym, ◌∙◌}
use mathlib.Core.Bool.{not}
use mathlib.Core.List.{List, [], ◌∷◌}
use Prim.Native.Nat.{ℕ, ◌<◌}
use native.Mathlib.Omega.{arith}
use lib.Dec.{ltb}
use Rattle.std.proofs.lemmas.Result.{err_from_is_err_and}
use Rattle.refusals.specs.Tests.{state, input, first_met, pass}
use Rattle.refusals.specs.declared.StateRefusal.TheVariants.{There, Full}
use Rattle.ledger.specs.Calls.{load_tests}
use Rattle.tables.specs.Tables.{Columns, load_columns}
use Rattle.register.specs.View.{view}
use Rattle.register.proofs.Trying.{refuses, goes_on}
use Rattle.register.proofs.Filings.{actors_few, categories_few}
use Rattle.register.proofs.CallTests.{no_columns, no_loads, named_tried, load_named, load_is_lem, has_load_lem, ranged_day}
use Rattle.register.proofs.Head.load_verdict.Goals as goal
use Rattle.register.proofs.Head.load_verdict.Goals.{In_ok-refuse_if-4, After-is_some-there}

-- the first four passed
first_four : (c : In_ok-refuse_if-4) →
    first_met (named_tried c.len.result c.len-2.result c.place-a.result c.place-z.result c.is_ranged.result c.loadable.result) ≡ pass
first_four c =
    goes_on input _ _ _ _ c.in_ok-refuse_if.ensures ∙ goes_on state _ _ _ _ c.in_ok-refuse_if-2.ensures ∙ goes_on state _ _ _ _ c.in_ok-refuse_if-3.ensures
    ∙ goes_on state _ _ _ _ c.in_ok-refuse_if-4.ensures

-- what they leave to be known
small : (c : In_ok-refuse_if-4) → (c.place-a.result < 8) × (c.place-z.result < 4) × (c.args.day < 36525)
small c =
    let a = c.args in
    let k = load_named a.self no_columns no_loads _ _ (sym c.len.ensures) (sym c.len-2.ensures) a.actor.now a.category.now _ _ c.place-a.ensures c.place-z.ensures
    a.day a.most a.powers.now _ _ c.is_ranged.ensures c.loadable.ensures (first_four c) in (
      omega (arith, k.1, c.len.ensures, actors_few a.self.actors),
      omega (arith, k.2, c.len-2.ensures, categories_few a.self.categories),
      ranged_day a.day a.most a.powers.now (sym c.is_ranged.ensures ∙ k.0),
    )

pub load_number-requires : goal.load_number-requires
load_number-requires c = small (goal.at.load_number-requires c).In_ok-refuse_if-4

-- and the last two decide
module _ (c : After-is_some-there) (columns : Columns) (approved : List ℕ) (rows : List (List ℕ)) where
  abbrev first : In_ok-refuse_if-4
  first = (goal.at.After-is_some-there c).In_ok-refuse_if-4

  last_two : first_met ((c.is_some-there.result, state There) ∷ (not (ltb c.args.self.loads 64), state Full) ∷ [])
      ≡ first_met (load_tests (view c.args.self columns (load_columns c.args.numbers.now approved rows)) c.args.actor.now c.args.category.now c.args.day c.args.most c.args.powers.now)
  last_two =
      let a = c.args in
      let loads = load_columns a.numbers.now approved rows in
      let k = small first in
      load_is_lem a.self columns loads _ _ (sym c.len.ensures) (sym c.len-2.ensures) a.actor.now a.category.now _ _ c.place-a.ensures c.place-z.ensures
      a.day a.most a.powers.now _ _ c.is_ranged.ensures c.loadable.ensures (first_four first) _
      (c.is_some-there.ensures ∙ has_load_lem a.self.loads loads _ _ a.day _ _ k.0 k.1 c.load_number.ensures c.last_of.ensures)

pub returns-in_err-refuse_if-5 : goal.returns-in_err-refuse_if-5
returns-in_err-refuse_if-5 c columns approved rows =
    let p = err_from_is_err_and c.from_residual-in_err-refuse_if-5.result c.from_residual-in_err-refuse_if-5.ensures.1 in
    rw (p.1, p.2)
    (sym (refuses state _ _ _ _ c.in_err-refuse_if-5.ensures) ∙ last_two (goal.at.returns-in_err-refuse_if-5 c).After-is_some-there columns approved rows)

pub returns-in_err-refuse_if-6 : goal.returns-in_err-refuse_if-6
returns-in_err-refuse_if-6 c columns approved rows =
    let p = err_from_is_err_and c.from_residual-in_err-refuse_if-6.result c.from_residual-in_err-refuse_if-6.ensures.1 in
    rw (p.1, p.2)
    (sym (goes_on state _ _ _ _ c.in_ok-refuse_if-5.ensures ∙ refuses state _ _ _ _ c.in_err-refuse_if-6.ensures)
    ∙ last_two (goal.at.returns-in_err-refuse_if-6 c).After-is_some-there columns approved rows)

pub returns : goal.returns
returns c columns approved rows =
    sym (goes_on state _ _ _ _ c.in_ok-refuse_if-5.ensures ∙ goes_on state _ _ _ _ c.in_ok-refuse_if-6.ensures)
    ∙ last_two (goal.at.returns c).After-is_some-there columns approved rows
