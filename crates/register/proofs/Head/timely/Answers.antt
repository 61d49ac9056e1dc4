-- `Head::timely` meets its contract: its tests are the ledger's, in their order.
use native.Mathlib.Omega.{arith}
use Rattle.std.proofs.lemmas.Grind.{common_steps}
use Rattle.register.proofs.Parties.{head_entries, head_actors, contract_is}
use Rattle.ledger.specs.Filing.{day_tests}
use Rattle.register.specs.View.{view}
use Rattle.register.proofs.Head.timely.Goals as goal

pub bounds-self-at : goal.bounds-self-at
bounds-self-at c = omega (arith, head_actors c.args.self _ c.well_formed.0, c.requires.1)

pub bounds-self-at-2 : goal.bounds-self-at-2
bounds-self-at-2 c = omega (arith, head_actors c.args.self _ c.well_formed.0, c.requires.0)

pub returns-in_err-refuse_if-4 : goal.returns-in_err-refuse_if-4
unfolding view day_tests
returns-in_err-refuse_if-4 c =
    let a = c.args in
    let l = head_entries a.self _ c.well_formed.0 in
    λ cols loads.
    let e = contract_is a.self cols loads a.at.acquirer a.at.day c.requires.1 l _ c.in_contract.ensures in
    grind (arith, common_steps, e)

pub returns-in_err-refuse_if-5 : goal.returns-in_err-refuse_if-5
unfolding view day_tests
returns-in_err-refuse_if-5 c =
    let a = c.args in
    let l = head_entries a.self _ c.well_formed.0 in
    λ cols loads.
    let e = contract_is a.self cols loads a.at.acquirer a.at.day c.requires.1 l _ c.in_contract.ensures in
    let f = contract_is a.self cols loads a.at.ceder a.at.day c.requires.0 l _ c.in_contract-2.ensures in
    grind (arith, common_steps, e, f)

pub returns : goal.returns
unfolding view day_tests
returns c =
    let a = c.args in
    let l = head_entries a.self _ c.well_formed.0 in
    λ cols loads.
    let e = contract_is a.self cols loads a.at.acquirer a.at.day c.requires.1 l _ c.in_contract.ensures in
    let f = contract_is a.self cols loads a.at.ceder a.at.day c.requires.0 l _ c.in_contract-2.ensures in
    grind (arith, common_steps, e, f)
