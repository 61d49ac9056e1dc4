-- `Actors::place` meets its contract: std's search finds the place of the first actor with the code.
use mathlib.Core.Path.{◌≡◌, sym, ◌∙◌}
use native.Mathlib.Omega.{arith}
use Prim.Native.Nat.{min}
use lib.ListN.{length, take}
use lib.Seq.{length-take-le}
use borrow.Author.Tests.{tests}
use Rattle.std.proofs.lemmas.Iterator.{YieldsList-from_slice}
use Rattle.std.proofs.lemmas.Iterator.Search.{position_from_yields_List}
use borrow.Author.Rules.{rules}
use Rattle.std.specs.List.{position}
use Rattle.lists.specs.Searches.{same}
use Rattle.ledger.specs.Ledger.{actor_at}
use Rattle.tables.specs.Tables.{actors_in}
use Rattle.tables.proofs.Entries.{actors_length, place_found}
use Rattle.tables.proofs.actors.Actors.place.Goals as goal

pub returns : goal.returns
unfolding actors_in actor_at
returns c =
    let x = c.args.self in
    let l = actors_length x _ c.well_formed.0 in
    let xs = take (min x.count 8) x.entries in
    let f : c.position.result ≡ position (λ a. same a.code c.args.code.now) xs = position_from_yields_List _ _ _ c.position.result c.position.ensures.ran (YieldsList-from_slice xs (cc)) (λ x b q k. search (rules, tests)) in
    let n : min x.count 8 ≡ length xs = sym (length-take-le (min x.count 8) x.entries (omega arith)) in
    c.unwrap_or.ensures ∙ (rw c.min-n.ensures (place_found (λ a. same a.code c.args.code.now) xs (min x.count 8) c.position.result n f))
