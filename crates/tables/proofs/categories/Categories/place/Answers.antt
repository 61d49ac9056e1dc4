-- `Categories::place` meets its contract: std's search finds the place of the first category that is the text.
use mathlib.Core.Path.{◌≡◌, sym, ◌∙◌}
use native.Mathlib.Omega.{arith}
use Prim.Native.Nat.{min}
use lib.ListN.{length, take}
use lib.Seq.{length-take-le}
use borrow.Author.Tests.{tests}
use Rattle.std.proofs.lemmas.Iterator.{YieldsList-from_slice}
use Rattle.std.proofs.lemmas.Iterator.Search.{position_from_yields_List}
use borrow.Author.Rules.{rules}
use Rattle.std.specs.List.{position}
use Rattle.lists.specs.Searches.{same}
use Rattle.notification.specs.Forms.{category_text}
use Rattle.lists.proofs.Places.{place_map}
use Rattle.ledger.specs.Ledger.{category_at}
use Rattle.tables.specs.Tables.{categories_in}
use Rattle.tables.proofs.Entries.{categories_length, place_found}
use Rattle.tables.proofs.categories.Categories.place.Goals as goal

pub returns : goal.returns
unfolding categories_in category_at
returns c =
    let x = c.args.self in
    let l = categories_length x _ c.well_formed.0 in
    let xs = take (min x.count 4) x.entries in
    let f : c.position.result ≡ position (λ z. same (category_text z.text) c.args.s.now) xs = position_from_yields_List _ _ _ c.position.result c.position.ensures.ran (YieldsList-from_slice xs (cc)) (λ x b q k. search (rules, tests)) in
    let n : min x.count 4 ≡ length xs = sym (length-take-le (min x.count 4) x.entries (omega arith)) in
    c.unwrap_or.ensures ∙ (rw c.min-n.ensures (place_found (λ z. same (category_text z.text) c.args.s.now) xs (min x.count 4) c.position.result n f))
    ∙ place_map (λ z. category_text z.text) (λ t. same t c.args.s.now) xs
