-- The unfinished line begins after the last LF.
use mathlib.Core.Path.{◌≡◌, sym, ap, ◌∙◌}
use Prim.Native.Nat.{ℕ}
use native.Mathlib.Omega.{arith}
use lib.ListN.{drop, length-drop}
use Rattle.std.proofs.Common.{rules, tests, Iter}
use Rattle.std.proofs.lemmas.Iterator.Adapters.{YieldsList-from_rev_slice}
use Rattle.std.proofs.lemmas.Iterator.Search.{position_from_yields_List}
use Rattle.lists.proofs.Parts.{rest_all}
use Rattle.reader.proofs.Ends.{is_break, search_back, break_found, break_lost}
use Rattle.reader.proofs.lines.rest_start.Goals as goal
use Rattle.reader.proofs.lines.rest_start.Goals.{After-position}

searched : (b : After-position) → b.position.result ≡ search_back (drop b.args.from b.args.s.now)
searched b =
    let s = b.args.s.now in
    let from = b.args.from in
    let e = ap (λ (x : Iter ℕ). x.rest.now) b.rev.ensures.source ∙ (b.iter.ensures.rest ∙ rest_all from s) in
    position_from_yields_List is_break _ _ _ b.position.ensures.ran (YieldsList-from_rev_slice (drop from s) e)
    (λ x r q k. search (rules, tests))

pub returns-in-Some : goal.returns-in-Some
returns-in-Some c =
    let t = drop c.args.from c.args.s.now in
    let f = break_found t c.in-Some.unfinished (sym c.in-Some.is ∙ searched (goal.at.returns-in-Some c).After-position) in
    omega (arith, f.0, f.1, length-drop c.args.from c.args.s.now)

pub returns-in-None : goal.returns-in-None
returns-in-None c =
    let t = drop c.args.from c.args.s.now in
    let e = break_lost t (sym c.in-None.is ∙ searched (goal.at.returns-in-None c).After-position) in
    omega (arith, e)
