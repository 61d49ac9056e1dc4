-- `tokens::run_to` meets its contract: it stops where the test first fails.
use mathlib.Core.Bool.{not}
use Prim.Native.Nat.{◌-◌}
use lib.ListN.{length, take, drop}
use Rattle.std.proofs.Common.{rules, tests}
use Rattle.std.proofs.lemmas.Iterator.{YieldsList-from_slice}
use Rattle.std.proofs.lemmas.Iterator.Search.{position_from_yields_List}
use Rattle.request_reader.proofs.ByteRuns.{run_to}
use Rattle.request_reader.proofs.tokens.run_to.Goals as goal

pub returns : goal.returns
returns g c p none says =
    let s = c.args.s.now in
    let from = c.args.from in
    run_to p none s from c.unwrap_or.result c.position.result c.requires.0
    (position_from_yields_List (λ b. not (p b)) _ _ c.position.result c.position.ensures.ran
    (YieldsList-from_slice (take (length s - from) (drop from s)) cc) (λ x b q k. search (rules, tests))) c.unwrap_or.ensures
