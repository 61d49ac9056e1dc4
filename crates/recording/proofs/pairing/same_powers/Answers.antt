-- `pairing::same_powers` meets its contract: the powers are compared pair by pair.
use mathlib.Core.Path.{◌≡◌, sym, ◌∙◌, ap₂}
use native.Mathlib.Omega.{arith}
use lib.ListN.{length}
use lib.Seq.{take_all}
use Rattle.std.proofs.Common.{rules}
use Rattle.lists.specs.Searches.{same}
use Rattle.tables.proofs.Texts.{pairs_same}
use Rattle.ledger.specs.Filing.{same_powers}
use Rattle.recording.proofs.Turns.{rows_same}
use Rattle.recording.proofs.pairing.same_powers.Goals as goal

pub returns : goal.returns
unfolding same_powers
returns c =
    let ps = c.args.ps.now in
    let qs = c.args.qs.now in
    let n : length ps ≡ 50 = search rules in
    let m : length qs ≡ 50 = search rules in
    c.equal_pairs.ensures ∙ pairs_same ps qs (omega arith)
    ∙ ap₂ same (sym (take_all 50 ps (omega arith))) (sym (take_all 50 qs (omega arith)))
    ∙ rows_same ps qs 50 (omega arith) (omega arith)
