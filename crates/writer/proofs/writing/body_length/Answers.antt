-- `writing::body_length` meets its contract: header, LF and lines.
use borrow.Author.Rules.{rules}
use mathlib.Core.Path.{◌≡◌}
use lib.ListN.{length}
use native.Mathlib.Omega.{arith}
use Rattle.writer.proofs.Pieces.{ranged_powers, body_sum}
use Rattle.writer.proofs.writing.body_length.Goals as goal

pub lines_length-requires : goal.lines_length-requires
lines_length-requires c =
    let l : length c.args.n.powers ≡ 50 = search rules in
    let w = ranged_powers c.args.n c.requires.1 l in
    w

pub overflow_add-result : goal.overflow_add-result
overflow_add-result c =
    let l : length c.args.n.powers ≡ 50 = search rules in
    let w = ranged_powers c.args.n c.requires.1 l in
    omega
    (arith, (body_sum c.args.n c.category_length-head.result c.lines_length.result c.requires.0 w.few c.category_length-head.ensures.1 c.lines_length.ensures).1)

pub returns : goal.returns
returns c =
    let l : length c.args.n.powers ≡ 50 = search rules in
    let w = ranged_powers c.args.n c.requires.1 l in
    (body_sum c.args.n c.category_length-head.result c.lines_length.result c.requires.0 w.few
    c.category_length-head.ensures.1 c.lines_length.ensures).0
