-- `writing::put_body` meets its contract: the header, and the lines after it.
use borrow.Author.Rules.{rules}
use mathlib.Core.Path.{◌≡◌}
use lib.ListN.{length}
use Rattle.writer.proofs.Pieces.{ranged_powers, room_header, room_lines, body_placed}
use Rattle.writer.proofs.writing.put_body.Goals as goal

pub put_header-first-requires : goal.put_header-first-requires
put_header-first-requires c = room_header c.args.n c.args.buffer.now c.requires.1

pub put_lines-requires : goal.put_lines-requires
put_lines-requires c =
    let l : length c.args.n.powers ≡ 50 = search rules in
    let w = ranged_powers c.args.n c.requires.0 l in
    (w, room_lines c.args.n c.args.buffer.now c.requires.1 _ _ c.put_header-first.ensures)

pub returns : goal.returns
returns c =
    body_placed c.args.n c.args.buffer.now c.requires.1 _ _ c.put_header-first.ensures _
    _ c.put_lines.ensures
