-- `pieces::whole_line` meets its contract: the line in hand and the bytes of the piece are put over LFs.
use mir.Syntax.{w8}
use borrow.Kind.Array.{e_int, good_length}
use Rattle.reader.proofs.Copies.{whole_made}
use Rattle.reader.proofs.pieces.whole_line.Goals as goal

pub returns : goal.returns
returns c =
    let p = whole_made c.args.line c.args.piece.now c.copy_from_slice.new.self c.copy_from_slice-2.new.self c.args.held c.args.end c.min-n.result
    c.min-more.result (good_length (e_int w8) 64 c.args.line _ c.well_formed.0) c.requires c.min-n.ensures c.min-more.ensures
    c.copy_from_slice.ensures.after c.copy_from_slice-2.ensures.after in
    record { text_value = p.0; length_value = p.1 }
