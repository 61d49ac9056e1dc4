-- `pieces::first_bytes` meets its contract: the bytes are put over 0s.
use Rattle.reader.proofs.Copies.{first_copied}
use Rattle.reader.proofs.pieces.first_bytes.Goals as goal

pub returns : goal.returns
returns c =
    first_copied c.args.s.now c.copy_from_slice.new.self c.args.from c.min-n.result c.requires c.min-n.ensures c.copy_from_slice.ensures.after
