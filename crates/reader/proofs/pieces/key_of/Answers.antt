-- `pieces::key_of` meets its contract: each part of the key stands at its place of the line.
use Rattle.reader.proofs.NameLines.{key_made}
use Rattle.reader.proofs.pieces.key_of.Goals as goal

pub returns : goal.returns
returns c =
    key_made c.args.header.now c.args.day _ _ _ c.requires.0 c.in_bytes.ensures c.in_bytes-2.ensures c.in_bytes-3.ensures
