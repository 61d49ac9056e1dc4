-- `FileReader::walk` meets its contract: no more is lent of the header than it has, and no more is held of the unfinished line.
use mathlib.Core.Path.{sym}
use lib.ListN.{drop, length-drop}
use Rattle.reader.specs.Folding.{with_powers}
use Rattle.reader.proofs.Feeding.{header_long, walk_made}
use Rattle.reader.proofs.pieces.FileReader.walk.Goals as goal

pub returns : goal.returns
returns c =
    let a = c.args in
    walk_made a.self (header_long a.self _ c.well_formed.0) _ _ c.min-named.ensures c.min-steps.ensures a.total
    (with_powers a.tally a.powers)
    (drop a.from a.piece.now) _ (drop c.take_lines-run.result.at a.piece.now) c.first_bytes.result _ _ c.take_lines-run.ensures.powers_after
    c.take_lines-run.ensures.body_value
    c.min.ensures (sym (length-drop c.take_lines-run.result.at a.piece.now)) c.first_bytes.ensures
