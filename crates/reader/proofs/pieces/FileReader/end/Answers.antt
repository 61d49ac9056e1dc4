-- `FileReader::end` meets its contract: 1, then 2, then what the lines come to.
use Rattle.std.proofs.lemmas.Result.{err_from_is_err_and}
use Rattle.reader.proofs.Feeding.{header_long, line_long, is_met, is_unmet, ended_unnamed, ended_body, ended_lines}
use Rattle.reader.proofs.pieces.FileReader.end.Goals as goal

pub returns-in_err-refuse_if : goal.returns-in_err-refuse_if
returns-in_err-refuse_if c =
    let p = err_from_is_err_and c.from_residual.result c.from_residual.ensures.1 in
    let m = is_met _ _ _ c.in_err-refuse_if.ensures in
    rw (p.1, p.2, m.1) (ended_unnamed c.args.self (header_long c.args.self _ c.well_formed.0) m.0)

pub returns-in_err-refuse_if-2 : goal.returns-in_err-refuse_if-2
returns-in_err-refuse_if-2 c =
    let p = err_from_is_err_and c.from_residual-in_err-refuse_if-2.result c.from_residual-in_err-refuse_if-2.ensures.1 in
    let m = is_met _ _ _ c.in_err-refuse_if-2.ensures in
    rw (p.1, p.2, m.1) (ended_body c.args.self (header_long c.args.self _ c.well_formed.0) (line_long c.args.self _ c.well_formed.0) (is_unmet _ _ _ c.in_ok-refuse_if.ensures) m.0)

pub returns : goal.returns
returns c =
    ended_lines c.args.self (header_long c.args.self _ c.well_formed.0) (line_long c.args.self _ c.well_formed.0) (is_unmet _ _ _ c.in_ok-refuse_if.ensures) _ _ _ _
    (is_unmet _ _ _ c.in_ok-refuse_if-2.ensures)
    c.min-n.ensures c.min.ensures c.key_of-key.ensures c.conclude.ensures
