-- `writing::write_file` meets its contract: where the verdict is a pass both texts are put, else nothing is.
use Rattle.std.proofs.lemmas.Result.{err_from_is_err_and}
use Rattle.writer.proofs.Answers.{passed, file_refused, file_passed}
use Rattle.writer.proofs.writing.write_file.Goals as goal

pub put_name-named-requires : goal.put_name-named-requires
put_name-named-requires c = (passed c.args.n _ _ c.in_ok-write_verdict.ensures).name_room_lem

pub put_body-written-requires : goal.put_body-written-requires
put_body-written-requires c =
    let p = passed c.args.n _ _ c.in_ok-write_verdict.ensures in
    (p.a_range, p.body_room_lem)

pub returns-in_err-write_verdict : goal.returns-in_err-write_verdict
returns-in_err-write_verdict c =
    let p = err_from_is_err_and c.from_residual.result c.from_residual.ensures.1 in
    rw (p.1, p.2) (file_refused c.args.n _ _ _ c.in_err-write_verdict.ensures)

pub returns : goal.returns
returns c =
    file_passed c.args.n _ _ _ _ _ _ c.in_ok-write_verdict.ensures c.put_name-named.ensures c.put_body-written.ensures
