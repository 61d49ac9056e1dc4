-- `writing::write_object` meets its contract: where the verdict is a pass the object is put, else nothing is.
use Rattle.std.proofs.lemmas.Result.{err_from_is_err_and}
use Rattle.request_writer.proofs.Answers.{passed, object_refused, object_written}
use Rattle.request_writer.proofs.writing.write_object.Goals as goal

pub put_object-length-requires : goal.put_object-length-requires
put_object-length-requires c =
    let p = passed c.args.r _ c.in_ok-write_verdict.ensures in
    (p.a_range, p.room)

pub returns-in_err-write_verdict : goal.returns-in_err-write_verdict
returns-in_err-write_verdict c =
    let p = err_from_is_err_and c.from_residual.result c.from_residual.ensures.1 in
    let w = object_refused c.args.r c.args.buffer.now _ c.in_err-write_verdict.ensures in
    rw (p.1, p.2) (record { value = w.0; buffer_after = w.1 })

pub returns : goal.returns
returns c =
    let w = object_written c.args.r c.args.buffer.now _ _ c.in_ok-write_verdict.ensures c.put_object-length.ensures in
    record { value = w.0; buffer_after = w.1 }
