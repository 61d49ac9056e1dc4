-- The request of the flat struct is written, and what this comes to is laid out flat.
use Rattle.register_c.proofs.Writes.{object_written_of}
use Rattle.register_c.proofs.objects.register_object_write.Goals as goal

pub returns : goal.returns
returns c =
    object_written_of c.args.buffer.now
    c.from-request.ensures
    (c.write_object-answer.ensures.value, c.write_object-answer.ensures.buffer_after)
    c.into.ensures
