use Rattle.register_c.proofs.Writes.{written_of}
use Rattle.register_c.proofs.files.notification_write.Goals as goal

pub returns : goal.returns
returns c =
    written_of c.from-note.ensures
    c.write_file-answer.ensures
    c.into.ensures
