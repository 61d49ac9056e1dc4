-- Writing by the face is writing the notification of its flat struct, or the request of one.
use mathlib.Core.Path.{◌≡◌, ap, ◌∙◌}
use mathlib.Core.List.{List}
use Prim.Native.Nat.{ℕ}
use lib.ListN.{length}
use Rattle.notification.specs.declared.Notification.{Notification}
use Rattle.std.specs.Prelude.{Result}
use Rattle.refusals.specs.declared.Refusal.{Refusal}
use Rattle.notification.specs.declared.FileLengths.{FileLengths}
use Rattle.notification.specs.Writing.{name_of, body_of, write_verdict, write_answer, written}
use Rattle.request.specs.declared.Request.{Request}
use Rattle.request.specs.Writing.{object_text, request_verdict, request_answer}
use Rattle.writer.specs.Placing as Placing
use Rattle.register_c.specs.Faces.{flat_written, flat_object_written}
use Rattle.register_c.specs.declared.files.FileWritten.{FileWritten}
use Rattle.register_c.specs.declared.objects.ObjectWritten.{ObjectWritten}

pub written_of :
    {note m : Notification} {name body name-after body-after : List ℕ} {answer : Result FileLengths Refusal} {r : FileWritten} → note ≡ m →
    Placing.FileWritten note name body answer name-after body-after → r ≡ flat_written answer →
    (r ≡ flat_written (write_answer m (length name) (length body))) ×
    (name-after ≡ written (write_verdict m (length name) (length body)) (name_of m.key) name) ×
    (body-after ≡ written (write_verdict m (length name) (length body)) (body_of m) body)
written_of e w said = rw (← e) (said ∙ ap flat_written w.answers, w.its_name, w.its_body)

pub object_written_of :
    (buffer : List ℕ) {request m : Request} {after : List ℕ} {answer : Result ℕ Refusal} {r : ObjectWritten} → request ≡ m →
    (answer ≡ request_answer request (length buffer)) × (after ≡ written (request_verdict request (length buffer)) (object_text request) buffer) →
    r ≡ flat_object_written answer →
    (r ≡ flat_object_written (request_answer m (length buffer))) ×
    (after ≡ written (request_verdict m (length buffer)) (object_text m) buffer)
object_written_of buffer e w said = rw (← e) (said ∙ ap flat_object_written w.0, w.1)
