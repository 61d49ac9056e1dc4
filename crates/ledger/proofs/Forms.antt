-- "A filing meets the same ledger from either form" (document 02, K3): forms that are read alike do the same, and what the two writers give
-- of one request is read alike.
use Rattle.refusals.specs.declared.Refusal.{Refusal}
use Rattle.notification.specs.declared.Notification.{Notification}
use Rattle.notification.specs.Reading.{note_of}
use Rattle.request.specs.Reading.{request_of}
use Rattle.std.specs.Prelude.{Ok, Result}
use mathlib.Core.Path.{◌≡◌, refl, sym, ap, ◌∙◌}
use mathlib.Core.List.{List}
use Prim.Native.Nat.{ℕ}
use lib.ListN.{length}
use Rattle.lists.proofs.Searches.{same_refl}
use Rattle.refusals.specs.Tests.{first_met, decide, pass, verdict}
use Rattle.notification.specs.Forms.{places}
use Rattle.notification.specs.Writing.{name_of, body_of}
use Rattle.notification.proofs.Tables.{passes_note}
use Rattle.notification.proofs.TwoWays.{two_ways}
use Rattle.request.specs.Writing.{request_tests, object_text}
use Rattle.request.specs.declared.Request.{Request}
use Rattle.request.proofs.Tables.{request_passes}
use Rattle.request.proofs.TwoWays.{written_read}
use Rattle.request.proofs.Submitted.{from_own}
use Rattle.ledger.specs.declared.Entry.{Entry}
use Rattle.ledger.specs.Ledger.{Ledger}
use Rattle.ledger.specs.Call.{Form, csv, json, filed_in, read_form, file}
use Rattle.ledger.specs.Calls.{refused_by, step_note, step}
use Rattle.ledger.proofs.Steps.{step_file}

-- whatever the ledger and the entry
module _ (l : Ledger) (entry : Entry) where
  pub read_alike : (u : List ℕ) (f g : Form) → read_form u f ≡ read_form u g → step l (file entry u f) ≡ step l (file entry u g)
  read_alike u f g e =
      step_file l entry u f
      ∙ ap (λ (x : Result Notification Refusal). decide (verdict x) (step_note l entry u (note_of x)) (refused_by l)) e
      ∙ sym (step_file l entry u g)

  -- a request that can be written, filed by its origin: its object does what the file of its notification does
  module _ (r : Request) (six : length r.notification.key.category ≡ 6) (fifty : length r.notification.powers ≡ places)
      (passes : first_met (request_tests r) ≡ pass) where
    abbrev object : Form
    object = json (object_text r)

    abbrev its_file : Form
    its_file = csv (name_of r.notification.key) (body_of r.notification)

    object_read : read_form r.origin object ≡ Ok r.notification
    unfolding read_form
    object_read =
        let e = written_read r six fifty passes in
        ap filed_in
        (from_own r.origin (object_text r) (ap verdict e) (rw e (same_refl r.origin))
        ∙ ap (λ (x : Result Request Refusal). Ok (request_of x)) e)

    file_read : read_form r.origin its_file ≡ Ok r.notification
    unfolding read_form
    file_read =
        (two_ways (name_of r.notification.key) (body_of r.notification) r.notification).1
        (record {
          six = six;
          fifty = fifty;
          passes = passes_note r.notification (request_passes r passes).note;
          its_name = refl;
          its_body = refl;
        })

    pub either_form : step l (file entry r.origin object) ≡ step l (file entry r.origin its_file)
    either_form = read_alike r.origin object its_file (object_read ∙ sym file_read)
