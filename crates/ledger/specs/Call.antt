-- The calls of demand 3's list, with their arguments (document 01, "The list of demand 3").
use Rattle.ledger.specs.declared.Answer.{Answer}
use Rattle.std.specs.Prelude.{List, ℕ, Result, Ok, Err}
use Rattle.refusals.specs.declared.Refusal.{Refusal}
use Rattle.notification.specs.Reading.{read_file}
use Rattle.notification.specs.declared.Notification.{Notification}
use Rattle.request.specs.Reading.{read_from}
use Rattle.request.specs.declared.Request.{Request}
use Rattle.ledger.specs.declared.Entry.{Entry}

-- "file (submitter's code, file name, file body)": the form that a notification is handed in is the notification file, by its name and
-- its body, or the object of a request, by its bytes (document 02, K3: "A filing meets the same ledger from either form, shown once for
-- both, and in either form is a file call of demand 3's list")
pub data Form : Type 0 where
  csv : (name body : List ℕ) → Form
  json : (body : List ℕ) → Form

-- of a request only its notification is filed: the origin is compared with the submitter, and "The submission date isn't used further"
abbrev pub filed_in : Result Request Refusal → Result Notification Refusal
filed_in (Ok r) = Ok r.notification
filed_in (Err f) = Err f

-- "filing 1 to 8" come from the input alone: what a submitter's form is read as; a file doesn't say who submits it, and an object is read
-- by 42, 5 to 8, then 43
unfoldable pub read_form : (submitter : List ℕ) → Form → Result Notification Refusal
read_form submitter (csv name body) = read_file name body
read_form submitter (json body) = filed_in (read_from submitter body)

pub data Call : Type 0 where
  enrol_actor : (code : List ℕ) → (first last : ℕ) → Call
  enrol_category : (text : List ℕ) → Call
  load : (actor category : List ℕ) → (day approved : ℕ) → (powers : List ℕ) → Call
  file : (entry : Entry) → (submitter : List ℕ) → (form : Form) → Call
  advance : (day minute : ℕ) → Call

-- what a call answers: what an accepted one says, or a refusal
abbrev pub Answered : Type 0
Answered = Result Answer Refusal
