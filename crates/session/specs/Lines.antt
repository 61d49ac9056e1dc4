-- WHAT A LINE OF THE SCRIPT DOES to the register, and what it says (document 01, "The script program"): its call, or 11.
use Rattle.std.specs.Prelude.{Bool, true, false, ℕ, Option, Some, None, Result}
use Rattle.ledger.specs.Ledger.{Ledger}
use Rattle.ledger.specs.Asking.{ask_engagement, ask_record}
use Rattle.ledger.specs.declared.Entry.TheVariants.{SevenDays}
use Rattle.refusals.specs.declared.Refusal.{Refusal}
use Rattle.notification.specs.declared.Notification.{Notification}
use Rattle.answers.specs.Values.{said_number, said_shown, said_refused}
use Rattle.answers.specs.declared.Said.{Said}
use Rattle.register.specs.View.{Register, held}
use Rattle.register.specs.Written.{does, does_reading}
use Rattle.register.specs.Told.{Told, told, tells}
use Rattle.script.specs.Lines.{Asked, calls, file_of, engagement, record_of, unknown}

-- "a script line over its length or of no known form .., or a file that can't be read"
abbrev pub no_call : ℕ
no_call = 11

-- a line that asks for an engagement or a record, or of no known form, leaves the register as it was
unfoldable pub only_asks : Asked → Bool
only_asks (calls c) = false
only_asks (file_of submitter name) = false
only_asks (engagement actor category day s) = true
only_asks (record_of asker id) = true
only_asks unknown = true

-- what such a line says; 11 stands for every other line
unfoldable pub ask_step : Ledger → Asked → Said
ask_step l (calls c) = said_refused no_call
ask_step l (file_of submitter name) = said_refused no_call
ask_step l (engagement actor category day s) = said_number (ask_engagement l actor category day s)
ask_step l (record_of asker id) = said_shown (ask_record l asker id)
ask_step l unknown = said_refused no_call

-- what a file is read as: a notification, or what refuses it
abbrev pub Reading : Type 0
Reading = Result Notification Refusal

-- what the file that a line names is read as; none where it can't be read
abbrev pub File : Type 0
File = Option Reading

-- a line, by the file that it names
unfoldable pub line_step : Register → File → Asked → Told
line_step r file (calls c) = told (does r c)
line_step r (Some reading) (file_of submitter name) = told (does_reading r SevenDays submitter reading)
line_step r None (file_of submitter name) = tells r (said_refused no_call)
line_step r file (engagement actor category day s) = tells r (said_number (ask_engagement (held r) actor category day s))
line_step r file (record_of asker id) = tells r (said_shown (ask_record (held r) asker id))
line_step r file unknown = tells r (said_refused no_call)
