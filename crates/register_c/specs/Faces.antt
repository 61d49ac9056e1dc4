-- ANSWERS AS FLAT RECORDS, for programs in C and Rust: a refusal's number and place, 0 and 0 where there is none, and the result.
use Rattle.std.specs.Prelude.{ℕ, Option, Some, None, Result, Ok, Err, replicate}
use Rattle.calendar.specs.Dates.{day_count}
use Rattle.refusals.specs.Numbers.{number_of, place_of}
use Rattle.refusals.specs.declared.Refusal.{Refusal}
use Rattle.notification.specs.Reading.{blank}
use Rattle.notification.specs.declared.FileLengths.{FileLengths}
use Rattle.notification.specs.declared.Notification.{Notification}
use Rattle.request.specs.declared.Request.{Request}
use Rattle.ledger.specs.declared.Shown.{Shown}
use Rattle.register_c.specs.declared.files.FileRead.{FileRead}
use Rattle.register_c.specs.declared.files.FileWritten.{FileWritten}
use Rattle.register_c.specs.declared.objects.ObjectRead.{ObjectRead}
use Rattle.register_c.specs.declared.objects.ObjectWritten.{ObjectWritten}
use Rattle.register_c.specs.declared.asking.RecordShown.{RecordShown}

-- a notification behind a number and a place
abbrev pub flat_note : ℕ → ℕ → Notification → FileRead
flat_note number place n =
    record {
      number = number;
      place = place;
      day = n.key.day;
      steps = n.steps;
      powers = n.powers;
      ceder = n.key.ceder;
      acquirer = n.key.acquirer;
      category = n.key.category;
    }

-- a refusal beside a blank one
abbrev pub flat_refused : Refusal → FileRead
flat_refused r = flat_note (number_of r) (place_of r) blank

-- a file that was read
abbrev pub flat_of : Result Notification Refusal → FileRead
flat_of (Ok n) = flat_note 0 0 n
flat_of (Err r) = flat_refused r

-- a notification to write; number and place mean nothing there
abbrev pub note_to_write : FileRead → Notification
note_to_write x =
    record {
      key = record { ceder = x.ceder; acquirer = x.acquirer; category = x.category; day = x.day };
      steps = x.steps;
      powers = x.powers;
    }

-- the lengths of name and body; 0 and 0 beside a refusal
abbrev pub flat_written : Result FileLengths Refusal → FileWritten
flat_written (Ok l) = record { number = 0; place = 0; name = l.name; body = l.body }
flat_written (Err r) = record { number = number_of r; place = place_of r; name = 0; body = 0 }

-- an object that was read: its notification as of a file, the moment of its submission and its origin
abbrev pub flat_object : Result Request Refusal → ObjectRead
flat_object (Ok q) = record { read = flat_note 0 0 q.notification; day = q.moment.day; second = q.moment.second; origin = q.origin }
flat_object (Err r) = record { read = flat_refused r; day = 0; second = 0; origin = replicate 16 0 }

-- a request to write; number and place mean nothing there
abbrev pub request_to_write : ObjectRead → Request
request_to_write x =
    record { notification = note_to_write x.read; origin = x.origin; moment = record { day = x.day; second = x.second } }

-- the length of the object; 0 beside a refusal
abbrev pub flat_object_written : Result ℕ Refusal → ObjectWritten
flat_object_written (Ok n) = record { number = 0; place = 0; length = n }
flat_object_written (Err r) = record { number = number_of r; place = place_of r; length = 0 }

-- a record that is shown, by a number, a place and what is shown
abbrev pub flat_record : ℕ → ℕ → Shown → RecordShown
flat_record number place x =
    record {
      number = number;
      place = place;
      day = x.notification.key.day;
      steps = x.notification.steps;
      from = x.from;
      until = x.until;
      powers = x.notification.powers;
      submitter = x.submitter;
      ceder = x.notification.key.ceder;
      acquirer = x.notification.key.acquirer;
      category = x.notification.key.category;
      status = x.status;
    }

-- a blank one beside a refusal
abbrev pub nothing_shown : Shown
nothing_shown = record { submitter = replicate 16 0; notification = blank; status = 0; from = 0; until = 0 }

abbrev pub flat_shown : Result Shown Refusal → RecordShown
flat_shown (Ok x) = flat_record 0 0 x
flat_shown (Err r) = flat_record (number_of r) (place_of r) nothing_shown

-- the number of a day; the number of days where there is none
abbrev pub number_of_day : Option ℕ → ℕ
number_of_day (Some n) = n
number_of_day None = day_count
