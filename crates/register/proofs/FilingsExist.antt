-- A filing can be made on every register whose arrays have their places: it is refused as it is read or judged, or its record and the changed
-- records before it are put.
use Rattle.notification.specs.Reading.{note_of}
use Rattle.refusals.specs.declared.Refusal.{Refusal}
use Rattle.std.specs.Prelude.{Err, Ok, Result}
use mathlib.Core.Path.{◌≡◌, refl, sym, ◌∙◌, ap}
use mathlib.Core.Bool.{Bool}
use mathlib.Core.List.{List, []}
use Prim.Native.Nat.{ℕ, ◌+◌, ◌<◌}
use native.Mathlib.Omega.{arith}
use native.Mathlib.Decide.{ℕ_discrete}
use lib.ListN.{length, get_or, length-set}
use lib.Seq.{get_or-set_same, get_or-set_other}
use Rattle.calendar.specs.Steps.{steps_of}
use Rattle.calendar.specs.Clocks.{first_counted}
use Rattle.refusals.specs.Tests.{first_met, Verdict, pass, verdict}
use Rattle.notification.specs.declared.Notification.{Notification}
use Rattle.ledger.specs.Ledger.{actor_at}
use Rattle.ledger.specs.Call.{Answered, Form, Call, csv, json, read_form, file}
use Rattle.ledger.specs.Filing.{key_of, status_by, place_tests}
use Rattle.ledger.specs.declared.Answer.TheVariants.{Filed}
use Rattle.ledger.specs.declared.Entry.TheVariants.{SevenDays}
use Rattle.tables.specs.Tables.{Columns, LoadColumns, key_number}
use Rattle.recording.specs.Recording.{pairs_below}
use Rattle.recording.proofs.Puts.{put_length}
use Rattle.recording.proofs.AllChanged.{Made, all_made}
use Rattle.register.specs.View.{Register, lent, held}
use Rattle.register.specs.Written.{with_records, Done, does, does_note, does_reading, seen}
use Rattle.register.specs.Judging.{key_at, Placed, Fileable}
use Rattle.register.specs.declared.Head.{Head}
use Rattle.register.specs.declared.verdicts.Places.{Places}
use Rattle.register.proofs.Filings.{fileable_of}
use Rattle.register.proofs.Notes.{note_refused, note_passed, reading_refused, reading_passed, reading_does}
use Rattle.register.proofs.Records.{recorded, record_done}
use Rattle.register.proofs.Runs.{Did, did_file, did_object}
use Rattle.register.proofs.Sized.{Sized, ref, ref_mut, Next}

-- what is seen of a filing: a head, columns that have their places, the loads as they were lent, and an answer
pub record Seen (r : Register) (d : Done) : Type 0 where
  pub head : Head
  pub columns : Columns
  pub answer : Answered
  pub sized : Sized (lent head columns r.loads)
  pub is : seen (lent head columns r.loads) answer ≡ d

-- ---- a notification, whichever

module _ (r : Register) (u : List ℕ) (note : Notification) where
  abbrev ps : List ℕ
  ps = note.powers

  -- where its actors and its category are enrolled
  abbrev at : Places
  at =
      let k = key_of (held r) note in
      record { ceder = k.ceder; acquirer = k.acquirer; submitter = actor_at (held r).actors u; category = k.category; day = k.day }

  placed : Placed (held r) u note at
  placed = record { key = refl; by = refl }

  module _ (z : Sized r) (can : Fileable r.head at) where
    abbrev h : Head
    h = r.head

    abbrev cols : Columns
    cols = r.columns

    abbrev n : ℕ
    n = h.records

    abbrev own : ℕ
    own = key_number at.ceder at.acquirer at.category at.day

    abbrev first : ℕ
    first = first_counted h.clock at.day

    abbrev paired : Bool
    paired = pairs_below cols n at.submitter own ps

    made : Made paired h.clock at.submitter own ps cols n
    made =
        all_made paired h.clock at.submitter own ps cols
        (λ i k. omega (arith, z.records.marks, z.records.marked i (omega (arith, z.records.marks)))) n
        (omega (arith, can.room, z.records.statuses)) (omega (arith, can.room, z.records.marks))

    -- the register with the filing's record, and each record before it as the filing changes it
    abbrev left : Columns
    left = recorded h r.loads cols at ps own first (steps_of at.day) (status_by paired) paired made.next made.after

    abbrev filed : Register
    filed = lent (with_records h (n + 1)) left r.loads

    abbrev answer : Answered
    answer = Ok (Filed (n + 1) (status_by paired) first)

    many_statuses : length made.next ≡ 256
    many_statuses = ap length made.changes.new_statuses ∙ put_length _ cols.statuses n ∙ z.records.statuses

    many_marks : length made.after ≡ 256
    many_marks = ap length made.changes.new_marks ∙ put_length _ cols.marks n ∙ z.records.marks

    marked_after : (i : ℕ) → i < 256 → Dec (i ≡ n) → length (get_or left.marks i []) ≡ 4
    marked_after i k (yes e) = rw e (ap length (get_or-set_same made.after n _ [] (omega (arith, can.room, many_marks))))
    marked_after i k (no e) = ap length (get_or-set_other made.after n i _ [] e) ∙ made.wide i ∙ z.records.marked i k

    filed_sized : Sized filed
    filed_sized =
        record {
          actors = z.actors;
          categories = z.categories;
          loads = z.loads;
          records =
              record {
                statuses = length-set made.next n _ ∙ many_statuses;
                ids = length-set cols.ids n _ ∙ z.records.ids;
                keys = length-set cols.keys n _ ∙ z.records.keys;
                marks = length-set made.after n _ ∙ many_marks;
                rows = length-set cols.rows n _ ∙ z.records.rows;
                marked = λ i k. marked_after i k (ℕ_discrete i n);
              };
        }

  -- it is judged by its places
  by_places : Sized r → (v : Verdict) → v ≡ first_met (place_tests (held r) SevenDays (key_at at) at.submitter ps) →
      Seen r (does_note r SevenDays u note)
  by_places z (Err f) e =
      record {
        head = r.head;
        columns = r.columns;
        answer = Err f;
        sized = z;
        is = note_refused r SevenDays u note at placed (Err f) e f refl;
      }
  by_places z (Ok t) e =
      let can = fileable_of r.head r.columns r.loads SevenDays at ps (sym e) in
      let s = z.records in
      let done = record_done r.head r.loads r.columns at ps _ _ _ _ _ (made z can).next (made z can).after can
      s.statuses s.ids s.keys s.marks s.rows refl refl refl refl refl (made z can).changes in
      record {
        head = (filed z can).head;
        columns = (filed z can).columns;
        answer = answer z can;
        sized = filed_sized z can;
        is = note_passed r SevenDays u note at placed pass e refl _ done;
      }

-- ---- a form, whichever

-- what it was read as, whatever it was
module _ (r : Register) (u : List ℕ) (x : Result Notification Refusal) where
  by_reading : Sized r → (v : Verdict) → verdict x ≡ v → Seen r (does_reading r SevenDays u x)
  by_reading z (Err f) e =
      record { head = r.head; columns = r.columns; answer = Err f; sized = z; is = reading_refused r SevenDays u x f e }
  by_reading z (Ok t) e =
      let y = by_places r u (note_of x) z _ refl in
      record { head = y.head; columns = y.columns; answer = y.answer; sized = y.sized; is = reading_passed r SevenDays u x e _ y.is }

  pub reading_seen : Sized r → Seen r (does_reading r SevenDays u x)
  reading_seen z = by_reading z _ refl

-- the called function ensures what the ledger does, of the head, the columns and the answer that a filing leaves
abbrev Ensures : Register → Call → Type 1
Ensures r c = (h : Head) (w : Columns) (y : Answered) → seen (lent h w r.loads) y ≡ does r c → Did r c y (lent h w r.loads)

next_form : (r : Register) (u : List ℕ) (form : Form) → Ensures r (file SevenDays u form) → Sized r → Next r (file SevenDays u form)
next_form r u form ensured z =
    let y = reading_seen r u (read_form u form) z in
    record {
      answer = y.answer;
      register = lent y.head y.columns r.loads;
      did = ensured y.head y.columns y.answer (y.is ∙ reading_does r SevenDays u form _ refl);
      sized = y.sized;
    }

-- ---- a file, an object

module _ (r : Register) (u : List ℕ) where
  abbrev x : Columns
  x = r.columns

  abbrev l : LoadColumns
  l = r.loads

  pub next_file : (name body : List ℕ) → Sized r → Next r (file SevenDays u (csv name body))
  next_file name body =
      next_form r u (csv name body) (λ h w y e.
      did_file ([], ([], ([], ([], ([], ([], ([], ([], ([], ([], ([], tt)))))))))))
      (r.head, (ref_mut x.statuses, (ref_mut x.ids, (ref_mut x.keys, (ref_mut x.marks, (ref_mut x.rows, (ref l.keys, (ref l.approved, (ref l.rows, (ref u, (ref name, (ref body, tt))))))))))))
      (record { head = h; answer = y })
      (r.head, (ref_mut w.statuses, (ref_mut w.ids, (ref_mut w.keys, (ref_mut w.marks, (ref_mut w.rows, (ref l.keys, (ref l.approved, (ref l.rows, (ref u, (ref name, (ref body, tt))))))))))))
      (λ t. e))

  pub next_object : (body : List ℕ) → Sized r → Next r (file SevenDays u (json body))
  next_object body =
      next_form r u (json body) (λ h w y e.
      did_object ([], ([], ([], ([], ([], ([], ([], ([], ([], ([], tt))))))))))
      (r.head, (ref_mut x.statuses, (ref_mut x.ids, (ref_mut x.keys, (ref_mut x.marks, (ref_mut x.rows, (ref l.keys, (ref l.approved, (ref l.rows, (ref u, (ref body, tt)))))))))))
      (record { head = h; answer = y })
      (r.head, (ref_mut w.statuses, (ref_mut w.ids, (ref_mut w.keys, (ref_mut w.marks, (ref_mut w.rows, (ref l.keys, (ref l.approved, (ref l.rows, (ref u, (ref body, tt)))))))))))
      (λ t. e))
