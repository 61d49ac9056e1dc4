-- WHAT A CALL LEAVES, PLACE BY PLACE (document 01, "The buyer's note": "Each open function states its result and all that it may write,
-- for all inputs and refusals, as an equality with a definition"): where it is refused, the register as it came in; else one table with
-- what the call puts into it, and every other place of the register with what it held.
use Rattle.notification.specs.Reading.{note_of}
use Rattle.refusals.specs.declared.Refusal.{Refusal}
use Rattle.std.specs.Prelude.{List, [], ◌∷◌, ℕ, ◌+◌, get_or, set, replicate, Result}
use Rattle.calendar.specs.Steps.{steps_of}
use Rattle.calendar.specs.Clocks.{first_counted, fresh_clock}
use Rattle.calendar.specs.declared.clock.Clock.{Clock}
use Rattle.refusals.specs.Tests.{first_met, decide, verdict}
use Rattle.notification.specs.Forms.{six_bytes, in_places}
use Rattle.notification.specs.declared.Notification.{Notification}
use Rattle.ledger.specs.Ledger.{Key, Rec, actor_places, category_places, record_places, actor_at, category_at}
use Rattle.ledger.specs.Call.{Answered, read_form, Call, enrol_actor, enrol_category, load, file, advance}
use Rattle.ledger.specs.Calls.{Outcome, verdict_of, refused_by, step_note, step, moment}
use Rattle.ledger.specs.Filing.{nobody, key_of, filing_tests, pairs, changed, status_by, next_id}
use Rattle.ledger.specs.declared.Entry.{Entry}
use Rattle.tables.specs.Tables.{columns, load_number, key_number, record_in}
use Rattle.tables.specs.More.{more_actors, more_categories, load_put, put_to, with_until}
use Rattle.tables.specs.declared.actors.Actors.{Actors}
use Rattle.tables.specs.declared.categories.Categories.{Categories}
use Rattle.register.specs.declared.Fresh.{Fresh}
use Rattle.register.specs.declared.Head.{Head}
use Rattle.register.specs.View.{Register, lent, held}

-- a fresh register: every place of its head holds 0, and "the fresh register's per-record statuses and ids are [0; 256] arrays"
abbrev pub fresh_head : Head
fresh_head =
    record {
      clock = fresh_clock;
      actors = record { count = 0; entries = replicate actor_places nobody };
      categories = record { count = 0; entries = replicate category_places (record { text = replicate 6 0 }) };
      loads = 0;
      records = 0;
    }

abbrev pub fresh_register : Fresh
fresh_register = record { head = fresh_head; statuses = replicate record_places 0; ids = replicate record_places 0 }

-- ---- a head with another clock or another table

abbrev pub with_clock : Head → Clock → Head
with_clock h t = record { clock = t; actors = h.actors; categories = h.categories; loads = h.loads; records = h.records }

abbrev pub with_actors : Head → Actors → Head
with_actors h x = record { clock = h.clock; actors = x; categories = h.categories; loads = h.loads; records = h.records }

abbrev pub with_categories : Head → Categories → Head
with_categories h x = record { clock = h.clock; actors = h.actors; categories = x; loads = h.loads; records = h.records }

abbrev pub with_loads : Head → ℕ → Head
with_loads h n = record { clock = h.clock; actors = h.actors; categories = h.categories; loads = n; records = h.records }

abbrev pub with_records : Head → ℕ → Head
with_records h n = record { clock = h.clock; actors = h.actors; categories = h.categories; loads = h.loads; records = n }

-- ---- a filing that is accepted

-- the record of a filing stands at the first free place; each record before it has the status and the until-step that the filing gives it
unfoldable pub record_put : Register → ℕ → Key → List ℕ → Register
record_put r by k ps =
    let n = r.head.records in
    let clock = r.head.clock in
    let cols = r.columns in
    let paired = pairs by k ps (held r).records in
    let made : ℕ → Rec = λ i. changed paired clock by k ps (record_in cols i) in
    lent (with_records r.head (n + 1))
    (columns
    (set (put_to (λ i. (made i).status) n cols.statuses) n (status_by paired))
    (set cols.ids n (next_id (held r)))
    (set cols.keys n (key_number k.ceder k.acquirer k.category k.day))
    (set (put_to (λ i. with_until (get_or cols.marks i []) (made i).until) n cols.marks) n
    (by ∷ first_counted clock k.day ∷ steps_of k.day ∷ 0 ∷ []))
    (set cols.rows n ps))
    r.loads

-- of a notification, by its submitter's code
abbrev pub note_put : Register → List ℕ → Notification → Register
note_put r submitter n = record_put r (actor_at (held r).actors submitter) (key_of (held r) n) n.powers

-- ---- the calls

-- what an accepted call of demand 3's list writes: one actor, category, load or record more, or the clock
unfoldable pub writes : Register → Call → Register
writes r (enrol_actor code first last) =
    lent (with_actors r.head (more_actors r.head.actors (record { code = code; first = first; last = last }))) r.columns r.loads
writes r (enrol_category text) =
    lent (with_categories r.head (more_categories r.head.categories (record { text = six_bytes text }))) r.columns r.loads
writes r (load actor category day most ps) =
    let n = r.head.loads in
    let number = load_number (actor_at (held r).actors actor) (category_at (held r).categories category) day in
    lent (with_loads r.head (n + 1)) r.columns (load_put r.loads n number most (in_places ps))
writes r (file entry submitter form) = note_put r submitter (note_of (read_form submitter form))
writes r (advance day minute) = lent (with_clock r.head (moment day minute)) r.columns r.loads

-- A REFUSED CALL LEAVES THE REGISTER AS IT CAME IN
unfoldable pub leaves : Register → Call → Register
leaves r c = decide (verdict_of (held r) c) (writes r c) (λ f. r)

-- WHAT A CALL DOES: the register that it leaves, and the ledger's outcome
pub record Done : Type 0 where
  pub register : Register
  pub outcome : Outcome

abbrev pub does : Register → Call → Done
does r c = record { register = leaves r c; outcome = step (held r) c }

-- the same of a notification that was read
abbrev pub does_note : Register → Entry → List ℕ → Notification → Done
does_note r entry submitter n =
    record {
      register = decide (first_met (filing_tests (held r) entry submitter n)) (note_put r submitter n) (λ f. r);
      outcome = step_note (held r) entry submitter n;
    }

-- and of a form, by what it was read as: the refusal where there is one, else its notification
abbrev pub does_reading : Register → Entry → List ℕ → Result Notification Refusal → Done
does_reading r entry submitter x =
    decide (verdict x) (does_note r entry submitter (note_of x)) (λ f. record { register = r; outcome = refused_by (held r) f })

-- what is seen of a call: the register after it, the ledger that this holds, and the answer
abbrev pub seen : Register → Answered → Done
seen r y = record { register = r; outcome = record { ledger = held r; answer = y } }
