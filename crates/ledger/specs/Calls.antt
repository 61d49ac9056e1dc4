-- The calls of demand 3's list (document 01, "The ledger", "Calls" and "Order"): each is its tests in their order, then its effect.
use Rattle.notification.specs.Reading.{note_of}
use Rattle.std.specs.Prelude.{Bool, not, ◌&&◌, List, [], ◌∷◌, ◌++◌, ℕ, suc, leb, ltb, eqb, length, Ok, Err}
use Rattle.lists.specs.Searches.{every}
use Rattle.calendar.specs.Dates.{day_count}
use Rattle.calendar.specs.Steps.{steps_of}
use Rattle.calendar.specs.Clocks.{first_counted, loadable, advance_tests}
use Rattle.calendar.specs.declared.clock.Clock.{Clock}
use Rattle.refusals.specs.Tests.{Test, input, state, first_met, decide, Verdict, verdict}
use Rattle.refusals.specs.declared.Refusal.{Refusal}
use Rattle.refusals.specs.declared.InputRefusal.TheVariants.{Form, Range}
use Rattle.refusals.specs.declared.StateRefusal.TheVariants.{ActorUnknown, CategoryUnknown, Full, There, LoadDay}
use Rattle.notification.specs.Forms.{is_code, is_category, power_end, in_places}
use Rattle.notification.specs.declared.Notification.{Notification}
use Rattle.ledger.specs.Call.{Answered, read_form, Call, enrol_actor, enrol_category, load, file, advance}
use Rattle.ledger.specs.declared.Actor.{Actor}
use Rattle.ledger.specs.declared.Entry.{Entry}
use Rattle.ledger.specs.Ledger.{Load, Key, Rec, Ledger, actor_places, category_places, load_places, actor_at, category_at, has_load}
use Rattle.ledger.specs.Filing.{key_of, no_actor, no_category, filing_tests, pairs, status_by, next_id, filed}
use Rattle.ledger.specs.declared.Answer.TheVariants.{Moved, Held, Filed}

-- the ledger that a call leaves, and its answer
pub record Outcome : Type 0 where
  pub ledger : Ledger
  pub answer : Answered

-- ENROL AN ACTOR: 9, 10, 37, 36

unfoldable pub actor_tests : Ledger → List ℕ → ℕ → ℕ → List Test
actor_tests l code first last =
    (not (is_code code), input Form)
    ∷ (not (ltb first day_count && ltb last day_count && leb first last), input Range)
    ∷ (not (no_actor l (actor_at l.actors code)), state There)
    ∷ (not (ltb (length l.actors) actor_places), state Full)
    ∷ []

-- ENROL A CATEGORY: 9, 37, 36
unfoldable pub category_tests : Ledger → List ℕ → List Test
category_tests l text =
    (not (is_category text), input Form)
    ∷ (not (no_category l (category_at l.categories text)), state There)
    ∷ (not (ltb (length l.categories) category_places), state Full)
    ∷ []

-- LOAD: 10, 22, 23, 39, 37, 36

-- the day and the approved power are in range, there is one power per step of the day, none above the approved one
unfoldable pub load_ranged : ℕ → ℕ → List ℕ → Bool
load_ranged day most ps =
    ltb day day_count && ltb most power_end && eqb (length ps) (steps_of day) && every (λ p. leb p most) ps

unfoldable pub load_tests : Ledger → List ℕ → List ℕ → ℕ → ℕ → List ℕ → List Test
load_tests l actor category day most ps =
    let a = actor_at l.actors actor in
    let z = category_at l.categories category in
    (not (load_ranged day most ps), input Range)
    ∷ (no_actor l a, state ActorUnknown)
    ∷ (no_category l z, state CategoryUnknown)
    ∷ (not (loadable l.clock day), state LoadDay)
    ∷ (has_load l.loads a z day, state There)
    ∷ (not (ltb (length l.loads) load_places), state Full)
    ∷ []

abbrev pub moment : ℕ → ℕ → Clock
moment day minute = record { day = day; minute = minute }

-- A CALL'S VERDICT; a filing is read first, by 1 to 8 or by those of an object, and then judged, by 20 to 36
unfoldable pub verdict_of : Ledger → Call → Verdict
verdict_of l (enrol_actor code first last) = first_met (actor_tests l code first last)
verdict_of l (enrol_category text) = first_met (category_tests l text)
verdict_of l (load actor category day most ps) = first_met (load_tests l actor category day most ps)
verdict_of l (file entry submitter form) =
    let x = read_form submitter form in
    decide (verdict x) (first_met (filing_tests l entry submitter (note_of x))) Err
verdict_of l (advance day minute) = first_met (advance_tests l.clock (moment day minute))

-- THE EFFECT OF AN ACCEPTED CALL

abbrev pub with_actor : Ledger → Actor → Ledger
with_actor l a = record { clock = l.clock; actors = l.actors ++ (a ∷ []); categories = l.categories; loads = l.loads; records = l.records }

abbrev pub with_category : Ledger → List ℕ → Ledger
with_category l z = record { clock = l.clock; actors = l.actors; categories = l.categories ++ (z ∷ []); loads = l.loads; records = l.records }

abbrev pub with_load : Ledger → Load → Ledger
with_load l x = record { clock = l.clock; actors = l.actors; categories = l.categories; loads = x ∷ l.loads; records = l.records }

abbrev pub with_records : Ledger → List Rec → Ledger
with_records l rs = record { clock = l.clock; actors = l.actors; categories = l.categories; loads = l.loads; records = rs }

abbrev pub with_clock : Ledger → Clock → Ledger
with_clock l t = record { clock = t; actors = l.actors; categories = l.categories; loads = l.loads; records = l.records }

-- a notification is filed, by the places of its submitter and its key: it is paired or created
unfoldable pub file_at : Ledger → Key → ℕ → List ℕ → Outcome
file_at l k by ps =
    let paired = pairs by k ps l.records in
    record {
      ledger = with_records l (filed paired l by k ps);
      answer = Ok (Filed (next_id l) (status_by paired) (first_counted l.clock k.day));
    }

abbrev pub file_note : Ledger → List ℕ → Notification → Outcome
file_note l submitter n = file_at l (key_of l n) (actor_at l.actors submitter) n.powers

unfoldable pub effect : Ledger → Call → Outcome
effect l (enrol_actor code first last) =
    record { ledger = with_actor l (record { code = code; first = first; last = last }); answer = Ok (Held (suc (length l.actors))) }
effect l (enrol_category text) = record { ledger = with_category l text; answer = Ok (Held (suc (length l.categories))) }
effect l (load actor category day most ps) =
    record {
      ledger =
          with_load l (record {
            actor = actor_at l.actors actor;
            category = category_at l.categories category;
            day = day;
            approved = most;
            powers = in_places ps;
          });
      answer = Ok (Held (suc (length l.loads)));
    }
effect l (file entry submitter form) = file_note l submitter (note_of (read_form submitter form))
effect l (advance day minute) = record { ledger = with_clock l (moment day minute); answer = Ok Moved }

-- a refused call leaves the ledger as it was
abbrev pub refused_by : Ledger → Refusal → Outcome
refused_by l r = record { ledger = l; answer = Err r }

-- what a filing does once it is read: judged, then filed
unfoldable pub step_note : Ledger → Entry → List ℕ → Notification → Outcome
step_note l entry submitter n = decide (first_met (filing_tests l entry submitter n)) (file_note l submitter n) (refused_by l)

-- WHAT A CALL DOES
unfoldable pub step : Ledger → Call → Outcome
step l c = decide (verdict_of l c) (effect l c) (refused_by l)
