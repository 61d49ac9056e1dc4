-- The read-only calls (document 01, "The ledger", "Calls" and "Order"): an actor's own engagement, a record by id, an actor's history.
use Rattle.std.specs.Prelude.{Bool, cond, not, ◌&&◌, ◌||◌, List, [], ◌∷◌, ◌++◌, map, ℕ, ltb, eqb, length, get_or, drop, replicate, Result, Ok, Err}
use Rattle.lists.specs.Searches.{place_of}
use Rattle.lists.specs.Orders.{kept, order_by}
use Rattle.calendar.specs.Steps.{steps_of}
use Rattle.refusals.specs.Tests.{Test, input, state, first_met, decide}
use Rattle.refusals.specs.declared.Refusal.{Refusal}
use Rattle.refusals.specs.declared.InputRefusal.TheVariants.{Range}
use Rattle.refusals.specs.declared.StateRefusal.TheVariants.{ActorUnknown, CategoryUnknown, NoRecord, NotAsker, Full}
use Rattle.notification.specs.Forms.{six_bytes}
use Rattle.notification.specs.declared.Notification.{Notification}
use Rattle.ledger.specs.Ledger.{Rec, Ledger, actor_at, category_at, engagement}
use Rattle.ledger.specs.Filing.{no_actor, no_category, nobody}
use Rattle.ledger.specs.declared.Shown.{Shown}

-- ENGAGEMENT: 22, 23, 10
unfoldable pub engagement_tests : Ledger → List ℕ → List ℕ → ℕ → ℕ → List Test
engagement_tests l actor category day s =
    (no_actor l (actor_at l.actors actor), state ActorUnknown)
    ∷ (no_category l (category_at l.categories category), state CategoryUnknown)
    ∷ (not (ltb s (steps_of day)), input Range)
    ∷ []

-- an actor's engagement by its code and the category's text
unfoldable pub engaged_at : Ledger → List ℕ → List ℕ → ℕ → ℕ → ℕ
engaged_at l actor category day s = engagement l (actor_at l.actors actor) (category_at l.categories category) day s

unfoldable pub ask_engagement : Ledger → List ℕ → List ℕ → ℕ → ℕ → Result ℕ Refusal
ask_engagement l actor category day s =
    decide (first_met (engagement_tests l actor category day s)) (Ok (engaged_at l actor category day s)) Err

-- RECORD: 22, 40, 41

-- an actor is ceder or acquirer of a record
abbrev pub party : ℕ → Rec → Bool
party a r = eqb r.key.ceder a || eqb r.key.acquirer a

abbrev pub no_record : Rec
no_record =
    record { id = 0; submitter = 0; key = record { ceder = 0; acquirer = 0; category = 0; day = 0 }; status = 0; from = 0; until = 0; powers = [] }

-- the place of the record of an id, the newest being 0; past the last where there is none
unfoldable pub record_at : List Rec → ℕ → ℕ
record_at rs id = place_of (λ r. eqb r.id id) rs

unfoldable pub record_tests : Ledger → List ℕ → ℕ → List Test
record_tests l asker id =
    (no_actor l (actor_at l.actors asker), state ActorUnknown)
    ∷ (not (ltb (record_at l.records id) (length l.records)), state NoRecord)
    ∷ (not (party (actor_at l.actors asker) (get_or l.records (record_at l.records id) no_record)), state NotAsker)
    ∷ []

-- the whole record, with codes and category as text
abbrev pub code_at : Ledger → ℕ → List ℕ
code_at l a = (get_or l.actors a nobody).code

abbrev pub category_of : Ledger → ℕ → List ℕ
category_of l z = cond (no_category l z) (replicate 6 0) (six_bytes (get_or l.categories z []))

abbrev pub note_of : Ledger → Rec → Notification
note_of l r =
    record {
      key =
          record {
            ceder = code_at l r.key.ceder;
            acquirer = code_at l r.key.acquirer;
            category = category_of l r.key.category;
            day = r.key.day;
          };
      steps = steps_of r.key.day;
      powers = r.powers;
    }

abbrev pub shown : Ledger → Rec → Shown
shown l r =
    record {
      submitter = code_at l r.submitter;
      notification = note_of l r;
      status = r.status;
      from = r.from;
      until = r.until;
    }

unfoldable pub ask_record : Ledger → List ℕ → ℕ → Result Shown Refusal
ask_record l asker id =
    decide (first_met (record_tests l asker id)) (Ok (shown l (get_or l.records (record_at l.records id) no_record))) Err

-- HISTORY: 22, 36

-- one record comes before another: "by day, earliest first, and within a day by id, lowest first" (document 02, K1)
abbrev pub earlier : Rec → Rec → Bool
earlier r q = ltb r.key.day q.key.day || (eqb r.key.day q.key.day && ltb r.id q.id)

-- all records that an actor is a party to, in that order. Records stand newest first, and the oldest is put first: those
-- alike in day and id keep the order in which they were made
unfoldable pub in_order : ℕ → List Rec → List Rec
in_order a rs = order_by earlier (kept (party a) rs)

unfoldable pub ids_of : ℕ → List Rec → List ℕ
ids_of a rs = map (λ r. r.id) (in_order a rs)

abbrev pub history_of : Ledger → List ℕ → List ℕ
history_of l actor = ids_of (actor_at l.actors actor) l.records

unfoldable pub history_tests : Ledger → List ℕ → ℕ → List Test
history_tests l actor room =
    (no_actor l (actor_at l.actors actor), state ActorUnknown)
    ∷ (ltb room (length (history_of l actor)), state Full)
    ∷ []

unfoldable pub ask_history : Ledger → List ℕ → ℕ → Result ℕ Refusal
ask_history l actor room =
    decide (first_met (history_tests l actor room)) (Ok (length (history_of l actor))) Err

-- what the lent buffer holds afterwards: the ids from its beginning, the rest untouched; all of it untouched after a refusal
unfoldable pub history_in : Ledger → List ℕ → List ℕ → List ℕ
history_in l actor buffer =
    decide (first_met (history_tests l actor (length buffer)))
    (history_of l actor ++ drop (length (history_of l actor)) buffer)
    (λ r. buffer)
