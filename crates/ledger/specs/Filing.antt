-- A filing (document 01, "The ledger" and "Refusals that come from the state"): its tests in their order, then its effect.
use Rattle.std.specs.Prelude.{Bool, true, false, cond, not, ◌&&◌, ◌||◌, List, [], ◌∷◌, ◌++◌, map, ℕ, suc, ◌+◌, ◌-◌, leb, ltb, eqb, length, get_or, replicate}
use Rattle.lists.specs.Tests.{all_below}
use Rattle.lists.specs.Searches.{some, first_from}
use Rattle.calendar.specs.Steps.{steps_of}
use Rattle.calendar.specs.Clocks.{first_counted, replaces_whole}
use Rattle.calendar.specs.declared.clock.Clock.{Clock}
use Rattle.refusals.specs.Tests.{Test, state}
use Rattle.refusals.specs.declared.Refusal.TheVariants.{State}
use Rattle.refusals.specs.declared.StateRefusal.{StateRefusal}
use Rattle.refusals.specs.declared.StateRefusal.TheVariants.{CederUnknown, AcquirerUnknown, ActorUnknown, CategoryUnknown, NotParty, OneActor, DayPast, DayFar, NoStep, AcquirerContract, CederContract, NoLoad, CederBelow, AcquirerAbove, CederAbove, AcquirerBelow, Full}
use Rattle.notification.specs.Forms.{category_text, places}
use Rattle.notification.specs.declared.Notification.{Notification}
use Rattle.ledger.specs.Statuses.{created, answered, deleted, validated, updated, obsolete}
use Rattle.ledger.specs.declared.Actor.{Actor}
use Rattle.ledger.specs.declared.Entry.{Entry}
use Rattle.ledger.specs.declared.Entry.TheVariants.{SevenDays}
use Rattle.ledger.specs.Ledger.{Key, Rec, Ledger, record_places, actor_at, category_at, has_load, approved, under_key, power, gained, ceded}

-- THE TESTS

-- the key of a notification, by the places of its actors and its category
unfoldable pub key_of : Ledger → Notification → Key
key_of l n =
    record {
      ceder = actor_at l.actors n.key.ceder;
      acquirer = actor_at l.actors n.key.acquirer;
      category = category_at l.categories (category_text n.key.category);
      day = n.key.day;
    }

-- a place that no actor, no category has
abbrev pub no_actor : Ledger → ℕ → Bool
no_actor l a = not (ltb a (length l.actors))

abbrev pub no_category : Ledger → ℕ → Bool
no_category l z = not (ltb z (length l.categories))

-- what stands at such a place
abbrev pub nobody : Actor
nobody = record { code = replicate 16 0; first = 0; last = 0 }

-- a day is in the contract of the actor at a place
abbrev pub in_contract : Ledger → ℕ → ℕ → Bool
in_contract l a d = leb (get_or l.actors a nobody).first d && leb d (get_or l.actors a nobody).last

-- 27, "is more than 7 days after it": how many days after the clock's a filing through an entry may be for, and what refuses a later one
abbrev pub reach_of : Entry → ℕ
reach_of SevenDays = 7

abbrev pub far_of : Entry → StateRefusal
far_of SevenDays = DayFar

-- 32 to 35 at a step, with u the key's power now and w the filed one: ceder g+u-w, acquirer h-u+w. What would be taken
-- away is put on the other side.
module _ (l : Ledger) (k : Key) (ps : List ℕ) (s : ℕ) where
  abbrev has : ℕ → ℕ
  has a = gained l a k.category k.day s

  abbrev gives : ℕ → ℕ
  gives a = ceded l.records a k.category k.day s

  abbrev most : ℕ → ℕ
  most a = approved l.loads a k.category k.day

  abbrev u : ℕ
  u = power l.records k s

  abbrev w : ℕ
  w = get_or ps s 0

  unfoldable pub ceder_below : Bool
  ceder_below = ltb (has k.ceder + u) (gives k.ceder + w)

  unfoldable pub acquirer_above : Bool
  acquirer_above = ltb (most k.acquirer + gives k.acquirer + u) (has k.acquirer + w)

  unfoldable pub ceder_above : Bool
  ceder_above = ltb (most k.ceder + gives k.ceder + w) (has k.ceder + u)

  unfoldable pub acquirer_below : Bool
  acquirer_below = ltb (has k.acquirer + w) (gives k.acquirer + u)

-- a check of the counted steps: it refuses where a step fails, and the lowest one is its place
abbrev pub failing : StateRefusal → (ℕ → Bool) → ℕ → ℕ → Test
failing f test from until =
    (ltb (first_from test from (until - from)) until, State f (first_from test from (until - from)))

-- 20 to 25: who files, for whom, in which category
unfoldable pub party_tests : Ledger → Key → ℕ → List Test
party_tests l k by =
    (no_actor l k.ceder, state CederUnknown)
    ∷ (no_actor l k.acquirer, state AcquirerUnknown)
    ∷ (no_actor l by, state ActorUnknown)
    ∷ (no_category l k.category, state CategoryUnknown)
    ∷ (not (eqb by k.ceder || eqb by k.acquirer), state NotParty)
    ∷ (eqb k.ceder k.acquirer, state OneActor)
    ∷ []

-- 26 to 30: the day and the contracts
unfoldable pub day_tests : Ledger → Entry → Key → List Test
day_tests l entry k =
    (ltb k.day l.clock.day, state DayPast)
    ∷ (ltb (l.clock.day + reach_of entry) k.day, state (far_of entry))
    ∷ (not (ltb (first_counted l.clock k.day) (steps_of k.day)), state NoStep)
    ∷ (not (in_contract l k.acquirer k.day), state AcquirerContract)
    ∷ (not (in_contract l k.ceder k.day), state CederContract)
    ∷ []

-- 31
unfoldable pub load_test : Ledger → Key → Test
load_test l k = (not (has_load l.loads k.ceder k.category k.day), state NoLoad)

-- 32 to 35 at the steps from one to before another, by what fails at a step
abbrev pub checks : (ceder_below acquirer_above ceder_above acquirer_below : ℕ → Bool) → (from until : ℕ) → List Test
checks ceder_below acquirer_above ceder_above acquirer_below from until =
    failing CederBelow ceder_below from until
    ∷ failing AcquirerAbove acquirer_above from until
    ∷ failing CederAbove ceder_above from until
    ∷ failing AcquirerBelow acquirer_below from until
    ∷ []

unfoldable pub step_tests : Ledger → Key → List ℕ → List Test
step_tests l k ps =
    checks (ceder_below l k ps) (acquirer_above l k ps) (ceder_above l k ps) (acquirer_below l k ps)
    (first_counted l.clock k.day) (steps_of k.day)

-- 36
abbrev pub full_test : Ledger → Test
full_test l = (not (ltb (length l.records) record_places), state Full)

-- 20 to 36 in this order, by the places of the submitter and of the key
unfoldable pub place_tests : Ledger → Entry → Key → ℕ → List ℕ → List Test
place_tests l entry k by ps = party_tests l k by ++ (day_tests l entry k ++ ((load_test l k ∷ step_tests l k ps) ++ (full_test l ∷ [])))

abbrev pub filing_tests : Ledger → Entry → List ℕ → Notification → List Test
filing_tests l entry submitter n = place_tests l entry (key_of l n) (actor_at l.actors submitter) n.powers

-- THE EFFECT

abbrev pub with_status : ℕ → ℕ → Rec → Rec
with_status status until r =
    record { id = r.id; submitter = r.submitter; key = r.key; status = status; from = r.from; until = until; powers = r.powers }

-- rule 1: the submitter's own C record under the key becomes S
abbrev pub deletes : ℕ → Key → Rec → Bool
deletes by k r = eqb r.status created && under_key k r && eqb r.submitter by

abbrev pub rule_one : ℕ → Key → Rec → Rec
rule_one by k r = cond (deletes by k r) (with_status deleted r.until r) r

-- the same power at every step, counted or not
unfoldable pub same_powers : List ℕ → List ℕ → Bool
same_powers ps qs = all_below (λ s. eqb (get_or ps s 0) (get_or qs s 0)) places

-- rule 2: a C record of the other party under the key with the same powers becomes A
abbrev pub answers : ℕ → Key → List ℕ → Rec → Bool
answers by k ps r = eqb r.status created && under_key k r && not (eqb r.submitter by) && same_powers r.powers ps

abbrev pub rule_two : ℕ → Key → List ℕ → Rec → Rec
rule_two by k ps r = cond (answers by k ps r) (with_status answered r.until r) r

unfoldable pub pairs : ℕ → Key → List ℕ → List Rec → Bool
pairs by k ps rs = some (answers by k ps) rs

-- rule 3: an earlier V under the key becomes O if its from-step equals the new one or the new one is 0 (document 02, K2: it is replaced
-- whole), otherwise P, and its until-step is the new from-step
abbrev pub replaces : Key → Rec → Bool
replaces k r = eqb r.status validated && under_key k r

abbrev pub rule_three : Clock → Key → Rec → Rec
rule_three clock k r =
    cond (replaces k r)
    (cond (replaces_whole clock r.from k.day) (with_status obsolete r.until r) (with_status updated (first_counted clock k.day) r))
    r

-- what a filing makes of an earlier record, by whether it is paired
abbrev pub changed : Bool → Clock → ℕ → Key → List ℕ → Rec → Rec
changed true clock by k ps r = rule_three clock k (rule_two by k ps (rule_one by k r))
changed false clock by k ps r = rule_one by k r

abbrev pub status_by : Bool → ℕ
status_by true = validated
status_by false = created

-- the next id, from 1
unfoldable pub next_id : Ledger → ℕ
next_id l = suc (length l.records)

-- the record that a filing makes: from is the first counted step, until the day's step count
abbrev pub born : ℕ → ℕ → Clock → ℕ → Key → List ℕ → Rec
born id status clock by k ps =
    record { id = id; submitter = by; key = k; status = status; from = first_counted clock k.day; until = steps_of k.day; powers = ps }

unfoldable pub filed : Bool → Ledger → ℕ → Key → List ℕ → List Rec
filed paired l by k ps =
    born (next_id l) (status_by paired) l.clock by k ps ∷ map (changed paired l.clock by k ps) l.records
