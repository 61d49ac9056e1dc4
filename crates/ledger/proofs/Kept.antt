-- "Nothing else of a record ever changes" (document 01, "The ledger"): a filing changes of a record its status and its until-step, and no
-- other call changes one. Then rule 3 computed: the V that becomes O.
use mathlib.Core.Path.{◌≡◌, refl}
use mathlib.Core.Bool.{Bool}
use mathlib.Core.List.{List, [], ◌∷◌}
use Prim.Native.Nat.{ℕ}
use lib.ListN.{replicate}
use Rattle.lists.specs.Searches.{same, place_of, first_from}
use Rattle.calendar.specs.Dates.{date, tomorrow, number, valid, month_length, leap_days, before_year, before_month}
use Rattle.calendar.specs.Steps.{steps_of, last_sunday}
use Rattle.calendar.specs.Clocks.{first_counted, replaces_whole, loadable}
use Rattle.calendar.specs.declared.clock.Clock.{Clock}
use Rattle.refusals.proofs.Tests.{decided}
use Rattle.notification.specs.Forms.{is_code, is_category, category_text, in_places}
use Rattle.ledger.specs.Statuses.{answered, validated, updated, obsolete}
use Rattle.ledger.specs.Call.{Call, enrol_actor, enrol_category, load, advance}
use Rattle.ledger.specs.Ledger.{Key, Rec, Ledger, actor_at, category_at, has_load, loaded, approved, moved, power, acquired, ceded, gained, engagement}
use Rattle.ledger.specs.Filing.{key_of, ceder_below, acquirer_above, ceder_above, acquirer_below, same_powers, pairs, rule_three, changed, next_id, filed, party_tests, day_tests, load_test, step_tests, place_tests}
use Rattle.ledger.specs.Calls.{Outcome, moment, actor_tests, category_tests, load_ranged, load_tests, verdict_of, effect, refused_by, step_note, step, file_at}
use Rattle.ledger.specs.Asking.{engaged_at}
use Rattle.ledger.proofs.Moving.{part_changed}
use Rattle.ledger.proofs.Examples.{eic, first, second, category, plain_day, enters, note_with, note, exchange, two_on, two, three}

-- what of a record never changes: id, submitter, key, from-step and powers
abbrev pub fixed : Rec → ℕ × ℕ × Key × ℕ × List ℕ
fixed r = (r.id, r.submitter, r.key, r.from, r.powers)

-- a filing leaves it so in every earlier record, whatever the record and the filing
pub kept : (paired : Bool) (clock : Clock) (by : ℕ) (k : Key) (ps : List ℕ) (r : Rec) → fixed (changed paired clock by k ps r) ≡ fixed r
kept = part_changed fixed (λ status until x. refl)

-- after any other call the records are those before it
pub others_keep : (l : Ledger) (c : Call) → (effect l c).ledger.records ≡ l.records → (step l c).ledger.records ≡ l.records
unfolding step
others_keep l c same =
    decided (λ (o : Outcome). o.ledger.records ≡ l.records) (verdict_of l c) (effect l c) (refused_by l) (λ p. same) (λ r p. refl)

pub records_kept : (l : Ledger) (code category : List ℕ) (first last day minute most : ℕ) (ps : List ℕ) →
    ((step l (enrol_actor code first last)).ledger.records ≡ l.records)
    × ((step l (enrol_category category)).ledger.records ≡ l.records)
    × ((step l (load code category day most ps)).ledger.records ≡ l.records)
    × ((step l (advance day minute)).ledger.records ≡ l.records)
unfolding effect
records_kept l code category first last day minute most ps = (
  others_keep l (enrol_actor code first last) refl,
  others_keep l (enrol_category category) refl,
  others_keep l (load code category day most ps) refl,
  others_keep l (advance day minute) refl,
)

-- ---- rule 3: 40 is replaced by 31

-- the first actor cedes to the second
abbrev key : Key
key = record { ceder = 0; acquirer = 1; category = 0; day = plain_day }

-- a record under that key with one power at every step
unfoldable pub record_of : ℕ → ℕ → ℕ → ℕ → ℕ → ℕ → Rec
record_of id by status from until p =
    record { id = id; submitter = by; key = key; status = status; from = from; until = until; powers = in_places (replicate 48 p) }

-- both file 40, the clock goes to a moment, and both file 31
unfoldable pub replaced_at : Ledger → ℕ → ℕ → Ledger
replaced_at l day minute =
    exchange first second plain_day 31 (step (exchange first second plain_day 40 l) (advance day minute)).ledger

-- the day before, at its minute 1410, at minute 1420 after 40 was filed at minute 1410, at minute 942 of the day itself, and at minute
-- 1068 after 40 was filed at minute 942
unfoldable pub day_ahead : Ledger
day_ahead = replaced_at (three 100) 0 0

unfoldable pub late_on_eve : Ledger
late_on_eve = replaced_at (three 100) 0 1410

unfoldable pub twice_on_eve : Ledger
twice_on_eve = replaced_at (two_on plain_day 0 1410) 0 1420

unfoldable pub same_step : Ledger
same_step = replaced_at (two plain_day 942) plain_day 942

unfoldable pub later_step : Ledger
later_step = replaced_at (two plain_day 942) plain_day 1068

-- the engagements of ceder and acquirer at a step
unfoldable pub pair : Ledger → ℕ → ℕ × ℕ
pair l s = (engaged_at l first category plain_day s, engaged_at l second category plain_day s)

-- "An earlier V becomes O only if its from-step equals the new one or the new one is 0" (document 02, K2), "otherwise it becomes P and its
-- until-step is the new from-step": the records whole, the newest first
pub record Replaced : Type 0 where
  pub day_ahead_lem : day_ahead.records ≡
      record_of 4 1 validated 0 48 31 ∷ record_of 3 0 answered 0 48 31 ∷ record_of 2 1 obsolete 0 48 40 ∷ record_of 1 0 answered 0 48 40 ∷ []
  pub late_on_eve_lem : late_on_eve.records ≡
      record_of 4 1 validated 1 48 31 ∷ record_of 3 0 answered 1 48 31 ∷ record_of 2 1 updated 0 1 40 ∷ record_of 1 0 answered 0 48 40 ∷ []
  pub twice_on_eve_lem : twice_on_eve.records ≡
      record_of 4 1 validated 1 48 31 ∷ record_of 3 0 answered 1 48 31 ∷ record_of 2 1 obsolete 1 48 40 ∷ record_of 1 0 answered 1 48 40 ∷ []
  pub same_step_lem : same_step.records ≡
      record_of 4 1 validated 33 48 31 ∷ record_of 3 0 answered 33 48 31 ∷ record_of 2 1 obsolete 33 48 40 ∷ record_of 1 0 answered 33 48 40 ∷ []
  pub later_step_lem : later_step.records ≡
      record_of 4 1 validated 37 48 31 ∷ record_of 3 0 answered 37 48 31 ∷ record_of 2 1 updated 33 37 40 ∷ record_of 1 0 answered 33 48 40 ∷ []
  -- an O moves nothing, and a P only before its until-step
  pub moved_ahead : (pair day_ahead 0 ≡ (29, 31)) × (pair day_ahead 47 ≡ (29, 31))
  pub moved_on_eve : (pair late_on_eve 0 ≡ (20, 40)) × (pair late_on_eve 1 ≡ (29, 31)) × (pair twice_on_eve 0 ≡ (60, 0)) × (pair twice_on_eve 1 ≡ (29, 31))
  pub moved_same : (pair same_step 32 ≡ (60, 0)) × (pair same_step 33 ≡ (29, 31))
  pub moved_later : (pair later_step 32 ≡ (60, 0)) × (pair later_step 36 ≡ (20, 40)) × (pair later_step 37 ≡ (29, 31))
  -- a new from-step of 0 is enough, whatever the earlier one
  pub zero_alone : rule_three (moment 0 0) key (record_of 2 1 validated 5 48 40) ≡ record_of 2 1 obsolete 5 48 40

pub replaced : Replaced
unfolding eic enters note_with note exchange two three record_of replaced_at day_ahead late_on_eve twice_on_eve same_step later_step pair same place_of first_from date tomorrow number valid month_length leap_days before_year before_month steps_of last_sunday first_counted is_code is_category category_text in_places actor_at category_at has_load loaded approved moved power acquired ceded gained engagement key_of ceder_below acquirer_above ceder_above acquirer_below party_tests day_tests load_test step_tests place_tests same_powers pairs replaces_whole next_id filed actor_tests category_tests load_ranged loadable load_tests verdict_of file_at effect step_note step engaged_at
replaced =
    record {
      day_ahead_lem = refl;
      late_on_eve_lem = refl;
      twice_on_eve_lem = refl;
      same_step_lem = refl;
      later_step_lem = refl;
      moved_ahead = (refl, refl);
      moved_on_eve = (refl, refl, refl, refl);
      moved_same = (refl, refl);
      moved_later = (refl, refl, refl);
      zero_alone = refl;
    }
