-- The examples of document 01, "Days and filings at the edge", that are marked † there, and those of document 02, K2, in one list
-- carried by one proof: the calendar's, and those of filings, each as the answer that the ledger gives.
use Rattle.std.specs.Prelude.{Err, Ok}
use mathlib.Core.Path.{◌≡◌, refl}
use mathlib.Core.List.{List, [], ◌∷◌, ◌++◌, map}
use Prim.Native.Nat.{ℕ, ◌+◌}
use lib.ListN.{replicate}
use Rattle.lists.specs.Searches.{same, place_of, first_from}
use Rattle.calendar.specs.Dates.{date, tomorrow, number, valid, month_length, leap_days, before_year, before_month}
use Rattle.calendar.specs.Steps.{steps_of, last_sunday}
use Rattle.calendar.specs.Clocks.{first_counted, replaces_whole, loadable}
use Rattle.calendar.proofs.Examples.{Days, days}
use Rattle.refusals.specs.declared.Refusal.TheVariants.{State}
use Rattle.refusals.specs.declared.StateRefusal.TheVariants.{NoStep, CederBelow, CederAbove, AcquirerBelow}
use Rattle.notification.specs.Forms.{is_code, is_category, category_text, in_places}
use Rattle.notification.specs.declared.Notification.{Notification}
use Rattle.ledger.specs.declared.Entry.TheVariants.{SevenDays}
use Rattle.ledger.specs.Statuses.{created}
use Rattle.ledger.specs.Call.{Answered, Call, enrol_actor, enrol_category, load, advance}
use Rattle.ledger.specs.Ledger.{Ledger, fresh, actor_at, category_at, has_load, loaded, approved, moved, power, acquired, ceded, gained, engagement}
use Rattle.ledger.specs.Filing.{key_of, ceder_below, acquirer_above, ceder_above, acquirer_below, same_powers, pairs, next_id, filed, party_tests, day_tests, load_test, step_tests, place_tests}
use Rattle.ledger.specs.Calls.{actor_tests, category_tests, load_ranged, load_tests, verdict_of, effect, step_note, step, file_at}
use Rattle.ledger.specs.Asking.{engaged_at}
use Rattle.ledger.specs.Whole.{after}
use Rattle.ledger.specs.declared.Answer.TheVariants.{Filed}

-- codes 17X100A100R000.. by their last two bytes, and the category 13120
unfoldable pub eic : ℕ → ℕ → List ℕ
eic i c = 49 ∷ 55 ∷ 88 ∷ 49 ∷ 48 ∷ 48 ∷ 65 ∷ 49 ∷ 48 ∷ 48 ∷ 82 ∷ 48 ∷ 48 ∷ 48 ∷ i ∷ c ∷ []

abbrev pub first : List ℕ
first = eic 48 76

abbrev pub second : List ℕ
second = eic 49 74

abbrev pub third : List ℕ
third = eic 50 72

abbrev pub category : List ℕ
category = 49 ∷ 51 ∷ 49 ∷ 50 ∷ 48 ∷ []

-- an actor with a load for a day: one loaded power at every step, of an approved one
unfoldable pub enters : List ℕ → ℕ → ℕ → ℕ → List Call
enters code day loaded most = enrol_actor code 0 36524 ∷ load code category day most (replicate (steps_of day) loaded) ∷ []

-- a notification by its powers, and one with the same power at every step
unfoldable pub note_with : List ℕ → List ℕ → ℕ → List ℕ → Notification
note_with c a day ps =
    record { key = record { ceder = c; acquirer = a; category = category ++ (0 ∷ []); day = day }; steps = steps_of day; powers = in_places ps }

unfoldable pub note : List ℕ → List ℕ → ℕ → ℕ → Notification
note c a day p = note_with c a day (replicate (steps_of day) p)

-- both parties file it
unfoldable pub exchange : List ℕ → List ℕ → ℕ → ℕ → Ledger → Ledger
exchange c a day p l = (step_note (step_note l SevenDays c (note c a day p)).ledger SevenDays a (note c a day p)).ledger

-- WHAT A FILING IS ANSWERED AT A MINUTE OF ITS DAY

abbrev pub plain_day : ℕ
plain_day = 1

-- 20000326 and 20001029
abbrev pub short_day : ℕ
short_day = 85

abbrev pub long_day : ℕ
long_day = 302

-- two actors, the first with 60 of 100 and the second with 0 of 100 on a day, at a minute of a day
abbrev pub two_on : ℕ → ℕ → ℕ → Ledger
two_on day today minute =
    after fresh (enrol_category category ∷ enters first day 60 100 ++ enters second day 0 100 ++ (advance today minute ∷ []))

-- at a minute of the day of their loads
unfoldable pub two : ℕ → ℕ → Ledger
two day minute = two_on day day minute

-- what a filing so many days ahead is answered, and one for the day itself
unfoldable pub answer_ahead : ℕ → ℕ → ℕ → Answered
answer_ahead ahead today minute =
    (step_note (two_on (ahead + today) today minute) SevenDays first (note first second (ahead + today) 40)).answer

unfoldable pub answer_at : ℕ → ℕ → Answered
answer_at day minute = answer_ahead 0 day minute

-- a filing of 40 for the next day but at step 0, where the ceder doesn't have as much
unfoldable pub much_at_zero : ℕ → Answered
much_at_zero minute = (step_note (two_on plain_day 0 minute) SevenDays first (note_with first second plain_day (61 ∷ replicate 47 40))).answer

-- the acquirer's answer where its powers are the ceder's but at step 0
unfoldable pub but_at_zero : ℕ → Answered
but_at_zero minute =
    (step_note (step_note (two plain_day minute) SevenDays first (note first second plain_day 40)).ledger SevenDays second
    (note_with first second plain_day (0 ∷ replicate 47 40))).answer

unfoldable pub no_step : Answered
no_step = Err (State NoStep 0)

-- REPLACING 40 BY 5

-- the first actor has 60 of a power, the second 0 of 100, the third 50 of 100
unfoldable pub three : ℕ → Ledger
three most =
    after fresh (enrol_category category ∷ enters first plain_day 60 most ++ enters second plain_day 0 100 ++ enters third plain_day 50 100)

-- the exchange of 40, and the acquirer cedes 30 on
unfoldable pub ceded_on : Ledger
ceded_on = exchange second third plain_day 30 (exchange first second plain_day 40 (three 100))

-- the exchange of 40, and the ceder acquires 35 from another actor, or from the same one
unfoldable pub acquired_from : List ℕ → Ledger
acquired_from other = exchange other first plain_day 35 (exchange first second plain_day 40 (three 60))

unfoldable pub replacing : Ledger → Answered
replacing l = (step_note l SevenDays first (note first second plain_day 5)).answer

-- the engagements of the three
unfoldable pub each : Ledger → List ℕ
each l = map (λ a. engaged_at l a category plain_day 47) (first ∷ second ∷ third ∷ [])

-- THE LIST
pub record Edge : Type 0 where
  pub days : Days
  pub minute_942 : answer_at plain_day 942 ≡ Ok (Filed 1 created 33)
  pub minute_1068 : answer_at plain_day 1068 ≡ Ok (Filed 1 created 37)
  pub minute_1379 : answer_at plain_day 1379 ≡ Ok (Filed 1 created 47)
  pub minute_1380 : answer_at plain_day 1380 ≡ no_step
  pub short_1319 : answer_at short_day 1319 ≡ Ok (Filed 1 created 45)
  pub short_1320 : answer_at short_day 1320 ≡ no_step
  pub long_1439 : answer_at long_day 1439 ≡ Ok (Filed 1 created 49)
  pub long_1440 : answer_at long_day 1440 ≡ no_step
  -- K2, for the next day: on an eve of 48 steps, of 46, of 50, and on the eves of these two, which have 48; for the day after it
  pub eve_1409 : answer_ahead 1 0 1409 ≡ Ok (Filed 1 created 0)
  pub eve_1410 : answer_ahead 1 0 1410 ≡ Ok (Filed 1 created 1)
  pub short_eve_1349 : answer_ahead 1 short_day 1349 ≡ Ok (Filed 1 created 0)
  pub short_eve_1350 : answer_ahead 1 short_day 1350 ≡ Ok (Filed 1 created 1)
  pub long_eve_1469 : answer_ahead 1 long_day 1469 ≡ Ok (Filed 1 created 0)
  pub long_eve_1470 : answer_ahead 1 long_day 1470 ≡ Ok (Filed 1 created 1)
  pub eve_of_short : (answer_ahead 1 84 1409 ≡ Ok (Filed 1 created 0)) × (answer_ahead 1 84 1410 ≡ Ok (Filed 1 created 1))
  pub eve_of_long : (answer_ahead 1 301 1409 ≡ Ok (Filed 1 created 0)) × (answer_ahead 1 301 1410 ≡ Ok (Filed 1 created 1))
  pub two_days_ahead : (answer_ahead 2 0 1410 ≡ Ok (Filed 1 created 0)) × (answer_ahead 2 short_day 1350 ≡ Ok (Filed 1 created 0)) × (answer_ahead 2 long_day 1470 ≡ Ok (Filed 1 created 0))
  -- checks 32 to 35 are of the counted steps
  pub unchecked_zero : (much_at_zero 1409 ≡ Err (State CederBelow 0)) × (much_at_zero 1410 ≡ Ok (Filed 1 created 1))
  pub ceded_on_lem : each ceded_on ≡ 20 ∷ 10 ∷ 80 ∷ []
  pub replaced_35 : replacing ceded_on ≡ Err (State AcquirerBelow 0)
  -- on the day itself the place is the lowest counted step
  pub replaced_35_later : replacing (step ceded_on (advance plain_day 942)).ledger ≡ Err (State AcquirerBelow 33)
  pub replaced_35_eve : replacing (step ceded_on (advance 0 1410)).ledger ≡ Err (State AcquirerBelow 1)
  pub acquired_back : each (acquired_from third) ≡ 55 ∷ 40 ∷ 15 ∷ []
  pub replaced_34 : replacing (acquired_from third) ≡ Err (State CederAbove 0)
  pub replaced_34_later : replacing (step (acquired_from third) (advance plain_day 942)).ledger ≡ Err (State CederAbove 33)
  pub replaced_34_eve : replacing (step (acquired_from third) (advance 0 1410)).ledger ≡ Err (State CederAbove 1)
  -- the same where it acquires from the acquirer itself: A to B and B to A are two keys
  pub acquired_opposite : each (acquired_from second) ≡ 55 ∷ 5 ∷ 50 ∷ []
  pub replaced_34_opposite : replacing (acquired_from second) ≡ Err (State CederAbove 0)
  -- not marked there: powers are compared at every step, counted or not
  pub uncounted_differs : but_at_zero 942 ≡ Ok (Filed 2 created 33)

pub edge : Edge
unfolding eic enters note_with note exchange two answer_ahead answer_at much_at_zero but_at_zero no_step three ceded_on acquired_from replacing each same place_of first_from date tomorrow number valid month_length leap_days before_year before_month steps_of last_sunday first_counted is_code is_category category_text in_places actor_at category_at has_load loaded approved moved power acquired ceded gained engagement key_of ceder_below acquirer_above ceder_above acquirer_below party_tests day_tests load_test step_tests place_tests same_powers pairs replaces_whole next_id filed actor_tests category_tests load_ranged loadable load_tests verdict_of file_at effect step_note step engaged_at
edge =
    record {
      days = days;
      minute_942 = refl;
      minute_1068 = refl;
      minute_1379 = refl;
      minute_1380 = refl;
      short_1319 = refl;
      short_1320 = refl;
      long_1439 = refl;
      long_1440 = refl;
      eve_1409 = refl;
      eve_1410 = refl;
      short_eve_1349 = refl;
      short_eve_1350 = refl;
      long_eve_1469 = refl;
      long_eve_1470 = refl;
      eve_of_short = (refl, refl);
      eve_of_long = (refl, refl);
      two_days_ahead = (refl, refl, refl);
      unchecked_zero = (refl, refl);
      ceded_on_lem = refl;
      replaced_35 = refl;
      replaced_35_later = refl;
      replaced_35_eve = refl;
      acquired_back = refl;
      replaced_34 = refl;
      replaced_34_later = refl;
      replaced_34_eve = refl;
      acquired_opposite = refl;
      replaced_34_opposite = refl;
      uncounted_differs = refl;
    }
