-- The read-only calls, computed: each answer and each refusal (document 01, "The ledger", "Calls"). The first actor exchanges 40 with the
-- second, which cedes 30 of it on to the third; the fourth is no party to anything.
use Rattle.refusals.specs.declared.Refusal.{Refusal}
use Rattle.std.specs.Prelude.{Result, Ok, Err}
use mathlib.Core.Path.{◌≡◌, refl}
use mathlib.Core.List.{List, [], ◌∷◌}
use Prim.Native.Nat.{ℕ}
use Rattle.lists.specs.Searches.{same, place_of, first_from}
use Rattle.lists.specs.Orders.{kept, put_by, order_by}
use Rattle.calendar.specs.Dates.{date, tomorrow, number, valid, month_length, leap_days, before_year, before_month}
use Rattle.calendar.specs.Steps.{steps_of, last_sunday}
use Rattle.calendar.specs.Clocks.{first_counted, replaces_whole, loadable}
use Rattle.refusals.specs.Tests.{input, state}
use Rattle.refusals.specs.declared.InputRefusal.TheVariants.{Range}
use Rattle.refusals.specs.declared.StateRefusal.TheVariants.{ActorUnknown, CategoryUnknown, NoRecord, NotAsker, Full}
use Rattle.notification.specs.Forms.{is_code, is_category, category_text, in_places}
use Rattle.ledger.specs.Statuses.{answered, validated}
use Rattle.ledger.specs.Call.{enrol_actor}
use Rattle.ledger.specs.Ledger.{Ledger, actor_at, category_at, has_load, loaded, approved, moved, power, acquired, ceded, gained, engagement}
use Rattle.ledger.specs.Filing.{key_of, ceder_below, acquirer_above, ceder_above, acquirer_below, same_powers, pairs, next_id, filed, party_tests, day_tests, load_test, step_tests, place_tests}
use Rattle.ledger.specs.Calls.{actor_tests, category_tests, load_ranged, load_tests, verdict_of, effect, step_note, step, file_at}
use Rattle.ledger.specs.Asking.{engagement_tests, engaged_at, ask_engagement, record_at, record_tests, ask_record, in_order, ids_of, history_tests, ask_history, history_in}
use Rattle.ledger.specs.declared.Shown.{Shown}
use Rattle.ledger.proofs.Examples.{eic, first, second, third, category, plain_day, short_day, long_day, enters, note_with, note, exchange, three, ceded_on}

abbrev fourth : List ℕ
fourth = eic 51 70

abbrev stranger : List ℕ
stranger = eic 52 68

unfoldable pub held : Ledger
held = (step ceded_on (enrol_actor fourth 0 36524)).ledger

-- the engagement of the second actor at a step of a day
unfoldable pub engaged : ℕ → ℕ → Result ℕ Refusal
engaged day s = ask_engagement held second category day s

-- the record of the exchange of 40: who filed it, and what became of it
unfoldable pub exchanged : List ℕ → ℕ → Result Shown Refusal
exchanged by status =
    Ok (record { submitter = by; notification = note first second plain_day 40; status = status; from = 0; until = 48 })

pub record Answers : Type 0 where
  -- "an actor's own engagement at a step"; "10: a .. step .. is outside its range"
  pub engagement : (engaged plain_day 0 ≡ Ok 10) × (engaged plain_day 47 ≡ Ok 10)
  pub no_step : engaged plain_day 48 ≡ Err (input Range)
  pub short_day_lem : (engaged short_day 45 ≡ Ok 0) × (engaged short_day 46 ≡ Err (input Range))
  pub long_day_lem : (engaged long_day 49 ≡ Ok 0) × (engaged long_day 50 ≡ Err (input Range))
  pub no_day : engaged 36525 0 ≡ Err (input Range)
  pub actor_unknown : ask_engagement held stranger [] plain_day 48 ≡ Err (state ActorUnknown)
  pub category_unknown : ask_engagement held first [] plain_day 48 ≡ Err (state CategoryUnknown)
  -- "a record by id for an actor who is ceder or acquirer of it": the whole record, the same to both
  pub to_ceder : (ask_record held first 1 ≡ exchanged first answered) × (ask_record held first 2 ≡ exchanged second validated)
  pub to_acquirer : (ask_record held second 1 ≡ exchanged first answered) × (ask_record held second 2 ≡ exchanged second validated)
  -- "41: the asker isn't a party to it"
  pub not_to_others : (ask_record held third 2 ≡ Err (state NotAsker)) × (ask_record held fourth 2 ≡ Err (state NotAsker))
  -- "40: no record of that id": ids are 1 to 4
  pub no_record : (ask_record held second 0 ≡ Err (state NoRecord)) × (ask_record held second 5 ≡ Err (state NoRecord))
  -- "22: .. the actor named in another call, not enrolled", before 40
  pub asker_unknown : ask_record held stranger 5 ≡ Err (state ActorUnknown)
  -- "an actor's history, the ids of all such records into a lent buffer, each once, the rest of the buffer untouched"
  pub ceders_history : history_in held first (9 ∷ 9 ∷ 9 ∷ []) ≡ 1 ∷ 2 ∷ 9 ∷ []
  pub acquirers_history : history_in held third (9 ∷ 9 ∷ 9 ∷ []) ≡ 3 ∷ 4 ∷ 9 ∷ []
  pub both_history : history_in held second (9 ∷ 9 ∷ 9 ∷ 9 ∷ 9 ∷ []) ≡ 1 ∷ 2 ∷ 3 ∷ 4 ∷ 9 ∷ []
  pub whole_history : history_in held second (9 ∷ 9 ∷ 9 ∷ 9 ∷ []) ≡ 1 ∷ 2 ∷ 3 ∷ 4 ∷ []
  pub no_history : history_in held fourth (9 ∷ []) ≡ 9 ∷ []
  -- "and how many they are"; "36: .. a lent buffer is too short", by one id
  pub exact : (ask_history held first 2 ≡ Ok 2) × (ask_history held second 4 ≡ Ok 4) × (ask_history held fourth 0 ≡ Ok 0)
  pub too_short : (ask_history held second 3 ≡ Err (state Full)) × (history_in held second (9 ∷ 9 ∷ 9 ∷ []) ≡ 9 ∷ 9 ∷ 9 ∷ [])
  pub listed_unknown : ask_history held stranger 0 ≡ Err (state ActorUnknown)

pub answers : Answers
unfolding eic enters note_with note exchange three ceded_on held engaged exchanged same place_of first_from date tomorrow number valid month_length leap_days before_year before_month steps_of last_sunday first_counted is_code is_category category_text in_places actor_at category_at has_load loaded approved moved power acquired ceded gained engagement key_of ceder_below acquirer_above ceder_above acquirer_below party_tests day_tests load_test step_tests place_tests same_powers pairs replaces_whole next_id filed actor_tests category_tests load_ranged loadable load_tests verdict_of file_at effect step_note step engagement_tests engaged_at ask_engagement record_at record_tests ask_record kept put_by order_by in_order ids_of history_tests ask_history history_in
answers =
    record {
      engagement = (refl, refl);
      no_step = refl;
      short_day_lem = (refl, refl);
      long_day_lem = (refl, refl);
      no_day = refl;
      actor_unknown = refl;
      category_unknown = refl;
      to_ceder = (refl, refl);
      to_acquirer = (refl, refl);
      not_to_others = (refl, refl);
      no_record = (refl, refl);
      asker_unknown = refl;
      ceders_history = refl;
      acquirers_history = refl;
      both_history = refl;
      whole_history = refl;
      no_history = refl;
      exact = (refl, refl, refl);
      too_short = (refl, refl);
      listed_unknown = refl;
    }
