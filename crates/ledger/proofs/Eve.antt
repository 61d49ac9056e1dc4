-- THE NEUTRAL HOUR PAST MIDNIGHT (document 02, K2) happens: a list in which an exchange of tomorrow is validated at minute 1409 and replaced
-- at minute 1410. Step 0 of tomorrow keeps the first power, at midnight and afterwards, whatever calls follow.
use Rattle.std.specs.Prelude.{Err, Ok}
use mathlib.Core.Path.{◌≡◌, refl, ◌∙◌, ap}
use mathlib.Core.Bool.{true, false}
use mathlib.Core.List.{List, [], ◌∷◌, ◌++◌}
use lib.Dec.{lit<}
use lib.ListN.{replicate}
use Rattle.lists.specs.Searches.{same, place_of, first_from}
use Rattle.calendar.specs.Dates.{date, tomorrow, number, valid, month_length, leap_days, before_year, before_month}
use Rattle.calendar.specs.Steps.{steps_of, last_sunday}
use Rattle.calendar.specs.Texts.{pair_of, text_of, day_of}
use Rattle.calendar.specs.Labels.{label_of}
use Rattle.calendar.specs.Clocks.{first_counted, counts, replaces_whole, loadable}
use Rattle.refusals.specs.declared.Refusal.TheVariants.{State}
use Rattle.refusals.specs.declared.StateRefusal.TheVariants.{LoadDay}
use Rattle.notification.specs.Forms.{is_code, is_category, category_text, digits, in_places, all_zero}
use Rattle.notification.specs.Writing.{name_of, header_of, labels_text, lines_of, body_of, formed}
use Rattle.notification.specs.Reading.{key_in, name_key, header_key, is_name, is_header, lines_in, is_body, head_line, step_lines, has_labels, rest_of, power_value_from, is_power, first_bad, powers_in, file_tests, note_in, read_file}
use Rattle.ledger.specs.Statuses.{created, answered, validated, updated}
use Rattle.ledger.specs.Call.{read_form, Call, enrol_actor, enrol_category, load, advance}
use Rattle.ledger.specs.Ledger.{Ledger, fresh, actor_at, category_at, has_load, loaded, approved, moved, power, acquired, ceded, gained, engagement}
use Rattle.ledger.specs.Filing.{key_of, ceder_below, acquirer_above, ceder_above, acquirer_below, same_powers, pairs, next_id, filed, party_tests, day_tests, load_test, step_tests, place_tests}
use Rattle.ledger.specs.Calls.{actor_tests, category_tests, load_ranged, load_tests, verdict_of, effect, step_note, step, file_at}
use Rattle.ledger.specs.Asking.{engagement_tests, engaged_at, ask_engagement}
use Rattle.ledger.specs.Reading.{Event, events, actors_of, categories_of, clock_of, loaded_of, power_of, acquired_of, ceded_of}
use Rattle.ledger.specs.Whole.{Asked, after, answers_to}
use Rattle.ledger.specs.declared.Answer.TheVariants.{Moved, Held, Filed}
use Rattle.ledger.proofs.Whole.{for_good}
use Rattle.ledger.proofs.Examples.{eic, first, second, third, category, plain_day, enters, note_with, note}
use Rattle.ledger.proofs.Winter.{spans}
use Rattle.ledger.proofs.Witness.{filing, pair}

-- at minute 1409 of the day before, both parties file 40 for the day
unfoldable pub evening : List Call
evening =
    enrol_category category ∷ enters first plain_day 60 100 ++ enters second plain_day 0 100
    ++ (enrol_actor third 0 36524 ∷ advance 0 1409 ∷ filing first 40 ∷ filing second 40 ∷ [])

-- a minute later both replace it by 31
unfoldable pub calls : List Call
calls = evening ++ (advance 0 1410 ∷ filing first 31 ∷ filing second 31 ∷ [])

unfoldable pub told : List Event
told = events calls (answers_to fresh calls) []

unfoldable pub reached : Ledger
reached = after fresh calls

-- the third actor's load for the day
unfoldable pub late : Call
late = load third category plain_day 100 (replicate 48 50)

pub record Met : Type 0 where
  pub accepted : answers_to fresh calls ≡
      Ok (Held 1) ∷ Ok (Held 1) ∷ Ok (Held 1) ∷ Ok (Held 2) ∷ Ok (Held 2) ∷ Ok (Held 3) ∷ Ok Moved ∷ Ok (Filed 1 created 0) ∷ Ok (Filed 2 validated 0) ∷ Ok Moved ∷ Ok (Filed 3 created 1) ∷ Ok (Filed 4 validated 1) ∷ []
  -- the first exchange is P until step 1
  pub records : spans reached ≡ (validated, 1, 48) ∷ (answered, 1, 48) ∷ (updated, 0, 1) ∷ (answered, 0, 48) ∷ []
  -- step 0 of tomorrow no longer counts, step 1 does
  pub asked : Asked told first category plain_day 0
  pub asked_other : Asked told second category plain_day 0
  pub no_longer_counts : counts (clock_of told) plain_day 0 ≡ false
  pub still_counts : counts (clock_of told) plain_day 1 ≡ true
  pub engaged : (pair reached 0 ≡ (20, 40)) × (pair reached 1 ≡ (29, 31))
  pub survives : (acquired_of told second category plain_day 0 ≡ 40) × (acquired_of told second category plain_day 1 ≡ 31)
  -- asked for at midnight and afterwards
  pub at_midnight : ask_engagement (after reached (advance plain_day 0 ∷ [])) first category plain_day 0 ≡ Ok 20
  pub afterwards : ask_engagement (after reached (advance plain_day 0 ∷ advance plain_day 942 ∷ [])) second category plain_day 0 ≡ Ok 40
  -- a load of tomorrow passes at minute 1409; at minute 1410 it would change step 0, and 39 refuses it
  pub load_passes : (step (after fresh evening) late).answer ≡ Ok (Held 3)
  pub load_refused : (step reached late).answer ≡ Err (State LoadDay 0)

pub met : Met
unfolding filing evening calls told reached late spans pair eic enters note_with note same place_of first_from date tomorrow number valid month_length leap_days before_year before_month steps_of last_sunday first_counted is_code is_category category_text in_places actor_at category_at has_load loaded approved moved power acquired ceded gained engagement key_of ceder_below acquirer_above ceder_above acquirer_below party_tests day_tests load_test step_tests place_tests same_powers pairs replaces_whole next_id filed actor_tests category_tests load_ranged loadable load_tests verdict_of file_at effect step_note step engagement_tests engaged_at ask_engagement counts pair_of text_of day_of label_of name_of header_of labels_text lines_of body_of formed digits all_zero key_in name_key header_key is_name is_header lines_in is_body head_line step_lines has_labels rest_of power_value_from is_power first_bad powers_in file_tests note_in read_file read_form actors_of categories_of clock_of loaded_of power_of acquired_of ceded_of
met =
    record {
      accepted = refl;
      records = refl;
      asked = record { actor = refl; category = refl; in_day_lem = lit< tt };
      asked_other = record { actor = refl; category = refl; in_day_lem = lit< tt };
      no_longer_counts = refl;
      still_counts = refl;
      engaged = (refl, refl);
      survives = (refl, refl);
      at_midnight = refl;
      afterwards = refl;
      load_passes = refl;
      load_refused = refl;
    }

-- whatever calls follow, step 0 stays as it is
pub stays : (more : List Call) → (engaged_at (after reached more) first category plain_day 0 ≡ 20) × (engaged_at (after reached more) second category plain_day 0 ≡ 40)
unfolding told reached pair
stays more = (
  for_good calls more first category plain_day 0 met.asked met.no_longer_counts ∙ ap (λ p. p.0) met.engaged.0,
  for_good calls more second category plain_day 0 met.asked_other met.no_longer_counts ∙ ap (λ p. p.1) met.engaged.0,
)
