-- What demand 3 speaks of happens: a list of calls in which each hypothesis of the theorem is met, with engagements other than
-- the loaded powers and a next call that changes steps, though none that no longer counts.
use Rattle.std.specs.Prelude.{Err, Ok}
use mathlib.Core.Path.{◌≡◌, refl}
use mathlib.Core.Bool.{true, false}
use mathlib.Core.List.{List, [], ◌∷◌, ◌++◌}
use Prim.Native.Nat.{ℕ, ◌+◌}
use lib.Dec.{lit<}
use lib.ListN.{replicate}
use Rattle.lists.specs.Searches.{same, place_of, first_from}
use Rattle.calendar.specs.Dates.{date, tomorrow, number, valid, month_length, leap_days, before_year, before_month}
use Rattle.calendar.specs.Steps.{steps_of, last_sunday}
use Rattle.calendar.specs.Texts.{pair_of, text_of, day_of}
use Rattle.calendar.specs.Labels.{label_of}
use Rattle.calendar.specs.Clocks.{first_counted, counts, replaces_whole, loadable}
use Rattle.refusals.specs.declared.Refusal.TheVariants.{State}
use Rattle.refusals.specs.declared.StateRefusal.TheVariants.{LoadDay}
use Rattle.notification.specs.Forms.{is_code, is_category, category_text, digits, in_places, all_zero}
use Rattle.notification.specs.Writing.{name_of, header_of, labels_text, lines_of, body_of, formed}
use Rattle.notification.specs.Reading.{key_in, name_key, header_key, is_name, is_header, lines_in, is_body, head_line, step_lines, has_labels, rest_of, power_value_from, is_power, first_bad, powers_in, file_tests, note_in, read_file}
use Rattle.ledger.specs.declared.Entry.TheVariants.{SevenDays}
use Rattle.ledger.specs.Statuses.{created, validated}
use Rattle.ledger.specs.Call.{csv, read_form, Call, enrol_actor, enrol_category, load, file, advance}
use Rattle.ledger.specs.Ledger.{Ledger, fresh, actor_at, category_at, has_load, loaded, approved, moved, power, acquired, ceded, gained, engagement}
use Rattle.ledger.specs.Filing.{key_of, ceder_below, acquirer_above, ceder_above, acquirer_below, same_powers, pairs, next_id, filed, party_tests, day_tests, load_test, step_tests, place_tests}
use Rattle.ledger.specs.Calls.{actor_tests, category_tests, load_ranged, load_tests, verdict_of, effect, step_note, step, file_at}
use Rattle.ledger.specs.Asking.{engaged_at}
use Rattle.ledger.specs.Reading.{Event, events, actors_of, categories_of, clock_of, loaded_of, approved_of, power_of, acquired_of, ceded_of}
use Rattle.ledger.specs.Whole.{Asked, after, answers_to}
use Rattle.ledger.specs.declared.Answer.TheVariants.{Moved, Held, Filed}
use Rattle.ledger.proofs.Whole.{demand3}
use Rattle.ledger.proofs.Examples.{eic, first, second, third, category, plain_day, enters, note_with, note}

-- a call that files a notification, by its name and its body
unfoldable pub filing : List ℕ → ℕ → Call
filing by p =
    file SevenDays by (csv (name_of (note first second plain_day p).key) (body_of (note first second plain_day p)))

unfoldable pub calls : List Call
calls =
    enrol_category category ∷ enters first plain_day 60 100 ++ enters second plain_day 0 100
    ++ (enrol_actor third 0 36524 ∷ filing first 40 ∷ filing second 40 ∷ advance plain_day 942 ∷ filing first 31 ∷ [])

unfoldable pub next : Call
next = filing second 31

unfoldable pub told : List Event
told = events calls (answers_to fresh calls) []

unfoldable pub reached : Ledger
reached = after fresh calls

-- the engagements of ceder and acquirer at a step
unfoldable pub pair : Ledger → ℕ → ℕ × ℕ
pair l s = (engaged_at l first category plain_day s, engaged_at l second category plain_day s)

pub record Met : Type 0 where
  -- every call of the list is accepted
  pub accepted : answers_to fresh calls ≡
      Ok (Held 1) ∷ Ok (Held 1) ∷ Ok (Held 1) ∷ Ok (Held 2) ∷ Ok (Held 2) ∷ Ok (Held 3) ∷ Ok (Filed 1 created 0) ∷ Ok (Filed 2 validated 0) ∷ Ok Moved ∷ Ok (Filed 3 created 33) ∷ []
  -- what is asked about is enrolled, and the step is one of the day
  pub asked : Asked told first category plain_day 20
  pub asked_other : Asked told second category plain_day 20
  pub engaged : pair reached 20 ≡ (20, 40)
  pub loads : (loaded_of told first category plain_day 20 ≡ 60) × (loaded_of told second category plain_day 20 ≡ 0)
  pub exchanged : (acquired_of told second category plain_day 20 ≡ 40) × (ceded_of told first category plain_day 20 ≡ 40)
  -- the next call is accepted and changes a step, and the clock after it no longer lets step 20 count
  pub next_accepted : (step reached next).answer ≡ Ok (Filed 4 validated 33)
  pub no_longer_counts : counts (clock_of (record { call = next; answer = (step reached next).answer } ∷ told)) plain_day 20 ≡ false
  -- the exchange that survives from step 33 on is the new one
  pub survives : (acquired_of (record { call = next; answer = (step reached next).answer } ∷ told) second category plain_day 33 ≡ 31)
      × (acquired_of (record { call = next; answer = (step reached next).answer } ∷ told) second category plain_day 32 ≡ 40)
  pub still : pair (step reached next).ledger 20 ≡ (20, 40)
  pub still_counts : counts (clock_of (record { call = next; answer = (step reached next).answer } ∷ told)) plain_day 33 ≡ true
  pub changed : (pair reached 33 ≡ (20, 40)) × (pair (step reached next).ledger 33 ≡ (29, 31))
  -- a load for the clock's own day would change steps that no longer count: it is refused by 39
  pub load_refused : (step reached (load third category plain_day 100 (replicate 48 50))).answer ≡ Err (State LoadDay 0)
  -- a call that moves the clock stops steps too
  pub stopped : counts (clock_of (record { call = advance plain_day 1068; answer = (step reached (advance plain_day 1068)).answer } ∷ told)) plain_day 36 ≡ false

pub met : Met
unfolding filing calls next told reached pair eic enters note_with note same place_of first_from date tomorrow number valid month_length leap_days before_year before_month steps_of last_sunday first_counted is_code is_category category_text in_places actor_at category_at has_load loaded approved moved power acquired ceded gained engagement key_of ceder_below acquirer_above ceder_above acquirer_below party_tests day_tests load_test step_tests place_tests same_powers pairs replaces_whole next_id filed actor_tests category_tests load_ranged loadable load_tests verdict_of file_at effect step_note step engaged_at counts pair_of text_of day_of label_of name_of header_of labels_text lines_of body_of formed digits all_zero key_in name_key header_key is_name is_header lines_in is_body head_line step_lines has_labels rest_of power_value_from is_power first_bad powers_in file_tests note_in read_file read_form actors_of categories_of clock_of loaded_of approved_of power_of acquired_of ceded_of
met =
    record {
      accepted = refl;
      asked = record { actor = refl; category = refl; in_day_lem = lit< tt };
      asked_other = record { actor = refl; category = refl; in_day_lem = lit< tt };
      engaged = refl;
      loads = (refl, refl);
      exchanged = (refl, refl);
      next_accepted = refl;
      no_longer_counts = refl;
      survives = (refl, refl);
      still = refl;
      still_counts = refl;
      changed = (refl, refl);
      load_refused = refl;
      stopped = refl;
    }

-- the theorem at this list and this call
pub applied : (engaged_at reached first category plain_day 20 + ceded_of told first category plain_day 20 ≡ loaded_of told first category plain_day 20 + acquired_of told first category plain_day 20)
    × (engaged_at (step reached next).ledger first category plain_day 20 ≡ engaged_at reached first category plain_day 20)
unfolding told reached
applied =
    ((demand3 calls).engaged first category plain_day 20 met.asked, (demand3 calls).frozen next first category plain_day 20 met.asked met.no_longer_counts)
