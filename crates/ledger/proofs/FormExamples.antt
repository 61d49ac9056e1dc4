-- One exchange filed by one party as a file and by the other as an object, then replaced, each party by the other form: it is paired and
-- replaced as if both had filed files. And what an object is refused by that names another origin.
use Rattle.std.specs.Prelude.{Err, Ok}
use mathlib.Core.Path.{◌≡◌, refl}
use mathlib.Core.List.{List, [], ◌∷◌, ◌++◌}
use Prim.Native.Nat.{ℕ}
use Rattle.lists.specs.Searches.{same, place_of, first_from}
use Rattle.calendar.specs.Dates.{date, tomorrow, number, valid, month_length, leap_days, before_year, before_month}
use Rattle.calendar.specs.Steps.{steps_of, last_sunday}
use Rattle.calendar.specs.Texts.{pair_of, text_of, day_of}
use Rattle.calendar.specs.Labels.{label_of}
use Rattle.calendar.specs.Clocks.{first_counted, replaces_whole, loadable}
use Rattle.refusals.specs.declared.Refusal.TheVariants.{Input, State}
use Rattle.refusals.specs.declared.InputRefusal.TheVariants.{Zeros, Origin}
use Rattle.refusals.specs.declared.StateRefusal.TheVariants.{CederUnknown}
use Rattle.notification.specs.Forms.{is_code, is_category, category_text, digits, in_places, all_zero}
use Rattle.notification.specs.Writing.{name_of, header_of, labels_text, lines_of, body_of, formed, ranged}
use Rattle.notification.specs.Reading.{key_in, name_key, header_key, is_name, is_header, lines_in, is_body, head_line, step_lines, has_labels, rest_of, power_value_from, is_power, first_bad, powers_in, file_tests, note_in, read_file}
use Rattle.request.specs.Tokens.{tokens_from, joined, fits}
use Rattle.request.specs.Moments.{in_time, moment_text, moment_in, is_moment_text, is_day_text}
use Rattle.request.specs.Objects.{further, parted, step_of, series_of, object_of}
use Rattle.request.specs.Writing.{hour_label, steps_for, object_tokens, object_text}
use Rattle.request.specs.Reading as Object
use Rattle.request.specs.declared.Request.{Request}
use Rattle.request.specs.Reading.{is_object, steps_in, steps_read, day_read, powers_of, object_tests, request_in, read_from}
use Rattle.ledger.specs.declared.Entry.TheVariants.{SevenDays}
use Rattle.ledger.specs.Statuses.{created, answered, validated, updated}
use Rattle.ledger.specs.Call.{json, read_form, Call, enrol_category, file, advance}
use Rattle.ledger.specs.Ledger.{Ledger, fresh, actor_at, category_at, has_load, loaded, approved, moved, power, acquired, ceded, gained, engagement}
use Rattle.ledger.specs.Filing.{key_of, ceder_below, acquirer_above, ceder_above, acquirer_below, same_powers, pairs, next_id, filed, party_tests, day_tests, load_test, step_tests, place_tests}
use Rattle.ledger.specs.Calls.{actor_tests, category_tests, load_ranged, load_tests, verdict_of, effect, step_note, step, file_at}
use Rattle.ledger.specs.Asking.{engaged_at}
use Rattle.ledger.specs.Whole.{after, answers_to}
use Rattle.ledger.specs.declared.Answer.TheVariants.{Moved, Filed}
use Rattle.ledger.proofs.Examples.{eic, first, second, category, plain_day, enters, note_with, note}
use Rattle.ledger.proofs.Winter.{spans, pair}
use Rattle.ledger.proofs.Witness.{filing}
use Rattle.ledger.proofs.Forms as Forms

-- the request of the exchange from the first actor to the second, submitted the day before at 07:00:00
unfoldable pub request : (origin : List ℕ) → ℕ → Request
request origin p =
    record { notification = note first second plain_day p; origin = origin; moment = record { day = 0; second = 25200 } }

-- a call that files its object
unfoldable pub sending : (by origin : List ℕ) → ℕ → Call
sending by origin p = file SevenDays by (json (object_text (request origin p)))

-- the ceder has 60 of 100 and the acquirer 0 of 100
unfoldable pub entered : Ledger
entered = after fresh (enrol_category category ∷ enters first plain_day 60 100 ++ enters second plain_day 0 100)

-- the ceder files 40 as a file and the acquirer as an object; at minute 942 of the day both replace it by 31, in the other form
unfoldable pub agreed : Ledger
agreed = after entered (filing first 40 ∷ sending second second 40 ∷ [])

unfoldable pub replacing : List Call
replacing = advance plain_day 942 ∷ sending first first 31 ∷ filing second 31 ∷ []

unfoldable pub replaced : Ledger
replaced = after agreed replacing

pub record EitherForm : Type 0 where
  pub paired : (step (step entered (filing first 40)).ledger (sending second second 40)).answer ≡ Ok (Filed 2 validated 0)
  pub moved_40 : pair agreed 33 ≡ (20, 40)
  pub answers : answers_to agreed replacing ≡ Ok Moved ∷ Ok (Filed 3 created 33) ∷ Ok (Filed 4 validated 33) ∷ []
  pub records : spans replaced ≡ (validated, 33, 48) ∷ (answered, 33, 48) ∷ (updated, 0, 33) ∷ (answered, 0, 48) ∷ []
  pub kept_40 : pair replaced 32 ≡ (20, 40)
  pub moved_31 : pair replaced 33 ≡ (29, 31)

-- 43, after 8 and before 20: of the other party, and where nobody is enrolled
pub record OtherOrigin : Type 0 where
  pub other_origin : (step entered (sending first second 40)).answer ≡ Err (Input Origin 0)
  pub zeros_first : (step entered (sending first second 0)).answer ≡ Err (Input Zeros 0)
  pub origin_first : (step fresh (sending first second 40)).answer ≡ Err (Input Origin 0)
  pub then_unknown : (step fresh (sending second second 40)).answer ≡ Err (State CederUnknown 0)

pub either_form : EitherForm
unfolding request sending entered agreed replacing replaced filing pair spans eic enters note_with note same place_of first_from date tomorrow number valid month_length leap_days before_year before_month steps_of last_sunday first_counted is_code is_category category_text in_places actor_at category_at has_load loaded approved moved power acquired ceded gained engagement key_of ceder_below acquirer_above ceder_above acquirer_below party_tests day_tests load_test step_tests place_tests same_powers pairs replaces_whole next_id filed actor_tests category_tests load_ranged loadable load_tests verdict_of file_at effect step_note step engaged_at pair_of text_of day_of label_of name_of header_of labels_text lines_of body_of formed digits all_zero key_in name_key header_key is_name is_header lines_in is_body head_line step_lines has_labels rest_of power_value_from is_power first_bad powers_in file_tests note_in read_file read_form tokens_from joined fits in_time moment_text moment_in is_moment_text is_day_text further parted step_of series_of object_of hour_label steps_for object_tokens is_object steps_in steps_read day_read Object.has_labels Object.first_bad powers_of object_tests request_in read_from
either_form =
    record {
      paired = refl;
      moved_40 = refl;
      answers = refl;
      records = refl;
      kept_40 = refl;
      moved_31 = refl;
    }

pub other_origin : OtherOrigin
unfolding request sending entered eic enters note_with note same place_of first_from date tomorrow number valid month_length leap_days before_year before_month steps_of last_sunday first_counted is_code is_category category_text in_places actor_at category_at has_load loaded approved moved power acquired ceded gained engagement key_of ceder_below acquirer_above ceder_above acquirer_below party_tests day_tests load_test step_tests place_tests same_powers pairs replaces_whole next_id filed actor_tests category_tests load_ranged loadable load_tests verdict_of file_at effect step_note step engaged_at pair_of text_of day_of label_of name_of header_of labels_text lines_of body_of formed digits all_zero key_in name_key header_key is_name is_header lines_in is_body head_line step_lines has_labels rest_of power_value_from is_power first_bad powers_in file_tests note_in read_file read_form tokens_from joined fits in_time moment_text moment_in is_moment_text is_day_text further parted step_of series_of object_of hour_label steps_for object_tokens is_object steps_in steps_read day_read Object.has_labels Object.first_bad powers_of object_tests request_in read_from
other_origin =
    record {
      other_origin = refl;
      zeros_first = refl;
      origin_first = refl;
      then_unknown = refl;
    }

-- the theorem at this request, of every ledger: its object does what its file does
pub as_a_file : (l : Ledger) → step l (sending second second 40) ≡ step l (filing second 40)
unfolding request sending filing eic note_with note same ranged in_time date tomorrow number valid month_length leap_days before_year before_month steps_of last_sunday is_code is_category category_text formed in_places all_zero
as_a_file l = Forms.either_form l SevenDays (request second 40) refl refl refl
