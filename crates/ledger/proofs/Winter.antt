-- The winter case, run by the definitions: a notification is deleted by its own party, the other party files the deleted
-- powers, and the exchange that comes of it is replaced by powers 9 MW lower. A register that pairs the deleted 40, the
-- nearest record in time with the same powers, would move 40 at the third filing, where the ceder's own word is 31.
use Rattle.std.specs.Prelude.{Ok}
use mathlib.Core.Path.{◌≡◌, refl}
use mathlib.Core.List.{List, [], ◌∷◌, map}
use Prim.Native.Nat.{ℕ, ◌+◌, ◌-◌}
use Rattle.lists.specs.Searches.{same, place_of, first_from}
use Rattle.calendar.specs.Dates.{date, tomorrow, number, valid, month_length, leap_days, before_year, before_month}
use Rattle.calendar.specs.Steps.{steps_of, last_sunday}
use Rattle.calendar.specs.Clocks.{first_counted, replaces_whole, loadable}
use Rattle.notification.specs.Forms.{is_code, is_category, category_text, in_places}
use Rattle.ledger.specs.declared.Entry.TheVariants.{SevenDays}
use Rattle.ledger.specs.Statuses.{created, answered, deleted, validated, updated}
use Rattle.ledger.specs.Call.{advance}
use Rattle.ledger.specs.Ledger.{Ledger, actor_at, category_at, has_load, loaded, approved, moved, power, acquired, ceded, gained, engagement}
use Rattle.ledger.specs.Filing.{key_of, ceder_below, acquirer_above, ceder_above, acquirer_below, same_powers, pairs, next_id, filed, party_tests, day_tests, load_test, step_tests, place_tests}
use Rattle.ledger.specs.Calls.{Outcome, actor_tests, category_tests, load_ranged, load_tests, verdict_of, effect, step_note, step, file_at}
use Rattle.ledger.specs.Asking.{engaged_at}
use Rattle.ledger.specs.declared.Answer.TheVariants.{Filed}
use Rattle.ledger.proofs.Examples as Edge
use Rattle.ledger.proofs.Examples.{eic, first, second, category, plain_day, enters, note_with, note}

-- one party files powers for the exchange from the first actor to the second
unfoldable pub by_first : ℕ → Ledger → Outcome
by_first p l = step_note l SevenDays first (note first second plain_day p)

unfoldable pub by_second : ℕ → Ledger → Outcome
by_second p l = step_note l SevenDays second (note first second plain_day p)

-- the ceder has 60 of 100 and the acquirer 0 of 100; the clock stands on the day, at minute 942
unfoldable pub dawn : Ledger
dawn = Edge.two plain_day 942

-- the ceder files 40, then 31: rule 1 deletes its 40
unfoldable pub one : Outcome
one = by_first 40 dawn

unfoldable pub two : Outcome
two = by_first 31 one.ledger

-- the acquirer files 40: the deleted 40 can't be paired, and 31 has other powers, so it is created (rule 2)
unfoldable pub three : Outcome
three = by_second 40 two.ledger

-- the ceder files 40: its 31 is deleted, the acquirer's 40 is answered, and the exchange is validated
unfoldable pub four : Outcome
four = by_first 40 three.ledger

-- at minute 1068 both replace it by 31: rule 3 ends the 40 at the new from-step
unfoldable pub five : Outcome
five = by_first 31 (step four.ledger (advance plain_day 1068)).ledger

unfoldable pub six : Outcome
six = by_second 31 five.ledger

-- the statuses, from-steps and until-steps of the records, the newest first
unfoldable pub spans : Ledger → List (ℕ × ℕ × ℕ)
spans l = map (λ r. (r.status, r.from, r.until)) l.records

-- the engagements of ceder and acquirer at a step
unfoldable pub pair : Ledger → ℕ → ℕ × ℕ
pair l s = (engaged_at l first category plain_day s, engaged_at l second category plain_day s)

pub record Winter : Type 0 where
  pub filed_40 : one.answer ≡ Ok (Filed 1 created 33)
  -- one's own notification is not an answer to one's own
  pub own_again : (by_first 40 one.ledger).answer ≡ Ok (Filed 2 created 33)
  pub filed_31 : two.answer ≡ Ok (Filed 2 created 33)
  pub deleted_40 : spans two.ledger ≡ (created, 33, 48) ∷ (deleted, 33, 48) ∷ []
  pub not_paired : three.answer ≡ Ok (Filed 3 created 33)
  pub nothing_moved : pair three.ledger 33 ≡ (60, 0)
  pub paired_40 : four.answer ≡ Ok (Filed 4 validated 33)
  pub paired_records : spans four.ledger ≡ (validated, 33, 48) ∷ (answered, 33, 48) ∷ (deleted, 33, 48) ∷ (deleted, 33, 48) ∷ []
  pub moved_40 : pair four.ledger 33 ≡ (20, 40)
  pub again_31 : five.answer ≡ Ok (Filed 5 created 37)
  pub not_yet : pair five.ledger 37 ≡ (20, 40)
  pub replaced_by_31 : six.answer ≡ Ok (Filed 6 validated 37)
  pub replaced_records : spans six.ledger ≡
      (validated, 37, 48) ∷ (answered, 37, 48) ∷ (updated, 33, 37) ∷ (answered, 33, 48) ∷ (deleted, 33, 48) ∷ (deleted, 33, 48) ∷ []
  pub before_neutral_hour : pair six.ledger 32 ≡ (60, 0)
  pub kept_40 : pair six.ledger 36 ≡ (20, 40)
  pub lower_by_9 : pair six.ledger 37 ≡ (20 + 9, 40 - 9)

pub winter : Winter
unfolding eic enters note_with note Edge.two by_first by_second dawn one two three four five six spans pair same place_of first_from date tomorrow number valid month_length leap_days before_year before_month steps_of last_sunday first_counted is_code is_category category_text in_places actor_at category_at has_load loaded approved moved power acquired ceded gained engagement key_of ceder_below acquirer_above ceder_above acquirer_below party_tests day_tests load_test step_tests place_tests same_powers pairs replaces_whole next_id filed actor_tests category_tests load_ranged loadable load_tests verdict_of file_at effect step_note step engaged_at
winter =
    record {
      filed_40 = refl;
      own_again = refl;
      filed_31 = refl;
      deleted_40 = refl;
      not_paired = refl;
      nothing_moved = refl;
      paired_40 = refl;
      paired_records = refl;
      moved_40 = refl;
      again_31 = refl;
      not_yet = refl;
      replaced_by_31 = refl;
      replaced_records = refl;
      before_neutral_hour = refl;
      kept_40 = refl;
      lower_by_9 = refl;
    }
