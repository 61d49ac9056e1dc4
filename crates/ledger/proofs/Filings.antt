-- Each refusal of a filing met in a computed answer, with its near miss accepted (document 01, "Refusals that come from the state"). 28,
-- 34 and 35 are in Examples.antt.
use Rattle.std.specs.Prelude.{Err, Ok}
use mathlib.Core.Path.{◌≡◌, refl}
use mathlib.Core.List.{List, [], ◌∷◌, ◌++◌}
use Prim.Native.Nat.{ℕ}
use lib.ListN.{replicate}
use Rattle.lists.specs.Searches.{same, place_of, first_from}
use Rattle.calendar.specs.Dates.{date, tomorrow, number, valid, month_length, leap_days, before_year, before_month}
use Rattle.calendar.specs.Steps.{steps_of, last_sunday}
use Rattle.calendar.specs.Clocks.{first_counted, replaces_whole, loadable}
use Rattle.refusals.specs.Numbers as Numbers
use Rattle.notification.specs.Forms.{is_code, is_category, category_text, in_places}
use Rattle.notification.specs.declared.Notification.{Notification}
use Rattle.ledger.specs.declared.Entry.TheVariants.{SevenDays}
use Rattle.ledger.specs.Statuses.{created}
use Rattle.ledger.specs.Call.{Answered, enrol_actor, enrol_category, load, advance}
use Rattle.ledger.specs.Ledger.{Ledger, fresh, actor_at, category_at, has_load, loaded, approved, moved, power, acquired, ceded, gained, engagement}
use Rattle.ledger.specs.Filing.{key_of, ceder_below, acquirer_above, ceder_above, acquirer_below, same_powers, pairs, next_id, filed, party_tests, day_tests, load_test, step_tests, place_tests}
use Rattle.ledger.specs.Calls.{with_records, actor_tests, category_tests, load_ranged, load_tests, verdict_of, effect, step_note, step, file_at}
use Rattle.ledger.specs.Asking.{no_record}
use Rattle.ledger.specs.Whole.{after}
use Rattle.ledger.specs.declared.Answer.TheVariants.{Filed}
use Rattle.ledger.proofs.Examples.{eic, first, second, third, category, plain_day, enters, note_with, note, two, three}

-- number and place of a refusal; 0 and 0 where a call is accepted
abbrev pub refusal : Answered → ℕ × ℕ
refusal (Ok y) = (0, 0)
refusal (Err r) = (Numbers.number_of r, Numbers.place_of r)

-- an actor files one power for every step
unfoldable pub files : Ledger → List ℕ → List ℕ → List ℕ → ℕ → ℕ → Answered
files l by ceder acquirer day p = (step_note l SevenDays by (note ceder acquirer day p)).answer

-- the ceder files powers for its exchange with the second actor
unfoldable pub files_powers : Ledger → List ℕ → Answered
files_powers l ps = (step_note l SevenDays first (note_with first second plain_day ps)).answer

-- the first actor with 60 of 100 for a day, the second with 0 of 100, by their contracts; the clock stands at the start of day 10
unfoldable pub contracted : ℕ × ℕ → ℕ × ℕ → ℕ → Ledger
contracted a b day =
    after fresh
    (enrol_category category
    ∷ enrol_actor first a.0 a.1
    ∷ enrol_actor second b.0 b.1
    ∷ load first category day 100 (replicate 48 60)
    ∷ load second category day 100 (replicate 48 0)
    ∷ advance 10 0
    ∷ [])

abbrev whole : ℕ × ℕ
whole = (0, 36524)

abbrev short : ℕ × ℕ
short = (12, 14)

-- what the ceder's filing is answered where it, the acquirer or both have a contract from day 12 to day 14
unfoldable pub in_days : ℕ × ℕ → ℕ × ℕ → ℕ → Answered
in_days a b day = files (contracted a b day) first first second day 40

-- the ceder has 100 at the first ten steps and 30 from there on, the acquirer 0 of 50
unfoldable pub falling : Ledger
falling =
    after fresh
    (enrol_category category
    ∷ enrol_actor first 0 36524
    ∷ enrol_actor second 0 36524
    ∷ load first category plain_day 100 (replicate 10 100 ++ replicate 38 30)
    ∷ load second category plain_day 50 (replicate 48 0)
    ∷ [])

-- so many records of other filings, at a minute from which one step counts
unfoldable pub holding : ℕ → Ledger
holding n = with_records (two plain_day 1379) (replicate n no_record)

-- a notification for a category that nobody enrolled
unfoldable pub other_category : Notification
other_category =
    record { key = record { ceder = first; acquirer = second; category = 49 ∷ 51 ∷ 49 ∷ 50 ∷ 49 ∷ 0 ∷ []; day = plain_day }; steps = 48; powers = in_places (replicate 48 40) }

pub record Filings : Type 0 where
  -- "20, 21: ceder, acquirer not enrolled"
  pub ceder_unknown : refusal (files (two plain_day 0) second third second plain_day 40) ≡ (20, 0)
  pub acquirer_unknown : refusal (files (two plain_day 0) first first third plain_day 40) ≡ (21, 0)
  -- "22: submitter .. not enrolled", before "24: submitter is neither party"
  pub submitter_unknown : refusal (files (two plain_day 0) third first second plain_day 40) ≡ (22, 0)
  -- "23: category not enrolled"
  pub category_unknown : refusal (step_note (two plain_day 0) SevenDays first other_category).answer ≡ (23, 0)
  -- "24: submitter is neither party": ceder and acquirer are accepted
  pub neither_party : refusal (files (three 100) third first second plain_day 40) ≡ (24, 0)
  pub by_ceder : files (three 100) first first second plain_day 40 ≡ Ok (Filed 1 created 0)
  pub by_acquirer : files (three 100) second first second plain_day 40 ≡ Ok (Filed 1 created 0)
  -- "25: ceder is acquirer"
  pub one_actor : refusal (files (two plain_day 0) first first first plain_day 40) ≡ (25, 0)
  -- "26, 27: the day is before the clock's; is more than 7 days after it"
  pub day_before : refusal (in_days whole whole 9) ≡ (26, 0)
  pub day_itself : in_days whole whole 10 ≡ Ok (Filed 1 created 2)
  pub days_7 : in_days whole whole 17 ≡ Ok (Filed 1 created 0)
  pub days_8 : refusal (in_days whole whole 18) ≡ (27, 0)
  -- "29, 30: the day is outside the contract of the acquirer, of the ceder": first and last day are in it
  pub acquirer_before : refusal (in_days whole short 11) ≡ (29, 0)
  pub acquirer_first : in_days whole short 12 ≡ Ok (Filed 1 created 0)
  pub acquirer_last : in_days whole short 14 ≡ Ok (Filed 1 created 0)
  pub acquirer_after : refusal (in_days whole short 15) ≡ (29, 0)
  pub ceder_before : refusal (in_days short whole 11) ≡ (30, 0)
  pub ceder_first : in_days short whole 12 ≡ Ok (Filed 1 created 0)
  pub ceder_last : in_days short whole 14 ≡ Ok (Filed 1 created 0)
  pub ceder_after : refusal (in_days short whole 15) ≡ (30, 0)
  pub both_outside : refusal (in_days short short 15) ≡ (29, 0)
  -- "31: the ceder has no load for the category and day": for another day it has one
  pub no_load : refusal (files (contracted whole whole 12) first first second 13 40) ≡ (31, 0)
  -- "32, 33: ceder below 0; acquirer above its approved power": the ceder has 60, the other acquirer an approved 50
  pub ceder_all : files_powers (three 100) (replicate 48 60) ≡ Ok (Filed 1 created 0)
  pub ceder_below_lem : refusal (files_powers (three 100) (replicate 48 61)) ≡ (32, 0)
  pub ceder_below_at_9 : refusal (files_powers (three 100) (replicate 9 60 ++ replicate 39 61)) ≡ (32, 9)
  pub acquirer_all : files_powers falling (replicate 10 50 ++ replicate 38 30) ≡ Ok (Filed 1 created 0)
  pub acquirer_above_lem : refusal (files_powers falling (replicate 9 50 ++ 51 ∷ replicate 38 30)) ≡ (33, 9)
  -- "Each of the four is tried at all counted steps before the next, and the place is its own": 33 fails at step 3, 32 at step 10
  pub all_steps_first : refusal (files_powers falling (replicate 3 50 ++ replicate 7 51 ++ replicate 38 31)) ≡ (32, 10)
  -- "at every counted step": from step 33 on, and no earlier
  pub uncounted : files_powers (two plain_day 942) (replicate 33 61 ++ replicate 15 60) ≡ Ok (Filed 1 created 33)
  pub counted : refusal (files_powers (two plain_day 942) (replicate 48 61)) ≡ (32, 33)
  -- "36: every place is taken": the 256th record, and one more
  pub record_256 : files (holding 255) first first second plain_day 40 ≡ Ok (Filed 256 created 47)
  pub record_257 : refusal (files (holding 256) first first second plain_day 40) ≡ (36, 0)

pub filings : Filings
unfolding eic enters note_with note two three files files_powers contracted in_days falling holding other_category same place_of first_from date tomorrow number valid month_length leap_days before_year before_month steps_of last_sunday first_counted is_code is_category category_text in_places actor_at category_at has_load loaded approved moved power acquired ceded gained engagement key_of ceder_below acquirer_above ceder_above acquirer_below party_tests day_tests load_test step_tests place_tests same_powers pairs replaces_whole next_id filed actor_tests category_tests load_ranged loadable load_tests verdict_of file_at effect step_note step
filings =
    record {
      ceder_unknown = refl;
      acquirer_unknown = refl;
      submitter_unknown = refl;
      category_unknown = refl;
      neither_party = refl;
      by_ceder = refl;
      by_acquirer = refl;
      one_actor = refl;
      day_before = refl;
      day_itself = refl;
      days_7 = refl;
      days_8 = refl;
      acquirer_before = refl;
      acquirer_first = refl;
      acquirer_last = refl;
      acquirer_after = refl;
      ceder_before = refl;
      ceder_first = refl;
      ceder_last = refl;
      ceder_after = refl;
      both_outside = refl;
      no_load = refl;
      ceder_all = refl;
      ceder_below_lem = refl;
      ceder_below_at_9 = refl;
      acquirer_all = refl;
      acquirer_above_lem = refl;
      all_steps_first = refl;
      uncounted = refl;
      counted = refl;
      record_256 = refl;
      record_257 = refl;
    }
