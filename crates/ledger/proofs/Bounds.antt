-- Each refusal of enrolling, loading and advancing met in a computed answer, with its near miss accepted (document 01, "The ledger",
-- "Refusals that come from the input", "Refusals that come from the state").
use Rattle.std.specs.Prelude.{Ok}
use mathlib.Core.Path.{◌≡◌, refl}
use mathlib.Core.List.{List, [], ◌∷◌, ◌++◌}
use Prim.Native.Nat.{ℕ}
use lib.ListN.{replicate}
use Rattle.lists.specs.Searches.{same, place_of}
use Rattle.calendar.specs.Dates.{date, tomorrow, number, valid, month_length, leap_days, before_year, before_month}
use Rattle.calendar.specs.Steps.{steps_of, last_sunday}
use Rattle.notification.specs.Forms.{is_code, is_category, in_places}
use Rattle.calendar.specs.Clocks.{first_counted, loadable}
use Rattle.ledger.specs.Call.{Answered, Call, enrol_actor, enrol_category, load, advance}
use Rattle.ledger.specs.Ledger.{Ledger, actor_at, category_at, has_load}
use Rattle.ledger.specs.Filing.{nobody}
use Rattle.ledger.specs.Calls.{moment, actor_tests, category_tests, load_ranged, load_tests, verdict_of, effect, step}
use Rattle.ledger.specs.declared.Answer.TheVariants.{Moved, Held}
use Rattle.ledger.proofs.Examples.{eic, first, second, category, plain_day, short_day, long_day}
use Rattle.ledger.proofs.Filings.{refusal}

-- a category that nobody enrolled, and one with the C
unfoldable pub other : List ℕ
other = 49 ∷ 51 ∷ 49 ∷ 50 ∷ 49 ∷ []

unfoldable pub with_c : List ℕ
with_c = category ++ 67 ∷ []

-- so many actors and categories besides the first actor and the category, and so many loads besides one of the first actor for day 3; the
-- clock stands at minute 600 of day 1
unfoldable pub holding : ℕ → ℕ → ℕ → Ledger
holding actors categories loads =
    record {
      clock = moment plain_day 600;
      actors = record { code = first; first = 0; last = 36524 } ∷ replicate actors nobody;
      categories = category ∷ replicate categories [];
      loads =
          record { actor = 0; category = 0; day = 3; approved = 100; powers = replicate 50 0 }
          ∷ replicate loads (record { actor = 0; category = 0; day = 1; approved = 100; powers = replicate 50 0 });
      records = [];
    }

unfoldable pub one : Ledger
one = holding 0 0 0

-- the same at a later minute of the day
unfoldable pub later : ℕ → Ledger
later minute = (step one (advance plain_day minute)).ledger

-- a call's answer, and number and place of its refusal
unfoldable pub answer : Ledger → Call → Answered
answer l c = (step l c).answer

abbrev refused : Ledger → Call → ℕ × ℕ
refused l c = refusal (answer l c)

-- the first actor's load for a day: the approved power, how many powers, and each of them
unfoldable pub loads : ℕ → ℕ → ℕ → ℕ → Call
loads day most steps p = load first category day most (replicate steps p)

pub record Bounds : Type 0 where
  -- "Places: 8 actors, 4 categories, 64 loads"; "36: every place is taken"
  pub actor_8 : answer (holding 6 0 0) (enrol_actor second 0 36524) ≡ Ok (Held 8)
  pub actor_9 : refused (holding 7 0 0) (enrol_actor second 0 36524) ≡ (36, 0)
  pub category_4 : answer (holding 0 2 0) (enrol_category other) ≡ Ok (Held 4)
  pub category_5 : refused (holding 0 3 0) (enrol_category other) ≡ (36, 0)
  pub load_64 : answer (holding 0 0 62) (loads 2 100 48 50) ≡ Ok (Held 64)
  pub load_65 : refused (holding 0 0 63) (loads 2 100 48 50) ≡ (36, 0)
  -- "37: actor, category or load is there already", before 36
  pub actor_there : refused (holding 7 0 0) (enrol_actor first 0 36524) ≡ (37, 0)
  pub category_there : refused (holding 0 3 0) (enrol_category category) ≡ (37, 0)
  pub load_there : refused (holding 0 0 63) (loads 3 100 48 50) ≡ (37, 0)
  -- "9: a code or category to enrol .. has a wrong form"
  pub wrong_code : refused one (enrol_actor (eic 48 97) 0 36524) ≡ (9, 0)
  pub wrong_category : refused one (enrol_category (category ++ 68 ∷ [])) ≡ (9, 0)
  pub right_category : answer one (enrol_category with_c) ≡ Ok (Held 2)
  -- "10: a day .. is outside its range, a contract ends before it begins"
  pub one_day : answer one (enrol_actor second 36524 36524) ≡ Ok (Held 2)
  pub day_outside : refused one (enrol_actor second 36524 36525) ≡ (10, 0)
  pub ends_before : refused one (enrol_actor second 5 4) ≡ (10, 0)
  -- "10: .. a power is outside its range, a load .. has the wrong count of steps, a load has a power above the approved one"
  pub most_power : answer one (loads 2 9999 48 9999) ≡ Ok (Held 2)
  pub power_outside : refused one (loads 2 10000 48 50) ≡ (10, 0)
  pub load_day_outside : refused one (loads 36525 100 48 50) ≡ (10, 0)
  pub steps_47 : refused one (loads 2 100 47 50) ≡ (10, 0)
  pub steps_49 : refused one (loads 2 100 49 50) ≡ (10, 0)
  pub short_day_lem : (answer one (loads short_day 100 46 50) ≡ Ok (Held 2)) × (refused one (loads short_day 100 48 50) ≡ (10, 0))
  pub long_day_lem : (answer one (loads long_day 100 50 50) ≡ Ok (Held 2)) × (refused one (loads long_day 100 48 50) ≡ (10, 0))
  pub above_approved : refused one (loads 2 49 48 50) ≡ (10, 0)
  -- "22: .. the actor named in another call, not enrolled"; "23: category not enrolled"
  pub actor_unknown : refused one (load second category 2 100 (replicate 48 50)) ≡ (22, 0)
  pub category_unknown : refused one (load first other 2 100 (replicate 48 50)) ≡ (23, 0)
  -- "39: the load's day isn't after the clock's": the next day is
  pub clocks_day : refused one (loads 1 100 48 50) ≡ (39, 0)
  pub next_day : answer one (loads 2 100 48 50) ≡ Ok (Held 2)
  -- K2: "A load for the next day is refused with 39 when that day's first counted step isn't 0": not before the last half hour, and not
  -- the day after
  pub last_half_hour : (answer (later 1409) (loads 2 100 48 50) ≡ Ok (Held 2)) × (refused (later 1410) (loads 2 100 48 50) ≡ (39, 0))
  pub further_day : answer (later 1410) (loads 4 100 48 50) ≡ Ok (Held 2)
  pub loaded_day : refused (later 1410) (loads 3 100 48 50) ≡ (37, 0)
  -- "advance the clock (the same moment is accepted)"; "38: the clock would go back"
  pub same_moment : answer one (advance 1 600) ≡ Ok Moved
  pub minute_before : refused one (advance 1 599) ≡ (38, 0)
  pub day_before : refused one (advance 0 1439) ≡ (38, 0)
  -- "an elapsed minute below 30 times the day's steps"
  pub last_minute : (answer one (advance 1 1439) ≡ Ok Moved) × (answer one (advance 36524 1439) ≡ Ok Moved)
  pub no_minute : refused one (advance 1 1440) ≡ (10, 0)
  pub no_day : refused one (advance 36525 0) ≡ (10, 0)

pub bounds : Bounds
unfolding eic other with_c holding one later answer loads same place_of date tomorrow number valid month_length leap_days before_year before_month steps_of last_sunday is_code is_category in_places actor_at category_at has_load actor_tests category_tests load_ranged first_counted loadable load_tests verdict_of effect step
bounds =
    record {
      actor_8 = refl;
      actor_9 = refl;
      category_4 = refl;
      category_5 = refl;
      load_64 = refl;
      load_65 = refl;
      actor_there = refl;
      category_there = refl;
      load_there = refl;
      wrong_code = refl;
      wrong_category = refl;
      right_category = refl;
      one_day = refl;
      day_outside = refl;
      ends_before = refl;
      most_power = refl;
      power_outside = refl;
      load_day_outside = refl;
      steps_47 = refl;
      steps_49 = refl;
      short_day_lem = (refl, refl);
      long_day_lem = (refl, refl);
      above_approved = refl;
      actor_unknown = refl;
      category_unknown = refl;
      clocks_day = refl;
      next_day = refl;
      last_half_hour = (refl, refl);
      further_day = refl;
      loaded_day = refl;
      same_moment = refl;
      minute_before = refl;
      day_before = refl;
      last_minute = (refl, refl);
      no_minute = refl;
      no_day = refl;
    }
