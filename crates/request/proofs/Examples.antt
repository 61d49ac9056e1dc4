-- The guide's example made whole: its text, and what reading it comes to; the labels of short and long days; requests to write.
use Rattle.std.specs.Prelude.{Err, Ok}
use mathlib.Core.Path.{◌≡◌, refl}
use mathlib.Core.List.{List, [], ◌∷◌, ◌++◌}
use Prim.Native.Nat.{ℕ, zero, suc, ◌-◌}
use Prim.Native.Char.{code}
use Prim.Native.String.{String}
use lib.ListN.{length, take, drop, replicate}
use Rattle.lists.specs.Searches.{same, first_from}
use Rattle.calendar.specs.Dates.{date, tomorrow, number, valid, month_length, leap_days, before_year, before_month}
use Rattle.calendar.specs.Texts.{text_of, day_of, pair_of}
use Rattle.calendar.specs.Steps.{steps_of, last_sunday}
use Rattle.calendar.specs.Labels.{label_of}
use Rattle.refusals.specs.declared.Refusal.TheVariants.{Input, State}
use Rattle.refusals.specs.declared.InputRefusal.TheVariants.{Zeros, Form, Range}
use Rattle.refusals.specs.declared.StateRefusal.TheVariants.{Full}
use Rattle.notification.specs.Forms.{is_code, is_category, category_text, digits, in_places, all_zero}
use Rattle.notification.specs.Writing.{formed, ranged}
use Rattle.notification.specs.Reading.{power_value_from, is_power}
use Rattle.request.specs.Tokens.{tokens_from, joined, fits}
use Rattle.request.specs.Moments.{in_time, moment_text, moment_in, is_moment_text, is_day_text}
use Rattle.request.specs.Objects.{further, parted, step_of, series_of, object_of}
use Rattle.request.specs.Writing.{hour_label, steps_for, object_tokens, object_text, request_verdict, request_answer}
use Rattle.request.specs.Reading.{is_object, steps_in, steps_read, day_read, has_labels, first_bad, powers_of, object_tests, request_in, read_object}
use Rattle.request.specs.declared.Moment.{Moment}
use Rattle.request.specs.declared.Request.{Request}

-- the bytes of a text
abbrev pub text : String → List ℕ
text Prim.Native.String.[] = []
text (Prim.Native.String.◌∷◌ c s) = code c ∷ text s

-- a request of the guide's actors and category
abbrev pub request : (day steps : ℕ) (powers : List ℕ) (origin : String) → Moment → Request
request day steps powers origin moment =
    record {
      notification =
          record {
            key =
                record {
                  ceder = text "17X100A100R00000";
                  acquirer = text "17X100A100R00001";
                  category = text "09120" ++ 0 ∷ [];
                  day = day;
                };
            steps = steps;
            powers = powers;
          };
      origin = text origin;
      moment = moment;
    }

-- the acquirer submits it three days before its day, at 07:00:00
abbrev pub submitted : (day steps : ℕ) (powers : List ℕ) → Request
submitted day steps powers = request day steps powers "17X100A100R00001" (record { day = day - 3; second = 25200 })

-- the guide's powers, and its day, which is 28 April 2020
abbrev pub powers : List ℕ
powers = 0 ∷ 0 ∷ 10 ∷ 10 ∷ 12 ∷ replicate 45 0

abbrev guide : Request
guide = submitted 7423 48 powers

-- 26 March 2000 is a short day, 29 October 2000 a long one
abbrev short : Request
short = submitted 85 46 powers

abbrev long : Request
long = submitted 302 50 (replicate 50 9999)

-- the labels of so many boundaries from one on
abbrev labels : (steps from count : ℕ) → List (List ℕ)
labels steps from zero = []
labels steps from (suc n) = hour_label steps from ∷ labels steps (suc from) n

pub record Examples : Type 0 where
  pub written : take 361 (object_text guide) ≡
      text "{\"CodeEicActeurCedant\":\"17X100A100R00000\",\"CodeEicActeurAcquereur\":\"17X100A100R00001\","
      ++ text "\"CodeEicActeurOrigine\":\"17X100A100R00001\",\"NomCategorieEngagement\":\"09120\","
      ++ text "\"DateExploitation\":\"2020-04-28T00:00:00Z\",\"DateSoumission\":\"2020-04-25T07:00:00Z\",\"Statut\":\"C\",\"Chronique\":["
      ++ text "{\"Debut\":\"00h00\",\"Fin\":\"00h30\",\"Puissance\":0},{\"Debut\":\"00h30\",\"Fin\":\"01h00\",\"Puissance\":0},"
  pub its_end : drop 2434 (object_text guide) ≡ text "{\"Debut\":\"23h30\",\"Fin\":\"00h00\",\"Puissance\":0}]}"
  pub its_length : length (object_text guide) ≡ 2481
  pub read_back : read_object (object_text guide) ≡ Ok guide
  pub short_day_lem : read_object (object_text short) ≡ Ok short
  pub long_day_lem : read_object (object_text long) ≡ Ok long
  -- "On a short day step 3 is 01:30;03:00"; "On a long day steps 4 to 9 are ..": with an h, and the day ends with 00h00
  pub short_labels : (labels 46 3 3 ≡ text "01h30" ∷ text "03h00" ∷ text "03h30" ∷ []) × (labels 46 45 2 ≡ text "23h30" ∷ text "00h00" ∷ [])
  pub long_labels : labels 50 4 7 ≡ text "02h00" ∷ text "02h30" ∷ text "03h00" ∷ text "02h30_BIS" ∷ text "03h00_BIS" ∷ text "03h30" ∷ text "04h00" ∷ []
  pub long_end : (labels 50 49 2 ≡ text "23h30" ∷ text "00h00" ∷ []) × (labels 48 47 2 ≡ text "23h30" ∷ text "00h00" ∷ [])

-- A REQUEST TO WRITE "refuses as the file's writer does, with the origin's form under 9 and the moment's range under 10": 9, 10, 8, 36
pub record Writer : Type 0 where
  pub wrong_origin : request_answer (request 27 48 (replicate 50 0) "17x100A100R00001" (record { day = 24; second = 86400 })) 0 ≡ Err (Input Form 0)
  pub wrong_second : request_answer (request 27 48 (replicate 50 0) "17X100A100R00001" (record { day = 24; second = 86400 })) 0 ≡ Err (Input Range 0)
  pub wrong_day : request_answer (request 27 48 (replicate 50 0) "17X100A100R00001" (record { day = 36525; second = 0 })) 0 ≡ Err (Input Range 0)
  pub wrong_count : request_answer (submitted 27 47 (replicate 50 0)) 0 ≡ Err (Input Range 0)
  pub all_zero_lem : request_answer (submitted 27 48 (replicate 50 0)) 0 ≡ Err (Input Zeros 0)
  -- the lent buffer: one byte short, and as long as the text
  pub too_short : request_answer (submitted 27 48 powers) 2480 ≡ Err (State Full 0)
  pub exact : request_answer (submitted 27 48 powers) 2481 ≡ Ok 2481
  pub last_second : request_answer (request 27 48 powers "17X100A100R00001" (record { day = 24; second = 86399 })) 2481 ≡ Ok 2481

pub examples : Examples
unfolding is_code is_category category_text digits in_places all_zero formed ranged power_value_from is_power same first_from text_of day_of pair_of date tomorrow number valid month_length leap_days before_year before_month steps_of last_sunday label_of tokens_from joined fits in_time moment_text moment_in is_moment_text is_day_text further parted step_of series_of object_of hour_label steps_for object_tokens is_object steps_in steps_read day_read has_labels first_bad powers_of object_tests request_in read_object
examples =
    record {
      written = refl;
      its_end = refl;
      its_length = refl;
      read_back = refl;
      short_day_lem = refl;
      long_day_lem = refl;
      short_labels = (refl, refl);
      long_labels = refl;
      long_end = (refl, refl);
    }

pub writer : Writer
unfolding is_code is_category category_text digits in_places all_zero formed ranged power_value_from is_power same first_from text_of day_of pair_of date tomorrow number valid month_length leap_days before_year before_month steps_of last_sunday label_of tokens_from joined fits in_time moment_text moment_in is_moment_text is_day_text further parted step_of series_of object_of hour_label steps_for object_tokens is_object steps_in steps_read day_read has_labels first_bad powers_of object_tests request_in read_object request_verdict request_answer
writer =
    record {
      wrong_origin = refl;
      wrong_second = refl;
      wrong_day = refl;
      wrong_count = refl;
      all_zero_lem = refl;
      too_short = refl;
      exact = refl;
      last_second = refl;
    }
