-- An object damaged in each way that the documents name, and what each damage is refused by: 42, 5 to 8, 43, and the step at fault.
use Rattle.std.specs.Prelude.{Err, Ok}
use Rattle.refusals.specs.Tests.{Verdict, pass, verdict}
use mathlib.Core.Path.{◌≡◌, refl}
use mathlib.Core.List.{List, [], ◌∷◌, ◌++◌}
use Prim.Native.Nat.{ℕ, ◌+◌, ◌-◌, ◌*◌}
use Prim.Native.String.{String}
use lib.ListN.{take, drop, set, replicate}
use Rattle.lists.specs.Searches.{same, first_from}
use Rattle.calendar.specs.Dates.{date, tomorrow, number, valid, month_length, leap_days, before_year, before_month}
use Rattle.calendar.specs.Texts.{text_of, day_of, pair_of}
use Rattle.calendar.specs.Steps.{steps_of, last_sunday}
use Rattle.calendar.specs.Labels.{label_of}
use Rattle.refusals.specs.declared.Refusal.TheVariants.{Input}
use Rattle.refusals.specs.declared.InputRefusal.TheVariants.{Lines, Labels, Power, Zeros, Object, Origin}
use Rattle.notification.specs.Forms.{is_code, is_category, category_text, digits, in_places, all_zero}
use Rattle.notification.specs.Reading.{power_value_from, is_power}
use Rattle.request.specs.Tokens.{quoted, tokens_from, joined, fits}
use Rattle.request.specs.Moments.{in_time, moment_text, moment_in, is_moment_text, is_day_text}
use Rattle.request.specs.Objects.{further, parted, step_of, series_of, object_of}
use Rattle.request.specs.Writing.{hour_label, steps_for, object_tokens, object_text}
use Rattle.request.specs.Reading.{is_object, steps_in, steps_read, day_read, has_labels, first_bad, powers_of, object_tests, request_in, read_object, read_from}
use Rattle.request.specs.declared.Request.{Request}
use Rattle.request.proofs.Examples.{text, submitted, powers}

-- the guide's powers on 28 January 2000
abbrev request : Request
request = submitted 27 48 powers

abbrev the_tokens : List (List ℕ)
the_tokens = object_tokens request

-- the place of a token among those of step k, counted from 1
abbrev from : ℕ → ℕ
from k = 21 + 14 * k

abbrev until : ℕ → ℕ
until k = 25 + 14 * k

abbrev power : ℕ → ℕ
power k = 29 + 14 * k

-- another token in a place, or another quoted text; one more in front of a place; some fewer from a place on
abbrev with : ℕ → String → List (List ℕ) → List (List ℕ)
with place t ts = set ts place (text t)

abbrev quoting : ℕ → String → List (List ℕ) → List (List ℕ)
quoting place t ts = set ts place (quoted (text t))

abbrev more : ℕ → String → List (List ℕ) → List (List ℕ)
more place t ts = take place ts ++ text t ∷ drop place ts

abbrev fewer : ℕ → ℕ → List (List ℕ) → List (List ℕ)
fewer place n ts = take place ts ++ drop (place + n) ts

-- every kind of blank in front of each token
abbrev spaced : List (List ℕ) → List ℕ
spaced [] = text " \t\r\n"
spaced (t ∷ ts) = text " \t\r\n" ++ (t ++ spaced ts)

-- what a text comes to, and what tokens do without blanks
abbrev its_verdict : List ℕ → Verdict
its_verdict s = verdict (read_object s)

abbrev answer : List (List ℕ) → Verdict
answer ts = its_verdict (joined ts)

-- what an object comes to that an actor files
abbrev filed : String → Request → Verdict
filed actor r = verdict (read_from (text actor) (object_text r))

-- "Blanks, tabs, CR and LF may stand between tokens and around the object"; "at most 8,192 bytes"
pub record Blanks : Type 0 where
  pub all_kinds : read_object (spaced the_tokens) ≡ Ok request
  pub bytes_8192 : read_object (replicate (8192 - 2481) 32 ++ object_text request) ≡ Ok request
  pub bytes_8193 : its_verdict (replicate (8193 - 2481) 32 ++ object_text request) ≡ Err (Input Object 0)
  pub bytes_after : its_verdict (object_text request ++ replicate (8193 - 2481) 10) ≡ Err (Input Object 0)

-- 42, "isn't such an object apart from step count, labels and powers"
pub record NoObject : Type 0 where
  pub empty : (its_verdict [] ≡ Err (Input Object 0)) × (its_verdict (text "{}") ≡ Err (Input Object 0))
  pub cut_short : (answer (fewer 704 1 the_tokens) ≡ Err (Input Object 0)) × (answer (more 705 "}" the_tokens) ≡ Err (Input Object 0))
  pub last_comma : (answer (more 703 "," the_tokens) ≡ Err (Input Object 0)) × (answer (more 704 "," the_tokens) ≡ Err (Input Object 0))
  pub no_comma : (answer (fewer 45 1 the_tokens) ≡ Err (Input Object 0)) × (answer (fewer 4 1 the_tokens) ≡ Err (Input Object 0))
  -- "eight members in the table's order, with the names of a step spelled as in its example"
  pub exchanged : answer (quoting 1 "CodeEicActeurAcquereur" (quoting 5 "CodeEicActeurCedant" the_tokens)) ≡ Err (Input Object 0)
  pub step_exchanged : answer (quoting 33 "Fin" (quoting 37 "Debut" the_tokens)) ≡ Err (Input Object 0)
  pub one_fewer : answer (fewer 25 4 the_tokens) ≡ Err (Input Object 0)
  pub lower_case : answer (quoting 33 "debut" the_tokens) ≡ Err (Input Object 0)
  -- a blank inside a name, inside a number
  pub blank_in_name : answer (quoting 1 "CodeEicActeurCedant " the_tokens) ≡ Err (Input Object 0)
  pub blank-in-number :
      (answer (with (power 5) "1 2" the_tokens) ≡ Err (Input Object 0))
      × (answer (with (power 5) "1\n2" the_tokens) ≡ Err (Input Object 0))
  -- "The three codes and the category have the forms of document 01"; "Statut is "C""
  pub wrong_code : answer (quoting 3 "17x100A100R00000" the_tokens) ≡ Err (Input Object 0)
  pub wrong_origin : answer (quoting 11 "17X100A100R0000" the_tokens) ≡ Err (Input Object 0)
  pub wrong_category : answer (quoting 15 "09120D" the_tokens) ≡ Err (Input Object 0)
  pub wrong_status : answer (quoting 27 "A" the_tokens) ≡ Err (Input Object 0)
  -- "with a date of document 01 and a time from 00:00:00 to 23:59:59; .. and its time is 00:00:00"
  pub no_date : answer (quoting 19 "2000-01-32T00:00:00Z" the_tokens) ≡ Err (Input Object 0)
  pub not_midnight : answer (quoting 19 "2000-01-28T00:00:01Z" the_tokens) ≡ Err (Input Object 0)
  pub no_time : answer (quoting 23 "2000-01-25T24:00:00Z" the_tokens) ≡ Err (Input Object 0)
  pub no_zone : answer (quoting 23 "2000-01-25T07:00:00" the_tokens) ≡ Err (Input Object 0)
  -- "a label is any quoted text without quote, backslash or byte below 32, and a power is any run of one or more digits"
  pub no_label :
      (answer (quoting (from 1) "00\\h00" the_tokens) ≡ Err (Input Object 0))
      × (answer (quoting (until 1) "00h30\t" the_tokens) ≡ Err (Input Object 0))
      × (answer (with (from 1) "0" the_tokens) ≡ Err (Input Object 0))
  pub no_power :
      (answer (with (power 1) "-1" the_tokens) ≡ Err (Input Object 0))
      × (answer (with (power 1) "1.0" the_tokens) ≡ Err (Input Object 0))
      × (answer (quoting (power 1) "1" the_tokens) ≡ Err (Input Object 0))
      × (answer (with (power 1) "" the_tokens) ≡ Err (Input Object 0))
  -- before 5: a comma too many, and a step too few
  pub object_first : answer (more 689 "," (fewer 689 14 the_tokens)) ≡ Err (Input Object 0)

-- "with 5 to 8 following, and the place of 6 and 7 the step counted from 1; 43 when the origin member isn't the submitter, next after 8"
pub record Faults : Type 0 where
  pub one_step_fewer : (answer (fewer 689 14 the_tokens) ≡ Err (Input Lines 0)) × (answer (fewer 32 14 the_tokens) ≡ Err (Input Lines 0))
  pub one_step_more : answer (take 46 the_tokens ++ drop 32 the_tokens) ≡ Err (Input Lines 0)
  pub no_step : answer (fewer 32 671 the_tokens) ≡ Err (Input Lines 0)
  -- 6: the first step, the third, the end of the last; an empty label, one with a blank or with the file's colon
  pub wrong-labels :
      (answer (quoting (from 1) "00h30" the_tokens) ≡ Err (Input Labels 1))
      × (answer (quoting (until 3) "02h00" the_tokens) ≡ Err (Input Labels 3))
      × (answer (quoting (until 48) "24h00" the_tokens) ≡ Err (Input Labels 48))
  pub any-label :
      (answer (quoting (from 1) "" the_tokens) ≡ Err (Input Labels 1))
      × (answer (quoting (from 1) "00h00 " the_tokens) ≡ Err (Input Labels 1))
      × (answer (quoting (from 1) "00:00" the_tokens) ≡ Err (Input Labels 1))
  -- 7: a needless zero, a power above 9,999
  pub wrong-powers :
      (answer (with (power 1) "00" the_tokens) ≡ Err (Input Power 1))
      × (answer (with (power 5) "02" the_tokens) ≡ Err (Input Power 5))
      × (answer (with (power 48) "10000" the_tokens) ≡ Err (Input Power 48))
      × (answer (with (power 2) "99999999999999999999" the_tokens) ≡ Err (Input Power 2))
  pub most : answer (with (power 2) "9999" the_tokens) ≡ pass
  -- 6 is tried before 7 at one step, and the first step at fault is named
  pub label_first : answer (with (power 4) "02" (quoting (from 4) "01h00" the_tokens)) ≡ Err (Input Labels 4)
  pub earlier_first : answer (with (power 3) "02" (quoting (from 4) "01h00" the_tokens)) ≡ Err (Input Power 3)
  -- 8, and 7 before it
  pub all_zero_lem : its_verdict (object_text (submitted 27 48 (replicate 50 0))) ≡ Err (Input Zeros 0)
  pub power_first : answer (with (power 9) "00" (object_tokens (submitted 27 48 (replicate 50 0)))) ≡ Err (Input Power 9)
  -- 43, and 8 before it
  pub own_origin : filed "17X100A100R00001" request ≡ pass
  pub other_origin : filed "17X100A100R00000" request ≡ Err (Input Origin 0)
  pub zeros_first : filed "17X100A100R00000" (submitted 27 48 (replicate 50 0)) ≡ Err (Input Zeros 0)

pub blanks : Blanks
unfolding is_code is_category category_text digits in_places all_zero power_value_from is_power same first_from text_of day_of pair_of date tomorrow number valid month_length leap_days before_year before_month steps_of last_sunday label_of tokens_from joined fits in_time moment_text moment_in is_moment_text is_day_text further parted step_of series_of object_of hour_label steps_for object_tokens is_object steps_in steps_read day_read has_labels first_bad powers_of object_tests request_in read_object
blanks =
    record {
      all_kinds = refl;
      bytes_8192 = refl;
      bytes_8193 = refl;
      bytes_after = refl;
    }

pub no_object : NoObject
unfolding is_code is_category category_text digits in_places all_zero power_value_from is_power same first_from text_of day_of pair_of date tomorrow number valid month_length leap_days before_year before_month steps_of last_sunday label_of tokens_from joined fits in_time moment_text moment_in is_moment_text is_day_text further parted step_of series_of object_of hour_label steps_for object_tokens is_object steps_in steps_read day_read has_labels first_bad powers_of object_tests request_in read_object
no_object =
    record {
      empty = (refl, refl);
      cut_short = (refl, refl);
      last_comma = (refl, refl);
      no_comma = (refl, refl);
      exchanged = refl;
      step_exchanged = refl;
      one_fewer = refl;
      lower_case = refl;
      blank_in_name = refl;
      blank-in-number = (refl, refl);
      wrong_code = refl;
      wrong_origin = refl;
      wrong_category = refl;
      wrong_status = refl;
      no_date = refl;
      not_midnight = refl;
      no_time = refl;
      no_zone = refl;
      no_label = (refl, refl, refl);
      no_power = (refl, refl, refl, refl);
      object_first = refl;
    }

pub faults : Faults
unfolding is_code is_category category_text digits in_places all_zero power_value_from is_power same first_from text_of day_of pair_of date tomorrow number valid month_length leap_days before_year before_month steps_of last_sunday label_of tokens_from joined fits in_time moment_text moment_in is_moment_text is_day_text further parted step_of series_of object_of hour_label steps_for object_tokens is_object steps_in steps_read day_read has_labels first_bad powers_of object_tests request_in read_object read_from
faults =
    record {
      one_step_fewer = (refl, refl);
      one_step_more = refl;
      no_step = refl;
      wrong-labels = (refl, refl, refl);
      any-label = (refl, refl, refl);
      wrong-powers = (refl, refl, refl, refl);
      most = refl;
      label_first = refl;
      earlier_first = refl;
      all_zero_lem = refl;
      power_first = refl;
      own_origin = refl;
      other_origin = refl;
      zeros_first = refl;
    }
