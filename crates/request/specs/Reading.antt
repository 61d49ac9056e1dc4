-- How an object is read. Document 02, K3: "42 when the text is over that, or isn't such an object apart from step count, labels and powers,
-- in the place of 1 to 4, with 5 to 8 following, and the place of 6 and 7 the step counted from 1; 43 when the origin member isn't the
-- submitter, next after 8".
use Rattle.std.specs.Prelude.{Bool, cond, not, ◌&&◌, List, [], ◌∷◌, ◌++◌, ℕ, zero, suc, ◌+◌, ◌-◌, ◌/◌, leb, ltb, eqb, length, get_or, drop, replicate, Result, Ok, Err}
use Rattle.lists.specs.Searches.{every, same, first_from}
use Rattle.calendar.specs.Steps.{steps_of}
use Rattle.refusals.specs.Tests.{Test, input, first_met, decide}
use Rattle.refusals.specs.declared.Refusal.{Refusal}
use Rattle.refusals.specs.declared.Refusal.TheVariants.{Input}
use Rattle.refusals.specs.declared.InputRefusal.TheVariants.{Object, Lines, Labels, Power, Zeros, Origin}
use Rattle.notification.specs.Forms.{is_digit, is_code, is_category, six_bytes, in_places, all_zero}
use Rattle.notification.specs.Reading.{power_value, is_power, blank}
use Rattle.request.specs.Tokens.{quote, quoted, inside, tokens, fits, is, quoted_by}
use Rattle.request.specs.Moments.{moment_in, is_moment_text, is_day_text}
use Rattle.request.specs.Objects.{Values, Step, object_of}
use Rattle.request.specs.Writing.{hour_label, object_most}
use Rattle.request.specs.declared.Request.{Request}

-- SUCH AN OBJECT

-- "a label is any quoted text without quote, backslash or byte below 32"
abbrev pub is_label_byte : ℕ → Bool
is_label_byte b = leb 32 b && not (eqb b quote) && not (eqb b 92)

-- "a power is any run of one or more digits"
abbrev pub is_run : List ℕ → Bool
is_run t = ltb 0 (length t) && every is_digit t

-- "The three codes and the category have the forms of document 01": what each value has to be
abbrev pub value_tests : Values (List ℕ → Bool)
value_tests =
    record {
      ceder = quoted_by is_code;
      acquirer = quoted_by is_code;
      origin = quoted_by is_code;
      category = quoted_by is_category;
      day = quoted_by is_day_text;
      submitted = quoted_by is_moment_text;
    }

abbrev pub step_test : Step (List ℕ → Bool)
step_test = record { from = quoted_by (every is_label_byte); until = quoted_by (every is_label_byte); power = is_run }

-- the tokens before the first step, and those of a step with the comma after it
abbrev pub head_tokens : ℕ
head_tokens = 32

abbrev pub step_tokens : ℕ
step_tokens = 14

-- how many steps so many tokens are: the last step has no comma, and two tokens close the object
abbrev pub step_count : List (List ℕ) → ℕ
step_count ts = (length ts - suc head_tokens) / step_tokens

-- "such an object apart from step count, labels and powers"
unfoldable pub is_object : List (List ℕ) → Bool
is_object ts = fits (object_of is value_tests (replicate (step_count ts) step_test)) ts

-- WHAT IT SAYS, by the places of its tokens

-- what stands between the quotes of a token
abbrev pub text_at : ℕ → List (List ℕ) → List ℕ
text_at i ts = inside (get_or ts i [])

unfoldable pub steps_in : ℕ → List (List ℕ) → List (Step (List ℕ))
steps_in zero ts = []
steps_in (suc n) ts =
    record { from = get_or ts 3 []; until = get_or ts 7 []; power = get_or ts 11 [] } ∷ steps_in n (drop step_tokens ts)

unfoldable pub steps_read : List (List ℕ) → List (Step (List ℕ))
steps_read ts = steps_in (step_count ts) (drop head_tokens ts)

unfoldable pub day_read : List (List ℕ) → ℕ
day_read ts = (moment_in (text_at 19 ts)).day

-- A STEP

-- "Labels are `hhhmm`": those of step k
unfoldable pub has_labels : ℕ → ℕ → Step (List ℕ) → Bool
has_labels steps k s = same s.from (quoted (hour_label steps k)) && same s.until (quoted (hour_label steps (suc k)))

-- the digits of its power as they stand in a file, where `;` ends them
abbrev pub ended : Step (List ℕ) → List ℕ
ended s = s.power ++ 59 ∷ []

abbrev pub no_step : Step (List ℕ)
no_step = record { from = []; until = []; power = [] }

abbrev pub bad_step : ℕ → List (Step (List ℕ)) → ℕ → Bool
bad_step steps ss k = not (has_labels steps k (get_or ss k no_step) && is_power (ended (get_or ss k no_step)))

-- the first bad step, or their number
unfoldable pub first_bad : ℕ → List (Step (List ℕ)) → ℕ
first_bad steps ss = first_from (bad_step steps ss) 0 (length ss)

-- 6 is tried before 7; "the place of 6 and 7 the step counted from 1"
abbrev pub step_refusal : ℕ → List (Step (List ℕ)) → ℕ → Refusal
step_refusal steps ss k = cond (not (has_labels steps k (get_or ss k no_step))) (Input Labels (k + 1)) (Input Power (k + 1))

unfoldable pub powers_of : List (Step (List ℕ)) → List ℕ
powers_of [] = []
powers_of (s ∷ ss) = power_value (ended s) ∷ powers_of ss

-- THE TESTS, 42 AND 5 TO 8 IN THEIR ORDER

unfoldable pub object_tests : List ℕ → List Test
object_tests s =
    let ts = tokens s in
    let steps = steps_of (day_read ts) in
    let ss = steps_read ts in
    (not (leb (length s) object_most && is_object ts), input Object)
    ∷ (not (eqb (length ss) steps), input Lines)
    ∷ (ltb (first_bad steps ss) (length ss), step_refusal steps ss (first_bad steps ss))
    ∷ (all_zero (powers_of ss), input Zeros)
    ∷ []

-- the request that an object without a fault gives
unfoldable pub request_in : List (List ℕ) → Request
request_in ts =
    record {
      notification =
          record {
            key =
                record {
                  ceder = text_at 3 ts;
                  acquirer = text_at 7 ts;
                  category = six_bytes (text_at 15 ts);
                  day = day_read ts;
                };
            steps = steps_of (day_read ts);
            powers = in_places (powers_of (steps_read ts));
          };
      origin = text_at 11 ts;
      moment = moment_in (text_at 23 ts);
    }

-- what stands beside a refusal
abbrev pub blank_request : Request
blank_request = record { notification = blank; origin = replicate 16 0; moment = record { day = 0; second = 0 } }

-- the request that a reading gives; a blank one where it is refused
abbrev pub request_of : Result Request Refusal → Request
request_of (Ok r) = r
request_of (Err f) = blank_request

-- WHAT READING AN OBJECT COMES TO
unfoldable pub read_object : List ℕ → Result Request Refusal
read_object s = decide (first_met (object_tests s)) (Ok (request_in (tokens s))) Err

-- "43 when the origin member isn't the submitter, next after 8": what the object that a submitter files is read as
unfoldable pub read_from : (submitter : List ℕ) → List ℕ → Result Request Refusal
read_from submitter s =
    decide (first_met (object_tests s ++ (not (same (text_at 11 (tokens s)) submitter), input Origin) ∷ []))
    (Ok (request_in (tokens s))) Err
