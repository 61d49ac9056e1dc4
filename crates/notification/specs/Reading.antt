-- How a file is read: the table "Refusals that come from the input" of document 01, row by row.
use Rattle.std.specs.Prelude.{Bool, true, false, cond, not, ◌&&◌, List, [], ◌∷◌, ℕ, suc, ◌+◌, ◌-◌, ◌*◌, leb, ltb, eqb, length, get_or, take, drop, replicate, Result, Ok, Err, None, Option, Some}
use Rattle.lists.specs.Searches.{same, first_from}
use Rattle.calendar.specs.Dates.{day_count}
use Rattle.calendar.specs.Texts.{day_of}
use Rattle.calendar.specs.Steps.{steps_of}
use Rattle.refusals.specs.Tests.{Test, input, first_met, decide}
use Rattle.refusals.specs.declared.Refusal.{Refusal}
use Rattle.refusals.specs.declared.Refusal.TheVariants.{Input}
use Rattle.refusals.specs.declared.InputRefusal.TheVariants.{Name, Body, Header, Differs, Lines, Labels, Power, Zeros}
use Rattle.notification.specs.Forms.{six_bytes, power_end, in_places, places, all_zero}
use Rattle.notification.specs.Writing.{name_of, header_of, labels_text, power_text, formed}
use Rattle.notification.specs.declared.Key.{Key}
use Rattle.notification.specs.declared.Notification.{Notification}

-- THE PARTS OF A NAME AND OF A HEADER

-- the number of the day that eight digits stand for, and one past the last day where they stand for none
abbrev pub day_number : Option ℕ → ℕ
day_number (Some n) = n
day_number None = day_count

-- the key that stands in `ceder.acquirer.date.category`, by the places of its parts
unfoldable pub key_in : List ℕ → Key
key_in s =
    record {
      ceder = take 16 s;
      acquirer = take 16 (drop 17 s);
      category = six_bytes (drop 43 s);
      day = day_number (day_of (take 8 (drop 34 s)));
    }

-- the key of a name, between `NER_` and `.csv`, and of a header, before its last `;`
unfoldable pub name_key : List ℕ → Key
name_key name = key_in (take (length name - 8) (drop 4 name))

unfoldable pub header_key : List ℕ → Key
header_key h = key_in (take (length h - 1) h)

-- each part valid
abbrev pub valid_key : Key → Bool
valid_key k = formed k && ltb k.day day_count

-- a name is of that form: its parts are valid, and it is the name that they give
unfoldable pub is_name : List ℕ → Bool
is_name name = valid_key (name_key name) && same name (name_of (name_key name))

unfoldable pub is_header : List ℕ → Bool
is_header h = valid_key (header_key h) && same h (header_of (header_key h))

-- LINES

-- the lines of a text that ends with LF, each without its LF
abbrev pub onto : Bool → ℕ → List (List ℕ) → List (List ℕ)
onto true b ls = [] ∷ ls
onto false b [] = []
onto false b (l ∷ ls) = (b ∷ l) ∷ ls

unfoldable pub lines_in : List ℕ → List (List ℕ)
lines_in [] = []
lines_in (b ∷ s) = onto (eqb b 10) b (lines_in s)

-- a body is not empty, not too long, and ends with LF
abbrev pub body_most : ℕ
body_most = 4096

unfoldable pub is_body : List ℕ → Bool
is_body body = ltb 0 (length body) && leb (length body) body_most && eqb (get_or body (length body - 1) 0) 10

-- line 1, and the lines after it
unfoldable pub head_line : List ℕ → List ℕ
head_line body = get_or (lines_in body) 0 []

unfoldable pub step_lines : List ℕ → List (List ℕ)
step_lines body = drop 1 (lines_in body)

-- A STEP'S LINE

-- the line begins with its step's two labels, each with its `;`
unfoldable pub has_labels : ℕ → ℕ → List ℕ → Bool
has_labels steps k line = same (take (length (labels_text steps k)) line) (labels_text steps k)

-- the rest of it
unfoldable pub rest_of : ℕ → ℕ → List ℕ → List ℕ
rest_of steps k line = drop (length (labels_text steps k)) line

-- the number that the digits before `;` give
unfoldable pub power_value_from : ℕ → List ℕ → ℕ
power_value_from v [] = v
power_value_from v (b ∷ s) = cond (eqb b 59) v (power_value_from (v * 10 + (b - 48)) s)

abbrev pub power_value : List ℕ → ℕ
power_value s = power_value_from 0 s

-- a power and `;`: the text of the power that it gives
unfoldable pub is_power : List ℕ → Bool
is_power s = ltb (power_value s) power_end && same s (power_text (power_value s))

abbrev pub bad_line : ℕ → List (List ℕ) → ℕ → Bool
bad_line steps ls k = not (has_labels steps k (get_or ls k []) && is_power (rest_of steps k (get_or ls k [])))

-- the first bad line, or their number
unfoldable pub first_bad : ℕ → List (List ℕ) → ℕ
first_bad steps ls = first_from (bad_line steps ls) 0 (length ls)

-- 6 is tried before 7; the place is the line, the header being 1
abbrev pub line_refusal : ℕ → List (List ℕ) → ℕ → Refusal
line_refusal steps ls k = cond (not (has_labels steps k (get_or ls k []))) (Input Labels (k + 2)) (Input Power (k + 2))

-- the powers of the lines from step k on
unfoldable pub powers_in : ℕ → ℕ → List (List ℕ) → List ℕ
powers_in steps k [] = []
powers_in steps k (l ∷ ls) = power_value (rest_of steps k l) ∷ powers_in steps (suc k) ls

-- THE TABLE, 1 TO 8 IN THEIR ORDER

unfoldable pub file_tests : List ℕ → List ℕ → List Test
file_tests name body =
    let key = name_key name in
    let steps = steps_of key.day in
    let ls = step_lines body in
    (not (is_name name), input Name)
    ∷ (not (is_body body), input Body)
    ∷ (not (is_header (head_line body)), Input Header 1)
    ∷ (not (same (head_line body) (header_of key)), Input Differs 1)
    ∷ (not (eqb (length ls) steps), input Lines)
    ∷ (ltb (first_bad steps ls) (length ls), line_refusal steps ls (first_bad steps ls))
    ∷ (all_zero (powers_in steps 0 ls), input Zeros)
    ∷ []

-- the notification that a file without a fault gives
unfoldable pub note_in : List ℕ → List ℕ → Notification
note_in name body =
    let key = name_key name in
    record {
      key = key;
      steps = steps_of key.day;
      powers = in_places (powers_in (steps_of key.day) 0 (step_lines body));
    }

-- what stands beside a refusal
abbrev pub blank : Notification
blank =
    record {
      key = record { ceder = replicate 16 0; acquirer = replicate 16 0; category = replicate 6 0; day = 0 };
      steps = 0;
      powers = replicate places 0;
    }

-- the notification that a reading gives; a blank one where it is refused
abbrev pub note_of : Result Notification Refusal → Notification
note_of (Ok n) = n
note_of (Err r) = blank

-- WHAT READING A FILE COMES TO
unfoldable pub read_file : List ℕ → List ℕ → Result Notification Refusal
read_file name body = decide (first_met (file_tests name body)) (Ok (note_in name body)) Err
