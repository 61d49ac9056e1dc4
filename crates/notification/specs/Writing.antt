-- Name and body of a notification as they are written (document 01, "The notification file").
use Rattle.refusals.specs.declared.Refusal.{Refusal}
use Rattle.notification.specs.declared.FileLengths.{FileLengths}
use Rattle.std.specs.Prelude.{◌≡◌, Bool, not, ◌&&◌, ◌||◌, List, [], ◌∷◌, ◌++◌, ℕ, suc, ltb, eqb, length, take, drop, Result, Ok, Err}
use Rattle.lists.specs.Searches.{every}
use Rattle.calendar.specs.Dates.{day_count}
use Rattle.calendar.specs.Texts.{text_of}
use Rattle.calendar.specs.Steps.{steps_of}
use Rattle.calendar.specs.Labels.{label_of}
use Rattle.refusals.specs.Tests.{Test, input, state, first_met, decide, Verdict, pass}
use Rattle.refusals.specs.declared.InputRefusal.TheVariants.{Form, Range, Zeros}
use Rattle.refusals.specs.declared.StateRefusal.TheVariants.{Full}
use Rattle.notification.specs.Forms.{is_code, is_category, category_text, power_end, digits, places, all_zero}
use Rattle.notification.specs.declared.Key.{Key}
use Rattle.notification.specs.declared.Notification.{Notification}

-- ceder, acquirer, date and category, parted by a byte
abbrev pub key_text : ℕ → Key → List ℕ
key_text by k = k.ceder ++ by ∷ (k.acquirer ++ by ∷ (text_of k.day ++ by ∷ category_text k.category))

-- `NER_ceder_acquirer_date_category.csv`
unfoldable pub name_of : Key → List ℕ
name_of k = 78 ∷ 69 ∷ 82 ∷ 95 ∷ (key_text 95 k ++ 46 ∷ 99 ∷ 115 ∷ 118 ∷ [])

-- `ceder;acquirer;date;category;`
unfoldable pub header_of : Key → List ℕ
header_of k = key_text 59 k ++ 59 ∷ []

-- the label of a boundary between steps, as text
abbrev pub label_text : ℕ → ℕ → List ℕ
label_text steps at = take (label_of steps at).len (label_of steps at).bytes

-- a step's two labels, each with its `;`
unfoldable pub labels_text : ℕ → ℕ → List ℕ
labels_text steps k = label_text steps k ++ 59 ∷ (label_text steps (suc k) ++ 59 ∷ [])

-- a power and `;`
abbrev pub power_text : ℕ → List ℕ
power_text p = digits p ++ 59 ∷ []

-- the lines of the steps from k on, `label;label;power;` each, every line ended by one LF
unfoldable pub lines_of : ℕ → ℕ → List ℕ → List ℕ
lines_of steps k [] = []
lines_of steps k (p ∷ ps) = labels_text steps k ++ power_text p ++ 10 ∷ lines_of steps (suc k) ps

-- the header, and one line per step
unfoldable pub body_of : Notification → List ℕ
body_of n = header_of n.key ++ 10 ∷ lines_of n.steps 0 (take n.steps n.powers)

-- 9: a code or category has a wrong form
unfoldable pub formed : Key → Bool
formed k = is_code k.ceder && is_code k.acquirer && is_category (category_text k.category)

-- 10: the day, the count of steps or a power is outside its range; a power past the day's steps is
unfoldable pub ranged : Notification → Bool
ranged n =
    ltb n.key.day day_count && eqb n.steps (steps_of n.key.day) &&
    every (λ p. ltb p power_end) n.powers && all_zero (drop n.steps n.powers)

-- what a notification to write is refused by: 9, 10, 8
abbrev pub note_tests : Notification → List Test
note_tests n = (not (formed n.key), input Form) ∷ (not (ranged n), input Range) ∷ (all_zero n.powers, input Zeros) ∷ []

-- and 36, where one of the two lent buffers is too short
abbrev pub too_short : Notification → ℕ → ℕ → Bool
too_short n name body = ltb name (length (name_of n.key)) || ltb body (length (body_of n))

-- what writing comes to, by the lengths of the lent buffers
unfoldable pub write_verdict : Notification → ℕ → ℕ → Verdict
write_verdict n name body = first_met (note_tests n ++ (too_short n name body, state Full) ∷ [])

abbrev pub lengths : ℕ → ℕ → FileLengths
lengths name body = record { name = name; body = body }

unfoldable pub write_answer : Notification → ℕ → ℕ → Result FileLengths Refusal
write_answer n name body =
    decide (write_verdict n name body) (Ok (lengths (length (name_of n.key)) (length (body_of n)))) Err

-- what a lent buffer holds afterwards: the text from its beginning, the rest untouched; all of it untouched after a refusal
unfoldable pub written : Verdict → List ℕ → List ℕ → List ℕ
written v text buffer = decide v (text ++ drop (length text) buffer) (λ r. buffer)

-- WRITING n GIVES THIS NAME AND THIS BODY: the arrays have their places, nothing refuses it, and these are its texts
pub record Writes (n : Notification) (name body : List ℕ) : Type 0 where
  pub six : length n.key.category ≡ 6
  pub fifty : length n.powers ≡ places
  pub passes : first_met (note_tests n) ≡ pass
  pub its_name : name ≡ name_of n.key
  pub its_body : body ≡ body_of n
