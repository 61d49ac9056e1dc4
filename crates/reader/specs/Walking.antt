-- How the reader goes through a body: a power by its bytes, a line by its step, and where lines end.
use Rattle.std.specs.Prelude.{◌≡◌, Bool, true, cond, not, ◌&&◌, ◌||◌, List, [], ◌∷◌, ℕ, ◌+◌, ◌-◌, ◌*◌, ◌/◌, ◌%◌, ◌<◌, ◌≤◌, leb, ltb, eqb, length, get_or, take, drop}
use Rattle.lists.specs.Searches.{every, same}
use Rattle.lists.specs.Digits.{digit_value}
use Rattle.calendar.specs.Steps.{plain_steps}
use Rattle.calendar.specs.Labels.{turn_of}
use Rattle.notification.specs.Reading.{has_labels, rest_of, power_value, is_power}
use Rattle.std.specs.Prelude.{Option, Some, None, Result, Ok, Err}
use Rattle.reader.specs.declared.tally.StepFault.{StepFault}
use Rattle.reader.specs.declared.tally.StepFault.TheVariants.{NoLabels, NoPower}

-- a text begins with another
unfoldable pub starts_with : List ℕ → List ℕ → Bool
starts_with t s = same (take (length t) s) t

-- the power and `;` that five bytes begin with: one digit, or up to four that begin with no 0
unfoldable pub leading_power : ℕ → ℕ → ℕ → ℕ → ℕ → Option (ℕ × ℕ)
leading_power a b c d e =
    let two = digit_value a * 10 + digit_value b in
    let three = two * 10 + digit_value c in
    cond (ltb 9 (digit_value a)) None
    (cond (eqb b 59) (Some (digit_value a, 2))
    (cond (ltb 9 (digit_value b)) None
    (cond (eqb (digit_value a) 0) None
    (cond (eqb c 59) (Some (two, 3))
    (cond (ltb 9 (digit_value c)) None
    (cond (eqb d 59) (Some (three, 4))
    (cond (ltb 9 (digit_value d)) None
    (cond (eqb e 59) (Some (three * 10 + digit_value d, 5)) None))))))))

-- what a line says of step k
unfoldable pub line_power : ℕ → ℕ → List ℕ → Result ℕ StepFault
line_power steps k line =
    cond (not (has_labels steps k line)) (Err NoLabels)
    (cond (not (is_power (rest_of steps k line))) (Err NoPower) (Ok (power_value (rest_of steps k line))))

-- A GOOD LINE AT ONCE

-- six bytes as one number
abbrev pub six : ℕ → ℕ → ℕ → ℕ → ℕ → ℕ → ℕ
six a b c d e f = a + 256 * (b + 256 * (c + 256 * (d + 256 * (e + 256 * f))))

-- more than six bytes give
abbrev pub no_mark : ℕ
no_mark = 281474976710656

-- `hh:mm;` of a count of half hours since midnight
abbrev pub time_mark : ℕ → ℕ
time_mark j = six (48 + j / 20) (48 + j / 2 % 10) 58 (48 + j % 2 * 3) 48 59

-- `hh:mm;` of each half hour from 00:00 to 24:00, one after another
unfoldable pub times_text : List ℕ
times_text =
    48 ∷ 48 ∷ 58 ∷ 48 ∷ 48 ∷ 59 ∷ 48 ∷ 48 ∷ 58 ∷ 51 ∷ 48 ∷ 59 ∷ 48 ∷ 49 ∷ 58 ∷ 48 ∷ 48 ∷ 59
    ∷ 48 ∷ 49 ∷ 58 ∷ 51 ∷ 48 ∷ 59 ∷ 48 ∷ 50 ∷ 58 ∷ 48 ∷ 48 ∷ 59 ∷ 48 ∷ 50 ∷ 58 ∷ 51 ∷ 48 ∷ 59
    ∷ 48 ∷ 51 ∷ 58 ∷ 48 ∷ 48 ∷ 59 ∷ 48 ∷ 51 ∷ 58 ∷ 51 ∷ 48 ∷ 59 ∷ 48 ∷ 52 ∷ 58 ∷ 48 ∷ 48 ∷ 59
    ∷ 48 ∷ 52 ∷ 58 ∷ 51 ∷ 48 ∷ 59 ∷ 48 ∷ 53 ∷ 58 ∷ 48 ∷ 48 ∷ 59 ∷ 48 ∷ 53 ∷ 58 ∷ 51 ∷ 48 ∷ 59
    ∷ 48 ∷ 54 ∷ 58 ∷ 48 ∷ 48 ∷ 59 ∷ 48 ∷ 54 ∷ 58 ∷ 51 ∷ 48 ∷ 59 ∷ 48 ∷ 55 ∷ 58 ∷ 48 ∷ 48 ∷ 59
    ∷ 48 ∷ 55 ∷ 58 ∷ 51 ∷ 48 ∷ 59 ∷ 48 ∷ 56 ∷ 58 ∷ 48 ∷ 48 ∷ 59 ∷ 48 ∷ 56 ∷ 58 ∷ 51 ∷ 48 ∷ 59
    ∷ 48 ∷ 57 ∷ 58 ∷ 48 ∷ 48 ∷ 59 ∷ 48 ∷ 57 ∷ 58 ∷ 51 ∷ 48 ∷ 59 ∷ 49 ∷ 48 ∷ 58 ∷ 48 ∷ 48 ∷ 59
    ∷ 49 ∷ 48 ∷ 58 ∷ 51 ∷ 48 ∷ 59 ∷ 49 ∷ 49 ∷ 58 ∷ 48 ∷ 48 ∷ 59 ∷ 49 ∷ 49 ∷ 58 ∷ 51 ∷ 48 ∷ 59
    ∷ 49 ∷ 50 ∷ 58 ∷ 48 ∷ 48 ∷ 59 ∷ 49 ∷ 50 ∷ 58 ∷ 51 ∷ 48 ∷ 59 ∷ 49 ∷ 51 ∷ 58 ∷ 48 ∷ 48 ∷ 59
    ∷ 49 ∷ 51 ∷ 58 ∷ 51 ∷ 48 ∷ 59 ∷ 49 ∷ 52 ∷ 58 ∷ 48 ∷ 48 ∷ 59 ∷ 49 ∷ 52 ∷ 58 ∷ 51 ∷ 48 ∷ 59
    ∷ 49 ∷ 53 ∷ 58 ∷ 48 ∷ 48 ∷ 59 ∷ 49 ∷ 53 ∷ 58 ∷ 51 ∷ 48 ∷ 59 ∷ 49 ∷ 54 ∷ 58 ∷ 48 ∷ 48 ∷ 59
    ∷ 49 ∷ 54 ∷ 58 ∷ 51 ∷ 48 ∷ 59 ∷ 49 ∷ 55 ∷ 58 ∷ 48 ∷ 48 ∷ 59 ∷ 49 ∷ 55 ∷ 58 ∷ 51 ∷ 48 ∷ 59
    ∷ 49 ∷ 56 ∷ 58 ∷ 48 ∷ 48 ∷ 59 ∷ 49 ∷ 56 ∷ 58 ∷ 51 ∷ 48 ∷ 59 ∷ 49 ∷ 57 ∷ 58 ∷ 48 ∷ 48 ∷ 59
    ∷ 49 ∷ 57 ∷ 58 ∷ 51 ∷ 48 ∷ 59 ∷ 50 ∷ 48 ∷ 58 ∷ 48 ∷ 48 ∷ 59 ∷ 50 ∷ 48 ∷ 58 ∷ 51 ∷ 48 ∷ 59
    ∷ 50 ∷ 49 ∷ 58 ∷ 48 ∷ 48 ∷ 59 ∷ 50 ∷ 49 ∷ 58 ∷ 51 ∷ 48 ∷ 59 ∷ 50 ∷ 50 ∷ 58 ∷ 48 ∷ 48 ∷ 59
    ∷ 50 ∷ 50 ∷ 58 ∷ 51 ∷ 48 ∷ 59 ∷ 50 ∷ 51 ∷ 58 ∷ 48 ∷ 48 ∷ 59 ∷ 50 ∷ 51 ∷ 58 ∷ 51 ∷ 48 ∷ 59
    ∷ 50 ∷ 52 ∷ 58 ∷ 48 ∷ 48 ∷ 59 ∷ []

-- six bytes at a place as one number
abbrev pub six_at : List ℕ → ℕ → ℕ
six_at s i = six (get_or s i 0) (get_or s (i + 1) 0) (get_or s (i + 2) 0) (get_or s (i + 3) 0) (get_or s (i + 4) 0) (get_or s (i + 5) 0)

-- four bytes at a place as one number
abbrev pub four_at : List ℕ → ℕ → ℕ
four_at s i = get_or s i 0 + 256 * (get_or s (i + 1) 0 + 256 * (get_or s (i + 2) 0 + 256 * get_or s (i + 3) 0))

-- the half hours since midnight that a boundary between steps is labelled with
unfoldable pub half_hours : ℕ → ℕ → ℕ
half_hours steps at = cond (ltb at (turn_of steps)) at (at + plain_steps - steps)

-- a boundary's label and `;` as one number, where the time doesn't stand again
unfoldable pub mark_of : ℕ → ℕ → ℕ
mark_of steps at = cond (leb (turn_of steps) at && ltb (half_hours steps at) (turn_of steps)) no_mark (time_mark (half_hours steps at))

-- from boundary k to boundary r the labels go on by half hours, and none of them stands again
pub record Plain (steps k r : ℕ) : Type 0 where
  pub within : r ≤ steps
  pub marks : (i : ℕ) → k ≤ i → i ≤ r → mark_of steps i ≡ time_mark (half_hours steps k + (i - k))
  pub small : half_hours steps k + (r - k) < 49

-- six bytes begin with a power, `;` and LF, which end a line of n bytes
pub record TailAt (a b c d e f v n : ℕ) : Type 0 where
  pub power : Some (v, n - 13) ≡ leading_power a b c d e
  pub break : get_or (a ∷ b ∷ c ∷ d ∷ e ∷ f ∷ []) (n - 13) 0 ≡ 10
  pub more : 15 ≤ n
  pub few : n ≤ 18

-- what is said of six bytes
abbrev pub TailSays : ℕ → ℕ → ℕ → ℕ → ℕ → ℕ → Option (ℕ × ℕ) → Type 0
TailSays a b c d e f (Some (v, n)) = TailAt a b c d e f v n
TailSays a b c d e f None = Unit {0}

-- at a place stand two marks, a power and `;`, and LF: n bytes
pub record LineAt (s : List ℕ) (at from until v n : ℕ) : Type 0 where
  pub bytes : (i : ℕ) → get_or s i 0 < 256
  pub first : six_at s at ≡ from
  pub second : six_at s (at + 6) ≡ until
  pub power : Some (v, n - 13) ≡ leading_power (get_or s (at + 12) 0) (get_or s (at + 12 + 1) 0) (get_or s (at + 12 + 2) 0) (get_or s (at + 12 + 3) 0) (get_or s (at + 12 + 4) 0)
  pub break : get_or s (at + n - 1) 0 ≡ 10
  pub more : 13 ≤ n
  pub within : at + n ≤ length s

-- what is said of a place
abbrev pub LineSays : List ℕ → ℕ → ℕ → ℕ → Option (ℕ × ℕ) → Type 0
LineSays s at from until (Some (v, n)) = LineAt s at from until v n
LineSays s at from until None = Unit {0}

-- WHERE LINES END

-- the line that begins at a place of a text ends at r: at the next LF, or at the end of the text
pub record LineEnd (s : List ℕ) (from r : ℕ) : Type 0 where
  pub after : from ≤ r
  pub within : r ≤ length s
  pub no_break : every (λ b. not (eqb b 10)) (take (r - from) (drop from s)) ≡ true
  pub a_break : r < length s → get_or s r 0 ≡ 10

-- how many bytes the whole lines of a text are: up to its last LF
unfoldable pub whole_to : List ℕ → ℕ
whole_to [] = 0
whole_to (b ∷ s) = cond (eqb b 10 || ltb 0 (whole_to s)) (whole_to s + 1) 0

-- the unfinished line, which is what stands after them
abbrev pub rest_in : List ℕ → List ℕ
rest_in s = drop (whole_to s) s
