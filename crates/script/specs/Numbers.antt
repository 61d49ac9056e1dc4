-- Numbers in base ten (document 01: "Numbers are in base ten"; "The script program": "numbers of up to five digits without needless
-- zeros").
use Rattle.std.specs.Prelude.{Bool, cond, not, ◌&&◌, ◌||◌, List, [], ◌∷◌, ◌++◌, ℕ, zero, suc, ◌+◌, ◌-◌, ◌*◌, ◌/◌, leb, ltb, eqb, length, get_or}
use Rattle.lists.specs.Searches.{every}
use Rattle.calendar.specs.Dates.{day_count}
use Rattle.calendar.specs.Texts.{zero_byte, digit, digit_of, day_of}
use Rattle.notification.specs.Reading.{day_number}

-- "up to five digits", and the least number that has more
abbrev pub most_digits : ℕ
most_digits = 5

abbrev pub number_end : ℕ
number_end = 100000

-- "without needless zeros": a single digit, or one that doesn't begin with 0
abbrev pub needed : List ℕ → Bool
needed s = eqb (length s) 1 || not (eqb (get_or s 0 0) zero_byte)

unfoldable pub is_number : List ℕ → Bool
is_number s = leb 1 (length s) && leb (length s) most_digits && needed s && every digit s

-- "in base ten": what digits stand for, after those that stand for v
unfoldable pub value_from : ℕ → List ℕ → ℕ
value_from v [] = v
value_from v (b ∷ s) = value_from (v * 10 + (b - zero_byte)) s

abbrev pub value_of : List ℕ → ℕ
value_of s = value_from 0 s

-- "in base ten": the digits of a number that has at most so many
unfoldable pub decimal_in : ℕ → ℕ → List ℕ
decimal_in zero n = []
decimal_in (suc k) n = cond (ltb n 10) (digit_of n ∷ []) (decimal_in k (n / 10) ++ digit_of n ∷ [])

-- the digits of a number below 2^64, of which there are at most 20
abbrev pub longest : ℕ
longest = 20

abbrev pub decimal : ℕ → List ℕ
decimal n = decimal_in longest n

-- "dates as above": the day of a date, and one past the last day where a text is no date
abbrev pub day_in : List ℕ → ℕ
day_in s = day_number (day_of s)

abbrev pub is_day : List ℕ → Bool
is_day s = ltb (day_in s) day_count
