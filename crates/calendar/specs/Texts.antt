-- The eight digits of a date. Document 01, "Days and steps": "A date is eight digits, year month day".
use Rattle.std.specs.Prelude.{Bool, cond, ◌&&◌, List, [], ◌∷◌, ℕ, ◌+◌, ◌-◌, ◌*◌, ◌/◌, ◌%◌, leb, ltb, eqb, length, get_or, None, Option, Some}
use Rattle.calendar.specs.Dates.{day_count, date, number, valid}
use Rattle.calendar.specs.declared.dates.Date.{Date}

-- "digits": the bytes of 0 and 9
abbrev pub zero_byte : ℕ
zero_byte = 48

abbrev pub nine_byte : ℕ
nine_byte = 57

-- "digits": the last digit of a number, as a byte
abbrev pub digit_of : ℕ → ℕ
digit_of n = zero_byte + n % 10

-- "digits": the two digits of a number below 100
abbrev pub tens : ℕ → ℕ
tens n = digit_of (n / 10)

abbrev pub ones : ℕ → ℕ
ones n = digit_of n

-- "20000101 to 20991231": the century of every date
abbrev pub century : ℕ
century = 20

-- "year month day": the century, the year in it, the month and the day
abbrev pub date_text : Date → List ℕ
date_text x =
    tens century ∷ ones century ∷ tens x.year ∷ ones x.year ∷ tens x.month ∷ ones x.month ∷ tens x.day ∷ ones x.day ∷ []

-- "eight digits": the text of a day; a number that is no day gives eight bytes of 0, which are no digits
unfoldable pub text_of : ℕ → List ℕ
text_of day = cond (ltb day day_count) (date_text (date day)) (0 ∷ 0 ∷ 0 ∷ 0 ∷ 0 ∷ 0 ∷ 0 ∷ 0 ∷ [])

-- "digits": whether a byte is one
abbrev pub digit : ℕ → Bool
digit b = leb zero_byte b && leb b nine_byte

-- "digits": two bytes as a number below 100, and 100 where they are no digits
unfoldable pub pair_of : ℕ → ℕ → ℕ
pair_of a b = cond (digit a && digit b) (10 * (a - zero_byte) + (b - zero_byte)) 100

-- "year month day": what the last six of eight bytes say
abbrev pub read_date : List ℕ → Date
read_date s =
    record {
      year = pair_of (get_or s 2 0) (get_or s 3 0);
      month = pair_of (get_or s 4 0) (get_or s 5 0);
      day = pair_of (get_or s 6 0) (get_or s 7 0);
    }

-- "20000101 to 20991231": the day of a date in a century, or that there is none such
abbrev pub day_at : ℕ → Date → Option ℕ
day_at c x = cond (eqb c century && valid x) (Some (number x)) None

-- "A date is eight digits", "Its day number": the day that a text stands for, or that it stands for none
unfoldable pub day_of : List ℕ → Option ℕ
day_of s = cond (eqb (length s) 8) (day_at (pair_of (get_or s 0 0) (get_or s 1 0)) (read_date s)) None
