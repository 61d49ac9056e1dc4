-- Dates and day numbers. Document 01, "Days and steps": "A date is eight digits, year month day, Gregorian, 20000101 to
-- 20991231. Its day number counts from 0 for 20000101, a Saturday, to 36524."
use Rattle.std.specs.Prelude.{Bool, not, cond, ◌&&◌, ◌||◌, List, [], ◌∷◌, ℕ, zero, suc, ◌+◌, ◌-◌, ◌%◌, ◌≤◌, ◌<◌, leb, ltb, eqb, get_or}
use Rattle.calendar.specs.declared.dates.Date.{Date}

-- "20000101 to 20991231": the first year, and how many years there are
abbrev pub first_year : ℕ
first_year = 2000

abbrev pub year_count : ℕ
year_count = 100

-- "from 0 .. to 36524": how many days there are
abbrev pub day_count : ℕ
day_count = 36525

abbrev pub month_count : ℕ
month_count = 12

-- "Gregorian": every fourth year is a leap year, but of the full hundreds only every fourth
abbrev pub leap : ℕ → Bool
leap year = eqb (year % 4) 0 && (not (eqb (year % 100) 0) || eqb (year % 400) 0)

-- "Gregorian": the days that February has above 28; a year is counted from 0 for the first one
unfoldable pub leap_days : ℕ → ℕ
leap_days year = cond (leap (first_year + year)) 1 0

-- "Gregorian": the months' lengths, from 1 for January, in a year with so many leap days
abbrev pub month_lengths : ℕ → List ℕ
month_lengths leaps = 0 ∷ 31 ∷ (28 + leaps) ∷ 31 ∷ 30 ∷ 31 ∷ 30 ∷ 31 ∷ 31 ∷ 30 ∷ 31 ∷ 30 ∷ 31 ∷ []

unfoldable pub month_length : ℕ → ℕ → ℕ
month_length leaps month = get_or (month_lengths leaps) month 0

-- "Gregorian": the day after is in the month, else the first of the next month, else of the next year
unfoldable pub tomorrow : Date → Date
tomorrow x =
    cond (ltb x.day (month_length (leap_days x.year) x.month))
    (record { year = x.year; month = x.month; day = x.day + 1 })
    (cond (ltb x.month month_count)
    (record { year = x.year; month = x.month + 1; day = 1 })
    (record { year = x.year + 1; month = 1; day = 1 }))

-- "counts from 0 for 20000101": the date of a day, by counting tomorrows
unfoldable pub date : ℕ → Date
date zero = record { year = 0; month = 1; day = 1 }
date (suc n) = tomorrow (date n)

-- "Its day number": the days of the years before a year
unfoldable pub before_year : ℕ → ℕ
before_year zero = 0
before_year (suc y) = before_year y + (365 + leap_days y)

-- "Its day number": the days of a year's months before a month
unfoldable pub before_month : ℕ → ℕ → ℕ
before_month leaps zero = 0
before_month leaps (suc m) = before_month leaps m + month_length leaps m

-- "Its day number": the days of the years, of the months and of the month before a date
unfoldable pub number : Date → ℕ
number x = before_year x.year + before_month (leap_days x.year) x.month + (x.day - 1)

-- "Gregorian, 20000101 to 20991231": whether there is such a date
unfoldable pub valid : Date → Bool
valid x =
    ltb x.year year_count
    && ((leb 1 x.month && leb x.month month_count)
    && (leb 1 x.day && leb x.day (month_length (leap_days x.year) x.month)))

-- what finding a date's month by a guess comes to: a day of the year, counted from 0, is in the month
pub record InMonth (leaps rest month : ℕ) : Type 0 where
  pub from_january : 1 ≤ month
  pub to_december : month ≤ month_count
  pub from_first : before_month leaps month ≤ rest
  pub to_last : rest < before_month leaps month + month_length leaps month
