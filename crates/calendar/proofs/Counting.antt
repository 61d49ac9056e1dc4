-- Counting the days one by one arrives at each date at its day number: in a month day by day, in a year month by month,
-- and from year to year.
use mathlib.Core.Path.{◌≡◌, refl, ap}
use mathlib.Core.Bool.{Bool, true, false, cond}
use Prim.Native.Nat.{ℕ, zero, suc, ◌+◌, ◌-◌, ◌<◌, ◌≤◌}
use native.Mathlib.Omega.{arith}
use native.Mathlib.Numerals.{add-one}
use native.Mathlib.Nat.{zero-add, suc-add, add-zero}
use lib.Dec.{ltb, ltb→lt, lit<}
use borrow.Author.Tests.{lt-ltb, le-ltb}
use Rattle.calendar.specs.Dates.{year_count, month_count, leap, leap_days, month_length, tomorrow, date, before_year, before_month, number}
use Rattle.calendar.specs.declared.dates.Date.{Date}
use Rattle.lists.proofs.Below.{within}

abbrev pub at : ℕ → ℕ → ℕ → Date
at y m d = record { year = y; month = m; day = d }

abbrev pub long : ℕ → ℕ → ℕ
long y m = month_length (leap_days y) m

next_day : (y m d : ℕ) → d < long y m → tomorrow (at y m d) ≡ at y m (d + 1)
unfolding tomorrow
next_day y m d h = rw (lt-ltb d (long y m) h)

next_month : (y m : ℕ) → m < 12 → tomorrow (at y m (long y m)) ≡ at y (m + 1) 1
unfolding tomorrow
next_month y m h = rw (le-ltb (long y m) (long y m) (omega arith), lt-ltb m 12 h)

next_year : (y : ℕ) → tomorrow (at y 12 (long y 12)) ≡ at (y + 1) 1 1
unfolding tomorrow
next_year y = rw (le-ltb (long y 12) (long y 12) (omega arith))

-- in a month
pub to_day : (y m b : ℕ) → date b ≡ at y m 1 → (j : ℕ) → j < long y m → date (j + b) ≡ at y m (j + 1)
unfolding date
to_day y m b e zero h = rw (zero-add b) e
to_day y m b e (suc j) h =
    let less : j + 1 < long y m = omega arith in
    rw (suc-add j b, to_day y m b e j (omega arith), next_day y m (j + 1) less)
    (ap (at y m) (omega arith))

-- to the last day of a month
last_day : (y m b : ℕ) → date b ≡ at y m 1 → 0 < long y m → date (b + long y m) ≡ tomorrow (at y m (long y m))
unfolding date
last_day y m b e h =
    let i : b + long y m ≡ suc (long y m - 1 + b) = omega arith in
    let d : long y m - 1 + 1 ≡ long y m = omega arith in
    rw (i, to_day y m b e (long y m - 1) (omega arith), d)

one_or_none : (b : Bool) → cond b 1 0 < 2
one_or_none true = lit< tt
one_or_none false = lit< tt

pub leaps : (y : ℕ) → leap_days y < 2
unfolding leap_days
leaps y = one_or_none (leap (2000 + y))

-- every month has a day
peopled : ℕ → ℕ → Bool
peopled l m = ltb 0 (month_length l (suc m))

some : (y m : ℕ) → m < 12 → 0 < long y (suc m)
unfolding peopled month_length
some y m h = ltb→lt 0 (long y (suc m)) (within peopled 2 12 tt (leap_days y) m (leaps y) h)

-- in a year
pub to_month : (y b : ℕ) → date b ≡ at y 1 1 → (m : ℕ) → m < 12 → date (b + before_month (leap_days y) (suc m)) ≡ at y (suc m) 1
unfolding before_month month_length
to_month y b e zero h = rw (add-zero b) e
to_month y b e (suc m) h =
    let c = b + before_month (leap_days y) (suc m) in
    let i : b + (before_month (leap_days y) (suc m) + long y (suc m)) ≡ c + long y (suc m) = omega arith in
    rw (i, last_day y (suc m) c (to_month y b e m (omega arith)) (some y m (omega arith)), next_month y (suc m) h, add-one (suc m))

-- the months fill the year
whole : (l : ℕ) → before_month l 12 + month_length l 12 ≡ 365 + l
unfolding before_month month_length
whole l = omega arith

-- from year to year
pub to_year : (y : ℕ) → date (before_year y) ≡ at y 1 1
unfolding before_year date
to_year zero = refl
to_year (suc y) =
    let c = before_year y + before_month (leap_days y) 12 in
    let i : before_year y + (365 + leap_days y) ≡ c + long y 12 = omega (arith, whole (leap_days y)) in
    rw (i, last_day y 12 c (to_month y (before_year y) (to_year y) 11 (lit< tt)) (some y 11 (lit< tt)), next_year y, add-one y)

-- a date that there is
pub record There (x : Date) : Type 0 where
  pub year_known : x.year < year_count
  pub from_january : 1 ≤ x.month
  pub to_december : x.month ≤ month_count
  pub from_first : 1 ≤ x.day
  pub to_last : x.day ≤ long x.year x.month

arrives : (y m j : ℕ) → m < 12 → j < long y (suc m) → date (before_year y + before_month (leap_days y) (suc m) + j) ≡ at y (suc m) (j + 1)
arrives y m j h l =
    let b = before_year y + before_month (leap_days y) (suc m) in
    let i : b + j ≡ j + b = omega arith in
    rw i (to_day y (suc m) b (to_month y (before_year y) (to_year y) m h) j l)

-- counting as many days as a date's number arrives at the date
pub date_number : (x : Date) → There x → date (number x) ≡ x
unfolding number
date_number x h =
    let m : suc (x.month - 1) ≡ x.month = omega arith in
    let d : x.day - 1 + 1 ≡ x.day = omega arith in
    let l : x.day - 1 < long x.year (suc (x.month - 1)) = rw m (omega arith) in
    rw (m, d) at (arrives x.year (x.month - 1) (x.day - 1) (omega arith) l)
