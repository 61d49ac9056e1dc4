-- From a day number back to its date: the year by a division, the month by a guess.
use mathlib.Core.Path.{◌≡◌, refl, sym, ◌∙◌, ap}
use mathlib.Core.Bool.{Bool, true, false, cond, ◌&&◌}
use Prim.Native.Nat.{ℕ, suc, ◌+◌, ◌-◌, ◌*◌, ◌/◌, ◌<◌, ◌≤◌}
use native.Mathlib.Omega.{arith}
use lib.Dec.{T, leb, ltb, eqb, leb→le, ltb→lt, eqb→eq}
use borrow.Author.Tests.{le-leb, lt-leb, lt-ltb}
use Rattle.calendar.specs.Dates.{year_count, day_count, leap_days, month_length, date, before_year, before_month, InMonth, number}
use Rattle.calendar.specs.declared.dates.Date.{Date}
use Rattle.lists.specs.Tests.{all_below}
use Rattle.lists.proofs.Below.{below, within, T-left, T-right}
use Rattle.calendar.proofs.Counting.{at, There, leaps, date_number}

-- of these hundred years every fourth is a leap year, the first one too
fourth : ℕ → Bool
fourth y = eqb (before_year y) ((1461 * y + 3) / 4)

pub year_starts : (y : ℕ) → y < 101 → before_year y ≡ (1461 * y + 3) / 4
unfolding fourth before_year leap_days
year_starts y h = eqb→eq (before_year y) ((1461 * y + 3) / 4) (below fourth 101 tt y h)

abbrev year_of : ℕ → ℕ
year_of n = 4 * n / 1461

pub in_year : (n : ℕ) → n < day_count → (before_year (year_of n) ≤ n) × (n < before_year (year_of n) + (365 + leap_days (year_of n)))
unfolding before_year
in_year n h =
    let a = year_starts (year_of n) (omega arith) in
    let b = year_starts (suc (year_of n)) (omega arith) in
    omega arith

-- the month guessed from a day of the year
abbrev pub month_of : ℕ → ℕ → ℕ
month_of l r = cond (leb (before_month l (r / 32 + 1 + 1)) r) (r / 32 + 1 + 1) (r / 32 + 1)

in_month : ℕ → ℕ → ℕ → Bool
in_month l r m =
    (leb 1 m && leb m 12) && (leb (before_month l m) r && ltb r (before_month l m + month_length l m))

guessed : ℕ → ℕ → Bool
guessed l r = cond (ltb r (365 + l)) (in_month l r (month_of l r)) true

computed : T (all_below (λ l. all_below (guessed l) 366) 2)
unfolding guessed in_month before_month month_length
computed = tt

pub month_guessed : (l r : ℕ) → l < 2 → r < 365 + l → InMonth l r (month_of l r)
unfolding guessed in_month
month_guessed l r hl hr =
    let t : T (guessed l r) = within guessed 2 366 computed l r hl (omega arith) in
    let m = month_of l r in
    let u : T (in_month l r m) = rw (lt-ltb r (365 + l) hr) at t in
    let v = T-left (leb 1 m && leb m 12) (leb (before_month l m) r && ltb r (before_month l m + month_length l m)) u in
    let w = T-right (leb 1 m && leb m 12) (leb (before_month l m) r && ltb r (before_month l m + month_length l m)) u in
    record {
      from_january = leb→le 1 m (T-left (leb 1 m) (leb m 12) v);
      to_december = leb→le m 12 (T-right (leb 1 m) (leb m 12) v);
      from_first = leb→le (before_month l m) r (T-left (leb (before_month l m) r) (ltb r (before_month l m + month_length l m)) w);
      to_last = ltb→lt r (before_month l m + month_length l m) (T-right (leb (before_month l m) r) (ltb r (before_month l m + month_length l m)) w);
    }

pub month_later : (l r b : ℕ) → l < 2 → r < 365 + l → b ≡ before_month l (r / 32 + 1 + 1) → b ≤ r → InMonth l r (r / 32 + 1 + 1)
month_later l r b hl hr e h =
    let t : leb (before_month l (r / 32 + 1 + 1)) r ≡ true = le-leb (before_month l (r / 32 + 1 + 1)) r (omega arith) in
    rw t at (month_guessed l r hl hr)

pub month_near : (l r b : ℕ) → l < 2 → r < 365 + l → b ≡ before_month l (r / 32 + 1 + 1) → r < b → InMonth l r (r / 32 + 1)
month_near l r b hl hr e h =
    let t : leb (before_month l (r / 32 + 1 + 1)) r ≡ false = lt-leb (before_month l (r / 32 + 1 + 1)) r (omega arith) in
    rw t at (month_guessed l r hl hr)

-- what is left of a day after the years before it is a day of its year
begun : (n b : ℕ) → n < day_count → b ≡ before_year (year_of n) → b ≤ n
begun n b h e = rw e (in_year n h).0

rest_of : (n b l : ℕ) → n < day_count → b ≡ before_year (year_of n) → l ≡ leap_days (year_of n) → (l < 2) × (n - b < 365 + l)
rest_of n b l h eb el =
    let y = in_year n h in
    let z = leaps (year_of n) in
    (omega arith, omega arith)

-- the date that is so found has the day's number
found : (n b l m s : ℕ) → n < day_count → b ≡ before_year (year_of n) → l ≡ leap_days (year_of n)
    → InMonth l (n - b) m → s ≡ before_month l m → There (at (year_of n) m (n - b - s + 1)) × (number (at (year_of n) m (n - b - s + 1)) ≡ n)
unfolding number
found n b l m s h eb el i es =
    let y = year_of n in
    let a : b ≤ n = begun n b h eb in
    let j : InMonth (leap_days y) (n - b) m = rw el at i in
    let f : s ≡ before_month (leap_days y) m = rw el at es in (
      record {
        year_known = omega arith;
        from_january = j.from_january;
        to_december = j.to_december;
        from_first = omega arith;
        to_last = omega arith;
      },
      omega arith,
    )

-- so it is the date of the day
found_date : (n b l m s : ℕ) → n < day_count → b ≡ before_year (year_of n) → l ≡ leap_days (year_of n)
    → InMonth l (n - b) m → s ≡ before_month l m → at (year_of n) m (n - b - s + 1) ≡ date n
found_date n b l m s h eb el i es =
    let f = found n b l m s h eb el i es in
    sym (date_number (at (year_of n) m (n - b - s + 1)) f.0) ∙ ap date f.1

-- the date of a day has the day's number, and its year is found by a division
pub record Dated (n : ℕ) : Type 0 where
  pub there : There (date n)
  pub its_number : number (date n) ≡ n
  pub its_year : (date n).year ≡ year_of n

pub number_date : (n : ℕ) → n < day_count → Dated n
number_date n h =
    let y = year_of n in
    let b = before_year y in
    let l = leap_days y in
    let m = month_of l (n - b) in
    let r = rest_of n b l h refl refl in
    let i = month_guessed l (n - b) r.0 r.1 in
    let e = found_date n b l m (before_month l m) h refl refl i refl in
    let f = rw e at (found n b l m (before_month l m) h refl refl i refl) in
    record { there = f.0; its_number = f.1; its_year = sym (ap (λ (x : Date). x.year) e) }

-- ---- what the code finds of a day

pub year_found : (n : ℕ) → n < day_count → (year_of n ≡ (date n).year) × (year_of n < year_count)
year_found n h = (sym (number_date n h).its_year, omega arith)

module _ (n y b : ℕ) (h : n < day_count) (ey : y ≡ (date n).year) (eb : b ≡ before_year y) where
  its_start : b ≡ before_year (year_of n)
  its_start = eb ∙ ap before_year (ey ∙ (number_date n h).its_year)

  its_leaps : (l : ℕ) → l ≡ leap_days y → l ≡ leap_days (year_of n)
  its_leaps l el = el ∙ ap leap_days (ey ∙ (number_date n h).its_year)

  pub year_begun : b ≤ n
  year_begun = begun n b h its_start

  pub rest_of_year : (l : ℕ) → l ≡ leap_days y → n - b < 365 + l
  rest_of_year l el = (rest_of n b l h its_start (its_leaps l el)).1

  pub date_found : (l m s : ℕ) → l ≡ leap_days y → InMonth l (n - b) m → s ≡ before_month l m → at y m (n - b - s + 1) ≡ date n
  date_found l m s el i es =
      ap (λ (k : ℕ). at k m (n - b - s + 1)) (ey ∙ (number_date n h).its_year) ∙ found_date n b l m s h its_start (its_leaps l el) i es
