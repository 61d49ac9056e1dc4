-- From a date to its day number: the test of a date says that there is one, and the sum that the code makes is the number.
use mathlib.Core.Path.{◌≡◌, sym, subst}
use mathlib.Core.Bool.{Bool, true, ◌&&◌}
use Prim.Native.Nat.{ℕ, suc, ◌+◌, ◌-◌, ◌<◌, ◌≤◌}
use native.Mathlib.Omega.{arith}
use native.Mathlib.Numerals.{add-one}
use lib.Dec.{T, leb, ltb, leb→le, ltb→lt}
use lib.ListN.{get_or-eq_default}
use borrow.Author.Tests.{le-leb, lt-ltb}
use Rattle.calendar.specs.Dates.{year_count, month_count, day_count, leap_days, month_lengths, month_length, before_year, before_month, number, valid}
use Rattle.calendar.specs.declared.dates.Date.{Date}
use Rattle.lists.proofs.Below.{within, T-left, T-right}
use Rattle.calendar.proofs.Counting.{long, There, leaps}
use Rattle.calendar.proofs.Decoding.{year_starts}

-- the parts of a date's number, and the number, are small
ends : ℕ → ℕ → Bool
ends l m = leb (before_month l m + month_length l m) (365 + l)

pub month_ends : (l m : ℕ) → l < 2 → m < 13 → before_month l m + month_length l m ≤ 365 + l
unfolding ends before_month month_length
month_ends l m hl hm = leb→le (before_month l m + month_length l m) (365 + l) (within ends 2 13 tt l m hl hm)

pub number_small : (x : Date) → There x → number x < day_count
unfolding number before_year
number_small x h =
    let y = x.year in
    let e = month_ends (leap_days y) x.month (leaps y) (omega arith) in
    let z = year_starts (suc y) (omega arith) in
    omega arith

-- the length of a month is what the starts of two differ by
pub month_length_lem : (l m a b : ℕ) → a ≡ before_month l (m + 1) → b ≡ before_month l m → (b ≤ a) × (a - b ≡ month_length l m)
unfolding before_month
month_length_lem l m a b ea eb =
    let e : a ≡ before_month l m + month_length l m = rw (add-one m) at ea in
    (omega arith, omega arith)

pub no_month : (l m : ℕ) → month_count < m → month_length l m ≡ 0
unfolding month_length
no_month l m h = get_or-eq_default (month_lengths l) 0 h

-- the test of a date
pub valid_there : (x : Date) → valid x ≡ true → There x
unfolding valid
valid_there x e =
    let t : T (valid x) = subst T (sym e) tt in
    let y = ltb x.year year_count in
    let a = leb 1 x.month in
    let b = leb x.month month_count in
    let f = leb 1 x.day in
    let g = leb x.day (long x.year x.month) in
    let m = T-left (a && b) (f && g) (T-right y ((a && b) && (f && g)) t) in
    let d = T-right (a && b) (f && g) (T-right y ((a && b) && (f && g)) t) in
    record {
      year_known = ltb→lt x.year year_count (T-left y ((a && b) && (f && g)) t);
      from_january = leb→le 1 x.month (T-left a b m);
      to_december = leb→le x.month month_count (T-right a b m);
      from_first = leb→le 1 x.day (T-left f g d);
      to_last = leb→le x.day (long x.year x.month) (T-right f g d);
    }

pub there_valid : (x : Date) → There x → valid x ≡ true
unfolding valid
there_valid x h =
    rw (
      lt-ltb x.year year_count h.year_known,
      le-leb 1 x.month h.from_january,
      le-leb x.month month_count h.to_december,
      le-leb 1 x.day h.from_first,
      le-leb x.day (long x.year x.month) h.to_last,
    )

-- the sum that the code makes
pub number_sum : (x : Date) (b l s : ℕ) → valid x ≡ true → b ≡ before_year x.year → l ≡ leap_days x.year → s ≡ before_month l x.month
    → (1 ≤ x.day) × (b + s + (x.day - 1) ≡ number x) × (number x < day_count)
unfolding number
number_sum x b l s v eb el es =
    let h = valid_there x v in
    let e : s ≡ before_month (leap_days x.year) x.month = rw el at es in
    (h.from_first, omega arith, number_small x h)
