-- The change days: the table follows the rule, and no other day does.
use mathlib.Core.Path.{◌≡◌, refl, sym, ◌∙◌, ap}
use mathlib.Core.Bool.{Bool, true, false, not, cond, ◌&&◌}
use Prim.Native.Nat.{ℕ, ◌+◌, ◌-◌, ◌*◌, ◌/◌, ◌%◌, ◌<◌, ◌≤◌}
use native.Mathlib.Omega.{arith}
use native.Mathlib.Numerals.{add-one}
use lib.Dec.{T, leb, eqb, lit<, lit≤}
use lib.ListN.{get_or}
use borrow.Author.Tests.{leb-true, eqb-true, eqb-false, eq-eqb, ne_eqb, not-true}
use Rattle.calendar.specs.Dates.{year_count, day_count, date, number, month_length, leap_days, before_year, before_month}
use Rattle.calendar.specs.Steps.{sunday, last_sunday, change_days}
use Rattle.calendar.specs.declared.dates.Date.{Date}
use Rattle.lists.specs.Tests.{all_below}
use Rattle.lists.proofs.Tests.{true_of, both_true}
use Rattle.lists.proofs.Below.{below, within}
use Rattle.calendar.proofs.Counting.{at, long, There, leaps, date_number}
use Rattle.calendar.proofs.Decoding.{number_date}

-- the last Sunday of a month of a year: the last day of the month, less the days since its Sunday
abbrev before : ℕ → ℕ
before day = day - (day + 6) % 7

pub last_sunday_of : ℕ → ℕ → ℕ
last_sunday_of y m = before (number (at y m (long y m)))

-- ---- the table

right : ℕ → Bool
right y =
    eqb (get_or change_days (2 * y) 0) (last_sunday_of y 3) && eqb (get_or change_days (2 * y + 1) 0) (last_sunday_of y 10)

computed : T (all_below right 100)
unfolding right change_days last_sunday_of number leap_days month_length before_year before_month
computed = tt

pub table_rule : (y : ℕ) → y < year_count → (get_or change_days (2 * y) 0 ≡ last_sunday_of y 3) × (get_or change_days (2 * y + 1) 0 ≡ last_sunday_of y 10)
unfolding right
table_rule y h =
    let a = eqb (get_or change_days (2 * y) 0) (last_sunday_of y 3) in
    let b = eqb (get_or change_days (2 * y + 1) 0) (last_sunday_of y 10) in
    let t = both_true a b (true_of (a && b) (below right 100 computed y h)) in
    (eqb-true (get_or change_days (2 * y) 0) (last_sunday_of y 3) t.0, eqb-true (get_or change_days (2 * y + 1) 0) (last_sunday_of y 10) t.1)

-- ---- the rule

-- a month that is not the last of its year, by the day before it
abbrev base : ℕ → ℕ → ℕ
base y m = before_year y + before_month (leap_days y) m

wide : ℕ → ℕ → Bool
wide l m = leb 28 (cond (eqb m 0) 28 (month_length l m))

at_least_28 : (l m : ℕ) → l < 2 → 1 ≤ m → m < 13 → 28 ≤ month_length l m
unfolding wide month_length
at_least_28 l m hl h1 h2 =
    let e : eqb m 0 ≡ false = ne_eqb m 0 (λ z. omega arith) in
    let w = leb-true 28 (cond (eqb m 0) 28 (month_length l m)) (true_of (wide l m) (within wide 2 13 tt l m hl h2)) in
    rw e at w

-- two Sundays less than a week apart are one
same_week : (n t : ℕ) → n < t + 7 → t < n + 7 → n % 7 ≡ 1 → t % 7 ≡ 1 → n ≡ t
same_week n t h k en et =
    let a : n ≡ 7 * (n / 7) + 1 = omega arith in
    let b : t ≡ 7 * (t / 7) + 1 = omega arith in
    let c : n / 7 ≤ t / 7 = omega arith in
    let d : t / 7 ≤ n / 7 = omega arith in
    omega arith

module _ (y m : ℕ) (hy : y < year_count) (h1 : 1 ≤ m) (h2 : m < 12) where
  -- a day of the month, and of the next one
  here : (j : ℕ) → j < long y m → date (base y m + j) ≡ at y m (j + 1)
  unfolding number
  here j h =
      let x = at y m (j + 1) in
      let t : There x = record { year_known = hy; from_january = h1; to_december = omega arith; from_first = omega arith; to_last = omega arith } in
      let e : base y m + j ≡ number x = omega arith in
      ap date e ∙ date_number x t

  next : (j : ℕ) → j < 28 → date (base y m + long y m + j) ≡ at y (m + 1) (j + 1)
  unfolding number before_month
  next j h =
      let x = at y (m + 1) (j + 1) in
      let w = at_least_28 (leap_days y) (m + 1) (leaps y) (omega arith) (omega arith) in
      let t : There x = record { year_known = hy; from_january = omega arith; to_december = omega arith; from_first = omega arith; to_last = omega arith } in
      let f : before_month (leap_days y) (m + 1) ≡ before_month (leap_days y) m + long y m = rw (add-one m) in
      let e : base y m + long y m + j ≡ number x = omega arith in
      ap date e ∙ date_number x t

  -- where the last Sunday stands in the month
  placed : (base y m + long y m ≤ last_sunday_of y m + 7) × (last_sunday_of y m < base y m + long y m) × (last_sunday_of y m % 7 ≡ 1) × (base y m ≤ last_sunday_of y m)
  unfolding last_sunday_of number
  placed =
      let w = at_least_28 (leap_days y) m (leaps y) h1 (omega arith) in
      (omega arith, omega arith, omega arith, omega arith)

  -- it is the last Sunday of the month
  is_last : last_sunday m (last_sunday_of y m) ≡ true
  unfolding last_sunday
  is_last =
      let t = last_sunday_of y m in
      let p = placed in
      let e : t ≡ base y m + (t - base y m) = omega arith in
      let f : t + 7 ≡ base y m + long y m + (t + 7 - (base y m + long y m)) = omega arith in
      let d : (date t).month ≡ m = ap (λ (k : ℕ). (date k).month) e ∙ ap (λ (x : Date). x.month) (here (t - base y m) (omega arith)) in
      let n : (date (t + 7)).month ≡ m + 1 = ap (λ (k : ℕ). (date k).month) f ∙ ap (λ (x : Date). x.month) (next (t + 7 - (base y m + long y m)) (omega arith)) in
      rw (eq-eqb (t % 7) 1 p.2, eq-eqb (date t).month m d, ne_eqb (date (t + 7)).month m (λ (z : (date (t + 7)).month ≡ m). omega arith))

  -- and no other day is
  is_only : (n : ℕ) → n < day_count → (date n).year ≡ y → last_sunday m n ≡ true → n ≡ last_sunday_of y m
  unfolding last_sunday number
  is_only n h ey l =
      let p = placed in
      let x = date n in
      let g = number_date n h in
      let a = both_true (sunday n) (eqb x.month m && not (eqb (date (n + 7)).month m)) l in
      let b = both_true (eqb x.month m) (not (eqb (date (n + 7)).month m)) a.1 in
      let s = eqb-true (n % 7) 1 a.0 in
      let em = eqb-true x.month m b.0 in
      let k : base y m + (x.day - 1) ≡ n = rw (ey, em) at g.its_number in
      let d : x.day ≤ long y m = rw (ey, em) at g.there.to_last in
      let q : (x.day + 6 < long y m) → ⊥ = λ (z : x.day + 6 < long y m).
      let f : n + 7 ≡ base y m + (x.day + 6) = omega (arith, g.there.from_first) in
      let o : (date (n + 7)).month ≡ m = ap (λ (i : ℕ). (date i).month) f ∙ ap (λ (v : Date). v.month) (here (x.day + 6) z) in
      eqb-false (date (n + 7)).month m (not-true (eqb (date (n + 7)).month m) b.1) o in
      same_week n (last_sunday_of y m) (omega (arith, g.there.from_first)) (omega (arith, g.there.from_first)) s p.2

-- ---- the test of a day

-- the test of a day is whether it is the last Sunday of its own year
pub change_test : (m n : ℕ) → 1 ≤ m → m < 12 → n < day_count → last_sunday m n ≡ eqb n (last_sunday_of (date n).year m)
change_test m n h1 h2 h = go (last_sunday m n) (eqb n t) refl refl
  where
    t : ℕ
    t = last_sunday_of (date n).year m

    go : (a b : Bool) → last_sunday m n ≡ a → eqb n t ≡ b → a ≡ b
    go true true p q = refl
    go false false p q = refl
    go true false p q = absurd (eqb-false n t q (is_only (date n).year m (number_date n h).there.year_known h1 h2 n h refl p))
    go false true p q = sym p ∙ (ap (last_sunday m) (eqb-true n t q) ∙ is_last (date n).year m (number_date n h).there.year_known h1 h2)

-- ---- the table, said of days

abbrev pub entry : ℕ → ℕ
entry k = get_or change_days k 0

-- each entry follows the rule
pub entries_follow : (y : ℕ) → y < year_count → (last_sunday 3 (entry (2 * y)) ≡ true) × (last_sunday 10 (entry (2 * y + 1)) ≡ true)
entries_follow y h =
    let r = table_rule y h in
    (ap (last_sunday 3) r.0 ∙ is_last y 3 h (lit≤ tt) (lit< tt), ap (last_sunday 10) r.1 ∙ is_last y 10 h (lit≤ tt) (lit< tt))

-- and no other day does
pub no_others : (n : ℕ) → n < day_count
    → (last_sunday 3 n ≡ true → n ≡ entry (2 * (date n).year)) × (last_sunday 10 n ≡ true → n ≡ entry (2 * (date n).year + 1))
no_others n h =
    let l = (number_date n h).there.year_known in
    let r = table_rule (date n).year l in
    (λ p. is_only (date n).year 3 l (lit≤ tt) (lit< tt) n h refl p ∙ sym r.0, λ p. is_only (date n).year 10 l (lit≤ tt) (lit< tt) n h refl p ∙ sym r.1)
