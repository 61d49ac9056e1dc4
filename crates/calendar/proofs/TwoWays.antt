-- Days and texts: the text of each day reads back as that day, and each text that is read is the text of the day answered.
use Rattle.std.specs.Prelude.{None, Some}
use mathlib.Core.Path.{◌≡◌, refl, sym, ◌∙◌, ap}
use mathlib.Core.Logic.{◌↔◌}
use mathlib.Core.Bool.{Bool, true, false, cond, ◌&&◌}
use mathlib.Core.List.{List, [], ◌∷◌}
use Prim.Native.Nat.{ℕ, zero, suc, ◌+◌, ◌-◌, ◌*◌, ◌<◌, ◌≤◌}
use native.Mathlib.Omega.{arith}
use lib.Dec.{leb, eqb, eqb→eq, lit<}
use lib.ListN.{length, get_or}
use lib.Seq.{ext_get_or}
use borrow.Author.Tests.{lt-ltb, le-ltb, leb-true, eqb-true}
use Rattle.calendar.specs.Dates.{day_count, date, number, valid, month_length, leap_days, before_year, before_month}
use Rattle.calendar.specs.Texts.{tens, ones, digit, pair_of, date_text, text_of, read_date, day_at, day_of}
use Rattle.calendar.specs.declared.dates.Date.{Date}
use Rattle.lists.proofs.Tests.{true_of, both_true}
use Rattle.lists.proofs.Below.{below, within}
use Rattle.calendar.proofs.Counting.{There, leaps, date_number}
use Rattle.calendar.proofs.Decoding.{number_date}
use Rattle.calendar.proofs.Numbering.{number_small, valid_there, there_valid}
use Rattle.calendar.proofs.Reading.{eight_read}

-- ---- two digits

reads : ℕ → Bool
reads n = eqb (pair_of (tens n) (ones n)) n

pub pair_digits : (n : ℕ) → n < 100 → pair_of (tens n) (ones n) ≡ n
unfolding reads pair_of
pair_digits n h = eqb→eq (pair_of (tens n) (ones n)) n (below reads 100 tt n h)

digits_sum : (v : Bool) (a b n : ℕ) → (digit a && digit b) ≡ v → cond v (10 * (a - 48) + (b - 48)) 100 ≡ n → n < 100 → (a ≡ tens n) × (b ≡ ones n)
digits_sum true a b n e p h =
    let d = both_true (digit a) (digit b) e in
    let f = both_true (leb 48 a) (leb a 57) d.0 in
    let g = both_true (leb 48 b) (leb b 57) d.1 in
    let a1 = leb-true 48 a f.0 in
    let a2 = leb-true a 57 f.1 in
    let b1 = leb-true 48 b g.0 in
    let b2 = leb-true b 57 g.1 in
    (omega arith, omega arith)
digits_sum false a b n e p h = absurd (omega arith)

pub digits_pair : (a b n : ℕ) → pair_of a b ≡ n → n < 100 → (a ≡ tens n) × (b ≡ ones n)
unfolding pair_of
digits_pair a b n p h = digits_sum (digit a && digit b) a b n refl p h

-- ---- from a day to its text and back

short : ℕ → ℕ → Bool
short l m = leb (month_length l m) 31

at_most_31 : (l m : ℕ) → l < 2 → m < 13 → month_length l m ≤ 31
unfolding short month_length
at_most_31 l m hl hm = leb-true (month_length l m) 31 (true_of (short l m) (within short 2 13 tt l m hl hm))

twenty : pair_of 50 48 ≡ 20
unfolding pair_of
twenty = refl

date_text_read : (x : Date) → There x → day_of (date_text x) ≡ Some (number x)
date_text_read x h =
    let s = date_text x in
    let b : x.day ≤ 31 = omega (arith, at_most_31 (leap_days x.year) x.month (leaps x.year) (omega arith)) in
    let r : read_date s ≡ x = rw (pair_digits x.year (omega arith), pair_digits x.month (omega arith), pair_digits x.day (omega arith)) in
    sym (eight_read s refl) ∙ (ap (day_at (pair_of 50 48)) r ∙ rw (twenty, there_valid x h))

-- the text of each day reads back as that day
pub text_read : (n : ℕ) → n < day_count → day_of (text_of n) ≡ Some n
unfolding text_of
text_read n h =
    let d = number_date n h in
    rw (lt-ltb n day_count h) (date_text_read (date n) d.there ∙ ap Some d.its_number)

-- ---- from a text to its day and back

eight : (s : List ℕ) → length s ≡ 8
    → s ≡ get_or s 0 0 ∷ get_or s 1 0 ∷ get_or s 2 0 ∷ get_or s 3 0 ∷ get_or s 4 0 ∷ get_or s 5 0 ∷ get_or s 6 0 ∷ get_or s 7 0 ∷ []
eight s e = ext_get_or 0 s _ e (λ i h. at s i (omega arith))
  where
    at : (s : List ℕ) (i : ℕ) → i < 8
        → get_or s i 0 ≡ get_or (get_or s 0 0 ∷ get_or s 1 0 ∷ get_or s 2 0 ∷ get_or s 3 0 ∷ get_or s 4 0 ∷ get_or s 5 0 ∷ get_or s 6 0 ∷ get_or s 7 0 ∷ []) i 0
    at s zero h = refl
    at s (suc zero) h = refl
    at s (suc (suc zero)) h = refl
    at s (suc (suc (suc zero))) h = refl
    at s (suc (suc (suc (suc zero)))) h = refl
    at s (suc (suc (suc (suc (suc zero))))) h = refl
    at s (suc (suc (suc (suc (suc (suc zero)))))) h = refl
    at s (suc (suc (suc (suc (suc (suc (suc zero))))))) h = refl
    at s (suc (suc (suc (suc (suc (suc (suc (suc i)))))))) h = absurd (omega arith)

date_text_lem : (s : List ℕ) → length s ≡ 8 → pair_of (get_or s 0 0) (get_or s 1 0) ≡ 20 → There (read_date s) → s ≡ date_text (read_date s)
date_text_lem s e c h =
    let x = read_date s in
    let b : x.day ≤ 31 = omega (arith, at_most_31 (leap_days x.year) x.month (leaps x.year) (omega arith)) in
    let p = digits_pair (get_or s 0 0) (get_or s 1 0) 20 c (lit< tt) in
    let y = digits_pair (get_or s 2 0) (get_or s 3 0) x.year refl (omega arith) in
    let m = digits_pair (get_or s 4 0) (get_or s 5 0) x.month refl (omega arith) in
    let d = digits_pair (get_or s 6 0) (get_or s 7 0) x.day refl (omega arith) in
    eight s e ∙ (cc)

read_by : (s : List ℕ) (n : ℕ) (u v : Bool) → eqb (length s) 8 ≡ u → (eqb (pair_of (get_or s 0 0) (get_or s 1 0)) 20 && valid (read_date s)) ≡ v
    → cond u (cond v (Some (number (read_date s))) None) None ≡ Some n → (n < day_count) × (s ≡ text_of n)
unfolding text_of
read_by s n false v d e q = let z : ◌≡◌ {A = ℕ} 0 1 = cc in absurd (omega arith)
read_by s n true false d e q = let z : ◌≡◌ {A = ℕ} 0 1 = cc in absurd (omega arith)
read_by s n true true d e q =
    let x = read_date s in
    let k : number x ≡ n = cc in
    let r = both_true (eqb (pair_of (get_or s 0 0) (get_or s 1 0)) 20) (valid x) e in
    let h = valid_there x r.1 in
    let l : n < day_count = omega (arith, number_small x h) in
    let t = date_text_lem s (eqb-true (length s) 8 d) (eqb-true (pair_of (get_or s 0 0) (get_or s 1 0)) 20 r.0) h in
    (l, rw (lt-ltb n day_count l) (t ∙ ap date_text (sym (date_number x h) ∙ ap date k)))

-- each text that is read is the text of the day answered
pub read_text : (s : List ℕ) (n : ℕ) → day_of s ≡ Some n → (n < day_count) × (s ≡ text_of n)
unfolding day_of
read_text s n e = read_by s n _ _ refl refl e

-- both ways in one
pub two_ways : (s : List ℕ) (n : ℕ) → (day_of s ≡ Some n) ↔ ((n < day_count) × (s ≡ text_of n))
two_ways s n = (read_text s n, λ p. ap day_of p.1 ∙ text_read n p.0)

-- ---- the ends

-- a number that is no day has a text that is no date
pub text_none : (n : ℕ) → day_count ≤ n → day_of (text_of n) ≡ None
unfolding text_of day_of pair_of
text_none n h = rw (le-ltb n day_count h)

-- the first day is 20000101, the last is day 36524, 20991231
pub first_day : text_of 0 ≡ 50 ∷ 48 ∷ 48 ∷ 48 ∷ 48 ∷ 49 ∷ 48 ∷ 49 ∷ []
unfolding text_of date
first_day = refl

pub last_day : text_of 36524 ≡ 50 ∷ 48 ∷ 57 ∷ 57 ∷ 49 ∷ 50 ∷ 51 ∷ 49 ∷ []
unfolding day_of pair_of number valid month_length leap_days before_year before_month
last_day = sym (read_text (50 ∷ 48 ∷ 57 ∷ 57 ∷ 49 ∷ 50 ∷ 51 ∷ 49 ∷ []) 36524 refl).1
