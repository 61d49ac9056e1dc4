-- Twenty bytes are a moment's text exactly where the bytes that are no digits stand in their places, the digits of the date are a day's and
-- those of the time are a time's.
use mathlib.Core.Path.{◌≡◌, refl, sym, ap, ◌∙◌}
use mathlib.Core.Bool.{Bool, true, false, ◌&&◌}
use mathlib.Core.List.{List, [], ◌∷◌}
use Prim.Native.Nat.{ℕ, zero, suc, ◌+◌, ◌-◌, ◌*◌, ◌/◌, ◌%◌, ◌<◌, ◌≤◌}
use native.Mathlib.Omega.{arith}
use lib.Dec.{eqb, ltb, leb}
use lib.ListN.{length, get_or, drop, drop_of_length-le}
use lib.Seq.{drop-cons}
use borrow.Author.Tests.{ltb-true, lt-ltb, leb-true, eqb-true}
use Rattle.std.specs.Prelude.{Some, None}
use Rattle.std.proofs.lemmas.Option.{none-some}
use Rattle.lists.proofs.Tests.{by_test, true_false, and_left, and_right}
use Rattle.calendar.specs.Dates.{day_count}
use Rattle.calendar.specs.Texts.{tens, ones, digit, text_of, pair_of, day_at, day_of}
use Rattle.calendar.proofs.Reading.{eight_read}
use Rattle.calendar.proofs.TwoWays.{read_text, text_read, pair_digits, digits_pair}
use Rattle.request.specs.Moments.{day_seconds, in_time, moment_text, moment_in, is_moment_text}
use Rattle.request.specs.declared.Moment.{Moment}
use Rattle.request.proofs.MomentTexts.{in_range_lem, moment_read, moment_made, moment_back}
use Rattle.request_reader.specs.Walking.{marks_stand, date_digits, time_in}

-- ---- a text by its bytes

bytes_from : List ℕ → ℕ → ℕ → List ℕ
bytes_from s i zero = []
bytes_from s i (suc n) = get_or s i 0 ∷ bytes_from s (suc i) n

bytes_all : (s : List ℕ) (i n : ℕ) → length s ≡ i + n → drop i s ≡ bytes_from s i n
unfolding bytes_from
bytes_all s i zero e = let h : length s ≤ i = omega arith in drop_of_length-le s h
bytes_all s i (suc n) e = let h : i < length s = omega arith in drop-cons s i 0 h ∙ ap (λ (x : List ℕ). get_or s i 0 ∷ x) (bytes_all s (suc i) n (omega arith))

twenty : (b0 b1 b2 b3 b4 b5 b6 b7 b8 b9 b10 b11 b12 b13 b14 b15 b16 b17 b18 b19 c11 c12 c14 c15 c17 c18 : ℕ)
    → b4 ≡ 45 → b7 ≡ 45 → b10 ≡ 84 → b13 ≡ 58 → b16 ≡ 58 → b19 ≡ 90 → b11 ≡ c11 → b12 ≡ c12 → b14 ≡ c14 → b15 ≡ c15 → b17 ≡ c17 → b18 ≡ c18
    → b0 ∷ b1 ∷ b2 ∷ b3 ∷ 45 ∷ b5 ∷ b6 ∷ 45 ∷ b8 ∷ b9 ∷ 84 ∷ c11 ∷ c12 ∷ 58 ∷ c14 ∷ c15 ∷ 58 ∷ c17 ∷ c18 ∷ 90 ∷ []
    ≡ b0 ∷ b1 ∷ b2 ∷ b3 ∷ b4 ∷ b5 ∷ b6 ∷ b7 ∷ b8 ∷ b9 ∷ b10 ∷ b11 ∷ b12 ∷ b13 ∷ b14 ∷ b15 ∷ b16 ∷ b17 ∷ b18 ∷ b19 ∷ []
twenty b0 b1 b2 b3 b4 b5 b6 b7 b8 b9 b10 b11 b12 b13 b14 b15 b16 b17 b18 b19 c11 c12 c14 c15 c17 c18 e4 e7 e10 e13 e16 e19 e11 e12 e14 e15 e17 e18 = rw (e4, e7, e10, e13, e16, e19, e11, e12, e14, e15, e17, e18)

-- ---- the parts of a moment's text

module _ (s : List ℕ) (e : length s ≡ 20) where
  abbrev h : ℕ
  h = pair_of (get_or s 11 0) (get_or s 12 0)

  abbrev m : ℕ
  m = pair_of (get_or s 14 0) (get_or s 15 0)

  abbrev t : ℕ
  t = pair_of (get_or s 17 0) (get_or s 18 0)

  pub record Parted : Type 0 where
    pub m4 : get_or s 4 0 ≡ 45
    pub m7 : get_or s 7 0 ≡ 45
    pub m10 : get_or s 10 0 ≡ 84
    pub m13 : get_or s 13 0 ≡ 58
    pub m16 : get_or s 16 0 ≡ 58
    pub m19 : get_or s 19 0 ≡ 90
    pub hours : h < 24
    pub minutes : m < 60
    pub seconds : t < 60

  -- the digits of the date, one by one
  abbrev date_bytes : List ℕ
  date_bytes = get_or s 0 0 ∷ get_or s 1 0 ∷ get_or s 2 0 ∷ get_or s 3 0 ∷ get_or s 5 0 ∷ get_or s 6 0 ∷ get_or s 8 0 ∷ get_or s 9 0 ∷ []

  its_date : date_digits s ≡ date_bytes
  unfolding bytes_from
  its_date =
      let b = bytes_all s 0 20 e in
      ap date_digits b

  -- in pairs they give the day
  pub day_read_lem : day_at (pair_of (get_or s 0 0) (get_or s 1 0))
      (record { year = pair_of (get_or s 2 0) (get_or s 3 0); month = pair_of (get_or s 5 0) (get_or s 6 0); day = pair_of (get_or s 8 0) (get_or s 9 0) })
      ≡ day_of (date_digits s)
  day_read_lem = eight_read date_bytes refl ∙ ap day_of (sym its_date)

  made : (n : ℕ) → day_of (date_digits s) ≡ Some n → Parted → (moment_text (record { day = n; second = 3600 * h + 60 * m + t }) ≡ s) × (n < day_count)
  unfolding bytes_from moment_text
  made n d p =
      let r = read_text (date_digits s) n d in
      let text : text_of n ≡ date_bytes = sym r.1 ∙ its_date in
      let x = 3600 * h + 60 * m + t in
      let hs = p.hours in
      let ms = p.minutes in
      let ts = p.seconds in
      let eh : x / 3600 ≡ h = omega arith in
      let em : x / 60 % 60 ≡ m = omega arith in
      let et : x % 60 ≡ t = omega arith in
      let dh = digits_pair (get_or s 11 0) (get_or s 12 0) h refl (omega arith) in
      let dm = digits_pair (get_or s 14 0) (get_or s 15 0) m refl (omega arith) in
      let dt = digits_pair (get_or s 17 0) (get_or s 18 0) t refl (omega arith) in (
        rw (text, eh, em, et) (twenty (get_or s 0 0) (get_or s 1 0) (get_or s 2 0) (get_or s 3 0) (get_or s 4 0) (get_or s 5 0) (get_or s 6 0) (get_or s 7 0) (get_or s 8 0) (get_or s 9 0) (get_or s 10 0) (get_or s 11 0) (get_or s 12 0) (get_or s 13 0) (get_or s 14 0) (get_or s 15 0) (get_or s 16 0) (get_or s 17 0) (get_or s 18 0) (get_or s 19 0) (tens h) (ones h) (tens m) (ones m) (tens t) (ones t) p.m4 p.m7 p.m10 p.m13 p.m16 p.m19 dh.0 dh.1 dm.0 dm.1 dt.0 dt.1 ∙ sym (bytes_all s 0 20 e)),
        r.0,
      )

  abbrev timed : Bool
  timed = ltb h 24 && ltb m 60 && ltb t 60

  parted_made : marks_stand s ≡ true → timed ≡ true → Parted
  unfolding marks_stand
  parted_made k g =
      let a = eqb (get_or s 4 0) 45 in
      let b = eqb (get_or s 7 0) 45 in
      let c = eqb (get_or s 10 0) 84 in
      let d = eqb (get_or s 13 0) 58 in
      let f = eqb (get_or s 16 0) 58 in
      let l = eqb (get_or s 19 0) 90 in
      let k5 = and_left (a && b && c && d && f) l k in
      let k4 = and_left (a && b && c && d) f k5 in
      let k3 = and_left (a && b && c) d k4 in
      let k2 = and_left (a && b) c k3 in
      let g2 = and_left (ltb h 24 && ltb m 60) (ltb t 60) g in
      record {
        m4 = eqb-true (get_or s 4 0) 45 (and_left a b k2);
        m7 = eqb-true (get_or s 7 0) 45 (and_right a b k2);
        m10 = eqb-true (get_or s 10 0) 84 (and_right (a && b) c k3);
        m13 = eqb-true (get_or s 13 0) 58 (and_right (a && b && c) d k4);
        m16 = eqb-true (get_or s 16 0) 58 (and_right (a && b && c && d) f k5);
        m19 = eqb-true (get_or s 19 0) 90 (and_right (a && b && c && d && f) l k);
        hours = ltb-true h 24 (and_left (ltb h 24) (ltb m 60) g2);
        minutes = ltb-true m 60 (and_right (ltb h 24) (ltb m 60) g2);
        seconds = ltb-true t 60 (and_right (ltb h 24 && ltb m 60) (ltb t 60) g);
      }

-- ---- a moment's text has its parts

text_marks : (x : Moment) → x.day < day_count → marks_stand (moment_text x) ≡ true
unfolding marks_stand moment_text text_of
text_marks x k = rw (lt-ltb x.day day_count k)

text_time : (x : Moment) → x.day < day_count → x.second < day_seconds → time_in (moment_text x) ≡ Some x.second
unfolding time_in moment_text text_of
text_time x k l =
    let n = x.second in
    let a : n / 3600 < 24 = omega arith in
    let b : n / 60 % 60 < 60 = omega arith in
    let c : n % 60 < 60 = omega arith in
    rw (lt-ltb x.day day_count k, pair_digits (n / 3600) (omega arith), pair_digits (n / 60 % 60) (omega arith), pair_digits (n % 60) (omega arith), lt-ltb (n / 3600) 24 a, lt-ltb (n / 60 % 60) 60 b, lt-ltb (n % 60) 60 c) (let e : 3600 * (n / 3600) + 60 * (n / 60 % 60) + n % 60 ≡ n = omega arith in ap Some e)

text_date : (x : Moment) → x.day < day_count → day_of (date_digits (moment_text x)) ≡ Some x.day
unfolding moment_text text_of
text_date x k = rw (lt-ltb x.day day_count k) (rw (lt-ltb x.day day_count k) at (text_read x.day k))

-- ---- what the reader finds

module _ (s : List ℕ) where
  -- a moment's text has its marks, a time and a day
  moment_parts : is_moment_text s ≡ true → (marks_stand s ≡ true) × (time_in s ≡ Some (moment_in s).second) × (day_of (date_digits s) ≡ Some (moment_in s).day)
  moment_parts g =
      let b = moment_back s g in
      let x = moment_in s in
      let r = in_range_lem x b.0 in (
        ap marks_stand b.1 ∙ text_marks x r.0,
        ap time_in b.1 ∙ text_time x r.0 r.1,
        ap (λ (y : List ℕ). day_of (date_digits y)) b.1 ∙ text_date x r.0,
      )

  -- so a text that lacks one of them is none
  pub no_marks : marks_stand s ≡ false → is_moment_text s ≡ false
  no_marks q = by_test (is_moment_text s) (λ f. true_false (marks_stand s) (moment_parts f).0 q) (λ f. f)

  pub no_time : time_in s ≡ None → is_moment_text s ≡ false
  no_time q = by_test (is_moment_text s) (λ f. absurd (none-some (moment_in s).second (sym q ∙ (moment_parts f).1))) (λ f. f)

  pub no_day : day_of (date_digits s) ≡ None → is_moment_text s ≡ false
  no_day q = by_test (is_moment_text s) (λ f. absurd (none-some (moment_in s).day (sym q ∙ (moment_parts f).2))) (λ f. f)

  module _ (time : ℕ) (et : time_in s ≡ Some time) (e : length s ≡ 20) where
    -- a time is one where each of its parts is
    time_parts : (timed s e ≡ true) × (time ≡ 3600 * h s e + 60 * m s e + t s e)
    unfolding time_in
    time_parts =
        by_test (timed s e)
        (λ q. let z : Some (3600 * h s e + 60 * m s e + t s e) ≡ Some time = rw q at et in (q, cc))
        (λ q. let z : None ≡ Some time = rw q at et in absurd (none-some time z))

    -- and a text that has all three is the moment's
    pub moment_found : (n : ℕ) → marks_stand s ≡ true → day_of (date_digits s) ≡ Some n
        → (is_moment_text s ≡ true) × (◌≡◌ {A = Moment} (record { day = n; second = time }) (moment_in s))
    unfolding in_time
    moment_found n g q =
        let f = time_parts in
        let x : Moment = record { day = n; second = time } in
        let p = parted_made s e g f.0 in
        let w = made s e n q p in
        let y : moment_text x ≡ s = ap (λ (i : ℕ). moment_text (record { day = n; second = i })) f.1 ∙ w.0 in
        let k : time < day_seconds = omega (arith, f.1, p.hours, p.minutes, p.seconds) in
        let i : in_time x ≡ true = rw (lt-ltb n day_count w.1, lt-ltb time day_seconds k) in
        (ap is_moment_text (sym y) ∙ moment_made x i, sym (moment_read x i) ∙ ap moment_in y)

-- the parts of the time, one by one
pub pair_most : (a b : ℕ) → pair_of a b ≤ 100
unfolding pair_of
pair_most a b = by_test (digit a && digit b) (λ q. rw q (pair_sum a b q)) (λ q. rw q (omega arith))
  where
    pair_sum : (a b : ℕ) → (digit a && digit b) ≡ true → 10 * (a - 48) + (b - 48) ≤ 100
    pair_sum a b q =
        let f = leb-true a 57 (and_right (leb 48 a) (leb a 57) (and_left (digit a) (digit b) q)) in
        let g = leb-true b 57 (and_right (leb 48 b) (leb b 57) (and_right (digit a) (digit b) q)) in
        omega arith
