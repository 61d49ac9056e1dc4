-- A moment's text is read as that moment, and a text that is a moment's is that of the moment read.
use mathlib.Core.Path.{◌≡◌, ap, ◌∙◌}
use mathlib.Core.Bool.{true}
use mathlib.Core.List.{List}
use Prim.Native.Nat.{ℕ, ◌+◌, ◌/◌, ◌%◌, ◌<◌}
use native.Mathlib.Omega.{arith}
use lib.Dec.{ltb, eqb}
use lib.ListN.{length}
use borrow.Author.Tests.{ltb-true, lt-ltb, eqb-true, ne_eqb}
use Rattle.lists.specs.Searches.{every, same}
use Rattle.lists.proofs.Tests.{by_test, and_left, and_right}
use Rattle.lists.proofs.Searches.{same_refl, same_true}
use Rattle.calendar.specs.Dates.{day_count}
use Rattle.calendar.specs.Texts.{text_of, day_of}
use Rattle.calendar.proofs.TwoWays.{text_read, pair_digits}
use Rattle.notification.specs.Reading.{day_number}
use Rattle.request.specs.Moments.{day_seconds, in_time, moment_text, moment_in, is_moment_text, is_day_text, midnight}
use Rattle.request.specs.declared.Moment.{Moment}
use Rattle.request.proofs.Whole.{unquoted}

-- a moment's day and second are in their ranges
pub in_range_lem : (m : Moment) → in_time m ≡ true → (m.day < day_count) × (m.second < day_seconds)
unfolding in_time
in_range_lem m e =
    let a = ltb m.day day_count in
    let b = ltb m.second day_seconds in
    (ltb-true m.day day_count (and_left a b e), ltb-true m.second day_seconds (and_right a b e))

-- ---- the day

day_part : (day second : ℕ) → day < day_count
    → (moment_in (moment_text (record { day = day; second = second }))).day ≡ day_number (day_of (text_of day))
unfolding moment_in moment_text text_of
day_part day second h = rw (lt-ltb day day_count h)

-- ---- the time of the day

time_part : (day second : ℕ) → day < day_count → second < day_seconds
    → (moment_in (moment_text (record { day = day; second = second }))).second ≡ second
unfolding moment_in moment_text text_of
time_part day second h k =
    let a : second / 3600 < 100 = omega arith in
    let b : second / 60 % 60 < 100 = omega arith in
    let c : second % 60 < 100 = omega arith in
    rw (lt-ltb day day_count h, pair_digits (second / 3600) a, pair_digits (second / 60 % 60) b, pair_digits (second % 60) c) (omega arith)

-- ---- both

pub moment_read : (m : Moment) → in_time m ≡ true → moment_in (moment_text m) ≡ m
moment_read m e =
    let h = in_range_lem m e in
    let d = day_part m.day m.second h.0 ∙ ap day_number (text_read m.day h.0) in
    let t = time_part m.day m.second h.0 h.1 in
    λ i. record { day = d i; second = t i }

pub moment_made : (m : Moment) → in_time m ≡ true → is_moment_text (moment_text m) ≡ true
unfolding is_moment_text
moment_made m e = rw (moment_read m e, e) (same_refl (moment_text m))

pub moment_back : (s : List ℕ) → is_moment_text s ≡ true → (in_time (moment_in s) ≡ true) × (s ≡ moment_text (moment_in s))
unfolding is_moment_text
moment_back s e =
    let a = in_time (moment_in s) in
    let b = same s (moment_text (moment_in s)) in
    (and_left a b e, same_true s (moment_text (moment_in s)) (and_right a b e))

-- ---- a delivery day: a moment whose time is 00:00:00

pub day_time : (day : ℕ) → day < day_count → in_time (midnight day) ≡ true
unfolding in_time
day_time day h = rw (lt-ltb day day_count h)

pub day_made : (day : ℕ) → day < day_count → is_day_text (moment_text (midnight day)) ≡ true
unfolding is_day_text
day_made day h =
    let e = day_time day h in
    rw (moment_made (midnight day) e, moment_read (midnight day) e)

pub day_back : (s : List ℕ) → is_day_text s ≡ true → ((moment_in s).day < day_count) × (s ≡ moment_text (midnight (moment_in s).day))
unfolding is_day_text
day_back s e =
    let a = is_moment_text s in
    let b = eqb (moment_in s).second 0 in
    let m = moment_back s (and_left a b e) in
    let z = eqb-true (moment_in s).second 0 (and_right a b e) in
    let w : moment_in s ≡ midnight (moment_in s).day = λ i. record { day = (moment_in s).day; second = z i } in
    ((in_range_lem (moment_in s) m.0).0, m.1 ∙ ap moment_text w)

-- ---- its bytes

pub moment_length : (m : Moment) → length (moment_text m) ≡ 20
unfolding moment_text text_of
moment_length m = by_test (ltb m.day day_count) (λ t. rw t) (λ t. rw t)

digit_unquoted : (d : ℕ) → unquoted (48 + d) ≡ true
digit_unquoted d = rw (ne_eqb (48 + d) 34 (λ (e : 48 + d ≡ 34). omega arith))

pub moment_unquoted : (m : Moment) → every unquoted (moment_text m) ≡ true
unfolding moment_text text_of
moment_unquoted m = by_test (ltb m.day day_count) (λ t. rw t (simp digit_unquoted)) (λ t. rw t (simp digit_unquoted))
