-- The steps of a day by the table of change days, and how many they are: at least 46, at most 50, and none where there is no day.
use mathlib.Core.Path.{◌≡◌, refl, sym, ◌∙◌}
use mathlib.Core.Bool.{Bool, true, false, cond}
use Prim.Native.Nat.{ℕ, ◌+◌, ◌*◌, ◌<◌, ◌≤◌}
use native.Mathlib.Omega.{arith}
use lib.Dec.{ltb, eqb, lit<, lit≤}
use borrow.Author.Tests.{ltb-true, lt-ltb, le-ltb, eq-eqb, ne_eqb}
use Rattle.calendar.specs.Dates.{day_count, date}
use Rattle.calendar.specs.Steps.{short_steps, long_steps, plain_steps, weekday, last_sunday, steps_of}
use Rattle.calendar.proofs.Decoding.{number_date}
use Rattle.calendar.proofs.Changes.{entry, table_rule, change_test}

-- ---- the steps of a day, by the table

pub no_day : (n : ℕ) → day_count ≤ n → 0 ≡ steps_of n
unfolding steps_of
no_day n h = rw (le-ltb n day_count h)

pub no_sunday : (n w : ℕ) → n < day_count → w ≡ weekday n → (w ≡ 1 → ⊥) → plain_steps ≡ steps_of n
unfolding steps_of last_sunday
no_sunday n w h e q = rw (lt-ltb n day_count h, ne_eqb (weekday n) 1 (λ z. q (e ∙ z)))

by_table : (n : ℕ) → n < day_count
    → steps_of n ≡ cond (eqb n (entry (2 * (date n).year))) short_steps (cond (eqb n (entry (2 * (date n).year + 1))) long_steps plain_steps)
unfolding steps_of
by_table n h =
    let r = table_rule (date n).year (number_date n h).there.year_known in
    rw (lt-ltb n day_count h, change_test 3 n (lit≤ tt) (lit< tt) h, change_test 10 n (lit≤ tt) (lit< tt) h, r.0, r.1)

module _ (n y a : ℕ) (h : n < day_count) (ey : y ≡ (date n).year) (ea : a ≡ entry (2 * y)) where
  table : steps_of n ≡ cond (eqb n (entry (2 * y))) short_steps (cond (eqb n (entry (2 * y + 1))) long_steps plain_steps)
  table = rw ey (by_table n h)

  pub short_day_lem : n ≡ a → short_steps ≡ steps_of n
  short_day_lem e = rw (table, eq-eqb n (entry (2 * y)) (e ∙ ea))

  pub long_day_lem : (b : ℕ) → (n ≡ a → ⊥) → b ≡ entry (2 * y + 1) → n ≡ b → long_steps ≡ steps_of n
  long_day_lem b na eb e =
      rw (table, ne_eqb n (entry (2 * y)) (λ q. na (q ∙ sym ea)), eq-eqb n (entry (2 * y + 1)) (e ∙ eb))

  pub other_day : (b : ℕ) → (n ≡ a → ⊥) → b ≡ entry (2 * y + 1) → (n ≡ b → ⊥) → plain_steps ≡ steps_of n
  other_day b na eb nb =
      rw (table, ne_eqb n (entry (2 * y)) (λ q. na (q ∙ sym ea)), ne_eqb n (entry (2 * y + 1)) (λ q. nb (q ∙ sym eb)))

-- ---- how many steps a day has

few : (a b c : Bool) → cond a (cond b short_steps (cond c long_steps plain_steps)) 0 ≤ long_steps
few false b c = lit≤ tt
few true true c = lit≤ tt
few true false true = lit≤ tt
few true false false = lit≤ tt

many : (b c : Bool) → short_steps ≤ cond b short_steps (cond c long_steps plain_steps)
many true c = lit≤ tt
many false true = lit≤ tt
many false false = lit≤ tt

-- no day has more steps than the long day
pub steps_small : (n : ℕ) → steps_of n ≤ long_steps
unfolding steps_of
steps_small n = few (ltb n day_count) (last_sunday 3 n) (last_sunday 10 n)

-- a number that is no day has none
pub steps_none : (n : ℕ) → day_count ≤ n → steps_of n ≡ 0
steps_none n h = sym (no_day n h)

-- and a day has at least those of the short day
pub steps_some : (n : ℕ) → n < day_count → short_steps ≤ steps_of n
unfolding steps_of
steps_some n h = rw (lt-ltb n day_count h) (many (last_sunday 3 n) (last_sunday 10 n))

-- so what has a step is a day
pub steps_day : (n : ℕ) → 0 < steps_of n → n < day_count
unfolding steps_of
steps_day n h = go (ltb n day_count) refl h
  where
    go : (b : Bool) → ltb n day_count ≡ b → 0 < cond b (cond (last_sunday 3 n) short_steps (cond (last_sunday 10 n) long_steps plain_steps)) 0 → n < day_count
    go true e k = ltb-true n day_count e
    go false e k = absurd (omega arith)
