-- What the functions over records say of columns is what the ledger says of the records in them, the newest first.
use mathlib.Core.Path.{◌≡◌, refl, sym, ◌∙◌, ap}
use mathlib.Core.Bool.{Bool, true, false, cond, ◌&&◌, ◌||◌}
use mathlib.Core.List.{List, map}
use Prim.Native.Nat.{ℕ, zero, suc, ◌+◌, ◌-◌, ◌*◌, ◌/◌, ◌%◌, ◌<◌}
use native.Mathlib.Omega.{arith}
use lib.Dec.{eqb}
use lib.ListN.{get_or}
use borrow.Author.Tests.{eqb-true, eqb-false, eq-eqb}
use Rattle.lists.specs.Sums.{sum_to}
use Rattle.lists.proofs.Sums.{sum_ext}
use Rattle.lists.proofs.Tests.{by_test, and_left, and_right}
use Rattle.calendar.specs.declared.clock.Clock.{Clock}
use Rattle.ledger.specs.Ledger.{moved, moved_by, acquired, ceded}
use Rattle.ledger.specs.Filing.{answers, pairs, changed}
use Rattle.ledger.specs.Asking.{no_record, record_at}
use Rattle.tables.specs.Tables.{Columns, key_from, down_from, record_in}
use Rattle.tables.specs.Passing.{last_below}
use Rattle.std.specs.Prelude.{Some, None}
use Rattle.recording.specs.Recording.{pairs_below, with_changes, Changed, gained_at, given_at}
use Rattle.tables.proofs.Down.{down_same, down_map, down_sum, down_at, place_in, last_below_lem, down_place}

-- ---- category and day as one number

-- the last part of a number and what is before it
market_parts : (m z d : ℕ) → m % 4 ≡ z → m / 4 ≡ d → m ≡ d * 4 + z
market_parts m z d e f = omega arith

market_last : (m z d : ℕ) → z < 4 → m ≡ d * 4 + z → m % 4 ≡ z
market_last m z d h e = omega arith

market_first : (m z d : ℕ) → z < 4 → m ≡ d * 4 + z → m / 4 ≡ d
market_first m z d h e = omega arith

by_day : (n : ℕ) → n / 64 / 4 ≡ n / 256
by_day n = omega arith

pub market_same : (n z d : ℕ) → z < 4 → (eqb (n / 64 % 4) z && eqb (n / 256) d) ≡ eqb (n / 64) (d * 4 + z)
market_same n z d h =
    by_test (eqb (n / 64) (d * 4 + z))
    (λ t.
    let e = eqb-true (n / 64) (d * 4 + z) t in
    rw (t, eq-eqb (n / 64 % 4) z (market_last (n / 64) z d h e), eq-eqb (n / 256) d (sym (by_day n) ∙ market_first (n / 64) z d h e)))
    (λ t.
    by_test (eqb (n / 64 % 4) z && eqb (n / 256) d)
    (λ u.
    absurd
    (eqb-false (n / 64) (d * 4 + z) t
    (market_parts (n / 64) z d
    (eqb-true (n / 64 % 4) z (and_left (eqb (n / 64 % 4) z) (eqb (n / 256) d) u))
    (by_day n ∙ eqb-true (n / 256) d (and_right (eqb (n / 64 % 4) z) (eqb (n / 256) d) u)))))
    (λ u. u ∙ sym t))

-- three tests, the first of them last
turn_tests : (p q r m : Bool) → (q && r) ≡ m → (p && q && r) ≡ (m && p)
turn_tests true q r m e = e ∙ sym (and_is m)
  where
    and_is : (b : Bool) → (b && true) ≡ b
    and_is true = refl
    and_is false = refl
turn_tests false q r m e = sym (and_not m)
  where
    and_not : (b : Bool) → (b && false) ≡ false
    and_not true = refl
    and_not false = refl

module _ (cols : Columns) where
  -- ---- a filing

  -- a filing is paired where one of the records below the count is answered
  pub pairs_view : (n by own : ℕ) (ps : List ℕ) →
      pairs by (key_from own) ps (down_from (record_in cols) n) ≡ pairs_below cols n by own ps
  unfolding pairs pairs_below
  pairs_view zero by own ps = refl
  pairs_view (suc n) by own ps = ap (λ b. answers by (key_from own) ps (record_in cols n) || b) (pairs_view n by own ps)

  -- the records below the count are changed as the ledger changes them
  pub changed_view : (paired : Bool) (clock : Clock) (by own : ℕ) (ps : List ℕ) (n : ℕ)
      (next : List ℕ) (after : List (List ℕ)) → Changed paired clock by own ps n cols next after →
      down_from (record_in (with_changes cols next after)) n
      ≡ map (changed paired clock by (key_from own) ps) (down_from (record_in cols) n)
  changed_view paired clock by own ps n next after c =
      down_same (record_in (with_changes cols next after)) (λ i. changed paired clock by (key_from own) ps (record_in cols i)) n
      c.below
      ∙ sym (down_map (changed paired clock by (key_from own) ps) (record_in cols) n)

  -- ---- sums

  pub acquired_view : (n a z d s : ℕ) → z < 4 →
      acquired (down_from (record_in cols) n) a z d s ≡ sum_to n (gained_at cols (d * 4 + z) a s)
  unfolding acquired moved
  acquired_view n a z d s h =
      down_sum (record_in cols) n _
      ∙ sum_ext n _ (gained_at cols (d * 4 + z) a s)
      (λ i. ap (λ b. cond b (moved_by s (record_in cols i)) 0)
      (turn_tests (eqb (get_or cols.keys i 0 % 8) a) (eqb (get_or cols.keys i 0 / 64 % 4) z) (eqb (get_or cols.keys i 0 / 256) d) _
      (market_same (get_or cols.keys i 0) z d h)))

  pub ceded_view : (n a z d s : ℕ) → z < 4 →
      ceded (down_from (record_in cols) n) a z d s ≡ sum_to n (given_at cols (d * 4 + z) a s)
  unfolding ceded moved
  ceded_view n a z d s h =
      down_sum (record_in cols) n _
      ∙ sum_ext n _ (given_at cols (d * 4 + z) a s)
      (λ i. ap (λ b. cond b (moved_by s (record_in cols i)) 0)
      (turn_tests (eqb (get_or cols.keys i 0 / 8 % 8) a) (eqb (get_or cols.keys i 0 / 64 % 4) z) (eqb (get_or cols.keys i 0 / 256) d) _
      (market_same (get_or cols.keys i 0) z d h)))

  -- ---- ids

  -- the place of an id among the records, the newest being 0
  place_view : (n id : ℕ) →
      record_at (down_from (record_in cols) n) id ≡ place_in n (last_below (λ i. eqb (get_or cols.ids i 0) id) n)
  unfolding record_at
  place_view n id = down_place (λ r. eqb r.id id) (record_in cols) n

  pub found_view : (n id i : ℕ) → last_below (λ j. eqb (get_or cols.ids j 0) id) n ≡ Some i →
      (record_at (down_from (record_in cols) n) id < n)
      × (get_or (down_from (record_in cols) n) (record_at (down_from (record_in cols) n) id) no_record ≡ record_in cols i)
  found_view n id i e =
      let b : i < n = (last_below_lem (λ j. eqb (get_or cols.ids j 0) id) n i e).0 in
      let p : record_at (down_from (record_in cols) n) id ≡ n - 1 - i = place_view n id ∙ ap (place_in n) e in
      let h : n - 1 - i < n = omega arith in
      let k : n - 1 - (n - 1 - i) ≡ i = omega arith in
      (omega arith, rw p (down_at (record_in cols) n (n - 1 - i) no_record h ∙ ap (record_in cols) k))

  pub missing_view : (n id : ℕ) → last_below (λ j. eqb (get_or cols.ids j 0) id) n ≡ None →
      record_at (down_from (record_in cols) n) id ≡ n
  missing_view n id e = place_view n id ∙ ap (place_in n) e
