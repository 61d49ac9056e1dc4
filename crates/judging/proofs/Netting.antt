-- A net with one record applied, and while the records are passed: none, one that concerns the filing, one that doesn't, and all
-- up to the next of the filing's category and day.
use Rattle.std.proofs.Common.{◌≡◌, ℕ, ◌+◌, ◌/◌, ◌%◌, ◌<◌, ◌≤◌, Bool, true, false, cond, not, ◌&&◌, eqb, ltb, leb, List, [], length, get_or, replicate, refl, ap, true≢false, add-one, arith, le-ltb, lt-ltb, eq-eqb, eqb-true, le-leb}
use mathlib.Core.Bool.{beq, false≢true}
use lib.ListN.{get_or-replicate}
use Rattle.lists.specs.Sums.{sum_to}
use Rattle.lists.proofs.Tests.{by_test, true_false}
use Rattle.tables.specs.Tables.{Columns}
use Rattle.tables.specs.Passing.{load_row, in_market, is_under, PlacesOf}
use Rattle.std.specs.Prelude.{Option, Some, None}
use Rattle.tables.proofs.Listing.{through, listed_skip}
use Rattle.judging.specs.Nets.{base, Between, Based, Moved, Applied, spanned, concerns, gifts, gains, Netting}

and_false : (a b : Bool) → b ≡ false → (a && b) ≡ false
and_false true b e = e
and_false false b e = refl

-- two tests that are the same, and two that differ
pub alike : (a b : Bool) → beq a b ≡ true → a ≡ b
alike true true e = refl
alike true false e = absurd (false≢true e)
alike false true e = absurd (false≢true e)
alike false false e = refl

pub differs : (a b : Bool) → beq a b ≡ false → b ≡ not a
differs true true e = absurd (true≢false e)
differs true false e = refl
differs false true e = refl
differs false false e = absurd (true≢false e)

-- ---- one record

nothing : (b : Bool) → ◌≡◌ {A = ℕ} (cond b 0 0) 0
nothing true = refl
nothing false = refl

given_otherwise : (b : Bool) (p : ℕ) → cond (not b) p 0 ≡ cond b 0 p
given_otherwise true p = refl
given_otherwise false p = refl

one_of : (b : Bool) (p : ℕ) → cond b p 0 + cond b 0 p ≡ p
one_of true p = omega arith
one_of false p = omega arith

module _ (net : List ℕ) (gains gives : Bool) (mark row : List ℕ) (first until : ℕ) where
  -- a record that moves nothing at the counted steps
  still : length net ≡ 50 → ((s : ℕ) → first ≤ s → s < until → cond gives (spanned mark row s) 0 ≡ cond gains (spanned mark row s) 0) →
      Applied net gains gives mark row first until net
  still fifty f =
      record {
        fifty = fifty;
        each = λ s h l. ap (λ p. get_or net s 0 + p) (f s h l);
        low = λ s h. omega arith;
        high = λ s h. omega arith;
      }

  pub applied_same : length net ≡ 50 → gains ≡ gives → Applied net gains gives mark row first until net
  applied_same fifty e = still fifty (λ s h l. rw e)

  pub applied_past : length net ≡ 50 → get_or mark 2 0 ≤ first → Applied net gains gives mark row first until net
  applied_past fifty e =
      still fifty
      (λ s h l.
      let z : spanned mark row s ≡ 0 =
      ap (λ b. cond b (get_or row s 0) 0) (and_false (leb (get_or mark 1 0) s) (ltb s (get_or mark 2 0)) (le-ltb s (get_or mark 2 0) (omega arith))) in
      rw (z, nothing gives, nothing gains))

  -- a record applied at all steps
  pub applied_everywhere : (r : List ℕ) → until ≤ 50 → Applied net gains gives mark row 0 50 r → Applied net gains gives mark row first until r
  applied_everywhere r few a =
      record { fifty = a.fifty; each = λ s h l. a.each s (omega arith) (omega arith); low = a.low; high = a.high }

  -- a record in force at all of them
  module _ (from : get_or mark 1 0 ≤ first) (till : until ≤ get_or mark 2 0) where
    whole : (s : ℕ) → first ≤ s → s < until → spanned mark row s ≡ get_or row s 0
    whole s h l = rw (le-leb (get_or mark 1 0) s (omega arith), lt-ltb s (get_or mark 2 0) (omega arith))

    pub applied_whole : (r : List ℕ) → until ≤ 50 → gives ≡ not gains → Moved net gains row r → Applied net gains gives mark row first until r
    applied_whole r few e m =
        record {
          fifty = m.fifty;
          each = λ s h l. rw (e, whole s h l, given_otherwise gains (get_or row s 0)) (m.each s (omega arith));
          low = λ s h. omega (arith, m.each s h, m.small s h, one_of gains (get_or row s 0));
          high = λ s h. omega (arith, m.each s h, m.small s h, one_of gains (get_or row s 0));
        }

-- ---- the records, one by one

sum_more : (n : ℕ) (f : ℕ → ℕ) → sum_to (n + 1) f ≡ sum_to n f + f n
sum_more n f = rw add-one

module _ (cols : Columns) (own who : ℕ) (start : List ℕ) (first until : ℕ) where
  pub netting_between : (i : ℕ) (net : List ℕ) → i < 256 → Netting cols own who start first until i net → Between net 65535 4294901760
  netting_between i net h t =
      record {
        fifty = t.fifty;
        low = λ s l. omega (arith, t.low s l);
        high = λ s l. omega (arith, t.high s l);
      }

  module _ (i : ℕ) where
    abbrev key : ℕ
    key = get_or cols.keys i 0

    abbrev touched : Bool
    touched = concerns (get_or cols.keys i 0) (get_or cols.statuses i 0) own (own / 8 % 8) (own % 8)

    pub netting_same : (net : List ℕ) → touched ≡ false → Netting cols own who start first until i net →
        Netting cols own who start first until (i + 1) net
    netting_same net e t =
        record {
          fifty = t.fifty;
          each = λ s h l.
              let g : gifts cols own who s i ≡ 0 = rw e in
              let f : gains cols own who s i ≡ 0 = rw e in
              omega (arith, t.each s h l, sum_more i (gifts cols own who s), sum_more i (gains cols own who s));
          low = λ s l. omega (arith, t.low s l);
          high = λ s l. omega (arith, t.high s l);
        }

    pub netting_more : (net r : List ℕ) → touched ≡ true → Netting cols own who start first until i net →
        Applied net (eqb (key % 8) who) (eqb (key / 8 % 8) who) (get_or cols.marks i []) (get_or cols.rows i []) first until r →
        Netting cols own who start first until (i + 1) r
    netting_more net r e t v =
        record {
          fifty = v.fifty;
          each = λ s h l.
              let p : ℕ = spanned (get_or cols.marks i []) (get_or cols.rows i []) s in
              let g : gifts cols own who s i ≡ cond (eqb (get_or cols.keys i 0 / 8 % 8) who) p 0 = rw e in
              let f : gains cols own who s i ≡ cond (eqb (get_or cols.keys i 0 % 8) who) p 0 = rw e in
              omega (arith, t.each s h l, v.each s h l, sum_more i (gifts cols own who s), sum_more i (gains cols own who s));
          low = λ s l. omega (arith, t.low s l, v.low s l);
          high = λ s l. omega (arith, t.high s l, v.high s l);
        }

  -- a record of another category and day concerns nobody, and is not under the key
  elsewhere : (i : ℕ) → in_market cols.keys (own / 64) i ≡ false →
      concerns (get_or cols.keys i 0) (get_or cols.statuses i 0) own (own / 8 % 8) (own % 8) ≡ false
  elsewhere i e = rw e

  pub netting_through : (i k : ℕ) (net : List ℕ) → i ≤ k → ((j : ℕ) → i ≤ j → j < k → in_market cols.keys (own / 64) j ≡ false) →
      Netting cols own who start first until i net → Netting cols own who start first until k net
  netting_through i k net h f t =
      through (λ j. Netting cols own who start first until j net) i k h (λ j a b. netting_same j net (elsewhere j (f j a b))) t

not_under : (keys : List ℕ) (own i : ℕ) → in_market keys (own / 64) i ≡ false → is_under keys own i ≡ false
not_under keys own i e =
    by_test (is_under keys own i)
    (λ t. true_false (in_market keys (own / 64) i) (eq-eqb _ _ (ap (λ k. k / 64) (eqb-true (get_or keys i 0) own t))) e)
    (λ t. t)

pub listed_through : (keys : List ℕ) (own i k count : ℕ) (places : List ℕ) → i ≤ k →
    ((j : ℕ) → i ≤ j → j < k → in_market keys (own / 64) j ≡ false) →
    PlacesOf (is_under keys own) i count places → PlacesOf (is_under keys own) k count places
listed_through keys own i k count places h f l =
    through (λ j. PlacesOf (is_under keys own) j count places) i k h
    (λ j a b t. listed_skip (is_under keys own) j count places t (not_under keys own j (f j a b))) l

-- ---- the nets that are started with: the powers of a load that was found, or none

module _ (rows : List (List ℕ)) (at : Option ℕ) (net : List ℕ) where
  pub based_at : (i : ℕ) → at ≡ Some i → i < 64 → Based (get_or rows i []) net → Based (load_row rows at) net
  unfolding load_row
  based_at i e h b = rw (e, lt-ltb i 64 h) b

  none : net ≡ replicate 50 base → Based (replicate 50 0) net
  none e =
      rw e
      (record {
        between = record {
          fifty = refl;
          low = λ s h. omega (arith, get_or-replicate 50 s base 0 h);
          high = λ s h. omega (arith, get_or-replicate 50 s base 0 h);
        };
        each = λ s h. omega (arith, get_or-replicate 50 s base 0 h, get_or-replicate {A = ℕ} 50 s 0 0 h);
      })

  pub based_past : (i : ℕ) → at ≡ Some i → 64 ≤ i → net ≡ replicate 50 base → Based (load_row rows at) net
  unfolding load_row
  based_past i e h b = rw (e, le-ltb i 64 h) (none b)

  pub based_nothing : at ≡ None → net ≡ replicate 50 base → Based (load_row rows at) net
  unfolding load_row
  based_nothing e b = rw e (none b)
