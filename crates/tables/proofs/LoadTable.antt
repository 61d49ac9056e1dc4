-- Laws of the loads' table: what is found by a load's number is what the ledger's list of loads has for its actor, category
-- and day, and one load more stands first in that list.
use mathlib.Core.Path.{◌≡◌, refl, sym, ◌∙◌, ap, ap₂}
use mathlib.Core.Bool.{Bool, true, false, ◌&&◌}
use mathlib.Core.List.{List, [], ◌∷◌}
use Prim.Native.Nat.{ℕ, zero, suc, ◌+◌, ◌-◌, ◌*◌, ◌/◌, ◌%◌, min, ◌≤◌, ◌<◌}
use native.Mathlib.Omega.{arith}
use native.Mathlib.Decide.{ℕ_discrete}
use lib.Dec.{eqb}
use lib.ListN.{length, get_or, replicate}
use lib.Seq.{get_or-set_same, get_or-set_other}
use borrow.Author.Tests.{lt-ltb, le-ltb, eqb-true, eq-eqb, ne_eqb}
use Rattle.lists.proofs.Tests.{by_test, both_true}
use Rattle.notification.specs.Forms.{places}
use Rattle.ledger.specs.Ledger.{load_places, load_is, has_load, loaded, approved}
use Rattle.tables.specs.Tables.{LoadColumns, down_from, load_number, load_from, load_in, loads_in}
use Rattle.tables.specs.More.{load_put}
use Rattle.tables.specs.Passing.{last_below, last_load, load_row, load_most}
use Rattle.std.specs.Prelude.{Option, Some, None, is_some}
use Rattle.tables.proofs.Down.{down_length, down_same, down_some, last_same, last_hit, last_skip}

-- ---- a load's number

quarter : (m z d : ℕ) → z < 4 → m ≡ d * 4 + z → m % 4 ≡ z
quarter m z d h e = omega arith

abbrev pub parts_are : ℕ → ℕ → ℕ → ℕ → Bool
parts_are k a z d = eqb (k % 8) a && eqb (k / 8 % 4) z && eqb (k / 32) d

-- a number is that of an actor, a category and a day where its three parts are they
pub number_parts : (k a z d : ℕ) → a < 8 → z < 4 → parts_are k a z d ≡ eqb k (load_number a z d)
number_parts k a z d ha hz = go (ℕ_discrete k (d * 32 + z * 8 + a))
  where
    differ : (k ≡ d * 32 + z * 8 + a → ⊥) → parts_are k a z d ≡ true → parts_are k a z d ≡ false
    differ n e =
        let u = both_true (eqb (k % 8) a && eqb (k / 8 % 4) z) (eqb (k / 32) d) e in
        let v = both_true (eqb (k % 8) a) (eqb (k / 8 % 4) z) u.0 in
        let p : k % 8 ≡ a = eqb-true (k % 8) a v.0 in
        let q : k / 8 % 4 ≡ z = eqb-true (k / 8 % 4) z v.1 in
        let r : k / 32 ≡ d = eqb-true (k / 32) d u.1 in
        absurd (n (omega arith))

    go : Dec (k ≡ d * 32 + z * 8 + a) → parts_are k a z d ≡ eqb k (d * 32 + z * 8 + a)
    go (yes e) =
        let p : k % 8 ≡ a = omega arith in
        let m : k / 8 ≡ d * 4 + z = omega arith in
        let q : k / 8 % 4 ≡ z = quarter (k / 8) z d hz m in
        let r : k / 32 ≡ d = omega arith in
        rw (eq-eqb k _ e, eq-eqb (k % 8) a p, eq-eqb (k / 8 % 4) z q, eq-eqb (k / 32) d r)
    go (no n) = by_test (parts_are k a z d) (differ n) (λ e. e) ∙ sym (ne_eqb k (d * 32 + z * 8 + a) n)

-- ---- the search for a number, one place at a time

abbrev pub is_number : List ℕ → ℕ → ℕ → Bool
is_number keys number i = eqb (get_or keys i 0) number

module _ (keys : List ℕ) (number n i : ℕ) (more : 0 < i)
    (kept : last_below (is_number keys number) i ≡ last_below (is_number keys number) n) where
  pub search_hit : get_or keys (i - 1) 0 ≡ number → Some (i - 1) ≡ last_below (is_number keys number) n
  search_hit e = sym (last_hit (is_number keys number) i more (eq-eqb _ _ e)) ∙ kept

  pub search_skip : (get_or keys (i - 1) 0 ≡ number → ⊥) →
      last_below (is_number keys number) (i - 1) ≡ last_below (is_number keys number) n
  search_skip e = sym (last_skip (is_number keys number) i more (ne_eqb _ _ e)) ∙ kept

-- ---- what stands where a load was found

module _ (powers : List ℕ) where
  pub most_at : (f : Option ℕ) (i : ℕ) → i < 64 → f ≡ Some i → get_or powers i 0 ≡ load_most powers f
  unfolding load_most
  most_at f i h e = rw (e, lt-ltb i 64 h)

  pub most_past : (f : Option ℕ) (i : ℕ) → 64 ≤ i → f ≡ Some i → 0 ≡ load_most powers f
  unfolding load_most
  most_past f i h e = rw (e, le-ltb i 64 h)

  pub most_nothing : (f : Option ℕ) → f ≡ None → 0 ≡ load_most powers f
  unfolding load_most
  most_nothing f e = rw e

module _ (rows : List (List ℕ)) where
  pub row_found : (f : Option ℕ) (i : ℕ) → i < 64 → f ≡ Some i → get_or rows i [] ≡ load_row rows f
  unfolding load_row
  row_found f i h e = rw (e, lt-ltb i 64 h)

  pub row_past : (f : Option ℕ) (i : ℕ) → 64 ≤ i → f ≡ Some i → replicate 50 0 ≡ load_row rows f
  unfolding load_row
  row_past f i h e = rw (e, le-ltb i 64 h)

  pub row_nothing : (f : Option ℕ) → f ≡ None → replicate 50 0 ≡ load_row rows f
  unfolding load_row
  row_nothing f e = rw e

-- ---- the ledger's loads

pub loads_length : (n : ℕ) (cols : LoadColumns) → length (loads_in n cols) ≡ min n 64
unfolding loads_in
loads_length n cols = down_length (load_in cols) (min n load_places)

zeros_at : (n s : ℕ) → ◌≡◌ {A = ℕ} (get_or (replicate n 0) s 0) 0
zeros_at zero s = refl
zeros_at (suc n) zero = refl
zeros_at (suc n) (suc s) = zeros_at n s

module _ (n : ℕ) (cols : LoadColumns) (a z d : ℕ) (ha : a < 8) (hz : z < 4) where
  -- the load at a place is for the actor, the category and the day where its number is theirs
  pub load_at : (i : ℕ) → load_is a z d (load_in cols i) ≡ is_number cols.keys (load_number a z d) i
  load_at i = number_parts (get_or cols.keys i 0) a z d ha hz

  pub found_load : has_load (loads_in n cols) a z d ≡ is_some (last_load cols.keys n (load_number a z d))
  unfolding has_load loads_in last_load
  found_load =
      down_some (load_is a z d) (load_in cols) (min n load_places)
      ∙ ap is_some (last_same _ _ (min n load_places) (λ i h. load_at i))

  approved_below : (i : ℕ) → i ≤ 64 →
      approved (down_from (load_in cols) i) a z d
      ≡ load_most cols.approved (last_below (is_number cols.keys (load_number a z d)) i)
  unfolding approved load_most last_below
  approved_below zero h = refl
  approved_below (suc i) h =
      let ih = approved_below i (omega arith) in
      rw (load_at i)
      (by_test (is_number cols.keys (load_number a z d) i)
      (λ t. rw (t, lt-ltb i 64 (omega arith)))
      (λ t. rw t ih))

  pub approved-most :
      approved (loads_in n cols) a z d ≡ load_most cols.approved (last_load cols.keys n (load_number a z d))
  unfolding loads_in last_load
  approved-most = approved_below (min n load_places) (omega arith)

  loaded_below : (s i : ℕ) → i ≤ 64 →
      loaded (down_from (load_in cols) i) a z d s
      ≡ get_or (load_row cols.rows (last_below (is_number cols.keys (load_number a z d)) i)) s 0
  unfolding loaded load_row last_below
  loaded_below s zero h = sym (zeros_at places s)
  loaded_below s (suc i) h =
      let ih = loaded_below s i (omega arith) in
      rw (load_at i)
      (by_test (is_number cols.keys (load_number a z d) i)
      (λ t. rw (t, lt-ltb i 64 (omega arith)))
      (λ t. rw t ih))

  pub loaded_row : (s : ℕ) →
      loaded (loads_in n cols) a z d s ≡ get_or (load_row cols.rows (last_load cols.keys n (load_number a z d))) s 0
  unfolding loads_in last_load
  loaded_row s = loaded_below s (min n load_places) (omega arith)

-- ---- one load more

-- stored past the counted entries, it stands first
pub one_more : (n : ℕ) (cols : LoadColumns) (number most : ℕ) (row : List ℕ) → n < 64 → length cols.keys ≡ 64 →
    length cols.approved ≡ 64 → length cols.rows ≡ 64 →
    loads_in (n + 1) (load_put cols n number most row) ≡ load_from number most row ∷ loads_in n cols
unfolding loads_in
one_more n cols number most row h lk la lr =
    let m : min (n + 1) 64 ≡ suc n = omega arith in
    let o : min n 64 ≡ n = omega arith in
    rw (m, o)
    (ap₂ ◌∷◌
    (rw (
      get_or-set_same cols.keys n number 0 (omega arith),
      get_or-set_same cols.approved n most 0 (omega arith),
      get_or-set_same cols.rows n row [] (omega arith),
    ))
    (down_same _ _ n
    (λ i k.
    let ne : i ≡ n → ⊥ = λ e. omega arith in
    rw (
      get_or-set_other cols.keys n i number 0 ne,
      get_or-set_other cols.approved n i most 0 ne,
      get_or-set_other cols.rows n i row [] ne,
    ))))
