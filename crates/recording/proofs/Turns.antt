-- What one more turn of a loop adds: to a test, to a sum, to a buffer.
use mathlib.Core.Path.{◌≡◌, refl, sym, ◌∙◌, ap}
use mathlib.Core.Bool.{true, false, cond, ◌&&◌}
use mathlib.Core.List.{List, [], ◌∷◌, ◌++◌, append_assoc, map, map-append}
use Prim.Native.Nat.{ℕ, zero, suc, ◌+◌, ◌/◌, ◌%◌, ◌≤◌, ◌<◌}
use native.Mathlib.Omega.{arith}
use native.Mathlib.Numerals.{add-one}
use lib.Dec.{eqb}
use lib.ListN.{length, get_or, drop, set, take, length-map}
use lib.Seq.{drop-cons, set_at, take-suc, length-take-le}
use Rattle.std.proofs.Math.Bool.{and_comm}
use Rattle.lists.specs.Searches.{same}
use Rattle.lists.specs.Tests.{all_below}
use Rattle.lists.proofs.Places.{same_more}
use Rattle.lists.specs.Sums.{sum_to}
use Rattle.ledger.specs.Ledger.{moved_by}
use Rattle.tables.specs.Tables.{Columns, record_in}
use Rattle.tables.specs.Passing.{in_market}
use Rattle.tables.proofs.Listing.{through}
use Rattle.recording.specs.Recording.{gained_at, given_at}

-- ---- tests and sums

-- the first n numbers of two rows are the same where each two are
pub rows_same : (ps qs : List ℕ) (n : ℕ) → n ≤ length ps → n ≤ length qs →
    same (take n ps) (take n qs) ≡ all_below (λ j. eqb (get_or ps j 0) (get_or qs j 0)) n
unfolding same
rows_same ps qs zero h k = refl
rows_same ps qs (suc n) h k =
    same_more ps qs n (omega arith) (omega arith)
    ∙ and_comm (same (take n ps) (take n qs)) (eqb (get_or ps n 0) (get_or qs n 0))
    ∙ ap (λ b. eqb (get_or ps n 0) (get_or qs n 0) && b) (rows_same ps qs n (omega arith) (omega arith))

sum_next : (f : ℕ → ℕ) (i g w : ℕ) → g ≡ sum_to i f → w ≡ f i → g + w ≡ sum_to (i + 1) f
sum_next f i g w e k = rw (add-one i, e, k)

-- one record more in what an actor acquires, and in what it cedes
module _ (cols : Columns) (market a s i sum term p : ℕ) (e : p ≡ moved_by s (record_in cols i)) where
  pub gained_next : sum ≡ sum_to i (gained_at cols market a s) →
      term ≡ cond (eqb (get_or cols.keys i 0 / 64) market && eqb (get_or cols.keys i 0 % 8) a) p 0 →
      sum + term ≡ sum_to (i + 1) (gained_at cols market a s)
  gained_next f g =
      sum_next (gained_at cols market a s) i sum term f
      (g ∙ ap (λ m. cond (eqb (get_or cols.keys i 0 / 64) market && eqb (get_or cols.keys i 0 % 8) a) m 0) e)

  pub given_next : sum ≡ sum_to i (given_at cols market a s) →
      term ≡ cond (eqb (get_or cols.keys i 0 / 64) market && eqb (get_or cols.keys i 0 / 8 % 8) a) p 0 →
      sum + term ≡ sum_to (i + 1) (given_at cols market a s)
  given_next f g =
      sum_next (given_at cols market a s) i sum term f
      (g ∙ ap (λ m. cond (eqb (get_or cols.keys i 0 / 64) market && eqb (get_or cols.keys i 0 / 8 % 8) a) m 0) e)

-- ---- from one record of the category and day to the next

module _ (cols : Columns) (market a s : ℕ) where
  gained_elsewhere : (i sum : ℕ) → in_market cols.keys market i ≡ false → sum ≡ sum_to i (gained_at cols market a s) →
      sum ≡ sum_to (i + 1) (gained_at cols market a s)
  gained_elsewhere i sum e f =
      let z : gained_at cols market a s i ≡ 0 = rw e in
      let g = gained_next cols market a s i sum 0 (moved_by s (record_in cols i)) refl f (sym z) in
      omega (arith, g)

  given_elsewhere : (i sum : ℕ) → in_market cols.keys market i ≡ false → sum ≡ sum_to i (given_at cols market a s) →
      sum ≡ sum_to (i + 1) (given_at cols market a s)
  given_elsewhere i sum e f =
      let z : given_at cols market a s i ≡ 0 = rw e in
      let g = given_next cols market a s i sum 0 (moved_by s (record_in cols i)) refl f (sym z) in
      omega (arith, g)

  module _ (i k sum : ℕ) (h : i ≤ k) (none : (j : ℕ) → i ≤ j → j < k → in_market cols.keys market j ≡ false) where
    pub gained_through : sum ≡ sum_to i (gained_at cols market a s) → sum ≡ sum_to k (gained_at cols market a s)
    gained_through f =
        through (λ j. sum ≡ sum_to j (gained_at cols market a s)) i k h (λ j l u. gained_elsewhere j sum (none j l u)) f

    pub given_through : sum ≡ sum_to i (given_at cols market a s) → sum ≡ sum_to k (given_at cols market a s)
    given_through f =
        through (λ j. sum ≡ sum_to j (given_at cols market a s)) i k h (λ j l u. given_elsewhere j sum (none j l u)) f

  module _ (i sum term : ℕ) (here : in_market cols.keys market i ≡ true) where
    pub gained_here : sum ≡ sum_to i (gained_at cols market a s) →
        term ≡ cond (eqb (get_or cols.keys i 0 % 8) a) (moved_by s (record_in cols i)) 0 →
        sum + term ≡ sum_to (i + 1) (gained_at cols market a s)
    gained_here f g =
        gained_next cols market a s i sum term (moved_by s (record_in cols i)) refl f
        (g ∙ sym (ap (λ b. cond (b && eqb (get_or cols.keys i 0 % 8) a) (moved_by s (record_in cols i)) 0) here))

    pub given_here : sum ≡ sum_to i (given_at cols market a s) →
        term ≡ cond (eqb (get_or cols.keys i 0 / 8 % 8) a) (moved_by s (record_in cols i)) 0 →
        sum + term ≡ sum_to (i + 1) (given_at cols market a s)
    given_here f g =
        given_next cols market a s i sum term (moved_by s (record_in cols i)) refl f
        (g ∙ sym (ap (λ b. cond (b && eqb (get_or cols.keys i 0 / 8 % 8) a) (moved_by s (record_in cols i)) 0) here))

-- ---- a buffer

-- one number more in a buffer that holds numbers from its beginning
pub put_next : (out old xs : List ℕ) (at v : ℕ) → at ≡ length xs → at < length old → out ≡ xs ++ drop at old →
    set out at v ≡ xs ++ (v ∷ []) ++ drop (at + 1) old
put_next out old xs at v e h o =
    let d : out ≡ xs ++ (get_or old at 0 ∷ drop (at + 1) old) = rw (o, add-one at, drop-cons old at 0 h) in
    rw (d, set_at xs (get_or old at 0) (drop (at + 1) old) v at (sym e)) (sym (append_assoc xs (v ∷ []) (drop (at + 1) old)))

-- one number more, made of the next one of a list
pub put_made : (f : ℕ → ℕ) (xs out old : List ℕ) (i v : ℕ) → i < length xs → i < length old → v ≡ f (get_or xs i 0) →
    out ≡ map f (take i xs) ++ drop i old → set out i v ≡ map f (take (i + 1) xs) ++ drop (i + 1) old
put_made f xs out old i v h l e o =
    let n : i ≡ length (map f (take i xs)) = sym (length-map (take i xs) f ∙ length-take-le i xs (omega arith)) in
    let t : take (i + 1) xs ≡ take i xs ++ (get_or xs i 0 ∷ []) = rw (add-one i) (take-suc xs i 0 h) in
    let m : map f (take (i + 1) xs) ≡ map f (take i xs) ++ (v ∷ []) =
    ap (map f) t ∙ map-append f (take i xs) (get_or xs i 0 ∷ []) ∙ ap (λ w. map f (take i xs) ++ (w ∷ [])) (sym e) in
    put_next out old (map f (take i xs)) i v n l o ∙ ap (λ l. l ++ drop (i + 1) old) (sym m)
