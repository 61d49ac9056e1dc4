-- Laws of loads: what a ledger without one holds, what one load is for, and that no loaded power is above the approved one.
use mathlib.Core.Path.{◌≡◌, refl}
use mathlib.Core.Bool.{true, false, ◌&&◌}
use mathlib.Core.List.{List, [], ◌∷◌, ◌++◌}
use Prim.Native.Nat.{ℕ, ◌≤◌}
use native.Mathlib.Omega.{arith}
use lib.Dec.{leb, eqb}
use lib.ListN.{get_or, replicate}
use borrow.Author.Tests.{leb-true, eqb-true, le-leb}
use Rattle.lists.specs.Searches.{every, some}
use Rattle.lists.proofs.Tests.{both_true, both_false}
use Rattle.lists.proofs.Searches.{every_default, every_take, every_append, every_replicate}
use Rattle.notification.specs.Forms.{places, in_places}
use Rattle.ledger.specs.Ledger.{Load, load_is, has_load, loaded, approved}

-- without a load both are 0
pub no_load : (ls : List Load) (a z d s : ℕ) → has_load ls a z d ≡ false → (loaded ls a z d s ≡ 0) × (approved ls a z d ≡ 0)
unfolding has_load loaded approved
no_load [] a z d s e = (refl, refl)
no_load (x ∷ ls) a z d s e =
    let p = both_false (load_is a z d x) (some (load_is a z d) ls) e in
    rw p.0 (no_load ls a z d s p.1)

-- no loaded power is above the approved one
pub placed_below : (ps : List ℕ) (most s : ℕ) → every (λ p. leb p most) ps ≡ true → get_or (in_places ps) s 0 ≤ most
unfolding in_places
placed_below ps most s e =
    let zeros = every_replicate (λ p. leb p most) places 0 (le-leb 0 most (omega arith)) in
    let all = every_take (λ p. leb p most) places (ps ++ replicate places 0) (every_append (λ p. leb p most) ps (replicate places 0) e zeros) in
    leb-true (get_or (in_places ps) s 0) most (every_default (λ p. leb p most) (in_places ps) 0 all (le-leb 0 most (omega arith)) s)

pub load_is_lem : (x : Load) (a z d : ℕ) → load_is a z d x ≡ true → (x.actor ≡ a) × (x.category ≡ z) × (x.day ≡ d)
load_is_lem x a z d e =
    let p = both_true (eqb x.actor a && eqb x.category z) (eqb x.day d) e in
    let q = both_true (eqb x.actor a) (eqb x.category z) p.0 in
    (eqb-true x.actor a q.0, eqb-true x.category z q.1, eqb-true x.day d p.1)
