-- A fact of every entry of a list.
use mathlib.Core.List.{List, [], ◌∷◌, map}
use Prim.Native.Nat.{ℕ, zero, suc, ◌<◌}
use native.Mathlib.Omega.{arith}
use lib.ListN.{length, get_or}

pub data All {A : Type 0} (P : A → Type 0) : List A → Type 0 where
  all_none : All P []
  all_more : {x : A} {xs : List A} → P x → All P xs → All P (x ∷ xs)

module _ {A : Type 0} {P : A → Type 0} where
  pub all_also : {Q : A → Type 0} {xs : List A} → ((x : A) → P x → Q x) → All P xs → All Q xs
  all_also f all_none = all_none
  all_also f (all_more h a) = all_more (f _ h) (all_also f a)

  pub all_map : {B : Type 0} {Q : B → Type 0} {xs : List A} (g : A → B) → ((x : A) → P x → Q (g x)) → All P xs → All Q (map g xs)
  all_map g f all_none = all_none
  all_map g f (all_more h a) = all_more (f _ h) (all_map g f a)

  pub all_every : (xs : List A) → ((x : A) → P x) → All P xs
  all_every [] f = all_none
  all_every (x ∷ xs) f = all_more (f x) (all_every xs f)

  pub all_at : {xs : List A} → All P xs → (i : ℕ) (d : A) → i < length xs → P (get_or xs i d)
  all_at all_none i d h = absurd (omega arith)
  all_at (all_more h a) zero d k = h
  all_at (all_more h a) (suc i) d k = all_at a i d (omega arith)
