-- What is left of a list after a part of it, and a list put into more places than it has entries.
use mathlib.Core.Path.{◌≡◌, refl, ap}
use mathlib.Core.List.{List, ◌∷◌, ◌++◌}
use Prim.Native.Nat.{ℕ, zero, suc, ◌+◌, ◌-◌, ◌≤◌}
use native.Mathlib.Omega.{arith}
use lib.ListN.{length, take, drop, replicate, length-drop}
use lib.Seq.{take_all, take-append-add, drop-append-add}

-- what follows a part and the entry that ends it
pub drop_past : {A : Type 0} (s : List A) (x : A) (t : List A) (n : ℕ) → n ≡ length s + 1 → drop n (s ++ x ∷ t) ≡ t
drop_past s x t n e = rw (e, drop-append-add s (x ∷ t) 1)

-- a part that goes to the end of a list is all of its rest
pub rest_all : {A : Type 0} (n : ℕ) (s : List A) → take (length s - n) (drop n s) ≡ drop n s
rest_all n s = take_all (length s - n) (drop n s) (rw length-drop (omega arith))

module _ {A : Type 0} (z : A) where
  pub take_replicate : (m n : ℕ) → m ≤ n → take m (replicate n z) ≡ replicate m z
  take_replicate zero n h = refl
  take_replicate (suc m) zero h = absurd (omega arith)
  take_replicate (suc m) (suc n) h = ap (λ (l : List A). z ∷ l) (take_replicate m n (omega arith))

  -- a list in n places, filled: its entries stand first
  pub take_filled : (s : List A) (n : ℕ) → length s ≤ n → take n (s ++ replicate n z) ≡ s ++ replicate (n - length s) z
  take_filled s n h =
      let e : length s + (n - length s) ≡ n = omega arith in
      let m : n - length s ≤ n = omega arith in
      let t : take (length s + (n - length s)) (s ++ replicate n z) ≡ s ++ replicate (n - length s) z = rw (take-append-add, take_replicate (n - length s) n m) in
      rw e at t
