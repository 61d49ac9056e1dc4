-- One store into a list, where a fact of every place is carried on.
use Rattle.std.proofs.Common.{◌≡◌, ℕ, ◌<◌, List, length, get_or, set, sym, subst, get_or-set_other, get_or-set_same}
use native.Mathlib.Decide.{ℕ_discrete}

-- what holds at each place before, and leads to what is wanted at every other place, with what is wanted at the place stored
pub store_each : (P Q : ℕ → ℕ → Type 0) (l : List ℕ) (n v : ℕ) → n < length l → ((j : ℕ) → P j (get_or l j 0)) →
    ((j x : ℕ) → (j ≡ n → ⊥) → P j x → Q j x) → Q n v → (j : ℕ) → Q j (get_or (set l n v) j 0)
store_each P Q l n v h all more here j = go (ℕ_discrete j n)
  where
    go : Dec (j ≡ n) → Q j (get_or (set l n v) j 0)
    go (yes e) =
        subst (λ (k : ℕ). Q k (get_or (set l n v) k 0)) (sym e) (subst (Q n) (sym (get_or-set_same l n v 0 h)) here)
    go (no ne) = subst (Q j) (sym (get_or-set_other l n j v 0 ne)) (more j (get_or l j 0) ne (all j))
