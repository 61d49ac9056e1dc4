-- A test that passes at every number below a bound, computed once, holds at each of them.
use mathlib.Core.Path.{◌≡◌, sym, subst}
use mathlib.Core.Bool.{Bool, true, false, ◌&&◌}
use Prim.Native.Nat.{ℕ, zero, suc, ◌<◌}
use native.Mathlib.Nat.{not-suc-le-zero, le_of_suc-le-suc, eq-or-lt_of_le}
use mathlib.Core.Logic.{⊎_elim}
use lib.Dec.{T}
use Rattle.lists.specs.Tests.{all_below, grid}

-- ---- two tests joined

pub T-left : (a b : Bool) → T (a && b) → T a
T-left true b t = tt
T-left false b t = t

pub T-right : (a b : Bool) → T (a && b) → T b
T-right true b t = t
T-right false b t = absurd t

-- ---- all_below

pub below : (f : ℕ → Bool) (n : ℕ) → T (all_below f n) → (k : ℕ) → k < n → T (f k)
below f zero t k h = absurd (not-suc-le-zero h)
below f (suc n) t k h =
    ⊎_elim
    (λ (e : k ≡ n). subst (λ (m : ℕ). T (f m)) (sym e) (T-left (f n) (all_below f n) t))
    (λ l. below f n (T-right (f n) (all_below f n) t) k l)
    (eq-or-lt_of_le (le_of_suc-le-suc h))

-- ---- grid

pub within : (f : ℕ → ℕ → Bool) (m n : ℕ) → T (grid f m n) → (i k : ℕ) → i < m → k < n → T (f i k)
within f m n t i k hi hk = below (f i) n (below (λ j. all_below (f j) n) m t i hi) k hk
