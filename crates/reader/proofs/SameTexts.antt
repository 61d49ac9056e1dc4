-- Two texts, compared byte by byte.
use mathlib.Core.Path.{◌≡◌, refl, sym, ap, ◌∙◌}
use mathlib.Core.Bool.{Bool, false, ◌&&◌}
use mathlib.Core.List.{List, [], ◌∷◌}
use Prim.Native.Nat.{ℕ}
use lib.Dec.{eqb}
use lib.ListN.{length}
use lib.Pointwise.{pointwise}
use Rattle.lists.specs.Searches.{same}
use Rattle.lists.proofs.Tests.{by_test}
use Rattle.lists.proofs.Searches.{same_true}

pub same_length : (s t : List ℕ) → (length s ≡ length t → ⊥) → false ≡ same s t
same_length s t f = by_test (same s t) (λ e. absurd (f (ap length (same_true s t e)))) (λ e. sym e)

-- the library's test of two slices
pointwise_same : (s t : List ℕ) → pointwise eqb s t ≡ same s t
unfolding same
pointwise_same [] [] = refl
pointwise_same [] (y ∷ t) = refl
pointwise_same (x ∷ s) [] = refl
pointwise_same (x ∷ s) (y ∷ t) = ap (λ (b : Bool). eqb x y && b) (pointwise_same s t)

pub same_slices : (s t : List ℕ) {r : Bool} → r ≡ pointwise eqb s t → r ≡ same s t
same_slices s t e = e ∙ pointwise_same s t
