-- What comparing and copying the bytes of codes and categories comes to.
use mathlib.Core.Path.{◌≡◌, refl, ap, ◌∙◌}
use mathlib.Core.Bool.{Bool, true, false, ◌&&◌}
use mathlib.Core.List.{List, [], ◌∷◌}
use Prim.Native.Nat.{ℕ}
use native.Mathlib.Omega.{arith}
use lib.Dec.{eqb}
use lib.ListN.{length, get_or, take}
use borrow.Author.Tests.{eq-eqb, ne_eqb}
use Rattle.std.specs.List.{fold, zip}
use Rattle.std.specs.Cmp.Lexicographic.{pointwise}
use Rattle.std.proofs.Math.Bool.{and_assoc}
use Rattle.lists.specs.Searches.{same}
use Rattle.notification.specs.Forms.{category_text}

-- two texts of one length, compared pair by pair
pairs_fold : (b : Bool) (a s : List ℕ) → length a ≡ length s → fold (λ good p. good && eqb p.0 p.1) b (zip a s) ≡ (b && same a s)
unfolding same
pairs_fold true [] [] e = refl
pairs_fold false [] [] e = refl
pairs_fold b [] (y ∷ s) e = absurd (omega arith)
pairs_fold b (x ∷ a) [] e = absurd (omega arith)
pairs_fold b (x ∷ a) (y ∷ s) e = pairs_fold (b && eqb x y) a s (omega arith) ∙ and_assoc b (eqb x y) (same a s)

pub pairs_same : (a s : List ℕ) → length a ≡ length s → fold (λ good p. good && eqb p.0 p.1) true (zip a s) ≡ same a s
pairs_same a s e = pairs_fold true a s e

-- two texts, compared by `==`
pub same_pointwise : (a s : List ℕ) → pointwise eqb a s ≡ same a s
unfolding same
same_pointwise [] [] = refl
same_pointwise [] (y ∷ s) = refl
same_pointwise (x ∷ a) [] = refl
same_pointwise (x ∷ a) (y ∷ s) = ap (◌&&◌ (eqb x y)) (same_pointwise a s)

-- the text of a category in six bytes that has no C, and of one that has
pub text_short : (c : List ℕ) → get_or c 5 0 ≡ 0 → take 5 c ≡ category_text c
unfolding category_text
text_short c e = rw (eq-eqb (get_or c 5 0) 0 e)

pub text_long : (c : List ℕ) → (get_or c 5 0 ≡ 0 → ⊥) → c ≡ category_text c
unfolding category_text
text_long c e = rw (ne_eqb (get_or c 5 0) 0 e)
