-- Laws of finite sums: term by term, one term changed or alone, sums of sums in either order.
use mathlib.Core.Path.{◌≡◌, refl, sym, ◌∙◌, ap, fun_ext}
use mathlib.Core.List.{List, [], ◌∷◌, map}
use Prim.Native.Nat.{ℕ, zero, suc, ◌+◌, ◌≤◌, ◌<◌}
use native.Mathlib.Omega.{arith}
use native.Mathlib.Decide.{ℕ_discrete}
use lib.ListN.{length, get_or}
use Rattle.lists.specs.Sums.{sum_to, sum_over}
use Rattle.lists.proofs.All.{All, all_more}

-- ---- sum_to

pub sum_ext : (n : ℕ) (f g : ℕ → ℕ) → ((b : ℕ) → f b ≡ g b) → sum_to n f ≡ sum_to n g
sum_ext n f g h = ap (sum_to n) (fun_ext h)

pub sum_zero : (n : ℕ) (f : ℕ → ℕ) → ((b : ℕ) → b < n → f b ≡ 0) → sum_to n f ≡ 0
sum_zero zero f h = refl
sum_zero (suc n) f h = omega (arith, sum_zero n f (λ b k. h b (omega arith)), h n (omega arith))

pub sum_add : (n : ℕ) (f g : ℕ → ℕ) → sum_to n (λ b. f b + g b) ≡ sum_to n f + sum_to n g
sum_add zero f g = refl
sum_add (suc n) f g = omega (arith, sum_add n f g)

pub sum_swap : (n m : ℕ) (f : ℕ → ℕ → ℕ) → sum_to n (λ a. sum_to m (λ b. f a b)) ≡ sum_to m (λ b. sum_to n (λ a. f a b))
sum_swap zero m f = sym (sum_zero m (λ b. 0) (λ b h. refl))
sum_swap (suc n) m f = omega (arith, sum_swap n m f, sum_add m (λ b. sum_to n (λ a. f a b)) (f n))

-- terms that agree except at k
pub sum_same : (n k : ℕ) (f g : ℕ → ℕ) → ((b : ℕ) → (b ≡ k → ⊥) → f b ≡ g b) → n ≤ k → sum_to n f ≡ sum_to n g
sum_same zero k f g h below = refl
sum_same (suc n) k f g h below = omega (arith, sum_same n k f g h (omega arith), h n (omega arith))

pub sum_update : (n k : ℕ) (f g : ℕ → ℕ) → ((b : ℕ) → (b ≡ k → ⊥) → f b ≡ g b) → k < n → sum_to n f + g k ≡ sum_to n g + f k
sum_update zero k f g h below = absurd (omega arith)
sum_update (suc n) k f g h below = go (ℕ_discrete n k) (λ lt. sum_update n k f g h lt)
  where
    go : Dec (n ≡ k) → (k < n → sum_to n f + g k ≡ sum_to n g + f k) → sum_to n f + f n + g k ≡ sum_to n g + g n + f k
    go (yes e) ih = omega (arith, sum_same n k f g h (omega arith), ap f e, ap g e)
    go (no ne) ih = omega (arith, ih (omega arith), h n ne)

-- one term alone
pub sum_only : (n k : ℕ) (f : ℕ → ℕ) → ((b : ℕ) → (b ≡ k → ⊥) → f b ≡ 0) → k < n → sum_to n f ≡ f k
sum_only n k f h below =
    omega (arith, sum_update n k f (λ b. 0) h below, sum_zero n (λ b. 0) (λ b lt. refl))

-- where each entry balances, the sums do
pub sum_balance : (n : ℕ) (g out load inn : ℕ → ℕ) → ((a : ℕ) → a < n → g a + out a ≡ load a + inn a) →
    sum_to n g + sum_to n out ≡ sum_to n load + sum_to n inn
sum_balance zero g out load inn h = refl
sum_balance (suc n) g out load inn h =
    omega (arith, sum_balance n g out load inn (λ a below. h a (omega arith)), h n (omega arith))

-- ---- sum_over

module _ {A : Type 0} where
  pub over_ext : (xs : List A) (f g : A → ℕ) → All (λ x. f x ≡ g x) xs → sum_over xs f ≡ sum_over xs g
  over_ext [] f g a = refl
  over_ext (x ∷ xs) f g (all_more h a) = omega (arith, h, over_ext xs f g a)

  pub over_zero : (xs : List A) (f : A → ℕ) → All (λ x. f x ≡ 0) xs → sum_over xs f ≡ 0
  over_zero [] f a = refl
  over_zero (x ∷ xs) f (all_more h a) = omega (arith, h, over_zero xs f a)

  pub over_map : {B : Type 0} (h : A → B) (xs : List A) (f : B → ℕ) → sum_over (map h xs) f ≡ sum_over xs (λ x. f (h x))
  over_map h [] f = refl
  over_map h (x ∷ xs) f = omega (arith, over_map h xs f)

  -- a sum of sums over numbers and entries, in either order
  pub over_swap : (n : ℕ) (xs : List A) (f : ℕ → A → ℕ) → sum_to n (λ c. sum_over xs (f c)) ≡ sum_over xs (λ x. sum_to n (λ c. f c x))
  over_swap n [] f = sum_zero n (λ c. 0) (λ c h. refl)
  over_swap n (x ∷ xs) f =
      sum_add n (λ c. f c x) (λ c. sum_over xs (f c)) ∙ ap (λ t. sum_to n (λ c. f c x) + t) (over_swap n xs f)

-- ---- sums by places

pub sum_below : (n : ℕ) (f g : ℕ → ℕ) → ((b : ℕ) → b < n → f b ≡ g b) → sum_to n f ≡ sum_to n g
sum_below zero f g h = refl
sum_below (suc n) f g h = omega (arith, sum_below n f g (λ b k. h b (omega arith)), h n (omega arith))

pub sum_front : (n : ℕ) (f : ℕ → ℕ) → sum_to (suc n) f ≡ f 0 + sum_to n (λ b. f (suc b))
sum_front zero f = omega arith
sum_front (suc n) f = omega (arith, sum_front n f)

pub over_places : {A : Type 0} (xs : List A) (d : A) (f : A → ℕ) → sum_over xs f ≡ sum_to (length xs) (λ p. f (get_or xs p d))
over_places [] d f = refl
over_places (x ∷ xs) d f = omega (arith, over_places xs d f, sum_front (length xs) (λ p. f (get_or (x ∷ xs) p d)))
