-- Laws of the entries below a number, the last first, and of the search for the last that passes a test.
use mathlib.Core.Path.{◌≡◌, refl, ◌∙◌, ap, ap₂}
use mathlib.Core.Bool.{Bool, true, false, cond, ◌||◌}
use mathlib.Core.List.{List, ◌∷◌, map}
use Prim.Native.Nat.{ℕ, zero, suc, ◌-◌, ◌<◌}
use native.Mathlib.Omega.{arith}
use lib.ListN.{length, get_or}
use Rattle.lists.specs.Searches.{some, place_of}
use Rattle.lists.specs.Sums.{sum_to, sum_over}
use Rattle.tables.specs.Tables.{down_from}
use Rattle.tables.specs.Passing.{last_below}
use Rattle.std.specs.Prelude.{Option, Some, None, is_some}

-- ---- down_from

module _ {A : Type 0} where
  pub down_length : (f : ℕ → A) (n : ℕ) → length (down_from f n) ≡ n
  down_length f zero = refl
  down_length f (suc n) = ap suc (down_length f n)

  -- only what stands below the number counts
  pub down_same : (f g : ℕ → A) (n : ℕ) → ((i : ℕ) → i < n → f i ≡ g i) → down_from f n ≡ down_from g n
  down_same f g zero h = refl
  down_same f g (suc n) h = ap₂ ◌∷◌ (h n (omega arith)) (down_same f g n (λ i k. h i (omega arith)))

  pub down_map : {B : Type 0} (g : A → B) (f : ℕ → A) (n : ℕ) → map g (down_from f n) ≡ down_from (λ i. g (f i)) n
  down_map g f zero = refl
  down_map g f (suc n) = ap (λ (l : List _). g (f n) ∷ l) (down_map g f n)

  pub down_sum : (f : ℕ → A) (n : ℕ) (w : A → ℕ) → sum_over (down_from f n) w ≡ sum_to n (λ i. w (f i))
  down_sum f zero w = refl
  down_sum f (suc n) w = omega (arith, down_sum f n w)

  pub down_at : (f : ℕ → A) (n i : ℕ) (d : A) → i < n → get_or (down_from f n) i d ≡ f (n - 1 - i)
  down_at f zero i d h = absurd (omega arith)
  down_at f (suc n) zero d h = let e : n ≡ suc n - 1 - 0 = omega arith in ap f e
  down_at f (suc n) (suc i) d h =
      let e : n - 1 - i ≡ suc n - 1 - suc i = omega arith in down_at f n i d (omega arith) ∙ ap f e

-- ---- last_below

-- the place of what was found among n entries with the last first; past them where nothing was
abbrev pub place_in : ℕ → Option ℕ → ℕ
place_in n (Some i) = n - 1 - i
place_in n None = n

pub last_none : (p : ℕ → Bool) (n : ℕ) → n ≡ 0 → None ≡ last_below p n
unfolding last_below
last_none p n e = rw e

pub last_step : (p : ℕ → Bool) (i : ℕ) → 0 < i → last_below p i ≡ cond (p (i - 1)) (Some (i - 1)) (last_below p (i - 1))
unfolding last_below
last_step p zero h = absurd (omega arith)
last_step p (suc i) h =
    let e : i ≡ suc i - 1 = omega arith in ap (λ j. cond (p j) (Some j) (last_below p j)) e

pub last_hit : (p : ℕ → Bool) (i : ℕ) → 0 < i → p (i - 1) ≡ true → last_below p i ≡ Some (i - 1)
last_hit p i h e = last_step p i h ∙ ap (λ b. cond b (Some (i - 1)) (last_below p (i - 1))) e

pub last_skip : (p : ℕ → Bool) (i : ℕ) → 0 < i → p (i - 1) ≡ false → last_below p i ≡ last_below p (i - 1)
last_skip p i h e = last_step p i h ∙ ap (λ b. cond b (Some (i - 1)) (last_below p (i - 1))) e

pub last_same : (p q : ℕ → Bool) (n : ℕ) → ((i : ℕ) → i < n → p i ≡ q i) → last_below p n ≡ last_below q n
unfolding last_below
last_same p q zero h = refl
last_same p q (suc n) h =
    ap₂ (λ b r. cond b (Some n) r) (h n (omega arith)) (last_same p q n (λ i k. h i (omega arith)))

-- what is found is below the bound and passes the test
pub last_below_lem : (p : ℕ → Bool) (n i : ℕ) → last_below p n ≡ Some i → (i < n) × (p i ≡ true)
unfolding last_below
last_below_lem p zero i e = let z : ◌≡◌ {A = ℕ} 0 1 = cc in absurd (omega arith)
last_below_lem p (suc n) i e = go (p n) refl e (last_below_lem p n i)
  where
    go : (b : Bool) → p n ≡ b → cond b (Some n) (last_below p n) ≡ Some i → (last_below p n ≡ Some i → (i < n) × (p i ≡ true)) →
        (i < suc n) × (p i ≡ true)
    go true t e ih = let k : n ≡ i = cc in (omega arith, rw k at t)
    go false t e ih = let r = ih e in (omega arith, r.1)

-- ---- searches among the entries

module _ {A : Type 0} (p : A → Bool) (f : ℕ → A) where
  -- some entry passes the test where one is found
  pub down_some : (n : ℕ) → some p (down_from f n) ≡ is_some (last_below (λ i. p (f i)) n)
  unfolding last_below
  down_some zero = refl
  down_some (suc n) = go (p (f n)) (down_some n)
    where
      go : (b : Bool) → some p (down_from f n) ≡ is_some (last_below (λ i. p (f i)) n) →
          (b || some p (down_from f n)) ≡ is_some (cond b (Some n) (last_below (λ i. p (f i)) n))
      go true e = refl
      go false e = e

  -- the first entry that passes the test is the last found
  pub down_place : (n : ℕ) → place_of p (down_from f n) ≡ place_in n (last_below (λ i. p (f i)) n)
  unfolding place_of last_below
  down_place zero = refl
  down_place (suc n) = go (p (f n)) (last_below (λ i. p (f i)) n) refl (down_place n)
    where
      go : (b : Bool) (r : Option ℕ) → last_below (λ i. p (f i)) n ≡ r → place_of p (down_from f n) ≡ place_in n r →
          cond b 0 (suc (place_of p (down_from f n))) ≡ place_in (suc n) (cond b (Some n) r)
      go true r t e = omega arith
      go false (Some i) t e = let k = last_below_lem (λ j. p (f j)) n i t in let h : i < n = k.0 in omega arith
      go false None t e = ap suc e
