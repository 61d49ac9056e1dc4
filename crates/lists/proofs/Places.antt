-- Texts and the places where a list has them: a text that is there is found, and keeps its place when another is put at the end.
use mathlib.Core.Path.{◌≡◌, refl, sym, ◌∙◌, ap}
use mathlib.Core.Bool.{Bool, true, false, cond, ◌&&◌, ◌||◌}
use mathlib.Core.List.{List, [], ◌∷◌, ◌++◌, map}
use mathlib.Core.Logic.{◌⊎◌, inl, inr}
use Prim.Native.Nat.{ℕ, zero, suc, ◌+◌, ◌≤◌, ◌<◌}
use native.Mathlib.Omega.{arith}
use native.Mathlib.Decide.{ℕ_discrete}
use lib.Dec.{eqb, ltb}
use lib.ListN.{length, get_or, take, length-append, get_or-append}
use lib.Seq.{get_or-append_seam, get_or-take, length-take-le}
use borrow.Author.Tests.{ltb-true, ltb-false, eq-eqb, ne_eqb}
use Rattle.lists.specs.Searches.{same, some, place_of}
use Rattle.lists.proofs.Searches.{same_refl, same_true}

-- ---- place_of

module _ {A : Type 0} (p : A → Bool) where
  -- what is found passes the test
  pub place_passes : (xs : List A) (d : A) → place_of p xs < length xs → p (get_or xs (place_of p xs) d) ≡ true
  unfolding place_of
  place_passes [] d h = absurd (omega arith)
  place_passes (x ∷ xs) d h = go (p x) refl h (place_passes xs d)
    where
      go : (b : Bool) → p x ≡ b → cond b 0 (suc (place_of p xs)) < suc (length xs) →
          (place_of p xs < length xs → p (get_or xs (place_of p xs) d) ≡ true) →
          p (get_or (x ∷ xs) (cond b 0 (suc (place_of p xs))) d) ≡ true
      go true e h ih = e
      go false e h ih = ih (omega arith)

  -- where some entry passes the test, one is found
  pub place_some : (xs : List A) → some p xs ≡ true → place_of p xs < length xs
  unfolding place_of
  place_some [] e = let z : ◌≡◌ {A = ℕ} 0 1 = cc in absurd (omega arith)
  place_some (x ∷ xs) e = go (p x) e (place_some xs)
    where
      go : (b : Bool) → (b || some p xs) ≡ true → (some p xs ≡ true → place_of p xs < length xs) →
          cond b 0 (suc (place_of p xs)) < suc (length xs)
      go true e ih = omega arith
      go false e ih = omega (arith, ih e)

  pub place_end : (xs : List A) → place_of p xs ≤ length xs
  unfolding place_of
  place_end [] = omega arith
  place_end (x ∷ xs) = go (p x) (place_end xs)
    where
      go : (b : Bool) → place_of p xs ≤ length xs → cond b 0 (suc (place_of p xs)) ≤ suc (length xs)
      go true ih = omega arith
      go false ih = omega arith

  -- what is found keeps its place when more is put at the end
  pub place_kept : (xs ys : List A) → place_of p xs < length xs → place_of p (xs ++ ys) ≡ place_of p xs
  unfolding place_of
  place_kept [] ys h = absurd (omega arith)
  place_kept (x ∷ xs) ys h = go (p x) h (place_kept xs ys)
    where
      go : (b : Bool) → cond b 0 (suc (place_of p xs)) < suc (length xs) →
          (place_of p xs < length xs → place_of p (xs ++ ys) ≡ place_of p xs) →
          cond b 0 (suc (place_of p (xs ++ ys))) ≡ cond b 0 (suc (place_of p xs))
      go true h ih = refl
      go false h ih = ap suc (ih (omega arith))

  -- what isn't found is looked for there
  pub place_later : (xs ys : List A) → length xs ≤ place_of p xs → place_of p (xs ++ ys) ≡ length xs + place_of p ys
  unfolding place_of
  place_later [] ys h = omega arith
  place_later (x ∷ xs) ys h = go (p x) h (place_later xs ys)
    where
      go : (b : Bool) → suc (length xs) ≤ cond b 0 (suc (place_of p xs)) →
          (length xs ≤ place_of p xs → place_of p (xs ++ ys) ≡ length xs + place_of p ys) →
          cond b 0 (suc (place_of p (xs ++ ys))) ≡ suc (length xs) + place_of p ys
      go true h ih = absurd (omega arith)
      go false h ih = omega (arith, ih (omega arith))

pub place_map : {A B : Type 0} (f : A → B) (p : B → Bool) (xs : List A) → place_of (λ x. p (f x)) xs ≡ place_of p (map f xs)
unfolding place_of
place_map f p [] = refl
place_map f p (x ∷ xs) = ap (λ n. cond (p (f x)) 0 (suc n)) (place_map f p xs)

-- ---- the place of a text

abbrev pub text_at : List (List ℕ) → List ℕ → ℕ
text_at xs x = place_of (λ z. same z x) xs

abbrev pub Known : List (List ℕ) → List ℕ → Type 0
Known xs x = text_at xs x < length xs

-- what stands at the place of a text that is there is that text
pub text_found : (xs : List (List ℕ)) (x : List ℕ) → Known xs x → get_or xs (text_at xs x) [] ≡ x
text_found xs x h = same_true (get_or xs (text_at xs x) []) x (place_passes (λ z. same z x) xs [] h)

-- two texts have one place where they are the same
pub text_same : (xs : List (List ℕ)) (x y : List ℕ) → Known xs x → eqb (text_at xs x) (text_at xs y) ≡ same x y
text_same xs x y h = go (same x y) refl
  where
    go : (b : Bool) → same x y ≡ b → eqb (text_at xs x) (text_at xs y) ≡ b
    go true e = rw (same_true x y e) (eq-eqb (text_at xs y) (text_at xs y) refl)
    go false e =
        ne_eqb (text_at xs x) (text_at xs y)
        (λ q.
        let k : Known xs y = omega arith in
        let s : x ≡ y = sym (text_found xs x h) ∙ ap (λ n. get_or xs n []) q ∙ text_found xs y k in
        let t : same x y ≡ true = rw s (same_refl y) in
        let z : ◌≡◌ {A = ℕ} 0 1 = cc in omega arith)

-- one text more: each text keeps its place, or is in neither list
abbrev pub More : List (List ℕ) → List ℕ → List ℕ → Type 0
More xs x y = (text_at (xs ++ (x ∷ [])) y ≡ text_at xs y) ⊎ ((length xs ≤ text_at xs y) × (suc (length xs) ≤ text_at (xs ++ (x ∷ [])) y))

pub text_more : (xs : List (List ℕ)) (x y : List ℕ) → More xs x y
unfolding place_of
text_more xs x y = go (ltb (text_at xs y) (length xs)) (same x y) refl refl
  where
    go : (b t : Bool) → ltb (text_at xs y) (length xs) ≡ b → same x y ≡ t → More xs x y
    go true t e f = inl (place_kept (λ z. same z y) xs (x ∷ []) (ltb-true _ _ e))
    go false t e f = past t f (place_later (λ z. same z y) xs (x ∷ []) (ltb-false _ _ e)) (place_end (λ z. same z y) xs) (ltb-false _ _ e)
      where
        past : (t : Bool) → same x y ≡ t → text_at (xs ++ (x ∷ [])) y ≡ length xs + cond (same x y) 0 1 → text_at xs y ≤ length xs →
            length xs ≤ text_at xs y → More xs x y
        past true f e q h = inl (let k = rw f at e in omega arith)
        past false f e q h = inr (let k = rw f at e in (h, omega arith))

-- a text that isn't there gets the place after the last
pub text_new : (xs : List (List ℕ)) (x : List ℕ) → length xs ≤ text_at xs x → text_at (xs ++ (x ∷ [])) x ≡ length xs
unfolding place_of
text_new xs x h =
    let e = place_later (λ z. same z x) xs (x ∷ []) h in
    let k = rw (same_refl x) at e in
    omega arith

-- ---- each text once: it is found at its own place

abbrev pub Once : List (List ℕ) → Type 0
Once xs = (p : ℕ) → p < length xs → text_at xs (get_or xs p []) ≡ p

pub once_more : (xs : List (List ℕ)) (x : List ℕ) → Once xs → length xs ≤ text_at xs x → Once (xs ++ (x ∷ []))
once_more xs x o new p h = go (ℕ_discrete p (length xs))
  where
    go : Dec (p ≡ length xs) → text_at (xs ++ (x ∷ [])) (get_or (xs ++ (x ∷ [])) p []) ≡ p
    go (yes e) = rw (e, get_or-append_seam) (text_new xs x new)
    go (no ne) =
        let k : p < length xs = omega (arith, length-append xs (x ∷ [])) in
        let same_place = o p k in
        rw (get_or-append) (place_kept (λ z. same z (get_or xs p [])) xs (x ∷ []) (omega arith) ∙ same_place)

-- ---- a search entry by entry: none before i passes

module _ {A : Type 0} (p : A → Bool) where
  pub place_here : (xs : List A) (i : ℕ) (d : A) → i < length xs → i ≤ place_of p xs → p (get_or xs i d) ≡ true → i ≡ place_of p xs
  unfolding place_of
  place_here [] i d h l e = absurd (omega arith)
  place_here (x ∷ xs) zero d h l e = rw e
  place_here (x ∷ xs) (suc i) d h l e = go (p x) l (place_here xs i d (omega arith))
    where
      go : (b : Bool) → suc i ≤ cond b 0 (suc (place_of p xs)) →
          (i ≤ place_of p xs → p (get_or xs i d) ≡ true → i ≡ place_of p xs) →
          suc i ≡ cond b 0 (suc (place_of p xs))
      go true l ih = absurd (omega arith)
      go false l ih = ap suc (ih (omega arith) e)

  pub place_past : (xs : List A) (i : ℕ) (d : A) → i < length xs → i ≤ place_of p xs → p (get_or xs i d) ≡ false → i < place_of p xs
  unfolding place_of
  place_past [] i d h l e = absurd (omega arith)
  place_past (x ∷ xs) zero d h l e = rw e (omega arith)
  place_past (x ∷ xs) (suc i) d h l e = go (p x) l (place_past xs i d (omega arith))
    where
      go : (b : Bool) → suc i ≤ cond b 0 (suc (place_of p xs)) →
          (i ≤ place_of p xs → p (get_or xs i d) ≡ false → i < place_of p xs) →
          suc i < cond b 0 (suc (place_of p xs))
      go true l ih = absurd (omega arith)
      go false l ih = omega (arith, ih (omega arith) e)

-- the same among the first n entries of a list
module _ {A : Type 0} (p : A → Bool) (xs : List A) (n i : ℕ) (enough : n ≤ length xs) (none : i ≤ place_of p (take n xs)) where
  pub first_here : (d : A) → i < n → p (get_or xs i d) ≡ true → i ≡ place_of p (take n xs)
  first_here d h e =
      place_here p (take n xs) i d (omega (arith, length-take-le n xs enough)) none (rw (get_or-take n xs i d h) e)

  pub first_past : (d : A) → i < n → p (get_or xs i d) ≡ false → i + 1 ≤ place_of p (take n xs)
  first_past d h e =
      omega (arith, place_past p (take n xs) i d (omega (arith, length-take-le n xs enough)) none (rw (get_or-take n xs i d h) e))

  pub first_none : n ≤ i → n ≡ place_of p (take n xs)
  first_none h = omega (arith, length-take-le n xs enough, place_end p (take n xs))

-- ---- texts compared byte by byte

pub same_none : (a b : List ℕ) → (length a ≡ length b → ⊥) → false ≡ same a b
same_none a b h = go (same a b) refl
  where
    go : (t : Bool) → same a b ≡ t → false ≡ t
    go true e = absurd (h (ap length (same_true a b e)))
    go false e = refl

pub same_more : (a b : List ℕ) (i : ℕ) → i < length a → i < length b →
    same (take (suc i) a) (take (suc i) b) ≡ (same (take i a) (take i b) && eqb (get_or a i 0) (get_or b i 0))
unfolding same
same_more [] b i h k = absurd (omega arith)
same_more (x ∷ a) [] i h k = absurd (omega arith)
same_more (x ∷ a) (y ∷ b) zero h k = go (eqb x y)
  where
    go : (t : Bool) → (t && true) ≡ t
    go true = refl
    go false = refl
same_more (x ∷ a) (y ∷ b) (suc i) h k = go (eqb x y) (same_more a b i (omega arith) (omega arith))
  where
    go : (t : Bool) → same (take (suc i) a) (take (suc i) b) ≡ (same (take i a) (take i b) && eqb (get_or a i 0) (get_or b i 0)) →
        (t && same (take (suc i) a) (take (suc i) b)) ≡ (t && same (take i a) (take i b) && eqb (get_or a i 0) (get_or b i 0))
    go true e = e
    go false e = refl
