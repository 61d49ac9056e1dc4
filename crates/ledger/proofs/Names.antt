-- Actors and categories by their codes and by their places: who is known is found at one place, and keeps it when another one
-- is enrolled.
use mathlib.Core.Path.{◌≡◌, refl, sym, ◌∙◌, ap}
use mathlib.Core.Bool.{Bool, true, false}
use mathlib.Core.List.{List, [], ◌∷◌, ◌++◌, map}
use mathlib.Core.Logic.{◌⊎◌, inl, inr}
use Prim.Native.Nat.{ℕ, ◌≤◌, ◌<◌}
use native.Mathlib.Omega.{arith}
use lib.Dec.{eqb}
use lib.ListN.{length, get_or, length-map}
use borrow.Author.Tests.{eqb-true, eqb-false, eq-eqb, ne_eqb}
use Rattle.lists.specs.Searches.{same}
use Rattle.lists.proofs.Places.{text_at, Once, More, place_map, place_kept, place_some, text_same, text_more}
use Rattle.ledger.specs.declared.Actor.{Actor}
use Rattle.ledger.specs.Ledger.{actor_at, category_at}
use Rattle.ledger.specs.Reading.{is_among}

-- the codes of actors, in the order of their enrolment
abbrev pub codes : List Actor → List (List ℕ)
codes xs = map (λ a. a.code) xs

pub codes_more : (xs : List Actor) (a : Actor) → codes (xs ++ (a ∷ [])) ≡ codes xs ++ (a.code ∷ [])
codes_more [] a = refl
codes_more (x ∷ xs) a = ap (λ cs. x.code ∷ cs) (codes_more xs a)

pub codes_length : (xs : List Actor) → length (codes xs) ≡ length xs
codes_length xs = length-map xs (λ a. a.code)

-- ---- the place of an actor, of a category

pub actor_text : (xs : List Actor) (x : List ℕ) → actor_at xs x ≡ text_at (codes xs) x
unfolding actor_at
actor_text xs x = place_map (λ a. a.code) (λ z. same z x) xs

-- one who is enrolled is found
pub actor_known : (xs : List Actor) (x : List ℕ) → is_among x (codes xs) ≡ true → actor_at xs x < length xs
actor_known xs x e = omega (arith, actor_text xs x, codes_length xs, place_some (λ y. same y x) (codes xs) e)

pub category_known : (xs : List (List ℕ)) (x : List ℕ) → is_among x xs ≡ true → category_at xs x < length xs
unfolding category_at
category_known xs x e = place_some (λ y. same y x) xs e

-- two codes have one place where they are the same
pub actor_same : (xs : List Actor) (x y : List ℕ) → actor_at xs x < length xs → eqb (actor_at xs x) (actor_at xs y) ≡ same x y
actor_same xs x y h =
    rw (actor_text xs x, actor_text xs y) (text_same (codes xs) x y (omega (arith, actor_text xs x, codes_length xs)))

pub category_same : (xs : List (List ℕ)) (x y : List ℕ) → category_at xs x < length xs → eqb (category_at xs x) (category_at xs y) ≡ same x y
unfolding category_at
category_same xs x y h = text_same xs x y h

pub eqb_sym : (m n : ℕ) → eqb m n ≡ eqb n m
eqb_sym m n = go (eqb m n) refl
  where
    go : (b : Bool) → eqb m n ≡ b → b ≡ eqb n m
    go true e = sym (eq-eqb n m (sym (eqb-true m n e)))
    go false e = sym (ne_eqb n m (λ q. eqb-false m n e (sym q)))

-- the same with the known one last
pub actor_is : (xs : List Actor) (x y : List ℕ) → actor_at xs x < length xs → eqb (actor_at xs y) (actor_at xs x) ≡ same x y
actor_is xs x y h = eqb_sym (actor_at xs y) (actor_at xs x) ∙ actor_same xs x y h

pub category_is : (xs : List (List ℕ)) (x y : List ℕ) → category_at xs x < length xs → eqb (category_at xs y) (category_at xs x) ≡ same x y
category_is xs x y h = eqb_sym (category_at xs y) (category_at xs x) ∙ category_same xs x y h

-- where each code stands once, a place is that of its own code
pub actor_own : (xs : List Actor) → Once (codes xs) → (p : ℕ) → p < length xs → actor_at xs (get_or (codes xs) p []) ≡ p
actor_own xs o p h = actor_text xs (get_or (codes xs) p []) ∙ o p (omega (arith, codes_length xs))

-- ---- one more is enrolled

-- the place is kept, or it is past the last before and after
abbrev pub Placed : ℕ → ℕ → ℕ → Type 0
Placed n new old = (new ≡ old) ⊎ ((n ≤ old) × (n ≤ new))

placed : (xs : List (List ℕ)) (x y : List ℕ) → More xs x y → Placed (length xs) (text_at (xs ++ (x ∷ [])) y) (text_at xs y)
placed xs x y (inl e) = inl e
placed xs x y (inr h) = inr (h.0, omega arith)

pub actor_more : (xs : List Actor) (a : Actor) (y : List ℕ) → Placed (length xs) (actor_at (xs ++ (a ∷ [])) y) (actor_at xs y)
actor_more xs a y =
    rw (actor_text (xs ++ (a ∷ [])) y, codes_more, actor_text xs y, ← codes_length xs)
    (placed (codes xs) a.code y (text_more (codes xs) a.code y))

pub category_more : (xs : List (List ℕ)) (x y : List ℕ) → Placed (length xs) (category_at (xs ++ (x ∷ [])) y) (category_at xs y)
unfolding category_at
category_more xs x y = placed xs x y (text_more xs x y)

-- what is 0 past the last place is the same at both
pub same_placed : (f : ℕ → ℕ) (n new old : ℕ) → ((p : ℕ) → n ≤ p → f p ≡ 0) → Placed n new old → f new ≡ f old
same_placed f n new old zeros (inl e) = ap f e
same_placed f n new old zeros (inr h) = zeros new h.1 ∙ sym (zeros old h.0)

-- one who is enrolled already keeps the place
pub actor_kept : (xs ys : List Actor) (y : List ℕ) → actor_at xs y < length xs → actor_at (xs ++ ys) y ≡ actor_at xs y
unfolding actor_at
actor_kept xs ys y h = place_kept (λ a. same a.code y) xs ys h

pub category_kept : (xs ys : List (List ℕ)) (y : List ℕ) → category_at xs y < length xs → category_at (xs ++ ys) y ≡ category_at xs y
unfolding category_at
category_kept xs ys y h = place_kept (λ z. same z y) xs ys h
