-- What the tables of actors and categories hold: as many entries as they have places, what a search finds, and one entry more.
use mathlib.Core.Path.{◌≡◌, refl, sym, ◌∙◌, ap}
use mathlib.Core.Bool.{Bool, cond}
use mathlib.Core.List.{List, [], ◌∷◌, ◌++◌, map, map-append}
use Prim.Native.Nat.{ℕ, suc, ◌+◌, ◌<◌, min}
use native.Mathlib.Omega.{arith}
use lib.Dec.{ltb}
use lib.ListN.{length, take, set}
use lib.Seq.{take-suc-set}
use mir.Val.{Val}
use denote.Laws.{Is}
use borrow.Author.Tests.{ltb-false}
use Rattle.std.specs.List.{position, position_or_len}
use Rattle.std.specs.Option.{unwrap_or}
use Rattle.std.specs.Prelude.{Option}
use Rattle.std.proofs.lemmas.List.Recursion.{is_position_or_len}
use Rattle.lists.specs.Searches.{place_of}
use Rattle.lists.proofs.Places.{place_end}
use Rattle.lists.proofs.Tests.{by_test}
use Rattle.notification.specs.Forms.{category_text}
use Rattle.ledger.specs.declared.Actor.{Actor}
use Rattle.tables.specs.declared.actors.Actors.{Actors}
use Rattle.tables.specs.declared.categories.Category.{Category}
use Rattle.tables.specs.declared.categories.Categories.{Categories}
use Rattle.tables.specs.Tables.{actors_in, categories_in}
use Rattle.tables.specs.contracts.actors.Actors as actors
use Rattle.tables.specs.contracts.categories.Categories as categories

-- ---- lengths

pub actors_length : (x : Actors) (vs : List Val) → Is actors.the_row x vs → length x.entries ≡ 8
actors_length x vs p = p.1.1.1.0.1.0.1

pub categories_length : (x : Categories) (vs : List Val) → Is categories.the_row x vs → length x.entries ≡ 4
categories_length x vs p = p.1.1.1.0.1.0.1

-- ---- one entry more

entry_more : {A : Type 0} (xs : List A) (k n : ℕ) (x : A) → length xs ≡ n → k < n →
    take (min (k + 1) n) (set xs k x) ≡ take (min k n) xs ++ (x ∷ [])
entry_more xs k n x e h =
    let a : min (k + 1) n ≡ suc k = omega arith in
    let b : min k n ≡ k = omega arith in
    let l : k < length xs = omega arith in
    rw (a, b) (take-suc-set xs k x l)

pub actor_more : (x : Actors) (a : Actor) → length x.entries ≡ 8 → x.count < 8 →
    actors_in (record { count = x.count + 1; entries = set x.entries x.count a }) ≡ actors_in x ++ (a ∷ [])
unfolding actors_in
actor_more x a n h = entry_more x.entries x.count 8 a n h

pub category_more : (x : Categories) (z : Category) → length x.entries ≡ 4 → x.count < 4 →
    categories_in (record { count = x.count + 1; entries = set x.entries x.count z }) ≡ categories_in x ++ (category_text z.text ∷ [])
unfolding categories_in
category_more x z n h =
    let f : Category → List ℕ = λ z. category_text z.text in
    ap (map f) (entry_more x.entries x.count 4 z n h) ∙ map-append f (take (min x.count 4) x.entries) (z ∷ [])

-- ---- searches

-- the place that std's search finds, or the number of entries
pub place_found : {A : Type 0} (p : A → Bool) (xs : List A) (n : ℕ) (r : Option ℕ) → n ≡ length xs → r ≡ position p xs → unwrap_or r n ≡ place_of p xs
unfolding place_of
place_found p xs n r e f =
    let first = is_position_or_len (place_of p) p refl (λ x xs. ap (cond (p x) 0) (omega arith)) xs in
    let last = place_end p xs in
    rw f
    (by_test (ltb (position_or_len p xs) (length xs))
    (λ t. rw t (sym first))
    (λ t. rw t (omega (arith, ltb-false _ _ t))))
