-- What a ledger holds is what the events that led to it say, code by code; each call keeps it so, a refused one too.
use mathlib.Core.Path.{◌≡◌, refl, ◌∙◌, ap}
use mathlib.Core.Bool.{false, and-false}
use mathlib.Core.List.{List, [], ◌∷◌, ◌++◌}
use mathlib.Core.Logic.{◌⊎◌, inl, inr}
use Prim.Native.Nat.{ℕ, ◌≤◌, ◌<◌}
use native.Mathlib.Omega.{arith}
use lib.ListN.{length, length-append}
use borrow.Author.Tests.{ne_eqb}
use Rattle.lists.proofs.All.{All, all_none, all_more, all_also}
use Rattle.lists.proofs.Places.{Once, once_more}
use Rattle.calendar.specs.Steps.{steps_of}
use Rattle.ledger.specs.Call.{Call, enrol_actor, enrol_category, advance}
use Rattle.ledger.specs.Ledger as Held
use Rattle.ledger.specs.declared.Actor.{Actor}
use Rattle.ledger.specs.Ledger.{Load, Ledger, fresh, actor_at, category_at, load_is, loaded, approved, power}
use Rattle.ledger.specs.Calls.{effect}
use Rattle.ledger.specs.Reading.{Event, actors_of, categories_of, clock_of, loaded_of, approved_of, power_of}
use Rattle.ledger.specs.Whole.{key_by}
use Rattle.ledger.proofs.Passed.{ActorOk}
use Rattle.ledger.proofs.Powers.{Parties, key_from, power_stranger}
use Rattle.ledger.proofs.Names.{codes, codes_more, codes_length, actor_text, actor_more, category_more, same_placed}

-- a load is of an enrolled actor in an enrolled category
pub record Loader (actors categories : ℕ) (x : Load) : Type 0 where
  pub actor_there : x.actor < actors
  pub category_there : x.category < categories

abbrev pub Loaders : Ledger → Type 0
Loaders l = All (Loader (length l.actors) (length l.categories)) l.loads

-- for all codes and categories, those that are not enrolled included: they have the place past the last, and nothing there
pub record Reads (l : Ledger) (h : List Event) : Type 0 where
  pub actors : codes l.actors ≡ actors_of h
  pub categories : l.categories ≡ categories_of h
  pub clock : l.clock ≡ clock_of h
  -- each code stands once
  pub once : Once (codes l.actors)
  pub loaders : Loaders l
  pub loaded : (a z : List ℕ) (d s : ℕ) →
      Held.loaded l.loads (actor_at l.actors a) (category_at l.categories z) d s ≡ loaded_of h a z d s
  pub approved : (a z : List ℕ) (d : ℕ) →
      Held.approved l.loads (actor_at l.actors a) (category_at l.categories z) d ≡ approved_of h a z d
  pub power : (c a z : List ℕ) (d s : ℕ) → s < steps_of d → Held.power l.records (key_by l c a z d) s ≡ power_of h c a z d s

pub reads_fresh : Reads fresh []
unfolding actors_of categories_of clock_of loaded_of approved_of power_of Held.loaded Held.approved Held.power Held.moved
reads_fresh =
    record {
      actors = refl;
      categories = refl;
      clock = refl;
      once = λ p h. absurd (omega arith);
      loaders = all_none;
      loaded = λ a z d s. refl;
      approved = λ a z d. refl;
      power = λ c a z d s h. refl;
    }

-- ---- nothing is loaded past the last place

module _ (n m a z d : ℕ) (out : (n ≤ a) ⊎ (m ≤ z)) where
  other_load : (x : Load) → Loader n m x → load_is a z d x ≡ false
  other_load x p = go out
    where
      go : (n ≤ a) ⊎ (m ≤ z) → load_is a z d x ≡ false
      go (inl h) = rw (ne_eqb x.actor a (λ e. omega arith))
      go (inr h) = simp (ne_eqb x.category z (λ e. omega arith), and-false)

  loaded_stranger : (xs : List Load) → All (Loader n m) xs → (s : ℕ) → loaded xs a z d s ≡ 0
  unfolding loaded
  loaded_stranger [] all s = refl
  loaded_stranger (x ∷ xs) (all_more p all) s = rw (other_load x p) (loaded_stranger xs all s)

  approved_stranger : (xs : List Load) → All (Loader n m) xs → approved xs a z d ≡ 0
  unfolding approved
  approved_stranger [] all = refl
  approved_stranger (x ∷ xs) (all_more p all) = rw (other_load x p) (approved_stranger xs all)

-- ---- enrolments, and the clock

-- an accepted call with its answer
unfoldable pub event : Call → Ledger → Event
event c l = record { call = c; answer = (effect l c).answer }

module _ (l : Ledger) (h : List Event) (r : Reads l h) (parties : Parties l) where
  pub reads_actor : (code : List ℕ) (first last : ℕ) → ActorOk l code first last →
      Reads (effect l (enrol_actor code first last)).ledger (event (enrol_actor code first last) l ∷ h)
  unfolding effect event actors_of categories_of clock_of loaded_of approved_of power_of
  reads_actor code first last ok =
      let x : Actor = record { code = code; first = first; last = last } in
      let n = length l.actors in
      let m = length l.categories in
      record {
        actors = codes_more l.actors x ∙ ap (λ cs. cs ++ (code ∷ [])) r.actors;
        categories = r.categories;
        clock = r.clock;
        once = rw (codes_more l.actors x) (once_more (codes l.actors) code r.once (omega (arith, ok.new, actor_text l.actors code, codes_length l.actors)));
        loaders = all_also (λ y p. record { actor_there = omega (arith, p.actor_there, length-append l.actors (x ∷ [])); category_there = p.category_there }) r.loaders;
        loaded = λ a z d s.
            same_placed (λ p. loaded l.loads p (category_at l.categories z) d s) n _ _
            (λ p past. loaded_stranger n m p (category_at l.categories z) d (inl past) l.loads r.loaders s)
            (actor_more l.actors x a) ∙ r.loaded a z d s;
        approved = λ a z d.
            same_placed (λ p. approved l.loads p (category_at l.categories z) d) n _ _
            (λ p past. approved_stranger n m p (category_at l.categories z) d (inl past) l.loads r.loaders)
            (actor_more l.actors x a) ∙ r.approved a z d;
        power = λ c a z d s below.
            same_placed (λ p. power l.records (key_from p (actor_at (l.actors ++ (x ∷ [])) a) (category_at l.categories z) d) s) n _ _
            (λ p past. power_stranger l parties (key_from p (actor_at (l.actors ++ (x ∷ [])) a) (category_at l.categories z) d) s (inl past))
            (actor_more l.actors x c) ∙
            same_placed (λ p. power l.records (key_from (actor_at l.actors c) p (category_at l.categories z) d) s) n _ _
            (λ p past. power_stranger l parties (key_from (actor_at l.actors c) p (category_at l.categories z) d) s (inr (inl past)))
            (actor_more l.actors x a) ∙ r.power c a z d s below;
      }

  pub reads_category : (text : List ℕ) → Reads (effect l (enrol_category text)).ledger (event (enrol_category text) l ∷ h)
  unfolding effect event actors_of categories_of clock_of loaded_of approved_of power_of
  reads_category text =
      let n = length l.actors in
      let m = length l.categories in
      record {
        actors = r.actors;
        categories = ap (λ zs. zs ++ (text ∷ [])) r.categories;
        clock = r.clock;
        once = r.once;
        loaders = all_also (λ y p. record { actor_there = p.actor_there; category_there = omega (arith, p.category_there, length-append l.categories (text ∷ [])) }) r.loaders;
        loaded = λ a z d s.
            same_placed (λ p. loaded l.loads (actor_at l.actors a) p d s) m _ _
            (λ p past. loaded_stranger n m (actor_at l.actors a) p d (inr past) l.loads r.loaders s)
            (category_more l.categories text z) ∙ r.loaded a z d s;
        approved = λ a z d.
            same_placed (λ p. approved l.loads (actor_at l.actors a) p d) m _ _
            (λ p past. approved_stranger n m (actor_at l.actors a) p d (inr past) l.loads r.loaders)
            (category_more l.categories text z) ∙ r.approved a z d;
        power = λ c a z d s below.
            same_placed (λ p. power l.records (key_from (actor_at l.actors c) (actor_at l.actors a) p d) s) m _ _
            (λ p past. power_stranger l parties (key_from (actor_at l.actors c) (actor_at l.actors a) p d) s (inr (inr past)))
            (category_more l.categories text z) ∙ r.power c a z d s below;
      }

pub reads_advance : (l : Ledger) (h : List Event) → Reads l h → (day minute : ℕ) →
    Reads (effect l (advance day minute)).ledger (event (advance day minute) l ∷ h)
unfolding effect event actors_of categories_of clock_of loaded_of approved_of power_of
reads_advance l h r day minute =
    record {
      actors = r.actors;
      categories = r.categories;
      clock = refl;
      once = r.once;
      loaders = r.loaders;
      loaded = r.loaded;
      approved = r.approved;
      power = r.power;
    }
