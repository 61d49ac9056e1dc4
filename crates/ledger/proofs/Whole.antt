-- DEMAND 3 PROVED of the ledger: what holds after every list of calls, by one induction over the list.
use Rattle.std.specs.Prelude.{Ok}
use mathlib.Core.Path.{◌≡◌, refl, sym, ◌∙◌, ap, ap₂, fun_ext}
use mathlib.Core.Bool.{true, false}
use mathlib.Core.List.{List, [], ◌∷◌}
use Prim.Native.Nat.{ℕ, ◌+◌, ◌≤◌, ◌<◌}
use native.Mathlib.Omega.{arith}
use lib.ListN.{length, get_or, length-append}
use borrow.Author.Tests.{lt-ltb}
use Rattle.lists.specs.Sums.{sum_to, sum_over}
use Rattle.lists.proofs.Sums.{sum_balance, over_swap}
use Rattle.lists.proofs.Sums.{sum_below, over_places}
use Rattle.calendar.specs.Steps.{steps_of}
use Rattle.calendar.specs.Clocks.{counts}
use Rattle.ledger.specs.Call.{Call}
use Rattle.ledger.specs.Ledger.{Ledger, fresh, actor_at, category_at, power, acquired, ceded, gained, engagement}
use Rattle.ledger.specs.Calls.{step, file_at}
use Rattle.ledger.specs.Asking.{engagement_tests, engaged_at, ask_engagement}
use Rattle.ledger.specs.Reading.{Event, events, is_among, actors_of, categories_of, clock_of, loaded_of, approved_of, power_of, acquired_of, ceded_of}
use Rattle.ledger.specs.Whole.{Asked, Holds, Demand3, after, answers_to}
use Rattle.ledger.proofs.Steps.{actor_of, step_kept}
use Rattle.ledger.proofs.Sound.{Sound, sound_fresh, sound_step, frozen_step, ended_step}
use Rattle.ledger.proofs.Names.{codes, codes_length, actor_known, category_known, actor_own, actor_kept, category_kept}
use Rattle.ledger.proofs.Powers.{key_from, acquired_keys, ceded_keys}
use Rattle.ledger.proofs.Readings.{Reads, reads_fresh}
use Rattle.ledger.proofs.Events.{reads_step}

-- ---- sums over places are sums over codes

module _ (l : Ledger) (h : List Event) (r : Reads l h) where
  -- a sum over the places of the actors, of what belongs to each one's code
  by_codes : (f : ℕ → ℕ) (g : List ℕ → ℕ) → ((x : List ℕ) → f (actor_at l.actors x) ≡ g x) → sum_to (length l.actors) f ≡ sum_over (actors_of h) g
  by_codes f g e =
      let cs = codes l.actors in
      sum_below (length l.actors) f (λ p. g (get_or cs p []))
      (λ p below. ap f (sym (actor_own l.actors r.once p below)) ∙ e (get_or cs p [])) ∙
      ap (λ n. sum_to n (λ p. g (get_or cs p []))) (sym (codes_length l.actors)) ∙
      sym (over_places cs [] g) ∙
      ap (λ xs. sum_over xs g) r.actors

  module _ (k : Sound l) (a z : List ℕ) (d s : ℕ) (below : s < steps_of d) where
    acquired_reads : acquired l.records (actor_at l.actors a) (category_at l.categories z) d s ≡ acquired_of h a z d s
    unfolding acquired_of
    acquired_reads =
        acquired_keys l k.parties (actor_at l.actors a) (category_at l.categories z) d s ∙
        by_codes (λ c. power l.records (key_from c (actor_at l.actors a) (category_at l.categories z) d) s) (λ c. power_of h c a z d s)
        (λ c. r.power c a z d s below)

    ceded_reads : ceded l.records (actor_at l.actors a) (category_at l.categories z) d s ≡ ceded_of h a z d s
    unfolding ceded_of
    ceded_reads =
        ceded_keys l k.parties (actor_at l.actors a) (category_at l.categories z) d s ∙
        by_codes (λ b. power l.records (key_from (actor_at l.actors a) b (category_at l.categories z) d) s) (λ b. power_of h a b z d s)
        (λ b. r.power a b z d s below)

    -- loaded + acquired - ceded by the exchanges that survive
    balance : engaged_at l a z d s + ceded_of h a z d s ≡ loaded_of h a z d s + acquired_of h a z d s
    unfolding engaged_at engagement gained
    balance =
        omega (arith, k.bounds (actor_at l.actors a) (category_at l.categories z) d s below, acquired_reads, ceded_reads, r.loaded a z d s)

    upper : engaged_at l a z d s ≤ approved_of h a z d
    unfolding engaged_at engagement
    upper =
        omega (arith, k.bounds (actor_at l.actors a) (category_at l.categories z) d s below, r.approved a z d)

-- what is acquired by all is what is ceded by all
exchanged : (h : List Event) (z : List ℕ) (d s : ℕ) →
    sum_over (actors_of h) (λ a. acquired_of h a z d s) ≡ sum_over (actors_of h) (λ a. ceded_of h a z d s)
unfolding acquired_of ceded_of
exchanged h z d s =
    let xs = actors_of h in
    over_places xs [] (λ a. sum_over xs (λ c. power_of h c a z d s)) ∙
    over_swap (length xs) xs (λ p c. power_of h c (get_or xs p []) z d s) ∙
    ap (sum_over xs) (fun_ext (λ c. sym (over_places xs [] (λ b. power_of h c b z d s))))

conserves : (l : Ledger) (h : List Event) → Reads l h → Sound l → (z : List ℕ) (d s : ℕ) → s < steps_of d →
    sum_over (actors_of h) (λ a. engaged_at l a z d s) ≡ sum_over (actors_of h) (λ a. loaded_of h a z d s)
conserves l h r k z d s below =
    let xs = actors_of h in
    omega (arith, exchanged h z d s, over_places xs [] (λ a. engaged_at l a z d s), over_places xs [] (λ a. ceded_of h a z d s), over_places xs [] (λ a. loaded_of h a z d s), over_places xs [] (λ a. acquired_of h a z d s), sum_balance (length xs) (λ p. engaged_at l (get_or xs p []) z d s) (λ p. ceded_of h (get_or xs p []) z d s) (λ p. loaded_of h (get_or xs p []) z d s) (λ p. acquired_of h (get_or xs p []) z d s) (λ p in'. balance l h r k (get_or xs p []) z d s below))

-- ---- who is asked about is known, and keeps the place

module _ (l : Ledger) (h : List Event) (r : Reads l h) where
  known_actor : (a : List ℕ) → is_among a (actors_of h) ≡ true → actor_at l.actors a < length l.actors
  known_actor a e = actor_known l.actors a (rw r.actors e)

  known_category : (z : List ℕ) → is_among z (categories_of h) ≡ true → category_at l.categories z < length l.categories
  known_category z e = category_known l.categories z (rw r.categories e)

  answers : (a z : List ℕ) (d s : ℕ) → Asked h a z d s → ask_engagement l a z d s ≡ Ok (engaged_at l a z d s)
  unfolding ask_engagement engagement_tests
  answers a z d s q =
      rw (lt-ltb (actor_at l.actors a) (length l.actors) (known_actor a q.actor), lt-ltb (category_at l.categories z) (length l.categories) (known_category z q.category), lt-ltb s (steps_of d) q.in_day_lem)

-- an enrolled actor, a category keeps its place through every call
kept_actor : (l : Ledger) (a : List ℕ) → actor_at l.actors a < length l.actors → (c : Call) →
    actor_at (step l c).ledger.actors a ≡ actor_at l.actors a
unfolding file_at
kept_actor l a h c =
    step_kept l (λ m. actor_at m.actors a ≡ actor_at l.actors a)
    (record {
      refused = refl;
      actor = λ code first last ok. actor_kept l.actors (actor_of code first last ∷ []) a h;
      category = λ text ok. refl;
      load = λ x z d m ps ok. refl;
      filing = λ u n ok. refl;
      clock = λ d m ok. refl;
    })
    c

kept_category : (l : Ledger) (z : List ℕ) → category_at l.categories z < length l.categories → (c : Call) →
    category_at (step l c).ledger.categories z ≡ category_at l.categories z
unfolding file_at
kept_category l z h c =
    step_kept l (λ m. category_at m.categories z ≡ category_at l.categories z)
    (record {
      refused = refl;
      actor = λ code first last ok. refl;
      category = λ text ok. category_kept l.categories (text ∷ []) z h;
      load = λ x z' d m ps ok. refl;
      filing = λ u n ok. refl;
      clock = λ d m ok. refl;
    })
    c

-- no call takes away an actor or a category
more_known : (l : Ledger) (c : Call) →
    (length l.actors ≤ length (step l c).ledger.actors) × (length l.categories ≤ length (step l c).ledger.categories)
unfolding file_at
more_known l c =
    step_kept l (λ m. (length l.actors ≤ length m.actors) × (length l.categories ≤ length m.categories))
    (record {
      refused = (omega arith, omega arith);
      actor = λ code first last ok. (simp length-append (omega arith), omega arith);
      category = λ text ok. (omega arith, simp length-append (omega arith));
      load = λ x z d m ps ok. (omega arith, omega arith);
      filing = λ u n ok. (omega arith, omega arith);
      clock = λ d m ok. (omega arith, omega arith);
    })
    c

next_reads : (l : Ledger) (h : List Event) → Reads l h → Sound l → (c : Call) → Reads (step l c).ledger (record { call = c; answer = (step l c).answer } ∷ h)
next_reads l h r k c = reads_step l h c k.parties k.spans r

same_engaged : (l : Ledger) → Sound l → (c : Call) (a z : List ℕ) (d s : ℕ) → s < steps_of d →
    actor_at l.actors a < length l.actors → category_at l.categories z < length l.categories →
    counts (step l c).ledger.clock d s ≡ false → engaged_at (step l c).ledger a z d s ≡ engaged_at l a z d s
unfolding engaged_at
same_engaged l k c a z d s below ka kz out =
    ap₂ (λ i j. engagement (step l c).ledger i j d s) (kept_actor l a ka c) (kept_category l z kz c) ∙
    frozen_step l c k (actor_at l.actors a) (category_at l.categories z) d s below out

freezes : (l : Ledger) (h : List Event) → Reads l h → Sound l → (c : Call) (a z : List ℕ) (d s : ℕ) → Asked h a z d s →
    counts (clock_of (record { call = c; answer = (step l c).answer } ∷ h)) d s ≡ false → engaged_at (step l c).ledger a z d s ≡ engaged_at l a z d s
freezes l h r k c a z d s q out =
    same_engaged l k c a z d s q.in_day_lem (known_actor l h r a q.actor) (known_category l h r z q.category)
    (ap (λ t. counts t d s) (next_reads l h r k c).clock ∙ out)

-- ---- what holds of a ledger that reads its events and is sound

pub holds : (l : Ledger) (h : List Event) → Reads l h → Sound l → Holds l h
holds l h r k =
    record {
      answered = answers l h r;
      engaged = λ a z d s q. balance l h r k a z d s q.in_day_lem;
      conserved = λ z d s among below. conserves l h r k z d s below;
      bounded = λ a z d s q. upper l h r k a z d s q.in_day_lem;
      frozen = freezes l h r k;
      explained = λ c a z d s among q. r.power c a z d s q.in_day_lem;
    }

-- ---- the one induction over the list, from any ledger that events led to

pub keep : (cs : List Call) (l : Ledger) (h : List Event) → Reads l h → Sound l → Reads (after l cs) (events cs (answers_to l cs) h) × Sound (after l cs)
keep [] l h r k = (r, k)
keep (c ∷ cs) l h r k =
    keep cs (step l c).ledger (record { call = c; answer = (step l c).answer } ∷ h) (next_reads l h r k c) (sound_step l c k)

-- THE THEOREM
pub demand3 : (cs : List Call) → Demand3 fresh cs
demand3 cs =
    let p = keep cs fresh [] reads_fresh sound_fresh in
    holds (after fresh cs) (events cs (answers_to fresh cs) []) p.0 p.1

-- ---- "whichever call comes next", call after call: what no longer counts stays for good

settles : (more : List Call) (l : Ledger) → Sound l → (a z : List ℕ) (d s : ℕ) → s < steps_of d →
    actor_at l.actors a < length l.actors → category_at l.categories z < length l.categories →
    counts l.clock d s ≡ false → engaged_at (after l more) a z d s ≡ engaged_at l a z d s
settles [] l k a z d s below ka kz out = refl
settles (c ∷ more) l k a z d s below ka kz out =
    let known = more_known l c in
    let ended = ended_step l c k d s out in
    settles more (step l c).ledger (sound_step l c k) a z d s below
    (omega (arith, kept_actor l a ka c, known.0)) (omega (arith, kept_category l z kz c, known.1)) ended ∙
    same_engaged l k c a z d s below ka kz ended

pub for_good : (cs more : List Call) (a z : List ℕ) (d s : ℕ) → Asked (events cs (answers_to fresh cs) []) a z d s →
    counts (clock_of (events cs (answers_to fresh cs) [])) d s ≡ false →
    engaged_at (after (after fresh cs) more) a z d s ≡ engaged_at (after fresh cs) a z d s
for_good cs more a z d s q out =
    let p = keep cs fresh [] reads_fresh sound_fresh in
    let h = events cs (answers_to fresh cs) [] in
    settles more (after fresh cs) p.1 a z d s q.in_day_lem
    (known_actor (after fresh cs) h p.0 a q.actor) (known_category (after fresh cs) h p.0 z q.category)
    (ap (λ t. counts t d s) p.0.clock ∙ out)
