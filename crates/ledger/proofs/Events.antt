-- Each call keeps the reading: what an accepted one adds to the ledger is what its event adds to the events, and a refused one
-- adds nothing to either.
use Rattle.notification.specs.Reading.{note_of}
use Rattle.std.specs.Prelude.{Err, Ok}
use mathlib.Core.Path.{◌≡◌, refl, sym, ◌∙◌, ap, ap₂}
use mathlib.Core.Bool.{Bool, true, false, cond, ◌&&◌}
use mathlib.Core.List.{List, ◌∷◌, ◌++◌}
use Prim.Native.Nat.{ℕ, ◌+◌, ◌-◌, ◌≤◌, ◌<◌}
use native.Mathlib.Omega.{arith}
use lib.Dec.{leb, ltb, eqb}
use lib.ListN.{length, get_or, take, replicate, length-take, get_or-replicate, get_or-append, get_or-eq_default}
use lib.Seq.{get_or-take, get_or-append-add}
use borrow.Author.Tests.{ltb-true, ltb-false}
use Rattle.lists.specs.Searches.{same}
use Rattle.lists.proofs.All.{all_more}
use Rattle.calendar.specs.Clocks.{first_counted}
use Rattle.calendar.proofs.StepCounts.{steps_small}
use Rattle.refusals.specs.Tests.{decide, Verdict, pass, verdict}
use Rattle.notification.specs.Forms.{category_text, in_places, places}
use Rattle.notification.specs.declared.Notification.{Notification}
use Rattle.ledger.specs.declared.Entry.{Entry}
use Rattle.ledger.specs.Statuses.{validated}
use Rattle.ledger.specs.Call.{Form, read_form, Call, enrol_actor, enrol_category, load, file, advance}
use Rattle.ledger.specs.Ledger as Held
use Rattle.ledger.specs.Ledger.{Ledger, actor_at, category_at, loaded, approved, power}
use Rattle.ledger.specs.Filing.{key_of, pairs, status_by}
use Rattle.ledger.specs.Calls.{verdict_of, effect, refused_by, step, file_at}
use Rattle.ledger.specs.Reading.{Event, under, actors_of, categories_of, clock_of, loaded_of, approved_of, power_of}
use Rattle.ledger.specs.Whole.{key_by}
use Rattle.ledger.proofs.Passed.{LoadOk, FilingOk, actor_ok, load_ok, filing_ok}
use Rattle.ledger.proofs.Powers.{Parties, Spans, eq_key, power_filed}
use Rattle.ledger.proofs.Readings.{Reads, event, reads_actor, reads_category, reads_advance}
use Rattle.ledger.proofs.Names.{actor_same, category_same, eqb_sym, actor_is, category_is}

-- ---- a load

-- powers in their places are the powers
pub in_places_lem : (ps : List ℕ) (s : ℕ) → length ps ≤ places → get_or (in_places ps) s 0 ≡ get_or ps s 0
unfolding in_places
in_places_lem ps s h = go (ltb s (length ps)) (ltb s places) refl refl
  where
    go : (t u : Bool) → ltb s (length ps) ≡ t → ltb s places ≡ u → get_or (take places (ps ++ replicate places 0)) s 0 ≡ get_or ps s 0
    go true u e f =
        let k : s < length ps = ltb-true s (length ps) e in
        get_or-take places (ps ++ replicate places 0) s 0 (omega arith) ∙ get_or-append ps (replicate places 0) 0 s k
    go false true e f =
        let k : length ps ≤ s = ltb-false s (length ps) e in
        let b : s < places = ltb-true s places f in
        let n : length ps + (s - length ps) ≡ s = omega arith in
        get_or-take places (ps ++ replicate places 0) s 0 b ∙
        ap (λ i. get_or (ps ++ replicate places 0) i 0) (sym n) ∙
        get_or-append-add ps (replicate places 0) (s - length ps) 0 ∙
        get_or-replicate places (s - length ps) 0 0 (omega arith) ∙
        sym (get_or-eq_default ps 0 k)
    go false false e f =
        let k : length ps ≤ s = ltb-false s (length ps) e in
        let b : places ≤ s = ltb-false s places f in
        get_or-eq_default (take places (ps ++ replicate places 0)) 0 (omega (arith, length-take places (ps ++ replicate places 0))) ∙
        sym (get_or-eq_default ps 0 k)

module _ (l : Ledger) (h : List Event) (r : Reads l h) where
  reads_load : (actor category : List ℕ) (day most : ℕ) (ps : List ℕ) → LoadOk l actor category day most ps → length ps ≤ places →
      Reads (effect l (load actor category day most ps)).ledger (event (load actor category day most ps) l ∷ h)
  unfolding effect event actors_of categories_of clock_of loaded_of approved_of power_of Held.loaded Held.approved
  reads_load actor category day most ps ok short =
      let is : (a z : List ℕ) (d : ℕ) →
      (eqb (actor_at l.actors actor) (actor_at l.actors a) && eqb (category_at l.categories category) (category_at l.categories z) && eqb day d) ≡
      (same actor a && same category z && eqb day d) = λ a z d.
      ap₂ (λ x y. x && y && eqb day d) (actor_same l.actors actor a ok.actor_there) (category_same l.categories category z ok.category_there) in
      record {
        actors = r.actors;
        categories = r.categories;
        clock = r.clock;
        once = r.once;
        loaders = all_more (record { actor_there = ok.actor_there; category_there = ok.category_there }) r.loaders;
        loaded = λ a z d s.
            ap (λ t. cond t (get_or (in_places ps) s 0) (loaded l.loads (actor_at l.actors a) (category_at l.categories z) d s)) (is a z d) ∙
            ap₂ (λ p q. cond (same actor a && same category z && eqb day d) p q) (in_places_lem ps s short) (r.loaded a z d s);
        approved = λ a z d.
            ap (λ t. cond t most (approved l.loads (actor_at l.actors a) (category_at l.categories z) d)) (is a z d) ∙
            ap (cond (same actor a && same category z && eqb day d) most) (r.approved a z d);
        power = r.power;
      }

-- ---- a filing

-- the status is V exactly where the filing is paired
status_paired : (paired : Bool) → eqb (status_by paired) validated ≡ paired
status_paired true = refl
status_paired false = refl

-- a key by codes is that of an accepted notification where the notification is under it
key_under : (l : Ledger) (submitter : List ℕ) (n : Notification) → FilingOk l submitter n → (c a z : List ℕ) (d : ℕ) →
    eq_key (key_by l c a z d) (key_of l n) ≡ under n c a z d
unfolding key_of
key_under l submitter n ok c a z d =
    rw (actor_is l.actors n.key.ceder c ok.ceder, actor_is l.actors n.key.acquirer a ok.acquirer, category_is l.categories (category_text n.key.category) z ok.category, eqb_sym d n.key.day)

module _ (l : Ledger) (h : List Event) (r : Reads l h) where
  reads_file : (entry : Entry) (submitter : List ℕ) (form : Form) → FilingOk l submitter (note_of (read_form submitter form)) → Spans l →
      Reads (effect l (file entry submitter form)).ledger (event (file entry submitter form) l ∷ h)
  unfolding effect file_at event actors_of categories_of clock_of loaded_of approved_of power_of
  reads_file entry submitter form ok spans =
      let n = (note_of (read_form submitter form)) in
      let k = key_of l n in
      let by = actor_at l.actors submitter in
      let paired = pairs by k n.powers l.records in
      let from = first_counted l.clock k.day in
      record {
        actors = r.actors;
        categories = r.categories;
        clock = r.clock;
        once = r.once;
        loaders = r.loaders;
        loaded = r.loaded;
        approved = r.approved;
        power = λ c a z d s below.
            power_filed l by k n.powers ok.reached ok.counted paired spans (key_by l c a z d) s below ∙
            ap₂ (λ p t. cond (p && leb from s && t) (get_or n.powers s 0) (power l.records (key_by l c a z d) s)) (sym (status_paired paired)) (key_under l submitter n ok c a z d) ∙
            ap (cond (eqb (status_by paired) validated && leb from s && under n c a z d) (get_or n.powers s 0)) (r.power c a z d s below);
      }

-- ---- EACH CALL KEEPS IT

-- an accepted file is read, and its notification accepted
file_passed : (v w : Verdict) → decide v w Err ≡ pass → w ≡ pass
file_passed (Ok u) w e = e
file_passed (Err f) w e = let z : ◌≡◌ {A = ℕ} 0 1 = cc in absurd (omega arith)

reads_decided : (l : Ledger) (h : List Event) (c : Call) (v : Verdict) → verdict_of l c ≡ v → Parties l → Spans l → Reads l h →
    Reads (decide v (effect l c) (refused_by l)).ledger (record { call = c; answer = (decide v (effect l c) (refused_by l)).answer } ∷ h)
unfolding verdict_of event actors_of categories_of clock_of loaded_of approved_of power_of
reads_decided l h (enrol_actor code first last) (Ok u) e p t r = reads_actor l h r p code first last (actor_ok l code first last e)
reads_decided l h (enrol_category text) (Ok u) e p t r = reads_category l h r p text
reads_decided l h (load a z d m ps) (Ok u) e p t r =
    let ok = load_ok l a z d m ps e in
    reads_load l h r a z d m ps ok (omega (arith, ok.per_step, steps_small d))
reads_decided l h (file entry u form) (Ok w) e p t r =
    let x = read_form u form in
    reads_file l h r entry u form (filing_ok l entry u (note_of x) (file_passed (verdict x) _ e)) t
reads_decided l h (advance d m) (Ok u) e p t r = reads_advance l h r d m
reads_decided l h c (Err f) e p t r =
    record {
      actors = r.actors;
      categories = r.categories;
      clock = r.clock;
      once = r.once;
      loaders = r.loaders;
      loaded = r.loaded;
      approved = r.approved;
      power = r.power;
    }

pub reads_step : (l : Ledger) (h : List Event) (c : Call) → Parties l → Spans l → Reads l h →
    Reads (step l c).ledger (record { call = c; answer = (step l c).answer } ∷ h)
unfolding step
reads_step l h c p t r = reads_decided l h c (verdict_of l c) refl p t r
