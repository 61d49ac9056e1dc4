-- Every ledger that calls led to is sound: the clock stands at a minute of its day, parties are enrolled, spans are as the
-- statuses say, and what an actor has covers what it cedes and, less that, is at most its approved power. No call changes an
-- engagement at a step that the clock, as it stands after the call, no longer lets count.
use mathlib.Core.Path.{◌≡◌, refl, sym, ◌∙◌}
use mathlib.Core.Bool.{Bool, true, false, cond, ◌&&◌, false≢true, true≢false, and-false}
use mathlib.Core.List.{List}
use Prim.Native.Nat.{ℕ, ◌+◌, ◌-◌, ◌≤◌, ◌<◌}
use native.Mathlib.Omega.{arith}
use lib.Dec.{eqb}
use lib.ListN.{get_or, length-append}
use borrow.Author.Tests.{eqb-true}
use Rattle.lists.proofs.All.{All, all_none, all_also}
use Rattle.calendar.specs.Steps.{steps_of}
use Rattle.calendar.specs.Clocks.{first_counted, counts, is_moment}
use Rattle.calendar.proofs.Clocks.{counts_from, fresh_moment, day_mono, first_mono, ended_mono, loadable_counts}
use Rattle.notification.specs.Forms.{in_places}
use Rattle.ledger.specs.Statuses.{updated}
use Rattle.ledger.specs.Call.{Call}
use Rattle.ledger.specs.Ledger.{Key, Rec, Ledger, fresh, actor_at, load_is, has_load, loaded, approved, moved, acquired, ceded, gained, engagement}
use Rattle.ledger.specs.Filing.{key_of, pairs, filed}
use Rattle.ledger.specs.Calls.{moment, with_actor, with_category, with_load, with_clock, step, file_at}
use Rattle.ledger.proofs.Passed.{Fits, Fileable, LoadOk, AdvanceOk}
use Rattle.ledger.proofs.Loads.{no_load, placed_below, load_is_lem}
use Rattle.ledger.proofs.Powers.{Party, Parties, Span, Spans}
use Rattle.ledger.proofs.Filed.{live, live_true, filed_in, parties_after, spans_after, ceded_kept, ceded_moved, acquired_kept, acquired_moved}
use Rattle.ledger.proofs.Steps.{actor_of, load_of, Kept, step_kept}
pub use Rattle.ledger.proofs.Steps.{step_file}

-- an engagement from zero to the approved power
abbrev pub Bound : Ledger → ℕ → ℕ → ℕ → ℕ → Type 0
Bound l a z d s =
    (ceded l.records a z d s ≤ gained l a z d s) × (gained l a z d s ≤ approved l.loads a z d + ceded l.records a z d s)

pub record Sound (l : Ledger) : Type 0 where
  pub at_moment : is_moment l.clock ≡ true
  pub parties : Parties l
  pub spans : Spans l
  pub bounds : (a z d s : ℕ) → s < steps_of d → Bound l a z d s

pub sound_fresh : Sound fresh
unfolding gained loaded acquired ceded moved
sound_fresh = record { at_moment = fresh_moment; parties = all_none; spans = all_none; bounds = λ a z d s h. omega arith }

-- ---- enrolments and advances touch no power

more_parties : {n m n' m' : ℕ} {rs : List Rec} → n ≤ n' → m ≤ m' → All (Party n m) rs → All (Party n' m') rs
more_parties h k =
    all_also (λ r p. record { ceder = omega (arith, p.ceder); acquirer = omega (arith, p.acquirer); category = omega (arith, p.category) })

module _ (l : Ledger) (k : Sound l) where
  sound_actor : (code : List ℕ) (first last : ℕ) → Sound (with_actor l (actor_of code first last))
  unfolding gained
  sound_actor code first last =
      record {
        at_moment = k.at_moment;
        parties = more_parties (simp length-append (omega arith)) (omega arith) k.parties;
        spans = k.spans;
        bounds = k.bounds;
      }

  sound_category : (text : List ℕ) → Sound (with_category l text)
  unfolding gained
  sound_category text =
      record {
        at_moment = k.at_moment;
        parties = more_parties (omega arith) (simp length-append (omega arith)) k.parties;
        spans = k.spans;
        bounds = k.bounds;
      }

  sound_clock : (day minute : ℕ) → AdvanceOk l (moment day minute) → Sound (with_clock l (moment day minute))
  unfolding gained
  sound_clock day minute ok =
      record {
        at_moment = ok.moment;
        parties = k.parties;
        spans = all_also (λ r sp. record { whole = sp.whole; past = λ e h. later r sp e h }) k.spans;
        bounds = k.bounds;
      }
    where
      later : (r : Rec) → Span l.clock r → r.status ≡ updated → day ≤ r.key.day → r.until ≤ first_counted (moment day minute) r.key.day
      later r sp e h =
          let d = day_mono l.clock (moment day minute) ok.forward in
          omega (arith, sp.past e (omega arith), first_mono l.clock (moment day minute) ok.forward k.at_moment r.key.day h)

-- ---- a load

module _ (l : Ledger) (actor category : List ℕ) (day most : ℕ) (ps : List ℕ) (ok : LoadOk l actor category day most ps) where
  sound_load : Sound l → Sound (with_load l (load_of l actor category day most ps))
  unfolding gained loaded approved
  sound_load k =
      record { at_moment = k.at_moment; parties = k.parties; spans = k.spans; bounds = λ a z d s below. go a z d s (k.bounds a z d s below) (load_is a z d (load_of l actor category day most ps)) refl }
    where
      go : (a z d s : ℕ) → Bound l a z d s → (b : Bool) → load_is a z d (load_of l actor category day most ps) ≡ b →
          (ceded l.records a z d s ≤ cond b (get_or (in_places ps) s 0) (loaded l.loads a z d s) + acquired l.records a z d s) ×
          (cond b (get_or (in_places ps) s 0) (loaded l.loads a z d s) + acquired l.records a z d s
          ≤ cond b most (approved l.loads a z d) + ceded l.records a z d s)
      go a z d s h true e =
          let p = load_is_lem (load_of l actor category day most ps) a z d e in
          let none : has_load l.loads a z d ≡ false = rw (← p.0, ← p.1, ← p.2) ok.none in
          let n = no_load l.loads a z d s none in
          omega (arith, h.0, h.1, n.0, n.1, placed_below ps most s ok.below)
      go a z d s h false e = h

  frozen_load : (a z d s : ℕ) → counts l.clock d s ≡ false → engagement (with_load l (load_of l actor category day most ps)) a z d s ≡ engagement l a z d s
  unfolding engagement gained loaded
  frozen_load a z d s out = go (load_is a z d (load_of l actor category day most ps)) refl
    where
      go : (b : Bool) → load_is a z d (load_of l actor category day most ps) ≡ b →
          cond b (get_or (in_places ps) s 0) (loaded l.loads a z d s) + acquired l.records a z d s - ceded l.records a z d s
          ≡ loaded l.loads a z d s + acquired l.records a z d s - ceded l.records a z d s
      go true e =
          let p = load_is_lem (load_of l actor category day most ps) a z d e in
          absurd (true≢false (sym (loadable_counts l.clock d s (rw (← p.2) ok.later)) ∙ out))
      go false e = refl

-- ---- a filing

module _ (l : Ledger) (by : ℕ) (k : Key) (ps : List ℕ) (ok : Fileable l by k ps) (sound : Sound l) where
  ceded_same : (paired : Bool) (x z d s : ℕ) → s < steps_of d → (live l k paired z d s && eqb x k.ceder) ≡ false →
      ceded (filed paired l by k ps) x z d s ≡ ceded l.records x z d s
  ceded_same = ceded_kept l by k ps ok sound.parties sound.spans

  acquired_same : (paired : Bool) (x z d s : ℕ) → s < steps_of d → (live l k paired z d s && eqb x k.acquirer) ≡ false →
      acquired (filed paired l by k ps) x z d s ≡ acquired l.records x z d s
  acquired_same = acquired_kept l by k ps ok sound.parties sound.spans

  -- where it moves nothing
  bound_still : (paired : Bool) (x z d s : ℕ) → s < steps_of d → live l k paired z d s ≡ false → Bound (filed_in l by k ps paired) x z d s
  unfolding gained
  bound_still paired x z d s below e =
      omega (arith, acquired_same paired x z d s below (rw e), ceded_same paired x z d s below (rw e), sound.bounds x z d s below)

  -- where it moves power, checks 32 to 35 keep the bounds
  bound_moved : (x s : ℕ) → first_counted l.clock k.day ≤ s → s < steps_of k.day →
      Bound (filed_in l by k ps true) x k.category k.day s
  unfolding gained
  bound_moved x s h below = go (eqb x k.ceder) (eqb x k.acquirer) refl refl
    where
      fit : Fits l k ps s
      fit = ok.fits s h below

      go : (c a : Bool) → eqb x k.ceder ≡ c → eqb x k.acquirer ≡ a → Bound (filed_in l by k ps true) x k.category k.day s
      go true true p q = absurd (ok.apart (sym (eqb-true x k.ceder p) ∙ eqb-true x k.acquirer q))
      go true false p q =
          let e = eqb-true x k.ceder p in
          let same = acquired_same true x k.category k.day s below (simp (q, and-false)) in
          let change = ceded_moved l by k ps ok sound.parties sound.spans s h below in
          rw e (omega (arith, rw e at same, change, sound.bounds k.ceder k.category k.day s below, fit.ceder_low, fit.ceder_high))
      go false true p q =
          let e = eqb-true x k.acquirer q in
          let same = ceded_same true x k.category k.day s below (simp (p, and-false)) in
          let change = acquired_moved l by k ps ok sound.parties sound.spans s h below in
          rw e (omega (arith, rw e at same, change, sound.bounds k.acquirer k.category k.day s below, fit.acquirer_low, fit.acquirer_high))
      go false false p q =
          let got = acquired_same true x k.category k.day s below (simp (q, and-false)) in
          let gave = ceded_same true x k.category k.day s below (simp (p, and-false)) in
          omega (arith, got, gave, sound.bounds x k.category k.day s below)

  sound_filing : (paired : Bool) → Sound (filed_in l by k ps paired)
  sound_filing paired =
      record {
        at_moment = sound.at_moment;
        parties = parties_after l by k ps ok sound.parties sound.spans paired;
        spans = spans_after l by k ps ok sound.parties sound.spans paired;
        bounds = λ x z d s below. go paired x z d s below (live l k paired z d s) refl;
      }
    where
      go : (paired : Bool) (x z d s : ℕ) → s < steps_of d → (t : Bool) → live l k paired z d s ≡ t → Bound (filed_in l by k ps paired) x z d s
      go true x z d s below true e =
          let p = live_true l k true z d s e in
          rw (p.2, p.3) (bound_moved x s p.1 (rw p.3 at below))
      go false x z d s below true e = absurd (false≢true e)
      go paired x z d s below false e = bound_still paired x z d s below e

  -- what it moves counts
  frozen_filing : (paired : Bool) (x z d s : ℕ) → s < steps_of d → counts l.clock d s ≡ false →
      engagement (filed_in l by k ps paired) x z d s ≡ engagement l x z d s
  unfolding engagement gained
  frozen_filing paired x z d s below out = go (live l k paired z d s) refl
    where
      go : (t : Bool) → live l k paired z d s ≡ t →
          loaded l.loads x z d s + acquired (filed paired l by k ps) x z d s - ceded (filed paired l by k ps) x z d s
          ≡ loaded l.loads x z d s + acquired l.records x z d s - ceded l.records x z d s
      go true e =
          let p = live_true l k paired z d s e in
          absurd (true≢false (sym (rw p.3 (counts_from l.clock k.day s ok.reached p.1)) ∙ out))
      go false e = omega (arith, acquired_same paired x z d s below (rw e), ceded_same paired x z d s below (rw e))

-- ---- every call

sound_kept : (l : Ledger) → Sound l → Kept l Sound
unfolding file_at
sound_kept l k =
    record {
      refused = k;
      actor = λ code first last ok. sound_actor l k code first last;
      category = λ text ok. sound_category l k text;
      load = λ a z day most ps ok. sound_load l a z day most ps ok k;
      filing = λ u n ok. sound_filing l (actor_at l.actors u) (key_of l n) n.powers ok k (pairs (actor_at l.actors u) (key_of l n) n.powers l.records);
      clock = λ day minute ok. sound_clock l k day minute ok;
    }

pub sound_step : (l : Ledger) (c : Call) → Sound l → Sound (step l c).ledger
sound_step l c k = step_kept l Sound (sound_kept l k) c

-- the engagements that a later ledger has at the steps that its clock no longer lets count
abbrev Frozen : Ledger → Ledger → Type 0
Frozen l m = (a z d s : ℕ) → s < steps_of d → counts m.clock d s ≡ false → engagement m a z d s ≡ engagement l a z d s

frozen_kept : (l : Ledger) → Sound l → Kept l (Frozen l)
unfolding file_at engagement gained
frozen_kept l k =
    record {
      refused = λ a z d s h out. refl;
      actor = λ code first last ok a z d s h out. refl;
      category = λ text ok a z d s h out. refl;
      load = λ a z day most ps ok x y d s h out. frozen_load l a z day most ps ok x y d s out;
      filing = λ u n ok. frozen_filing l (actor_at l.actors u) (key_of l n) n.powers ok k (pairs (actor_at l.actors u) (key_of l n) n.powers l.records);
      clock = λ day minute ok a z d s h out. refl;
    }

pub frozen_step : (l : Ledger) (c : Call) → Sound l → (a z d s : ℕ) → s < steps_of d → counts (step l c).ledger.clock d s ≡ false →
    engagement (step l c).ledger a z d s ≡ engagement l a z d s
frozen_step l c k = step_kept l (Frozen l) (frozen_kept l k) c

-- and such a step never counts again
pub ended_step : (l : Ledger) (c : Call) → Sound l → (d s : ℕ) → counts l.clock d s ≡ false → counts (step l c).ledger.clock d s ≡ false
unfolding file_at
ended_step l c k d s out =
    step_kept l (λ m. counts m.clock d s ≡ false)
    (record {
      refused = out;
      actor = λ code first last ok. out;
      category = λ text ok. out;
      load = λ a z day most ps ok. out;
      filing = λ u n ok. out;
      clock = λ day minute ok. ended_mono l.clock (moment day minute) ok.forward k.at_moment d s out;
    })
    c
