-- What an accepted call has shown: each of its tests, said as a fact.
use mathlib.Core.Path.{◌≡◌}
use mathlib.Core.Bool.{Bool, true, false, ◌&&◌, ◌||◌}
use mathlib.Core.List.{List}
use Prim.Native.Nat.{ℕ, ◌+◌, ◌-◌, ◌≤◌, ◌<◌}
use native.Mathlib.Omega.{arith}
use lib.Dec.{leb, ltb, eqb}
use lib.ListN.{length, get_or}
use borrow.Author.Tests.{ltb-true, ltb-false, leb-true, eqb-true, eqb-false, not-true, not-false}
use Rattle.lists.specs.Searches.{every, first_from}
use Rattle.lists.proofs.Tests.{both_true}
use Rattle.lists.proofs.Searches.{first_before}
use Rattle.calendar.specs.Dates.{day_count}
use Rattle.calendar.specs.Steps.{steps_of}
use Rattle.calendar.specs.Clocks.{first_counted, is_moment, is_before, advance_tests, loadable}
use Rattle.calendar.specs.declared.clock.Clock.{Clock}
use Rattle.refusals.specs.Tests.{Test, state, first_met, pass}
use Rattle.refusals.specs.declared.StateRefusal.TheVariants.{ActorUnknown}
use Rattle.refusals.proofs.Tests.{passes}
use Rattle.notification.specs.Forms.{is_code, is_category, power_end}
use Rattle.notification.specs.declared.Notification.{Notification}
use Rattle.ledger.specs.declared.Entry.{Entry}
use Rattle.ledger.specs.Ledger.{Key, Ledger, actor_places, category_places, load_places, record_places, actor_at, category_at, has_load, approved, power, gained, ceded}
use Rattle.ledger.specs.Filing.{key_of, in_contract, ceder_below, acquirer_above, ceder_above, acquirer_below, filing_tests, reach_of, party_tests, day_tests, load_test, step_tests, place_tests}
use Rattle.ledger.specs.Calls.{actor_tests, category_tests, load_ranged, load_tests}

-- the test at a place of an accepted call is not met
unmet : (ts : List Test) → first_met ts ≡ pass → (i : ℕ) → i < length ts → (get_or ts i (true, state ActorUnknown)).0 ≡ false
unmet ts e i h = passes ts e i (true, state ActorUnknown) h

-- ---- a filing

-- checks 32 to 35 at a step, with u the key's power now and w the filed one: what is taken away stands on the other side
pub record Fits (l : Ledger) (k : Key) (ps : List ℕ) (s : ℕ) : Type 0 where
  pub ceder_low : ceded l.records k.ceder k.category k.day s + get_or ps s 0
      ≤ gained l k.ceder k.category k.day s + power l.records k s
  pub acquirer_high : gained l k.acquirer k.category k.day s + get_or ps s 0
      ≤ approved l.loads k.acquirer k.category k.day + ceded l.records k.acquirer k.category k.day s + power l.records k s
  pub ceder_high : gained l k.ceder k.category k.day s + power l.records k s
      ≤ approved l.loads k.ceder k.category k.day + ceded l.records k.ceder k.category k.day s + get_or ps s 0
  pub acquirer_low : ceded l.records k.acquirer k.category k.day s + power l.records k s
      ≤ gained l k.acquirer k.category k.day s + get_or ps s 0

-- of its submitter, its key and its powers
pub record Fileable (l : Ledger) (who : ℕ) (k : Key) (ps : List ℕ) : Type 0 where
  pub ceder : k.ceder < length l.actors
  pub acquirer : k.acquirer < length l.actors
  pub by : who < length l.actors
  pub category : k.category < length l.categories
  pub party : (eqb who k.ceder || eqb who k.acquirer) ≡ true
  pub apart : k.ceder ≡ k.acquirer → ⊥
  pub reached : l.clock.day ≤ k.day
  pub counted : first_counted l.clock k.day < steps_of k.day
  pub acquirer_contract : in_contract l k.acquirer k.day ≡ true
  pub ceder_contract : in_contract l k.ceder k.day ≡ true
  pub has_load_lem : has_load l.loads k.ceder k.category k.day ≡ true
  pub fits : (s : ℕ) → first_counted l.clock k.day ≤ s → s < steps_of k.day → Fits l k ps s
  pub room : length l.records < record_places

abbrev pub FilingOk : Ledger → List ℕ → Notification → Type 0
FilingOk l submitter n = Fileable l (actor_at l.actors submitter) (key_of l n) n.powers

-- a check that refuses at no counted step is false at each
pub none_fails : (test : ℕ → Bool) (from until : ℕ) → ltb (first_from test from (until - from)) until ≡ false →
    (s : ℕ) → from ≤ s → s < until → test s ≡ false
none_fails test from until e s h k =
    first_before test from (until - from) s h (omega (arith, ltb-false (first_from test from (until - from)) until e))

-- the four checks, as facts
fits_of : (l : Ledger) (k : Key) (ps : List ℕ) (s : ℕ) → ceder_below l k ps s ≡ false → acquirer_above l k ps s ≡ false →
    ceder_above l k ps s ≡ false → acquirer_below l k ps s ≡ false → Fits l k ps s
unfolding ceder_below acquirer_above ceder_above acquirer_below
fits_of l k ps s a b c d =
    record {
      ceder_low = ltb-false _ _ a;
      acquirer_high = ltb-false _ _ b;
      ceder_high = ltb-false _ _ c;
      acquirer_low = ltb-false _ _ d;
    }

-- the day is within the reach of the entry, whichever that is
pub filing_near : (l : Ledger) (entry : Entry) (submitter : List ℕ) (n : Notification) → first_met (filing_tests l entry submitter n) ≡ pass →
    (key_of l n).day ≤ l.clock.day + reach_of entry
unfolding party_tests day_tests place_tests
filing_near l entry submitter n e =
    ltb-false (l.clock.day + reach_of entry) (key_of l n).day (unmet (filing_tests l entry submitter n) e 7 (omega arith))

pub filing_ok : (l : Ledger) (entry : Entry) (submitter : List ℕ) (n : Notification) → first_met (filing_tests l entry submitter n) ≡ pass →
    FilingOk l submitter n
unfolding party_tests day_tests load_test step_tests place_tests
filing_ok l entry submitter n e =
    let k = key_of l n in
    let from = first_counted l.clock k.day in
    let until = steps_of k.day in
    let t = unmet (filing_tests l entry submitter n) e in
    record {
      ceder = ltb-true k.ceder (length l.actors) (not-false _ (t 0 (omega arith)));
      acquirer = ltb-true k.acquirer (length l.actors) (not-false _ (t 1 (omega arith)));
      by = ltb-true (actor_at l.actors submitter) (length l.actors) (not-false _ (t 2 (omega arith)));
      category = ltb-true k.category (length l.categories) (not-false _ (t 3 (omega arith)));
      party = not-false _ (t 4 (omega arith));
      apart = eqb-false k.ceder k.acquirer (t 5 (omega arith));
      reached = ltb-false k.day l.clock.day (t 6 (omega arith));
      counted = ltb-true from until (not-false _ (t 8 (omega arith)));
      acquirer_contract = not-false _ (t 9 (omega arith));
      ceder_contract = not-false _ (t 10 (omega arith));
      has_load_lem = not-false _ (t 11 (omega arith));
      fits = λ s h below.
          fits_of l k n.powers s
          (none_fails (ceder_below l k n.powers) from until (t 12 (omega arith)) s h below)
          (none_fails (acquirer_above l k n.powers) from until (t 13 (omega arith)) s h below)
          (none_fails (ceder_above l k n.powers) from until (t 14 (omega arith)) s h below)
          (none_fails (acquirer_below l k n.powers) from until (t 15 (omega arith)) s h below);
      room = ltb-true (length l.records) record_places (not-false _ (t 16 (omega arith)));
    }

-- ---- the other calls

pub record ActorOk (l : Ledger) (code : List ℕ) (first last : ℕ) : Type 0 where
  pub form : is_code code ≡ true
  pub first_day : first < day_count
  pub last_day : last < day_count
  pub ordered : first ≤ last
  pub new : length l.actors ≤ actor_at l.actors code
  pub room : length l.actors < actor_places

pub actor_ok : (l : Ledger) (code : List ℕ) (first last : ℕ) → first_met (actor_tests l code first last) ≡ pass → ActorOk l code first last
unfolding actor_tests
actor_ok l code first last e =
    let t = unmet (actor_tests l code first last) e in
    let r = both_true (ltb first day_count && ltb last day_count) (leb first last) (not-false _ (t 1 (omega arith))) in
    let d = both_true (ltb first day_count) (ltb last day_count) r.0 in
    record {
      form = not-false _ (t 0 (omega arith));
      first_day = ltb-true first day_count d.0;
      last_day = ltb-true last day_count d.1;
      ordered = leb-true first last r.1;
      new = ltb-false (actor_at l.actors code) (length l.actors) (not-true _ (not-false _ (t 2 (omega arith))));
      room = ltb-true (length l.actors) actor_places (not-false _ (t 3 (omega arith)));
    }

pub record CategoryOk (l : Ledger) (text : List ℕ) : Type 0 where
  pub form : is_category text ≡ true
  pub new : length l.categories ≤ category_at l.categories text
  pub room : length l.categories < category_places

pub category_ok : (l : Ledger) (text : List ℕ) → first_met (category_tests l text) ≡ pass → CategoryOk l text
unfolding category_tests
category_ok l text e =
    let t = unmet (category_tests l text) e in
    record {
      form = not-false _ (t 0 (omega arith));
      new = ltb-false (category_at l.categories text) (length l.categories) (not-true _ (not-false _ (t 1 (omega arith))));
      room = ltb-true (length l.categories) category_places (not-false _ (t 2 (omega arith)));
    }

pub record LoadOk (l : Ledger) (actor category : List ℕ) (day most : ℕ) (ps : List ℕ) : Type 0 where
  pub in_range_lem : day < day_count
  pub powered : most < power_end
  pub per_step : length ps ≡ steps_of day
  pub below : every (λ p. leb p most) ps ≡ true
  pub actor_there : actor_at l.actors actor < length l.actors
  pub category_there : category_at l.categories category < length l.categories
  pub later : loadable l.clock day ≡ true
  pub none : has_load l.loads (actor_at l.actors actor) (category_at l.categories category) day ≡ false
  pub room : length l.loads < load_places

pub load_ok : (l : Ledger) (actor category : List ℕ) (day most : ℕ) (ps : List ℕ) →
    first_met (load_tests l actor category day most ps) ≡ pass → LoadOk l actor category day most ps
unfolding load_tests load_ranged
load_ok l actor category day most ps e =
    let a = actor_at l.actors actor in
    let z = category_at l.categories category in
    let t = unmet (load_tests l actor category day most ps) e in
    let r = both_true (ltb day day_count && ltb most power_end && eqb (length ps) (steps_of day)) (every (λ p. leb p most) ps) (not-false _ (t 0 (omega arith))) in
    let c = both_true (ltb day day_count && ltb most power_end) (eqb (length ps) (steps_of day)) r.0 in
    let d = both_true (ltb day day_count) (ltb most power_end) c.0 in
    record {
      in_range_lem = ltb-true day day_count d.0;
      powered = ltb-true most power_end d.1;
      per_step = eqb-true (length ps) (steps_of day) c.1;
      below = r.1;
      actor_there = ltb-true a (length l.actors) (not-false _ (t 1 (omega arith)));
      category_there = ltb-true z (length l.categories) (not-false _ (t 2 (omega arith)));
      later = not-false _ (t 3 (omega arith));
      none = t 4 (omega arith);
      room = ltb-true (length l.loads) load_places (not-false _ (t 5 (omega arith)));
    }

pub record AdvanceOk (l : Ledger) (to : Clock) : Type 0 where
  pub moment : is_moment to ≡ true
  pub forward : is_before to l.clock ≡ false

pub advance_ok : (l : Ledger) (to : Clock) → first_met (advance_tests l.clock to) ≡ pass → AdvanceOk l to
advance_ok l to e =
    let t = unmet (advance_tests l.clock to) e in
    record { moment = not-false _ (t 0 (omega arith)); forward = t 1 (omega arith) }
