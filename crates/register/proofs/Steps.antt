-- From a call's verdict to the ledger's step, and what the head that an accepted call leaves holds.
use Rattle.std.specs.Prelude.{Err, Ok}
use mathlib.Core.Path.{◌≡◌, refl, sym, ◌∙◌, ap₂}
use mathlib.Core.Bool.{true, ◌&&◌}
use mathlib.Core.List.{List}
use Prim.Native.Nat.{ℕ, suc, ◌+◌, ◌/◌, ◌%◌, ◌≤◌, ◌<◌}
use native.Mathlib.Omega.{arith}
use lib.Dec.{eqb, leb}
use lib.ListN.{length}
use borrow.Author.Tests.{eqb-true, eq-eqb, leb-true, le-leb}
use Rattle.lists.specs.Searches.{every}
use Rattle.lists.proofs.Tests.{both_true, and_left}
use Rattle.lists.proofs.Searches.{every_other}
use Rattle.calendar.proofs.StepCounts.{steps_small}
use Rattle.refusals.specs.Tests.{first_met, Verdict, pass}
use Rattle.refusals.specs.declared.Refusal.{Refusal}
use Rattle.notification.specs.Forms.{is_code_byte, is_code, is_category, six_bytes, in_places}
use Rattle.notification.proofs.Stored.{six_back}
use Rattle.ledger.specs.Call.{Answered, Call, enrol_actor, enrol_category, load}
use Rattle.ledger.specs.Ledger.{actor_at, category_at}
use Rattle.ledger.specs.Calls.{step, verdict_of, effect, actor_tests, category_tests, load_tests}
use Rattle.ledger.specs.declared.Answer.TheVariants.{Held}
use Rattle.ledger.proofs.Passed.{actor_ok, category_ok, load_ok}
use Rattle.tables.specs.Tables.{Columns, LoadColumns, actors_in, categories_in, loads_in, load_number, load_from}
use Rattle.tables.specs.More.{more_actors, more_categories, load_put}
use Rattle.tables.specs.declared.actors.Actors.{Actors}
use Rattle.tables.specs.declared.categories.Categories.{Categories}
use Rattle.tables.proofs.Entries.{actor_more, category_more}
use Rattle.tables.proofs.LoadTable.{number_parts, loads_length, one_more}
use Rattle.register.specs.View.{Register, lent, view, held}
use Rattle.register.specs.Written.{with_actors, with_categories, with_loads, writes, leaves, does, seen}
use Rattle.register.specs.declared.Head.{Head}
use Rattle.register.proofs.Parties.{actors_many, categories_many}

-- ---- a verdict decides what a call does

pub does_refused : (r : Register) (c : Call) (v : Verdict) (f : Refusal) → v ≡ verdict_of (held r) c → v ≡ Err f → seen r (Err f) ≡ does r c
unfolding leaves step
does_refused r c v f e g = let k : verdict_of (held r) c ≡ Err f = sym e ∙ g in rw k

pub does_passed : (r s : Register) (c : Call) (y : Answered) (v : Verdict) → v ≡ verdict_of (held r) c → v ≡ pass → s ≡ writes r c →
    record { ledger = held s; answer = y } ≡ effect (held r) c → seen s y ≡ does r c
unfolding leaves step
does_passed r s c y v e g w o =
    let k : verdict_of (held r) c ≡ pass = sym e ∙ g in
    rw k (ap₂ (λ x z. record { register = x; outcome = z }) w o)

-- ---- one actor more

module _ (h : Head) (cols : Columns) (loads : LoadColumns) (code : List ℕ) (first last : ℕ) (l : length h.actors.entries ≡ 8)
    (p : first_met (actor_tests (view h cols loads) code first last) ≡ pass) where
  pub actor_room : (length code ≡ 16) × (h.actors.count < 8)
  unfolding view is_code
  actor_room =
      let ok = actor_ok (view h cols loads) code first last p in
      let r : length (actors_in h.actors) < 8 = ok.room in
      (eqb-true (length code) 16 (and_left (eqb (length code) 16) (every is_code_byte code) ok.form), omega (arith, actors_many h.actors l))

  pub actor_done : (stored : List ℕ) (x : Actors) → stored ≡ code → x ≡ more_actors h.actors (record { code = stored; first = first; last = last }) →
      seen (lent (with_actors h x) cols loads) (Ok (Held x.count)) ≡ does (lent h cols loads) (enrol_actor code first last)
  unfolding verdict_of view effect writes
  actor_done stored x es ex =
      let room = actor_room.1 in
      let n : h.actors.count + 1 ≡ suc (length (actors_in h.actors)) = omega (arith, actors_many h.actors l) in
      rw (ex, es)
      (does_passed (lent h cols loads) _ (enrol_actor code first last) _ pass (sym p) refl refl (rw (actor_more h.actors _ l room, n)))

-- ---- one category more

module _ (h : Head) (cols : Columns) (loads : LoadColumns) (text : List ℕ) (l : length h.categories.entries ≡ 4)
    (p : first_met (category_tests (view h cols loads) text) ≡ pass) where
  pub category_room : (is_category text ≡ true) × (h.categories.count < 4)
  unfolding view
  category_room =
      let ok = category_ok (view h cols loads) text p in
      let r : length (categories_in h.categories) < 4 = ok.room in
      (ok.form, omega (arith, categories_many h.categories l))

  pub category_done : (stored : List ℕ) (x : Categories) → stored ≡ six_bytes text → x ≡ more_categories h.categories (record { text = stored }) →
      seen (lent (with_categories h x) cols loads) (Ok (Held x.count)) ≡ does (lent h cols loads) (enrol_category text)
  unfolding verdict_of view effect writes
  category_done stored x es ex =
      let room = category_room in
      let n : h.categories.count + 1 ≡ suc (length (categories_in h.categories)) = omega (arith, room.1, categories_many h.categories l) in
      rw (ex, es)
      (does_passed (lent h cols loads) _ (enrol_category text) _ pass (sym p) refl refl
      (rw (category_more h.categories (record { text = six_bytes text }) l room.1, six_back text room.0, n)))

-- ---- one load more

-- what an accepted load has shown, as the code needs it
pub record LoadRoom (h : Head) (actor category : List ℕ) (day most : ℕ) (ps : List ℕ) : Type 0 where
  pub actor_small : actor_at (actors_in h.actors) actor < 8
  pub category_small : category_at (categories_in h.categories) category < 4
  pub day_small : day < 36525
  pub most_small : most ≤ 9999
  pub few : length ps ≤ 50
  pub small : every (λ p. leb p 9999) ps ≡ true
  pub room : h.loads < 64

-- the load of its number, its approved power and its row of powers
load_back : (a z d most : ℕ) (row : List ℕ) → a < 8 → z < 4 →
    load_from (load_number a z d) most row ≡ record { actor = a; category = z; day = d; approved = most; powers = row }
load_back a z d most row ha hz =
    let n = load_number a z d in
    let u = both_true (eqb (n % 8) a && eqb (n / 8 % 4) z) (eqb (n / 32) d) (number_parts n a z d ha hz ∙ eq-eqb n n refl) in
    let v = both_true (eqb (n % 8) a) (eqb (n / 8 % 4) z) u.0 in
    rw (eqb-true (n % 8) a v.0, eqb-true (n / 8 % 4) z v.1, eqb-true (n / 32) d u.1)

module _ (h : Head) (cols : Columns) (loads : LoadColumns) (actor category : List ℕ) (day most : ℕ) (ps : List ℕ)
    (la : length h.actors.entries ≡ 8) (lz : length h.categories.entries ≡ 4)
    (p : first_met (load_tests (view h cols loads) actor category day most ps) ≡ pass) where
  pub load_room : LoadRoom h actor category day most ps
  unfolding view
  load_room =
      let ok = load_ok (view h cols loads) actor category day most ps p in
      let a : actor_at (actors_in h.actors) actor < length (actors_in h.actors) = ok.actor_there in
      let z : category_at (categories_in h.categories) category < length (categories_in h.categories) = ok.category_there in
      let r : length (loads_in h.loads loads) < 64 = ok.room in
      let d : day < 36525 = ok.in_range_lem in
      let m : most < 10000 = ok.powered in
      let n = ok.per_step in
      record {
        actor_small = omega (arith, actors_many h.actors la);
        category_small = omega (arith, categories_many h.categories lz);
        day_small = d;
        most_small = omega arith;
        few = omega (arith, steps_small day);
        small = every_other (λ p. leb p most) (λ p. leb p 9999) (λ x t. le-leb x 9999 (omega (arith, leb-true x most t))) ps ok.below;
        room = omega (arith, loads_length h.loads loads);
      }

  pub load_done : (a z number : ℕ) (row : List ℕ) → a ≡ actor_at (actors_in h.actors) actor →
      z ≡ category_at (categories_in h.categories) category → number ≡ load_number a z day → row ≡ in_places ps →
      length loads.keys ≡ 64 → length loads.approved ≡ 64 → length loads.rows ≡ 64 →
      seen (lent (with_loads h (h.loads + 1)) cols (load_put loads h.loads number most row)) (Ok (Held (h.loads + 1)))
      ≡ does (lent h cols loads) (load actor category day most ps)
  unfolding verdict_of view effect writes
  load_done a z number row ea ez en er lk lm lr =
      let ok = load_room in
      let n : h.loads + 1 ≡ suc (length (loads_in h.loads loads)) = omega (arith, loads_length h.loads loads, ok.room) in
      rw (en, ea, ez, er)
      (does_passed (lent h cols loads) _ (load actor category day most ps) _ pass (sym p) refl refl
      (rw (
        one_more h.loads loads _ most (in_places ps) ok.room lk lm lr,
        load_back _ _ day most (in_places ps) ok.actor_small ok.category_small,
        n,
      )))
