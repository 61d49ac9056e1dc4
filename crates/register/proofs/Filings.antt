-- The tests of a filing are tried in parts, and what passes them can be recorded.
use Rattle.std.specs.Prelude.{Err}
use mathlib.Core.Path.{◌≡◌, refl, sym, ap, ◌∙◌}
use mathlib.Core.Bool.{false, not}
use mathlib.Core.List.{List, [], ◌∷◌, ◌++◌}
use Prim.Native.Nat.{ℕ, ◌≤◌, ◌<◌, min}
use native.Mathlib.Omega.{arith}
use lib.Dec.{ltb}
use lib.ListN.{length, length-map, length-take}
use borrow.Author.Tests.{ltb-true, eqb-false, not-false}
use Rattle.calendar.specs.Steps.{steps_of}
use Rattle.calendar.specs.Clocks.{first_counted}
use Rattle.calendar.proofs.StepCounts.{steps_day}
use Rattle.refusals.specs.Tests.{Test, first_met, tried, state, Verdict, pass}
use Rattle.refusals.specs.declared.Refusal.{Refusal}
use Rattle.refusals.specs.declared.StateRefusal.TheVariants.{Full}
use Rattle.refusals.proofs.Tests.{pass_first, pass_rest, pass_all, pass_append, refuse_append, tried_append}
use Rattle.ledger.specs.Ledger.{Key, Ledger, record_places}
use Rattle.ledger.specs.Filing.{party_tests, day_tests, load_test, step_tests, full_test, place_tests}
use Rattle.ledger.specs.declared.Entry.{Entry}
use Rattle.tables.specs.Tables.{Columns, LoadColumns, actors_in, categories_in, records_in}
use Rattle.tables.specs.declared.actors.Actors.{Actors}
use Rattle.tables.specs.declared.categories.Categories.{Categories}
use Rattle.tables.proofs.RecordTable.{records_length}
use Rattle.register.specs.declared.Head.{Head}
use Rattle.register.specs.declared.verdicts.Places.{Places}
use Rattle.register.specs.View.{view}
use Rattle.register.proofs.Trying.{room_is}
use Rattle.register.specs.Judging.{key_at, Judgeable, Fileable}

-- ---- in parts: 20 to 25, 26 to 30, 31 to 35, 36

module _ (l : Ledger) (entry : Entry) (k : Key) (by : ℕ) (ps : List ℕ) where
  -- from 36, 31 and 26 on
  abbrev last : List Test
  last = full_test l ∷ []

  abbrev sums : List Test
  sums = load_test l k ∷ step_tests l k ps

  in_parts : place_tests l entry k by ps ≡ party_tests l k by ++ (day_tests l entry k ++ (sums ++ last))
  unfolding place_tests
  in_parts = refl

  pub refused_20 : (r : Refusal) → first_met (party_tests l k by) ≡ Err r → first_met (place_tests l entry k by ps) ≡ Err r
  refused_20 r e = ap first_met in_parts ∙ refuse_append r (party_tests l k by) (day_tests l entry k ++ (sums ++ last)) e

  module _ (parties : first_met (party_tests l k by) ≡ pass) where
    from_26 : first_met (place_tests l entry k by ps) ≡ first_met (day_tests l entry k ++ (sums ++ last))
    from_26 = ap first_met in_parts ∙ pass_append (party_tests l k by) (day_tests l entry k ++ (sums ++ last)) parties

    pub refused_26 : (r : Refusal) → first_met (day_tests l entry k) ≡ Err r → first_met (place_tests l entry k by ps) ≡ Err r
    refused_26 r e = from_26 ∙ refuse_append r (day_tests l entry k) (sums ++ last) e

    module _ (days : first_met (day_tests l entry k) ≡ pass) where
      from_31 : first_met (place_tests l entry k by ps) ≡ first_met (sums ++ last)
      from_31 = from_26 ∙ pass_append (day_tests l entry k) (sums ++ last) days

      -- 31 to 35, and 36 after them
      pub with_36 : (v : Verdict) → v ≡ first_met sums → tried v (full_test l) ≡ first_met (place_tests l entry k by ps)
      with_36 v e = ap (λ w. tried w (full_test l)) e ∙ sym (tried_append sums (full_test l)) ∙ sym from_31

-- where one list after another passes, each passes
pass_left : (ts us : List Test) → first_met (ts ++ us) ≡ pass → first_met ts ≡ pass
pass_left [] us e = refl
pass_left (t ∷ ts) us e = rw (pass_first t.0 t.1 (ts ++ us) e) (pass_left ts us (pass_rest t.0 t.1 (ts ++ us) e))

pass_right : (ts us : List Test) → first_met (ts ++ us) ≡ pass → first_met us ≡ pass
pass_right ts us e = sym (pass_append ts us (pass_left ts us e)) ∙ e

-- ---- what the tables can hold

pub actors_few : (x : Actors) → length (actors_in x) ≤ 8
unfolding actors_in
actors_few x = omega (arith, length-take (min x.count 8) x.entries)

pub categories_few : (x : Categories) → length (categories_in x) ≤ 4
unfolding categories_in
categories_few x = rw length-map (omega (arith, length-take (min x.count 4) x.entries))

-- ---- 36, by the register's own count

pub full_is : (h : Head) (cols : Columns) (loads : LoadColumns) → ◌≡◌ {A = Test} (not (ltb h.records 256), state Full) (full_test (view h cols loads))
unfolding view
full_is h cols loads = rw (records_length h.records cols, room_is h.records 256)

-- ---- what the tests leave

-- a place that passed is below a length
passed_place : (a n : ℕ) → not (ltb a n) ≡ false → a < n
passed_place a n e = ltb-true a n (not-false (ltb a n) e)

-- what 20 to 25 leave: places of those enrolled, two actors
pub record Enrolled (h : Head) (at : Places) : Type 0 where
  pub ceder : at.ceder < length (actors_in h.actors)
  pub acquirer : at.acquirer < length (actors_in h.actors)
  pub submitter : at.submitter < length (actors_in h.actors)
  pub category : at.category < 4
  pub apart : at.ceder ≡ at.acquirer → ⊥

module _ (h : Head) (cols : Columns) (loads : LoadColumns) (entry : Entry) (at : Places) where
  pub enrolled_of : first_met (party_tests (view h cols loads) (key_at at) at.submitter) ≡ pass → Enrolled h at
  unfolding party_tests view
  enrolled_of e =
      let f = pass_all (party_tests (view h cols loads) (key_at at) at.submitter) e in
      let z : at.category < length (categories_in h.categories) = passed_place _ _ f.1.1.1.0 in
      record {
        ceder = passed_place _ _ f.0;
        acquirer = passed_place _ _ f.1.0;
        submitter = passed_place _ _ f.1.1.0;
        category = omega (arith, categories_few h.categories);
        apart = eqb-false _ _ f.1.1.1.1.1.0;
      }

  counted_of : first_met (day_tests (view h cols loads) entry (key_at at)) ≡ pass → first_counted h.clock at.day < steps_of at.day
  unfolding day_tests view
  counted_of e =
      let f = pass_all (day_tests (view h cols loads) entry (key_at at)) e in passed_place _ _ f.1.1.0

  -- 20 to 30
  pub judgeable_of : first_met (party_tests (view h cols loads) (key_at at) at.submitter) ≡ pass →
      first_met (day_tests (view h cols loads) entry (key_at at)) ≡ pass → Judgeable h at
  judgeable_of e d =
      let p = enrolled_of e in
      let few = actors_few h.actors in
      let c = counted_of d in
      record {
        ceder = omega (arith, p.ceder);
        acquirer = omega (arith, p.acquirer);
        submitter = omega (arith, p.submitter);
        category = p.category;
        day = steps_day at.day (omega arith);
        apart = p.apart;
        counted = c;
      }

  room_of : not (ltb (length (view h cols loads).records) record_places) ≡ false → h.records < record_places
  unfolding view
  room_of f = omega (arith, passed_place (length (records_in h.records cols)) record_places f, records_length h.records cols)

  -- and 20 to 36 a free place
  pub fileable_of : (ps : List ℕ) → first_met (place_tests (view h cols loads) entry (key_at at) at.submitter ps) ≡ pass → Fileable h at
  fileable_of ps e =
      let l = view h cols loads in
      let k = key_at at in
      let e₁ = sym (ap first_met (in_parts l entry k at.submitter ps)) ∙ e in
      let p₁ = pass_left (party_tests l k at.submitter) _ e₁ in
      let e₂ = pass_right (party_tests l k at.submitter) _ e₁ in
      let p₂ = pass_left (day_tests l entry k) _ e₂ in
      let e₃ = pass_right (day_tests l entry k) _ e₂ in
      let e₄ = pass_right (load_test l k ∷ step_tests l k ps) (full_test l ∷ []) e₃ in
      record { judgeable = judgeable_of p₁ p₂; room = room_of (pass_first (full_test l).0 (full_test l).1 [] e₄) }
