-- What ceder and acquirer would have at the counted steps: the tests 32 to 35 by the sums that the register makes.
use Rattle.std.specs.Prelude.{Option}
use mathlib.Core.Path.{◌≡◌, refl, sym, ap, ap₂, ◌∙◌}
use mathlib.Core.List.{List}
use Prim.Native.Nat.{ℕ, ◌+◌, ◌≤◌, ◌<◌, min}
use native.Mathlib.Omega.{arith}
use lib.ListN.{get_or}
use Rattle.calendar.specs.Steps.{steps_of}
use Rattle.calendar.specs.Clocks.{first_counted}
use Rattle.calendar.proofs.StepCounts.{steps_small}
use Rattle.refusals.specs.Tests.{first_met}
use Rattle.ledger.specs.Ledger.{Key, Ledger, loaded, approved}
use Rattle.ledger.specs.Filing.{checks, ceder_below, acquirer_above, ceder_above, acquirer_below, step_tests}
use Rattle.tables.specs.Tables.{Columns, LoadColumns, load_number, key_number, key_from, records_in}
use Rattle.tables.specs.Passing.{last_load, load_row, load_most}
use Rattle.tables.proofs.LoadTable.{approved-most, loaded_row}
use Rattle.tables.proofs.Keys.{key_unpacked}
use Rattle.judging.specs.Nets.{base, Based, Netted}
use Rattle.judging.specs.Steps.{net_tests}
use Rattle.judging.specs.declared.nets.Nets.{Nets}
use Rattle.judging.proofs.Ledger.{held, verdicts-agree}
use Rattle.register.specs.declared.Head.{Head}
use Rattle.register.specs.declared.verdicts.Places.{Places}
use Rattle.register.specs.View.{view}
use Rattle.register.specs.Judging.{key_at, Judgeable, NettedAt}

-- what passing the records comes to, said of the head
pub netted_at : (h : Head) (cols : Columns) (rows : List (List ℕ)) (f g : Option ℕ) (at : Places) (start nets : Nets) (own n first until : ℕ) →
    own ≡ key_number at.ceder at.acquirer at.category at.day → n ≡ min h.records 256 →
    first ≡ first_counted h.clock at.day → until ≡ steps_of at.day →
    Based (load_row rows f) start.ceder → Based (load_row rows g) start.acquirer → Netted cols n own start first until nets →
    NettedAt h cols rows f g at nets
netted_at h cols rows f g at start nets own n first until eo en ef eu bc ba netted =
    record { start = start; ceder = bc; acquirer = ba; netted = rw (eo, en, ef, eu) at netted }

steps_at : (l : Ledger) (k : Key) (ps : List ℕ) (first until : ℕ) → first ≡ first_counted l.clock k.day → until ≡ steps_of k.day →
    first_met (checks (ceder_below l k ps) (acquirer_above l k ps) (ceder_above l k ps) (acquirer_below l k ps) first until)
    ≡ first_met (step_tests l k ps)
unfolding step_tests
steps_at l k ps first until ef eu = rw (ef, eu)

module _ (h : Head) (cols : Columns) (loads : LoadColumns) (at : Places) (ps : List ℕ) (j : Judgeable h at)
    (first until : ℕ) (ef : first ≡ first_counted h.clock at.day) (eu : until ≡ steps_of at.day)
    (a b : ℕ) (ea : a ≡ load_number at.ceder at.category at.day) (eb : b ≡ load_number at.acquirer at.category at.day)
    (f g : Option ℕ) (ff : f ≡ last_load loads.keys h.loads a) (fg : g ≡ last_load loads.keys h.loads b) (nets : Nets)
    (net : NettedAt h cols loads.rows f g at nets) where
  abbrev k : Key
  k = key_at at

  packed : key_from (key_number at.ceder at.acquirer at.category at.day) ≡ k
  packed = key_unpacked at.ceder at.acquirer at.category at.day j.ceder j.acquirer j.category

  records_are : (view h cols loads).records ≡ held cols (min h.records 256)
  unfolding view records_in
  records_are = refl

  clock_is : (view h cols loads).clock ≡ h.clock
  unfolding view
  clock_is = refl

  starts : (who number : ℕ) (r : Option ℕ) (net : List ℕ) → who < 8 → number ≡ load_number who at.category at.day →
      r ≡ last_load loads.keys h.loads number → Based (load_row loads.rows r) net →
      (s : ℕ) → first_counted h.clock at.day ≤ s → s < steps_of at.day →
      get_or net s 0 ≡ base + loaded (view h cols loads).loads who k.category k.day s
  unfolding view
  starts who number r net hw em er based s l u =
      let small = steps_small at.day in
      let e = loaded_row h.loads loads who at.category at.day hw j.category s in
      let q : r ≡ last_load loads.keys h.loads (load_number who at.category at.day) = er ∙ ap (last_load loads.keys h.loads) em in
      rw (e, ← q) (based.each s (omega arith))

  most_of : (who number m : ℕ) (r : Option ℕ) → who < 8 → number ≡ load_number who at.category at.day →
      r ≡ last_load loads.keys h.loads number → m ≡ load_most loads.approved r →
      m ≡ approved (view h cols loads).loads who k.category k.day
  unfolding view
  most_of who number m r hw en er em =
      em ∙ (ap (load_most loads.approved) (er ∙ ap (last_load loads.keys h.loads) en)
      ∙ sym (approved-most h.loads loads who at.category at.day hw j.category))

  pub fits_is : (c-most a-most : ℕ) → c-most ≡ load_most loads.approved f → a-most ≡ load_most loads.approved g →
      first_met (net_tests nets ps c-most a-most first until) ≡ first_met (step_tests (view h cols loads) k ps)
  fits_is c-most a-most ec em =
      ap₂ (λ x y. first_met (net_tests nets ps x y first until))
      (most_of at.ceder a c-most f j.ceder ea ff ec)
      (most_of at.acquirer b a-most g j.acquirer eb fg em)
      ∙ ap₂ (λ x y. first_met (net_tests nets ps (approved (view h cols loads).loads at.ceder k.category k.day)
      (approved (view h cols loads).loads at.acquirer k.category k.day) x y)) ef eu
      ∙ (sym
      (verdicts-agree cols (min h.records 256) _ net.start nets _ _ net.netted k packed j.apart (view h cols loads) records_are
      (starts at.ceder a f net.start.ceder j.ceder ea ff net.ceder)
      (starts at.acquirer b g net.start.acquirer j.acquirer eb fg net.acquirer)
      ps)
      ∙ steps_at (view h cols loads) k ps _ _ (sym (ap (λ t. first_counted t at.day) clock_is)) refl)
