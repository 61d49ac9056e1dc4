-- The tests of a filing's day, contracts and load, by what the code has found.
use Rattle.std.specs.Prelude.{Err, None, Option, Some, is_none, is_some}
use mathlib.Core.Path.{◌≡◌, refl, ◌∙◌, ap}
use mathlib.Core.Bool.{not}
use mathlib.Core.List.{List, ◌∷◌}
use Prim.Native.Nat.{ℕ, ◌<◌}
use Rattle.refusals.specs.Tests.{state, first_met}
use Rattle.refusals.specs.declared.StateRefusal.TheVariants.{NoLoad}
use Rattle.ledger.specs.Ledger.{Key, has_load}
use Rattle.ledger.specs.Filing.{load_test, step_tests}
use Rattle.tables.specs.Tables.{Columns, LoadColumns, load_number, loads_in}
use Rattle.tables.specs.Passing.{last_load}
use Rattle.register.specs.declared.Head.{Head}
use Rattle.register.specs.View.{view}
use Rattle.register.proofs.CallTests.{has_load_lem}

-- ---- the load

none_not : (f : Option ℕ) → is_none f ≡ not (is_some f)
none_not (Some i) = refl
none_not None = refl

module _ (h : Head) (cols : Columns) (loads : LoadColumns) (k : Key) (number : ℕ) (f : Option ℕ) (hc : k.ceder < 8) (hz : k.category < 4)
    (en : number ≡ load_number k.ceder k.category k.day) (ef : f ≡ last_load loads.keys h.loads number) where
  unloaded : is_none f ≡ not (has_load (loads_in h.loads loads) k.ceder k.category k.day)
  unloaded = none_not f ∙ ap not (has_load_lem h.loads loads k.ceder k.category k.day number f hc hz en ef)

  pub load_refused : f ≡ None → (ps : List ℕ) →
      Err (state NoLoad) ≡ first_met (load_test (view h cols loads) k ∷ step_tests (view h cols loads) k ps)
  unfolding load_test view
  load_refused e ps = rw (← unloaded, e) refl

  pub load_passed : (i : ℕ) → f ≡ Some i → (ps : List ℕ) →
      first_met (step_tests (view h cols loads) k ps) ≡ first_met (load_test (view h cols loads) k ∷ step_tests (view h cols loads) k ps)
  unfolding load_test view
  load_passed i e ps = rw (← unloaded, e) refl
