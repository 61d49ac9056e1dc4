-- What the tests of a call come to for the ledger that a head holds, by what the code has found of each.
use Rattle.std.specs.Prelude.{Option, is_some}
use mathlib.Core.Path.{◌≡◌, sym, ◌∙◌, ap}
use mathlib.Core.Bool.{Bool, true, not, ◌&&◌}
use mathlib.Core.List.{List, [], ◌∷◌, ◌++◌}
use Prim.Native.Nat.{ℕ, ◌+◌, ◌≤◌, ◌<◌}
use lib.Dec.{leb, ltb, eqb}
use lib.ListN.{length, get_or, take}
use lib.Seq.{take_all}
use borrow.Author.Tests.{ltb-true, not-false}
use Rattle.lists.specs.Searches.{every}
use Rattle.calendar.specs.Dates.{day_count}
use Rattle.calendar.specs.Steps.{steps_of}
use Rattle.calendar.specs.Clocks.{loadable}
use Rattle.refusals.specs.Tests.{Test, input, state, first_met, pass}
use Rattle.refusals.proofs.Tests.{pass_all, pass_append}
use Rattle.refusals.specs.declared.InputRefusal.TheVariants.{Range}
use Rattle.refusals.specs.declared.StateRefusal.TheVariants.{ActorUnknown, CategoryUnknown, Full, There, LoadDay}
use Rattle.notification.specs.Forms.{power_end}
use Rattle.lists.proofs.Tests.{and_left}
use Rattle.notification.proofs.Tested.{every_more}
use Rattle.ledger.specs.Ledger.{actor_at, category_at, has_load}
use Rattle.ledger.specs.Calls.{load_ranged, load_tests}
use Rattle.tables.specs.Tables.{Columns, LoadColumns, columns, load_columns, actors_in, categories_in, loads_in, load_number}
use Rattle.tables.specs.Passing.{last_load}
use Rattle.tables.proofs.LoadTable.{loads_length, found_load}
use Rattle.register.specs.View.{view}
use Rattle.register.proofs.Trying.{room_is}
use Rattle.register.specs.declared.Head.{Head}

-- no columns, to ask what doesn't depend on them
abbrev pub no_columns : Columns
no_columns = columns [] [] [] [] []

abbrev pub no_loads : LoadColumns
no_loads = load_columns [] [] []

-- ---- the tests of each call, one after the other, by how many actors and categories there are

abbrev pub named_tried : ℕ → ℕ → ℕ → ℕ → Bool → Bool → List Test
named_tried n m a z ranged later =
    (not ranged, input Range) ∷ (not (ltb a n), state ActorUnknown) ∷ (not (ltb z m), state CategoryUnknown)
    ∷ (not later, state LoadDay) ∷ []

module _ (h : Head) (cols : Columns) (loads : LoadColumns) where
  module _ (n m : ℕ) (en : length (actors_in h.actors) ≡ n) (em : length (categories_in h.categories) ≡ m) where
    module _ (actor category : List ℕ) (a z : ℕ) (ea : a ≡ actor_at (actors_in h.actors) actor)
        (ez : z ≡ category_at (categories_in h.categories) category) where
      -- a load: 10, 22, 23, 39, then 37 and 36
      module _ (day most : ℕ) (ps : List ℕ) (ranged later : Bool) (er : ranged ≡ load_ranged day most ps) (el : later ≡ loadable h.clock day) where
        abbrev named : List Test
        named = named_tried n m a z ranged later

        abbrev placed : List Test
        placed =
            (has_load (loads_in h.loads loads) a z day, state There)
            ∷ (not (ltb (length (loads_in h.loads loads)) 64), state Full) ∷ []

        load_parts : first_met (named ++ placed) ≡ first_met (load_tests (view h cols loads) actor category day most ps)
        unfolding view load_tests
        load_parts = rw (en, em, ← ea, ← ez, ← er, ← el)

        module _ (e : first_met named ≡ pass) where
          -- what is left to be known of it
          pub load_named : (ranged ≡ true) × (a < n) × (z < m)
          load_named =
              let f = pass_all named e in
              (not-false ranged f.0, ltb-true a n (not-false _ f.1.0), ltb-true z m (not-false _ f.1.1.0))

          pub load_is_lem : (there : Bool) → there ≡ has_load (loads_in h.loads loads) a z day →
              first_met ((there, state There) ∷ (not (ltb h.loads 64), state Full) ∷ [])
              ≡ first_met (load_tests (view h cols loads) actor category day most ps)
          load_is_lem there et =
              rw (et, ← room_is h.loads 64, ← loads_length h.loads loads)
              (sym (pass_append named placed e) ∙ load_parts)

-- ---- the ranges of a load

abbrev pub not_above : ℕ → List ℕ → Bool
not_above most ps = every (λ p. leb p most) ps

pub above_more : (ps : List ℕ) (most i : ℕ) (good : Bool) → i < length ps → good ≡ not_above most (take i ps) →
    (good && leb (get_or ps i 0) most) ≡ not_above most (take (i + 1) ps)
above_more ps most i good h e = rw (every_more (λ p. leb p most) ps i 0 h, e)

pub above_all : (ps : List ℕ) (most i : ℕ) (good : Bool) → length ps ≤ i → good ≡ not_above most (take i ps) → good ≡ not_above most ps
above_all ps most i good h e = e ∙ ap (not_above most) (take_all i ps h)

module _ (day most : ℕ) (ps : List ℕ) where
  pub ranged_day : load_ranged day most ps ≡ true → day < day_count
  unfolding load_ranged
  ranged_day e =
      ltb-true day day_count (and_left _ (ltb most power_end) (and_left _ (eqb (length ps) (steps_of day)) (and_left _ (not_above most ps) e)))

-- ---- what a load's tests have found

-- what the search for a load's number finds tells whether there is such a load
pub has_load_lem : (n : ℕ) (cols : LoadColumns) (a z d number : ℕ) (f : Option ℕ) → a < 8 → z < 4 → number ≡ load_number a z d →
    f ≡ last_load cols.keys n number → is_some f ≡ has_load (loads_in n cols) a z d
has_load_lem n cols a z d number f ha hz en ef =
    ap is_some (ef ∙ ap (last_load cols.keys n) en) ∙ sym (found_load n cols a z d ha hz)
