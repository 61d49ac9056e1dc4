-- What the engagement call and the history answer: the ledger's tests by the numbers that the register finds, and what is told where they pass.
use Rattle.std.specs.Prelude.{Err, Option, Ok, Result}
use mathlib.Core.Path.{◌≡◌, sym, ap, ◌∙◌}
use mathlib.Core.Bool.{not}
use mathlib.Core.List.{List, [], ◌∷◌, ◌++◌}
use Prim.Native.Nat.{ℕ, ◌+◌, ◌-◌, ◌*◌, ◌≤◌, ◌<◌, min}
use native.Mathlib.Omega.{arith}
use lib.Dec.{ltb}
use lib.ListN.{length, get_or, drop, take, length-take, length-map}
use borrow.Author.Tests.{ltb-true, ltb-false, not-false}
use Rattle.lists.specs.Sums.{sum_to}
use Rattle.calendar.specs.Steps.{steps_of}
use Rattle.calendar.proofs.StepCounts.{steps_day, steps_small}
use Rattle.refusals.specs.Tests.{Test, state, first_met, Verdict, pass}
use Rattle.refusals.specs.declared.Refusal.{Refusal}
use Rattle.refusals.specs.declared.StateRefusal.TheVariants.{ActorUnknown, Full}
use Rattle.refusals.proofs.Tests.{pass_all}
use Rattle.notification.specs.Forms.{category_text}
use Rattle.ledger.specs.Ledger.{actor_at, category_at, engagement, gained, loaded}
use Rattle.ledger.specs.Asking.{ask_engagement, engagement_tests, engaged_at, history_of, history_tests, ask_history, history_in}
use Rattle.tables.specs.Tables.{Columns, LoadColumns, actors_in, categories_in, load_number, loads_in, records_in}
use Rattle.tables.specs.Passing.{last_load, load_row}
use Rattle.tables.proofs.LoadTable.{loaded_row}
use Rattle.recording.specs.Recording.{gained_at, given_at}
use Rattle.recording.specs.Ordering.{ids_below}
use Rattle.recording.proofs.Views.{acquired_view, ceded_view}
use Rattle.recording.proofs.TurnNumbers.{ids_only}
use Rattle.register.specs.declared.Head.{Head}
use Rattle.register.specs.View.{view}

-- ---- engagement

module _ (h : Head) (cols : Columns) (loads : LoadColumns) (actor category : List ℕ) (day s : ℕ) (v : Verdict)
    (ev : v ≡ first_met (engagement_tests (view h cols loads) actor category day s)) where
  pub engaged_refused : (r : Refusal) → v ≡ Err r → Err r ≡ ask_engagement (view h cols loads) actor category day s
  unfolding ask_engagement
  engaged_refused r e = rw (← ev, e)

  module _ (passed : v ≡ pass) (a z : ℕ) (ea : a ≡ actor_at (actors_in h.actors) actor)
      (ez : z ≡ category_at (categories_in h.categories) category) where
    -- what the tests leave to be known: places in their ranges, a day, and a step that has a place in a row
    pub engaged_in : (a < 8) × (z < 4) × (day < 36525) × (s < 50)
    unfolding engagement_tests view actors_in categories_in
    engaged_in =
        let f = pass_all (engagement_tests (view h cols loads) actor category day s) (sym ev ∙ passed) in
        let i : a < length (actors_in h.actors) = rw ea (ltb-true _ _ (not-false _ f.0)) in
        let j : z < length (categories_in h.categories) = rw ez (ltb-true _ _ (not-false _ f.1.0)) in
        let k : s < steps_of day = ltb-true _ _ (not-false _ f.1.1.0) in
        let n = length-take (min h.actors.count 8) h.actors.entries in
        let m =
        length-map (take (min h.categories.count 4) h.categories.entries) (λ z. category_text z.text)
        ∙ length-take (min h.categories.count 4) h.categories.entries in
        (omega arith, omega arith, steps_day day (omega arith), omega (arith, steps_small day))

    pub engaged_power : (p : ℕ) → p ≡ engagement (view h cols loads) a z day s →
        Ok p ≡ ask_engagement (view h cols loads) actor category day s
    unfolding ask_engagement engaged_at view
    engaged_power p e = rw (← ev, passed, ← ea, ← ez) (ap Ok e)

-- the engagement by the load's row and by what the records move
pub engaged_by : (h : Head) (cols : Columns) (loads : LoadColumns) (a z day s number k w gain give : ℕ) (f : Option ℕ) (row : List ℕ) →
    a < 8 → z < 4 → number ≡ load_number a z day → f ≡ last_load loads.keys h.loads number → row ≡ load_row loads.rows f →
    w ≡ get_or row s 0 → k ≡ min h.records 256 → gain ≡ sum_to k (gained_at cols (day * 4 + z) a s) →
    give ≡ sum_to k (given_at cols (day * 4 + z) a s) → (w + gain) - give ≡ engagement (view h cols loads) a z day s
unfolding engagement gained view records_in
engaged_by h cols loads a z day s number k w gain give f row ha hz en ef er ew ek eg ev =
    let b : loaded (loads_in h.loads loads) a z day s ≡ w = loaded_row h.loads loads a z day ha hz s ∙ rw (ew, er, ef, en) in
    rw (b, ← ek, acquired_view cols k a z day s hz, ceded_view cols k a z day s hz, ← eg, ← ev)

-- ---- history

abbrev pub history_tried : ℕ → ℕ → ℕ → ℕ → List Test
history_tried a n room count = (not (ltb a n), state ActorUnknown) ∷ (ltb room count, state Full) ∷ []

module _ (h : Head) (cols : Columns) (loads : LoadColumns) (actor buffer : List ℕ) (n a k count : ℕ)
    (en : length (actors_in h.actors) ≡ n) (ea : a ≡ actor_at (actors_in h.actors) actor) (ek : k ≡ min h.records 256)
    (ec : count ≡ length (ids_below cols.keys cols.ids k a)) where
  abbrev tried : List Test
  tried = history_tried a n (length buffer) count

  -- an answer, and what the buffer holds afterwards, are the ledger's
  abbrev ListedBy : Result ℕ Refusal → List ℕ → Type 0
  ListedBy r after =
      (r ≡ ask_history (view h cols loads) actor (length buffer)) × (after ≡ history_in (view h cols loads) actor buffer)

  abbrev listed : List ℕ
  listed = ids_below cols.keys cols.ids k a

  history_ids : history_of (view h cols loads) actor ≡ listed
  unfolding view records_in
  history_ids = rw (← ea, ← ek) (ids_only cols k a)

  history_is : first_met tried ≡ first_met (history_tests (view h cols loads) actor (length buffer))
  unfolding view history_tests
  history_is = rw (history_ids, en, ← ea, ← ec)

  pub listed_refused : (r : Refusal) → first_met tried ≡ Err r → ListedBy (Err r) buffer
  unfolding ask_history history_in
  listed_refused r e = (rw (← history_is, e), rw (← history_is, e))

  module _ (passed : first_met tried ≡ pass) where
    pub listed_room : length listed ≤ length buffer
    listed_room = let f = pass_all tried passed in omega (arith, ltb-false (length buffer) count f.1.0)

    pub listed_all : (after : List ℕ) → after ≡ listed ++ drop (length listed) buffer → ListedBy (Ok count) after
    unfolding ask_history history_in
    listed_all after e = (rw (← history_is, passed, history_ids, ← ec), rw (← history_is, passed, history_ids) e)
