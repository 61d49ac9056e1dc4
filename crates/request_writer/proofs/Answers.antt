-- What the writer answers, test by test, and what it leaves in the buffer.
use mathlib.Core.Path.{◌≡◌, sym}
use mathlib.Core.Bool.{true}
use mathlib.Core.List.{List, [], ◌∷◌, ◌++◌}
use Prim.Native.Nat.{ℕ, ◌≤◌}
use native.Mathlib.Omega.{arith}
use lib.Dec.{ltb}
use lib.ListN.{length}
use borrow.Author.Tests.{ltb-false, not-false}
use Rattle.lists.proofs.Tests.{and_left}
use Rattle.std.specs.Prelude.{Result, Ok, Err}
use Rattle.refusals.specs.Tests.{pass, state}
use Rattle.refusals.specs.declared.Refusal.{Refusal}
use Rattle.refusals.specs.declared.StateRefusal.TheVariants.{Full}
use Rattle.refusals.proofs.Tests.{pass_all}
use Rattle.notification.specs.Writing.{ranged, written}
use Rattle.writer.specs.Placing.{Placed}
use Rattle.writer.proofs.Placed.{placed_first}
use Rattle.request.specs.Moments.{in_time}
use Rattle.request.specs.Writing.{object_text, request_tests, request_verdict, request_answer}
use Rattle.request.specs.declared.Request.{Request}

-- ---- what a pass says

pub record Passed (r : Request) (buffer : ℕ) : Type 0 where
  pub a_range : ranged r.notification ≡ true
  pub room : length (object_text r) ≤ buffer

pub passed : (r : Request) (buffer : ℕ) → pass ≡ request_verdict r buffer → Passed r buffer
unfolding request_verdict
passed r buffer e =
    let all = pass_all (request_tests r ++ (ltb buffer (length (object_text r)), state Full) ∷ []) (sym e) in
    record {
      a_range = and_left (ranged r.notification) (in_time r.moment) (not-false _ all.1.0);
      room = ltb-false buffer (length (object_text r)) all.1.1.1.0;
    }

-- ---- the answer and the buffer

module _ (r : Request) (buffer : List ℕ) where
  abbrev Wrote : Result ℕ Refusal → List ℕ → Type 0
  Wrote answer after =
      (answer ≡ request_answer r (length buffer)) × (after ≡ written (request_verdict r (length buffer)) (object_text r) buffer)

  pub object_refused : (f : Refusal) → Err f ≡ request_verdict r (length buffer) → Wrote (Err f) buffer
  unfolding request_answer written
  object_refused f e = (rw (← e), rw (← e))

  pub object_written : (n : ℕ) (after : List ℕ) → pass ≡ request_verdict r (length buffer) → Placed buffer 0 (object_text r) after n
      → Wrote (Ok n) after
  unfolding request_answer written
  object_written n after e p =
      let w = passed r (length buffer) e in
      let en : n ≡ length (object_text r) = omega (arith, p.follows) in
      (rw (← e, en), rw (← e) (placed_first p w.room))
