-- What the writer answers, and what it leaves in the two buffers.
use mathlib.Core.Path.{◌≡◌, sym}
use mathlib.Core.Bool.{true}
use mathlib.Core.List.{List, [], ◌∷◌, ◌++◌}
use Prim.Native.Nat.{ℕ, ◌≤◌}
use native.Mathlib.Omega.{arith}
use lib.Dec.{ltb}
use lib.ListN.{length}
use borrow.Author.Tests.{ltb-false, not-false}
use Rattle.lists.proofs.Tests.{or_left, or_right}
use Rattle.refusals.specs.Tests.{pass, state}
use Rattle.refusals.specs.declared.Refusal.{Refusal}
use Rattle.refusals.specs.declared.StateRefusal.TheVariants.{Full}
use Rattle.std.specs.Prelude.{Ok, Err}
use Rattle.refusals.proofs.Tests.{pass_all}
use Rattle.notification.specs.Writing.{name_of, body_of, ranged, note_tests, too_short, lengths, write_verdict, write_answer, written}
use Rattle.writer.specs.Placing.{Placed, FileWritten}
use Rattle.notification.specs.declared.Notification.{Notification}
use Rattle.writer.proofs.Placed.{placed_first}

-- ---- what a pass says

pub record Passed (n : Notification) (name body : ℕ) : Type 0 where
  pub a_range : ranged n ≡ true
  pub name_room_lem : length (name_of n.key) ≤ name
  pub body_room_lem : length (body_of n) ≤ body

pub passed : (n : Notification) (name body : ℕ) → pass ≡ write_verdict n name body → Passed n name body
unfolding write_verdict
passed n name body e =
    let all = pass_all (note_tests n ++ (too_short n name body, state Full) ∷ []) (sym e) in
    let s = all.1.1.1.0 in
    let a = ltb name (length (name_of n.key)) in
    let b = ltb body (length (body_of n)) in
    record {
      a_range = not-false (ranged n) all.1.0;
      name_room_lem = ltb-false name (length (name_of n.key)) (or_left a b s);
      body_room_lem = ltb-false body (length (body_of n)) (or_right a b s);
    }

-- ---- the buffers

module _ (n : Notification) (name body : List ℕ) where
  pub file_refused : (r : Refusal) → Err r ≡ write_verdict n (length name) (length body) → FileWritten n name body (Err r) name body
  unfolding write_answer written
  file_refused r e = record { answers = rw (← e); its_name = rw (← e); its_body = rw (← e) }

  pub file_passed : (a b : ℕ) (c d : List ℕ) → pass ≡ write_verdict n (length name) (length body)
      → Placed name 0 (name_of n.key) c a → Placed body 0 (body_of n) d b → FileWritten n name body (Ok (lengths a b)) c d
  unfolding write_answer written
  file_passed a b c d e p q =
      let w = passed n (length name) (length body) e in
      let ea : a ≡ length (name_of n.key) = omega (arith, p.follows) in
      let eb : b ≡ length (body_of n) = omega (arith, q.follows) in
      record {
        answers = rw (← e, ea, eb);
        its_name = rw (← e) (placed_first p w.name_room_lem);
        its_body = rw (← e) (placed_first q w.body_room_lem);
      }
