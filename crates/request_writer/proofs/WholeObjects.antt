-- A whole object: how long it is, and its pieces in a buffer.
use mathlib.Core.Path.{◌≡◌, ap}
use mathlib.Core.Bool.{true, ◌&&◌}
use mathlib.Core.List.{List, ◌++◌}
use Prim.Native.Nat.{ℕ, ◌+◌, ◌≤◌}
use native.Mathlib.Omega.{arith}
use lib.Dec.{ltb, eqb}
use lib.ListN.{length, take, drop, length-append}
use lib.Seq.{length-take-le}
use borrow.Author.Tests.{ltb-true, eqb-true}
use Rattle.lists.specs.Searches.{every}
use Rattle.lists.proofs.Tests.{by_test, and_left, and_right}
use Rattle.calendar.specs.Dates.{day_count}
use Rattle.calendar.specs.Steps.{steps_of}
use Rattle.calendar.specs.Texts.{text_of}
use Rattle.calendar.proofs.StepCounts.{steps_some}
use Rattle.notification.specs.Forms.{category_text, power_end, places, all_zero}
use Rattle.notification.specs.Writing.{ranged}
use Rattle.notification.specs.declared.Notification.{Notification}
use Rattle.writer.specs.Placing.{Placed, Powered}
use Rattle.writer.proofs.Placed.{placed_join, room_first, room_second}
use Rattle.writer.proofs.StepTexts.{texts_length}
use Rattle.writer.proofs.Pieces.{ranged_powers}
use Rattle.request.specs.Moments.{moment_text, midnight}
use Rattle.request.specs.Writing.{object_text}
use Rattle.request.specs.declared.Moment.{Moment}
use Rattle.request.specs.declared.Request.{Request}
use Rattle.request_writer.specs.Pieces.{actors_text, terms_text, steps_text, marked_step, end_text}
use Rattle.request_writer.proofs.Objects.{object_pieces}
use Rattle.request_writer.proofs.StepObjects.{step_most}

-- a day in its range has a step
ranged_some : (n : Notification) → ranged n ≡ true → 1 ≤ n.steps
unfolding ranged
ranged_some n e =
    let a = ltb n.key.day day_count in
    let b = eqb n.steps (steps_of n.key.day) in
    let c = every (λ p. ltb p power_end) n.powers in
    let ab = and_left (a && b) c (and_left (a && b && c) (all_zero (drop n.steps n.powers)) e) in
    let s = eqb-true n.steps (steps_of n.key.day) (and_right a b ab) in
    let m = steps_some n.key.day (ltb-true n.key.day day_count (and_left a b ab)) in
    omega arith

pub moment_length : (m : Moment) → length (moment_text m) ≡ 20
unfolding moment_text text_of
moment_length m = by_test (ltb m.day day_count) (λ t. rw t) (λ t. rw t)

module _ (r : Request) (e : ranged r.notification ≡ true) (fifty : length r.notification.powers ≡ places) where
  pub its_powers : Powered r.notification.steps r.notification.powers
  its_powers = ranged_powers r.notification e fifty

  pieces : actors_text r ++ (terms_text r ++ (steps_text r.notification ++ end_text)) ≡ object_text r
  pieces = object_pieces r (ranged_some r.notification e) its_powers.there

  -- ---- how long it is

  module _ (ceder : length r.notification.key.ceder ≡ 16) (acquirer : length r.notification.key.acquirer ≡ 16)
      (origin : length r.origin ≡ 16) where
    actors_length : length (actors_text r) ≡ 126
    actors_length = simp length-append (omega arith)

    terms_length : length (terms_text r) ≡ 137 + length (category_text r.notification.key.category)
    terms_length =
        let a = moment_length (midnight r.notification.key.day) in
        let b = moment_length r.moment in
        simp length-append (omega arith)

    pub object_sum : (m n : ℕ) → m ≡ length (category_text r.notification.key.category) → n ≡ length (steps_text r.notification)
        → (265 + m + n ≡ length (object_text r)) × (n ≤ 2850)
    object_sum m n em en =
        let steps = r.notification.steps in
        let l = texts_length (marked_step steps) 57 (step_most steps) 0 (take steps r.notification.powers) in
        let t = length-take-le steps r.notification.powers its_powers.there in
        let a = length-append (actors_text r) (terms_text r ++ (steps_text r.notification ++ end_text)) in
        let b = length-append (terms_text r) (steps_text r.notification ++ end_text) in
        let c = length-append (steps_text r.notification) end_text in
        (omega (arith, actors_length, terms_length, ap length pieces), omega (arith, its_powers.few))

  -- ---- in a buffer

  module _ (buffer : List ℕ) (room : length (object_text r) ≤ length buffer) where
    room_all : 0 + length (actors_text r ++ (terms_text r ++ (steps_text r.notification ++ end_text))) ≤ length buffer
    room_all = omega (arith, ap length pieces)

    pub room_actors : 0 + length (actors_text r) ≤ length buffer
    room_actors = room_first 0 (actors_text r) (terms_text r ++ (steps_text r.notification ++ end_text)) room_all

    module _ (b : List ℕ) (n : ℕ) (p : Placed buffer 0 (actors_text r) b n) where
      room_after : n + length (terms_text r ++ (steps_text r.notification ++ end_text)) ≤ length b
      room_after = room_second (terms_text r ++ (steps_text r.notification ++ end_text)) p room_all

      pub room_terms : n + length (terms_text r) ≤ length b
      room_terms = room_first n (terms_text r) (steps_text r.notification ++ end_text) room_after

      module _ (c : List ℕ) (m : ℕ) (q : Placed b n (terms_text r) c m) where
        room_rest : m + length (steps_text r.notification ++ end_text) ≤ length c
        room_rest = room_second (steps_text r.notification ++ end_text) q room_after

        pub room_steps : m + length (steps_text r.notification) ≤ length c
        room_steps = room_first m (steps_text r.notification) end_text room_rest

        module _ (d : List ℕ) (k : ℕ) (s : Placed c m (steps_text r.notification) d k) where
          pub room_end : k + length end_text ≤ length d
          room_end = room_second end_text s room_rest

          pub object_placed : (f : List ℕ) (end : ℕ) → Placed d k end_text f end → Placed buffer 0 (object_text r) f end
          object_placed f end t = rw pieces at (placed_join p (placed_join q (placed_join s t)))
