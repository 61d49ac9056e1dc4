-- A step of an object: how long it is, and its pieces.
use mathlib.Core.Path.{◌≡◌}
use mathlib.Core.Bool.{cond}
use mathlib.Core.List.{List, [], ◌∷◌, ◌++◌}
use Prim.Native.Nat.{ℕ, suc, ◌+◌, ◌≤◌}
use native.Mathlib.Numerals.{add-one}
use native.Mathlib.Omega.{arith}
use lib.Dec.{eqb}
use lib.ListN.{length, length-append}
use Rattle.lists.proofs.Tests.{by_test}
use Rattle.calendar.specs.Labels.{again_at, label_of}
use Rattle.notification.specs.Forms.{digits}
use Rattle.notification.proofs.Lengths.{digits_length}
use Rattle.writer.specs.Placing.{Placed}
use Rattle.writer.proofs.Placed.{placed_join, room_first, room_second}
use Rattle.request.specs.Objects.{until_name, power_name}
use Rattle.request.specs.Writing.{hour_label}
use Rattle.request_writer.specs.Pieces.{lead, next_lead, mark_of, from_text, until_text, power_object, step_object, marked_step}

hour_length : (steps at : ℕ) → length (hour_label steps at) ≤ 9
unfolding hour_label label_of
hour_length steps at =
    by_test (again_at steps (cond (eqb at steps) 0 at)) (λ t. rw t (omega arith)) (λ t. rw t (omega arith))

step_length : (steps k p : ℕ)
    → length (marked_step steps k p) ≡ 35 + length (hour_label steps k) + length (hour_label steps (suc k)) + length (digits p)
step_length steps k p =
    omega
    (arith, length-append (hour_label steps k) (until_text steps k ++ power_object p), length-append (hour_label steps (suc k)) (power_object p), length-append (digits p) (125 ∷ []))

pub step_most : (steps k p : ℕ) → length (marked_step steps k p) ≤ 57
step_most steps k p =
    omega (arith, step_length steps k p, hour_length steps k, hour_length steps (suc k), digits_length p)

-- ---- a power, and the end of its step

module _ (p : ℕ) (text : List ℕ) (e : text ≡ digits p) (buffer : List ℕ) (at : ℕ) (room : at + length (power_object p) ≤ length buffer) where
  abbrev its_power : List ℕ
  its_power = next_lead power_name ++ text

  room_both : at + length (its_power ++ 125 ∷ []) ≤ length buffer
  room_both = rw e room

  pub power_room : at + length its_power ≤ length buffer
  power_room = room_first at its_power (125 ∷ []) room_both

  module _ (b : List ℕ) (n : ℕ) (q : Placed buffer at its_power b n) where
    pub power_placed : (c : List ℕ) (m : ℕ) → Placed b n (125 ∷ []) c m → Placed buffer at (power_object p) c m
    power_placed c m s = rw e at (placed_join q s)

-- ---- the byte before a step, and the step after it

module _ (steps k p : ℕ) (buffer : List ℕ) (at : ℕ) (room : at + length (marked_step steps k p) ≤ length buffer)
    (b : List ℕ) (n : ℕ) (q : Placed buffer at (mark_of k ∷ []) b n) where
  room_step : n + length (step_object steps k p) ≤ length b
  room_step = room_second (step_object steps k p) q room

  pub room_from : n + length (from_text steps k) ≤ length b
  room_from = room_first n (from_text steps k) (until_text steps k ++ power_object p) room_step

  module _ (c : List ℕ) (m : ℕ) (s : Placed b n (from_text steps k) c m) where
    room_rest : m + length (until_text steps k ++ power_object p) ≤ length c
    room_rest = room_second (until_text steps k ++ power_object p) s room_step

    pub room_until : m + length (lead until_name ++ hour_label steps (k + 1)) ≤ length c
    room_until = rw (add-one k) (room_first m (until_text steps k) (power_object p) room_rest)

    module _ (d : List ℕ) (l : ℕ) (t : Placed c m (lead until_name ++ hour_label steps (k + 1)) d l) where
      until_placed : Placed c m (until_text steps k) d l
      until_placed = rw (add-one k) at t

      pub room_power : l + length (power_object p) ≤ length d
      room_power = room_second (power_object p) until_placed room_rest

      pub step_placed : (f : List ℕ) (end : ℕ) → Placed d l (power_object p) f end → Placed buffer at (marked_step steps k p) f end
      step_placed f end u = placed_join q (placed_join s (placed_join until_placed u))
