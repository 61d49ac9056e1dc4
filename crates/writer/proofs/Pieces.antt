-- Names, headers and bodies, in the pieces that they are written in.
use mathlib.Core.Path.{◌≡◌, refl}
use mathlib.Core.Bool.{true, ◌&&◌}
use mathlib.Core.List.{List, [], ◌∷◌, ◌++◌, append_assoc}
use Prim.Native.Nat.{ℕ, suc, ◌+◌, ◌<◌, ◌≤◌}
use native.Mathlib.Omega.{arith}
use lib.Dec.{ltb, eqb}
use lib.ListN.{length, take, drop, set, length-append}
use borrow.Author.Tests.{eqb-true}
use Rattle.lists.specs.Searches.{every}
use Rattle.lists.proofs.Tests.{and_left, and_right}
use Rattle.calendar.specs.Steps.{steps_of}
use Rattle.calendar.specs.Texts.{text_of}
use Rattle.calendar.proofs.StepCounts.{steps_small}
use Rattle.notification.specs.Forms.{category_text, power_end, places, all_zero}
use Rattle.notification.specs.Writing.{name_of, header_of, labels_text, power_text, lines_of, body_of, formed, ranged}
use Rattle.writer.specs.Placing.{Placed, Powered, key_start, step_text, step_texts}
use Rattle.notification.specs.declared.Key.{Key}
use Rattle.notification.specs.declared.Notification.{Notification}
use Rattle.notification.proofs.Lengths.{formed_parts, name_length, header_length, line_length, body_length}
use Rattle.writer.proofs.Placed.{placed_length, placed_end, placed_join}

-- ---- ceder, acquirer and date

module _ (by : ℕ) (k : Key) (buffer : List ℕ) (at : ℕ) (room : at + length (key_start by k) ≤ length buffer)
    (date : List ℕ) (e : date ≡ text_of k.day) where
  module _ (b : List ℕ) (second : ℕ) (p : Placed buffer at (k.ceder ++ by ∷ []) b second) where
    module _ (c : List ℕ) (third : ℕ) (q : Placed b second (k.acquirer ++ by ∷ []) c third) where
      pub start_placed : (d : List ℕ) (end : ℕ) → Placed c third (date ++ by ∷ []) d end → Placed buffer at (key_start by k) d end
      start_placed d end r = placed_join (placed_join p q) (rw e at r)

-- ---- names

abbrev before : List ℕ
before = 78 ∷ 69 ∷ 82 ∷ 95 ∷ []

abbrev after : List ℕ
after = 46 ∷ 99 ∷ 115 ∷ 118 ∷ []

pub name_sum : (k : Key) (n : ℕ) → formed k ≡ true → n ≡ length (category_text k.category) → (51 + n ≡ length (name_of k)) × (n ≤ 6)
name_sum k n e f = let p = formed_parts k e in (omega (arith, name_length k e), omega arith)

name_pieces : (k : Key) → before ++ key_start 95 k ++ category_text k.category ++ after ≡ name_of k
unfolding name_of
name_pieces k = simp append_assoc

module _ (k : Key) (buffer : List ℕ) (room : length (name_of k) ≤ length buffer) (text : List ℕ) (e : text ≡ category_text k.category) where
  name_lengths : length (name_of k) ≡ 4 + length (key_start 95 k) + length text + 4
  name_lengths = rw (← name_pieces k, e) (simp length-append (omega arith))

  pub room_before : 4 ≤ length buffer
  room_before = omega (arith, name_lengths)

  module _ (b : List ℕ) (second : ℕ) (p : Placed buffer 0 before b second) where
    pub room_start : second + length (key_start 95 k) ≤ length b
    room_start = omega (arith, name_lengths, placed_length p, p.follows)

    module _ (c : List ℕ) (third : ℕ) (q : Placed b second (key_start 95 k) c third) where
      pub room_category : third + length text ≤ length c
      room_category = omega (arith, name_lengths, placed_length p, p.follows, placed_length q, q.follows)

      module _ (d : List ℕ) (last : ℕ) (r : Placed c third text d last) where
        pub room_after : last + 4 ≤ length d
        room_after =
            omega (arith, name_lengths, placed_length p, p.follows, placed_length q, q.follows, placed_length r, r.follows)

        pub name_placed : (f : List ℕ) (end : ℕ) → Placed d last after f end → Placed buffer 0 (name_of k) f end
        name_placed f end s = rw (name_pieces k) at (placed_join (placed_join (placed_join p q) (rw e at r)) s)

-- ---- headers

header_pieces : (k : Key) → key_start 59 k ++ (category_text k.category ++ 59 ∷ []) ≡ header_of k
unfolding header_of
header_pieces k = simp append_assoc

module _ (k : Key) (buffer : List ℕ) (room : length (header_of k) + 1 ≤ length buffer) (text : List ℕ) (e : text ≡ category_text k.category) where
  header_lengths : length (header_of k) ≡ length (key_start 59 k) + length text + 1
  header_lengths = rw (← header_pieces k, e) (simp length-append (omega arith))

  pub room_parts : 0 + length (key_start 59 k) ≤ length buffer
  room_parts = omega (arith, header_lengths)

  module _ (b : List ℕ) (second : ℕ) (p : Placed buffer 0 (key_start 59 k) b second) where
    pub room_last : second + length text < length b
    room_last = omega (arith, header_lengths, placed_length p, p.follows)

    module _ (c : List ℕ) (end : ℕ) (q : Placed b second (text ++ 59 ∷ []) c end) where
      pub room_LF : (end < length c) × (length c ≡ length buffer)
      room_LF =
          (omega (arith, header_lengths, placed_length p, p.follows, placed_length q, q.follows, length-append text (59 ∷ [])), omega (arith, placed_length p, placed_length q))

      pub header_placed : Placed buffer 0 (header_of k ++ 10 ∷ []) (set c end 10) (end + 1)
      header_placed = placed_end buffer 0 (header_of k) c end 10 (rw (header_pieces k) at (placed_join p (rw e at q)))

-- ---- the lines of the steps

pub lines_texts : (steps k : ℕ) (ps : List ℕ) → step_texts (step_text steps) k ps ≡ lines_of steps k ps
unfolding lines_of step_texts
lines_texts steps k [] = refl
lines_texts steps k (p ∷ ps) =
    rw (lines_texts steps (suc k) ps) (append_assoc (labels_text steps k ++ power_text p) (10 ∷ []) (lines_of steps (suc k) ps))

pub line_most_lem : (steps k p : ℕ) → length (step_text steps k p) ≤ 26
line_most_lem steps k p = omega (arith, line_length steps k p, length-append (labels_text steps k ++ power_text p) (10 ∷ []))

-- ---- bodies

pub ranged_powers : (n : Notification) → ranged n ≡ true → length n.powers ≡ places → Powered n.steps n.powers
unfolding ranged
ranged_powers n e fifty =
    let a = ltb n.key.day 36525 in
    let b = eqb n.steps (steps_of n.key.day) in
    let c = every (λ p. ltb p power_end) n.powers in
    let d = all_zero (drop n.steps n.powers) in
    let abc = and_left (a && b && c) d e in
    let s = eqb-true n.steps (steps_of n.key.day) (and_right a b (and_left (a && b) c abc)) in
    let m = steps_small n.key.day in
    record { few = omega arith; there = omega arith; in_range_lem = and_right (a && b) c abc }

module _ (n : Notification) where
  abbrev its_lines : List ℕ
  its_lines = lines_of n.steps 0 (take n.steps n.powers)

  body_pieces : (header_of n.key ++ 10 ∷ []) ++ its_lines ≡ body_of n
  unfolding body_of
  body_pieces = append_assoc (header_of n.key) (10 ∷ []) its_lines

  body_lengths : length (body_of n) ≡ length (header_of n.key) + 1 + length its_lines
  body_lengths = rw (← body_pieces) (simp length-append)

  pub body_sum : (m lines : ℕ) → formed n.key ≡ true → n.steps ≤ places → m ≡ length (category_text n.key.category) → lines ≡ length its_lines
      → (45 + m + lines ≡ length (body_of n)) × (45 + m + lines ≤ 1351)
  body_sum m lines e h f g =
      let l = header_length n.key e in
      let b = body_lengths in
      (omega arith, omega (arith, body_length n e h))

  module _ (buffer : List ℕ) (room : length (body_of n) ≤ length buffer) where
    pub room_header : length (header_of n.key) + 1 ≤ length buffer
    room_header = omega (arith, body_lengths)

    module _ (b : List ℕ) (first : ℕ) (p : Placed buffer 0 (header_of n.key ++ 10 ∷ []) b first) where
      pub room_lines : first + length its_lines ≤ length b
      room_lines = omega (arith, body_lengths, placed_length p, p.follows, length-append (header_of n.key) (10 ∷ []))

      pub body_placed : (d : List ℕ) (end : ℕ) → Placed b first its_lines d end → Placed buffer 0 (body_of n) d end
      body_placed d end q = rw body_pieces at (placed_join p q)
