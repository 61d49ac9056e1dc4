-- A step's line, in the pieces that it is written in.
use mathlib.Core.Path.{◌≡◌, refl, ap, ◌∙◌}
use mathlib.Core.List.{List, [], ◌∷◌, ◌++◌, append_assoc}
use Prim.Native.Nat.{ℕ, suc, ◌+◌, ◌/◌, ◌%◌, ◌<◌, ◌≤◌}
use native.Mathlib.Numerals.{add-one}
use native.Mathlib.Omega.{arith}
use lib.ListN.{length, take, set, length-append}
use borrow.Author.Tests.{lt-ltb, le-ltb, le-leb}
use Rattle.lists.proofs.Tests.{by_test}
use Rattle.calendar.specs.Steps.{long_steps}
use Rattle.calendar.specs.Labels.{again_at, label_of, labels_of, labels_at}
use Rattle.calendar.specs.declared.labels.Labels.{Labels}
use Rattle.notification.specs.Forms.{digits, power_end}
use Rattle.notification.specs.Writing.{label_text, labels_text, power_text}
use Rattle.writer.specs.Placing.{Placed, step_text}
use Rattle.notification.proofs.Lengths.{digits_length}
use Rattle.writer.proofs.Placed.{placed_length, placed_end, placed_join}

-- ---- a power in digits

-- what is said of bytes of which some are a power's digits
abbrev Digited : ℕ → List ℕ → ℕ → Type 0
Digited p bytes len = (take len bytes ≡ digits p) × (len ≡ length (digits p)) × (length bytes ≡ 4)

module _ (p a : ℕ) (ea : a ≡ 48 + p % 10) where
  pub digits_one : p < 10 → Digited p (a ∷ 0 ∷ 0 ∷ 0 ∷ []) 1
  unfolding digits
  digits_one h =
      let e : a ≡ 48 + p = omega arith in
      rw (lt-ltb p 10 h, e) (refl, refl, refl)

  module _ (k : 10 ≤ p) (b : ℕ) (eb : b ≡ 48 + p / 10 % 10) where
    pub digits_two : p < 100 → Digited p (b ∷ a ∷ 0 ∷ 0 ∷ []) 2
    unfolding digits
    digits_two h =
        let e : b ≡ 48 + p / 10 = omega arith in
        rw (le-ltb p 10 k, lt-ltb p 100 h, e, ea) (refl, refl, refl)

    module _ (l : 100 ≤ p) (c : ℕ) (ec : c ≡ 48 + p / 100 % 10) where
      pub digits_three : p < 1000 → Digited p (c ∷ b ∷ a ∷ 0 ∷ []) 3
      unfolding digits
      digits_three h =
          let e : c ≡ 48 + p / 100 = omega arith in
          rw (le-ltb p 10 k, le-ltb p 100 l, lt-ltb p 1000 h, e, eb, ea) (refl, refl, refl)

      pub digits_four : 1000 ≤ p → p < power_end → (d : ℕ) → d ≡ 48 + p / 1000 % 10 → Digited p (d ∷ c ∷ b ∷ a ∷ []) 4
      unfolding digits
      digits_four h q d ed =
          let e : d ≡ 48 + p / 1000 = omega arith in
          rw (le-ltb p 10 k, le-ltb p 100 l, le-ltb p 1000 h, e, ec, eb, ea) (refl, refl, refl)

-- ---- labels

pub label_len : (steps at : ℕ) → ((label_of steps at).len ≡ length (label_text steps at)) × ((label_of steps at).len ≤ length (label_of steps at).bytes) × ((label_of steps at).len ≤ 9)
unfolding label_of
label_len steps at =
    by_test (again_at steps at) (λ t. rw t (refl, omega arith, omega arith)) (λ t. rw t (refl, omega arith, omega arith))

module _ (steps step : ℕ) (h : step < steps) (few : steps ≤ long_steps) (l : Labels) (e : l ≡ labels_at steps step) where
  in_labels : l ≡ labels_of steps step
  unfolding labels_at
  in_labels = e ∙ rw (le-leb steps long_steps few, lt-ltb step steps h)

  pub labels_from : l.from ≡ label_of steps step
  unfolding labels_of
  labels_from = ap (λ (x : Labels). x.from) in_labels

  pub labels_until : l.until ≡ label_of steps (suc step)
  unfolding labels_of
  labels_until = ap (λ (x : Labels). x.until) in_labels ∙ ap (label_of steps) (add-one step)

  pub line_sum : (p d : ℕ) → d ≡ length (digits p)
      → (l.from.len + l.until.len + d + 4 ≡ length (step_text steps step p)) × (l.from.len ≤ 9) × (l.until.len ≤ 9) × (d ≤ 4)
  unfolding labels_text
  line_sum p d ed =
      let a = label_len steps step in
      let b = label_len steps (suc step) in
      let k = digits_length p in
      rw (labels_from, labels_until, ed) (simp length-append (omega (arith, a.0, b.0)), a.2, b.2, omega arith)

  -- ---- the two labels, one after the other

  abbrev from_text : List ℕ
  from_text = take l.from.len l.from.bytes ++ 59 ∷ []

  abbrev until_text : List ℕ
  until_text = take l.until.len l.until.bytes ++ 59 ∷ []

  two_labels : from_text ++ until_text ≡ labels_text steps step
  unfolding labels_text
  two_labels = rw (labels_from, labels_until) (append_assoc (label_text steps step) (59 ∷ []) (label_text steps (suc step) ++ 59 ∷ []))

  from_length : length from_text ≡ l.from.len + 1
  from_length = let a = label_len steps step in rw labels_from (omega (arith, length-append (label_text steps step) (59 ∷ [])))

  until_length : length until_text ≡ l.until.len + 1
  until_length = let a = label_len steps (suc step) in rw labels_until (omega (arith, length-append (label_text steps (suc step)) (59 ∷ [])))

  both_lengths : length (labels_text steps step) ≡ l.from.len + 1 + (l.until.len + 1)
  both_lengths = omega (arith, from_length, until_length, length-append from_text until_text, ap length two_labels)

  module _ (buffer : List ℕ) (at : ℕ) (room : at + length (labels_text steps step) ≤ length buffer) where
    pub room_from : (at + l.from.len < length buffer) × (l.from.len ≤ length l.from.bytes)
    room_from = (omega (arith, both_lengths), rw labels_from (label_len steps step).1)

    module _ (b : List ℕ) (next : ℕ) (p : Placed buffer at from_text b next) where
      pub room_until : (next + l.until.len < length b) × (l.until.len ≤ length l.until.bytes)
      room_until = (omega (arith, both_lengths, from_length, placed_length p, p.follows), rw labels_until (label_len steps (suc step)).1)

      pub labels_placed : (d : List ℕ) (end : ℕ) → Placed b next until_text d end → Placed buffer at (labels_text steps step) d end
      labels_placed d end q = rw two_labels at (placed_join p q)

-- ---- a power, and the whole line

module _ (steps step p : ℕ) (buffer : List ℕ) (at : ℕ) (room : at + length (step_text steps step p) ≤ length buffer) where
  line_lengths : length (step_text steps step p) ≡ length (labels_text steps step) + length (power_text p) + 1
  line_lengths = simp length-append (omega arith)

  module _ (b : List ℕ) (second : ℕ) (l : Placed buffer at (labels_text steps step) b second) where
    pub room_power : second + length (power_text p) ≤ length b
    room_power = omega (arith, line_lengths, placed_length l, l.follows)

    module _ (d : List ℕ) (end : ℕ) (q : Placed b second (power_text p) d end) where
      pub room_end : (end < length d) × (length d ≡ length buffer)
      room_end =
          (omega (arith, line_lengths, placed_length l, placed_length q, l.follows, q.follows), omega (arith, placed_length l, placed_length q))

      pub line_placed : Placed buffer at (step_text steps step p) (set d end 10) (end + 1)
      line_placed = placed_end buffer at (labels_text steps step ++ power_text p) d end 10 (placed_join l q)

-- ---- a power from its digits

module _ (p : ℕ) (bytes : List ℕ) (len : ℕ) (e : Digited p bytes len) where
  pub power_room : (at room : ℕ) → at + length (power_text p) ≤ room → at + length (take len bytes) < room
  power_room at room h = omega (arith, ap length e.0, length-append (digits p) (59 ∷ []))

  pub power_placed : (l : List ℕ) (at : ℕ) (b : List ℕ) (next : ℕ) → Placed l at (take len bytes ++ 59 ∷ []) b next → Placed l at (power_text p) b next
  power_placed l at b next q = rw e.0 at q
