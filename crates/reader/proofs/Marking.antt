-- A line that begins with the marks of its step's two boundaries begins with their labels.
use mathlib.Core.Path.{◌≡◌, refl, sym, ap, ◌∙◌}
use mathlib.Core.Bool.{Bool, true, false, ◌&&◌}
use mathlib.Core.List.{List, [], ◌∷◌, ◌++◌}
use Prim.Native.Nat.{ℕ, ◌+◌, ◌-◌, ◌*◌, ◌/◌, ◌%◌, ◌<◌, ◌≤◌}
use native.Mathlib.Omega.{arith}
use lib.Dec.{leb, ltb, eqb}
use lib.ListN.{get_or}
use borrow.Author.Tests.{eqb-true, lt-ltb, le-ltb, lt-leb, ltb-true, ltb-false}
use Rattle.lists.proofs.Tests.{by_test, true_of}
use Rattle.lists.proofs.Below.{below}
use Rattle.calendar.specs.Steps.{plain_steps, step_minutes}
use Rattle.calendar.specs.Labels.{turn_of, minute_of, again_at, label_of}
use Rattle.notification.specs.Forms.{places}
use Rattle.notification.specs.Writing.{label_text}
use Rattle.reader.specs.Walking.{six_at, six, no_mark, time_mark, times_text, half_hours, mark_of, Plain, LineAt}

-- ---- the marks, as a reader makes them

-- the bytes of each time in the list of them
right_mark : ℕ → Bool
right_mark j = eqb (six_at times_text (6 * j)) (time_mark j)

time_marks : (j : ℕ) → j < 49 → six_at times_text (6 * j) ≡ time_mark j
unfolding times_text right_mark
time_marks j h = eqb-true (six_at times_text (6 * j)) (time_mark j) (true_of (right_mark j) (below right_mark 49 tt j h))

and_false : (a : Bool) → (a && false) ≡ false
and_false true = refl
and_false false = refl

never : (t i : ℕ) → (leb t i && ltb i t) ≡ false
never t i =
    by_test (ltb i t)
    (λ u. let h = ltb-true i t u in rw (lt-leb t i h))
    (λ u. rw u (and_false (leb t i)))

module _ (steps at t : ℕ) (p : t ≡ turn_of steps) where
  pub half_before : at < t → at ≡ half_hours steps at
  unfolding half_hours
  half_before h = let k : at < turn_of steps = rw p at h in rw (lt-ltb at (turn_of steps) k)

  pub half_after : t ≤ at → at + plain_steps - steps ≡ half_hours steps at
  unfolding half_hours
  half_after h = let k : turn_of steps ≤ at = rw p at h in rw (le-ltb at (turn_of steps) k)

-- a mark of the time at a boundary that doesn't stand again
plain_mark : (steps at : ℕ) → (leb (turn_of steps) at && ltb (half_hours steps at) (turn_of steps)) ≡ false → mark_of steps at ≡ time_mark (half_hours steps at)
unfolding mark_of
plain_mark steps at e = rw e

-- before the turn, and after it where the first doesn't stand again
half_here : (steps at : ℕ) → at < turn_of steps → half_hours steps at ≡ at
half_here steps at h = sym (half_before steps at (turn_of steps) refl h)

half_there : (steps at : ℕ) → turn_of steps ≤ at → half_hours steps at ≡ at + plain_steps - steps
half_there steps at h = sym (half_after steps at (turn_of steps) refl h)

turn_bound : (steps : ℕ) → (4 ≤ turn_of steps) × (turn_of steps ≤ 7)
turn_bound steps = by_test (ltb steps plain_steps) (λ t. rw t (omega arith, omega arith)) (λ t. rw t (omega arith, omega arith))

module _ (steps k : ℕ) (w : k ≤ steps) (g : steps ≤ places) where
  -- after the turn
  pub plain_after : (t j : ℕ) → t ≡ turn_of steps → j ≡ half_hours steps k → t ≤ k → t ≤ j → Plain steps k steps
  plain_after t j p q h l =
      let b = turn_bound steps in
      let h2 : turn_of steps ≤ k = omega arith in
      let e = half_there steps k h2 in
      record { within = omega arith; marks = λ i a c. at_boundary i a c; small = omega arith }
    where
      at_boundary : (i : ℕ) → k ≤ i → i ≤ steps → mark_of steps i ≡ time_mark (half_hours steps k + (i - k))
      at_boundary i a c =
          let b = turn_bound steps in
          let h2 : turn_of steps ≤ i = omega arith in
          let h3 : turn_of steps ≤ k = omega arith in
          let e = half_there steps k h3 in
          let f = half_there steps i h2 in
          let n : half_hours steps i ≡ half_hours steps k + (i - k) = omega arith in
          let o : turn_of steps ≤ half_hours steps i = omega arith in
          let z : (leb (turn_of steps) i && ltb (half_hours steps i) (turn_of steps)) ≡ false = rw (le-ltb (half_hours steps i) (turn_of steps) o) (and_false (leb (turn_of steps) i)) in
          plain_mark steps i z ∙ ap time_mark n

  -- on a day whose times go on by half hours throughout
  pub plain_all : (t : ℕ) → t ≡ turn_of steps → k < t → steps ≡ plain_steps → Plain steps k steps
  plain_all t p h s =
      let b = turn_bound steps in
      let h2 : k < turn_of steps = omega arith in
      let e = half_here steps k h2 in
      record { within = omega arith; marks = λ i a c. at_boundary i a c; small = omega arith }
    where
      same_half : (i : ℕ) → half_hours steps i ≡ i
      same_half i =
          by_test (ltb i (turn_of steps))
          (λ u. half_here steps i (ltb-true i (turn_of steps) u))
          (λ u. half_there steps i (ltb-false i (turn_of steps) u) ∙ omega arith)

      at_boundary : (i : ℕ) → k ≤ i → i ≤ steps → mark_of steps i ≡ time_mark (half_hours steps k + (i - k))
      at_boundary i a c =
          let e = same_half k in
          let f = same_half i in
          let n : half_hours steps i ≡ half_hours steps k + (i - k) = omega arith in
          plain_mark steps i (rw f (never (turn_of steps) i)) ∙ ap time_mark n

  -- before the turn
  pub plain_before : (t r : ℕ) → t ≡ turn_of steps → k ≤ r → r < t → r ≤ steps → Plain steps k r
  plain_before t r p h l m =
      let b = turn_bound steps in
      let h2 : k < turn_of steps = omega arith in
      let e = half_here steps k h2 in
      record { within = m; marks = λ i a c. at_boundary i a c; small = omega arith }
    where
      at_boundary : (i : ℕ) → k ≤ i → i ≤ r → mark_of steps i ≡ time_mark (half_hours steps k + (i - k))
      at_boundary i a c =
          let h2 : i < turn_of steps = omega arith in
          let h3 : k < turn_of steps = omega arith in
          let e = half_here steps k h3 in
          let f = half_here steps i h2 in
          let n : half_hours steps i ≡ half_hours steps k + (i - k) = omega arith in
          plain_mark steps i (rw f (never (turn_of steps) i)) ∙ ap time_mark n

-- the bytes at a place of the list of times are the mark of a boundary
pub table_mark : (steps k r i j : ℕ) → Plain steps k r → k ≤ i → i ≤ r → j ≡ 6 * (half_hours steps k + (i - k)) → six_at times_text j ≡ mark_of steps i
table_mark steps k r i j p a b e =
    let s = p.small in
    ap (six_at times_text) e ∙ (time_marks (half_hours steps k + (i - k)) (omega arith) ∙ sym (p.marks i a b))

-- ---- numbers of bytes

-- two numbers alike, by their last byte and the rest
pub peel : (a b p q : ℕ) → a < 256 → b < 256 → a + 256 * p ≡ b + 256 * q → (a ≡ b) × (p ≡ q)
peel a b p q h k e = (omega arith, omega arith)

pub record Bytes (a b c d e f : ℕ) : Type 0 where
  pub b0 : a < 256
  pub b1 : b < 256
  pub b2 : c < 256
  pub b3 : d < 256
  pub b4 : e < 256
  pub b5 : f < 256

six_small : (a b c d e f : ℕ) → Bytes a b c d e f → six a b c d e f < no_mark
six_small a b c d e f r = omega arith

six_same : (a b c d e f g h i j k l : ℕ) → Bytes a b c d e f → Bytes g h i j k l → six a b c d e f ≡ six g h i j k l
    → (a ∷ b ∷ c ∷ d ∷ e ∷ f ∷ []) ≡ (g ∷ h ∷ i ∷ j ∷ k ∷ l ∷ [])
six_same a b c d e f g h i j k l r s m =
    let p0 = peel a g (b + 256 * (c + 256 * (d + 256 * (e + 256 * f)))) (h + 256 * (i + 256 * (j + 256 * (k + 256 * l)))) r.b0 s.b0 m in
    let p1 = peel b h (c + 256 * (d + 256 * (e + 256 * f))) (i + 256 * (j + 256 * (k + 256 * l))) r.b1 s.b1 p0.1 in
    let p2 = peel c i (d + 256 * (e + 256 * f)) (j + 256 * (k + 256 * l)) r.b2 s.b2 p1.1 in
    let p3 = peel d j (e + 256 * f) (k + 256 * l) r.b3 s.b3 p2.1 in
    let p4 = peel e k f l r.b4 s.b4 p3.1 in
    cc (p0.0, p1.0, p2.0, p3.0, p4.0, p4.1)

-- the bytes at a place, as a reader reads them
pub bytes_at : (s : List ℕ) (a : ℕ) → ((j : ℕ) → get_or s j 0 < 256) → Bytes (get_or s a 0) (get_or s (a + 1) 0) (get_or s (a + 2) 0) (get_or s (a + 3) 0) (get_or s (a + 4) 0) (get_or s (a + 5) 0)
bytes_at s a h = record { b0 = h a; b1 = h (a + 1); b2 = h (a + 2); b3 = h (a + 3); b4 = h (a + 4); b5 = h (a + 5) }

-- ---- a mark and its label

minute_half : (steps at : ℕ) → minute_of steps at ≡ 30 * half_hours steps at
unfolding half_hours
minute_half steps at = by_test (ltb at (turn_of steps)) (λ t. rw t) (λ t. rw t)

half_small : (steps at : ℕ) → at ≤ steps → steps ≤ places → half_hours steps at < 100
unfolding half_hours
half_small steps at h g = by_test (ltb at (turn_of steps)) (λ t. rw t (omega arith)) (λ t. rw t (omega arith))

thirty : (a b : ℕ) → ltb (30 * a) (30 * b) ≡ ltb a b
thirty a b =
    by_test (ltb a b)
    (λ t. let h = ltb-true a b t in lt-ltb (30 * a) (30 * b) (omega arith) ∙ sym t)
    (λ t. let h = ltb-false a b t in le-ltb (30 * a) (30 * b) (omega arith) ∙ sym t)

again_mark : (steps at : ℕ) → again_at steps at ≡ (leb (turn_of steps) at && ltb (half_hours steps at) (turn_of steps))
again_mark steps at =
    ap (λ (m : ℕ). leb (turn_of steps) at && ltb m (step_minutes * turn_of steps)) (minute_half steps at)
    ∙ ap (λ (b : Bool). leb (turn_of steps) at && b) (thirty (half_hours steps at) (turn_of steps))

tens_half : (j : ℕ) → j < 100 → 48 + j / 2 / 10 % 10 ≡ 48 + j / 20
tens_half j h =
    let a : j / 2 / 10 ≡ j / 20 = omega arith in
    rw a (omega arith)

plain_label : (steps at : ℕ) → again_at steps at ≡ false → half_hours steps at < 100
    → label_text steps at ++ 59 ∷ [] ≡ (48 + half_hours steps at / 20) ∷ (48 + half_hours steps at / 2 % 10) ∷ 58 ∷ (48 + half_hours steps at % 2 * 3) ∷ 48 ∷ 59 ∷ []
unfolding label_of
plain_label steps at a h =
    let j = half_hours steps at in
    let m = minute_of steps at in
    let e = minute_half steps at in
    let hour : m / 60 ≡ j / 2 = omega arith in
    let minute : m % 60 ≡ j % 2 * 30 = omega arith in
    let u : 48 + m / 60 / 10 % 10 ≡ 48 + j / 20 = rw hour (tens_half j h) in
    let v : 48 + m / 60 % 10 ≡ 48 + j / 2 % 10 = rw hour in
    let w : 48 + m % 60 / 10 % 10 ≡ 48 + j % 2 * 3 = rw minute (omega arith) in
    let x : 48 + m % 60 % 10 ≡ 48 = rw minute (omega arith) in
    rw a (cc (u, v, w, x))

pub label_mark : (steps at a b c d e f : ℕ) → at ≤ steps → steps ≤ places → Bytes a b c d e f → six a b c d e f ≡ mark_of steps at
    → (a ∷ b ∷ c ∷ d ∷ e ∷ f ∷ []) ≡ label_text steps at ++ 59 ∷ []
unfolding mark_of
label_mark steps at a b c d e f h g r m =
    by_test (leb (turn_of steps) at && ltb (half_hours steps at) (turn_of steps))
    (λ t. let n : six a b c d e f ≡ no_mark = m ∙ rw t in absurd (omega (arith, six_small a b c d e f r)))
    (λ t. let n : six a b c d e f ≡ time_mark (half_hours steps at) = m ∙ rw t in
    let j = half_hours steps at in
    let l = half_small steps at h g in
    let s : Bytes (48 + j / 20) (48 + j / 2 % 10) 58 (48 + j % 2 * 3) 48 59 = record { b0 = omega arith; b1 = omega arith; b2 = omega arith; b3 = omega arith; b4 = omega arith; b5 = omega arith } in
    six_same a b c d e f (48 + j / 20) (48 + j / 2 % 10) 58 (48 + j % 2 * 3) 48 59 r s n ∙ sym (plain_label steps at (again_mark steps at ∙ t) l))

-- the same line, with its marks said otherwise
pub as_marks : {s : List ℕ} {at v n a b c d : ℕ} → a ≡ c → b ≡ d → LineAt s at a b v n → LineAt s at c d v n
as_marks e f l =
    record { bytes = l.bytes; first = l.first ∙ e; second = l.second ∙ f; power = l.power; break = l.break; more = l.more; within = l.within }
