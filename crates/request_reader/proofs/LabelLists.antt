-- The list of labels has an entry for each half hour of the day, so that the labels of steps that go on by half hours stand in it one after
-- another.
use mathlib.Core.Path.{◌≡◌, refl, sym, ap, ◌∙◌}
use mathlib.Core.Bool.{Bool, true, ◌&&◌}
use mathlib.Core.List.{List, [], ◌∷◌, ◌++◌}
use Prim.Native.Nat.{ℕ, ◌+◌, ◌-◌, ◌*◌, ◌/◌, ◌%◌, ◌<◌, ◌≤◌}
use native.Mathlib.Omega.{arith}
use lib.Dec.{leb, ltb, eqb}
use lib.ListN.{length, get_or, take, length-append}
use lib.Seq.{take-append_seam}
use borrow.Author.Tests.{eqb-true, eqb-false, eq-eqb, ne_eqb, ltb-true, ltb-false}
use Rattle.lists.specs.Searches.{every, same}
use Rattle.lists.proofs.Tests.{by_test, and_left, and_right, true_of}
use Rattle.lists.proofs.Below.{below}
use Rattle.lists.proofs.Searches.{same_true}
use Rattle.calendar.specs.Steps.{plain_steps}
use Rattle.calendar.specs.Labels.{turn_of, label_of}
use Rattle.notification.specs.Forms.{places}
use Rattle.notification.specs.Writing.{label_text}
use Rattle.reader.specs.Walking.{six, no_mark, time_mark, half_hours, mark_of, Plain}
use Rattle.reader.proofs.Marking.{Bytes, half_after, label_mark}
use Rattle.request.specs.Writing.{hour_label}
use Rattle.request.specs.Reading.{is_label_byte}
use Rattle.request_reader.specs.Walking.{part}
use Rattle.request_reader.specs.Steps.{label_list, LabelEntry}
use Rattle.request_reader.proofs.ByteNumbers.{peel}

-- ---- the entries of the list

abbrev opening : ℕ → Bool
opening m = same (part (10 * m) 4 label_list) (116 ∷ 34 ∷ 58 ∷ 34 ∷ [])

abbrev labelled : ℕ → Bool
labelled m = every is_label_byte (part (10 * m + 4) 5 label_list)

abbrev ending : ℕ → Bool
ending m = eqb (get_or label_list (10 * m + 8) 0) 48

abbrev closing : ℕ → Bool
closing m = eqb (get_or label_list (10 * m + 9) 0) 34

is_entry : ℕ → Bool
is_entry m = opening m && (labelled m && (ending m && closing m))

list_length : length label_list ≡ 490
unfolding label_list
list_length = refl

entries : (m : ℕ) → m < 49 → is_entry m ≡ true
unfolding label_list is_entry same
entries m h = true_of (is_entry m) (below is_entry 49 tt m h)

pub label_entry : (m : ℕ) → m < 49 → LabelEntry label_list (10 * m)
unfolding is_entry
label_entry m h =
    let e = entries m h in
    let f = and_right (opening m) (labelled m && (ending m && closing m)) e in
    let g = and_right (labelled m) (ending m && closing m) f in
    record {
      within = omega (arith, list_length);
      opens =
          same_true (part (10 * m) 4 label_list) (116 ∷ 34 ∷ 58 ∷ 34 ∷ []) (and_left (opening m) (labelled m && (ending m && closing m)) e);
      label = and_left (labelled m) (ending m && closing m) f;
      last = eqb-true (get_or label_list (10 * m + 8) 0) 48 (and_left (ending m) (closing m) g);
      closes = eqb-true (get_or label_list (10 * m + 9) 0) 34 (and_right (ending m) (closing m) g);
    }

-- the label of a count of half hours since midnight, before the day's end
abbrev time_label : ℕ → List ℕ
time_label m = (48 + m / 20) ∷ (48 + m / 2 % 10) ∷ 104 ∷ (48 + m % 2 * 3) ∷ 48 ∷ []

is_time : ℕ → Bool
is_time m = same (part (10 * m + 4) 5 label_list) (time_label m)

entry_time : (m : ℕ) → m < 48 → part (10 * m + 4) 5 label_list ≡ time_label m
unfolding label_list is_time same
entry_time m h = same_true (part (10 * m + 4) 5 label_list) (time_label m) (true_of (is_time m) (below is_time 48 tt m h))

entry_end : part (10 * 48 + 4) 5 label_list ≡ time_label 0
unfolding label_list
entry_end = refl

-- ---- the label of a boundary, by its mark

-- a mark tells its digits, and these the half hours
digits_of : (a b c p q r : ℕ) → a < 6 → b < 10 → c < 2 → p < 6 → q < 10 → r < 2
    → six (48 + a) (48 + b) 58 (48 + c * 3) 48 59 ≡ six (48 + p) (48 + q) 58 (48 + r * 3) 48 59 → (a ≡ p) × (b ≡ q) × (c ≡ r)
digits_of a b c p q r h i j k l m e =
    let last : ℕ → ℕ = λ (x : ℕ). 48 + x * 3 + 256 * (48 + 256 * 59) in
    let more : ℕ → ℕ → ℕ = λ (x y : ℕ). 48 + x + 256 * (58 + 256 * last y) in
    let u = peel (48 + a) (48 + p) (more b c) (more q r) (omega arith) (omega arith) e in
    let v = peel (48 + b) (48 + q) (58 + 256 * last c) (58 + 256 * last r) (omega arith) (omega arith) u.1 in
    (omega (arith, u.0), omega (arith, v.0), omega (arith, v.1))

mark_half : (m h : ℕ) → m < 49 → h < 100 → time_mark h ≡ time_mark m → h ≡ m
mark_half m h a b e =
    let d = digits_of (h / 20) (h / 2 % 10) (h % 2) (m / 20) (m / 2 % 10) (m % 2)
    (omega arith) (omega arith) (omega arith) (omega arith) (omega arith) (omega arith) e in
    half_digits h m a b d.0 d.1 d.2
  where
    half_digits : (h m : ℕ) → m < 49 → h < 100 → h / 20 ≡ m / 20 → h / 2 % 10 ≡ m / 2 % 10 → h % 2 ≡ m % 2 → h ≡ m
    half_digits h m a b p q r =
        let x : h / 2 / 10 ≡ m / 2 / 10 = omega arith in
        let y : h / 2 ≡ m / 2 = omega arith in
        omega arith

half_small : (steps at : ℕ) → at ≤ steps → steps ≤ places → half_hours steps at < 100
unfolding half_hours
half_small steps at h g = by_test (ltb at (turn_of steps)) (λ t. rw t (omega arith)) (λ t. rw t (omega arith))

half_of : (steps j m : ℕ) → j ≤ steps → steps ≤ places → m < 49 → mark_of steps j ≡ time_mark m → half_hours steps j ≡ m
unfolding mark_of
half_of steps j m h g l e =
    by_test (leb (turn_of steps) j && ltb (half_hours steps j) (turn_of steps))
    (λ t. let n : no_mark ≡ time_mark m = rw t at e in absurd (omega arith))
    (λ t. let n : time_mark (half_hours steps j) ≡ time_mark m = rw t at e in mark_half m (half_hours steps j) l (half_small steps j h g) n)

-- what stands before the last of six
five_of : (t : List ℕ) (a b c d e f : ℕ) → a ∷ b ∷ c ∷ d ∷ e ∷ f ∷ [] ≡ t ++ 59 ∷ [] → t ≡ a ∷ b ∷ c ∷ d ∷ e ∷ []
five_of t a b c d e f p =
    let n : length t ≡ 5 = omega (arith, ap (λ (l : List ℕ). length l) p, length-append t (59 ∷ [])) in
    sym (take-append_seam t (59 ∷ [])) ∙ (ap (λ (l : List ℕ). take (length t) l) (sym p) ∙ rw n)

module _ (steps j m : ℕ) (h : j ≤ steps) (g : steps ≤ places) (l : m < 49) (e : mark_of steps j ≡ time_mark m) where
  its_text : label_text steps j ≡ (48 + m / 20) ∷ (48 + m / 2 % 10) ∷ 58 ∷ (48 + m % 2 * 3) ∷ 48 ∷ []
  its_text =
      let b : Bytes (48 + m / 20) (48 + m / 2 % 10) 58 (48 + m % 2 * 3) 48 59 =
      record { b0 = omega arith; b1 = omega arith; b2 = omega arith; b3 = omega arith; b4 = omega arith; b5 = omega arith } in
      five_of (label_text steps j) (48 + m / 20) (48 + m / 2 % 10) 58 (48 + m % 2 * 3) 48 59
      (label_mark steps j (48 + m / 20) (48 + m / 2 % 10) 58 (48 + m % 2 * 3) 48 59 h g b (sym e))

  label_before : (j ≡ steps → ⊥) → hour_label steps j ≡ time_label m
  unfolding hour_label
  label_before f = rw (ne_eqb j steps f, its_text)

-- the day ends as it begins
label_end : (steps : ℕ) → hour_label steps steps ≡ time_label 0
unfolding hour_label label_of
label_end steps = by_test (ltb steps plain_steps) (λ t. rw (eq-eqb steps steps refl, t)) (λ t. rw (eq-eqb steps steps refl, t))

turn_within : (steps : ℕ) → 4 ≤ steps → turn_of steps ≤ steps
turn_within steps h =
    by_test (ltb steps plain_steps)
    (λ t. rw t h)
    (λ t. rw t (omega (arith, ltb-false steps plain_steps t)))

-- at its end stand 24 hours
end_half : (steps : ℕ) → 4 ≤ steps → half_hours steps steps ≡ 48
end_half steps h = sym (half_after steps steps (turn_of steps) refl (turn_within steps h)) ∙ omega arith

turn_small : (steps : ℕ) → turn_of steps ≤ 7
turn_small steps = by_test (ltb steps plain_steps) (λ t. rw t (omega arith)) (λ t. rw t (omega arith))

-- and nowhere before it
half_before_end : (steps j : ℕ) → j ≤ steps → (j ≡ steps → ⊥) → half_hours steps j ≡ 48 → ⊥
unfolding half_hours
half_before_end steps j h f e =
    by_test (ltb j (turn_of steps))
    (λ t. let n : j ≡ 48 = rw t at e in omega (arith, ltb-true j (turn_of steps) t, turn_small steps))
    (λ t. let n : j + plain_steps - steps ≡ 48 = rw t at e in f (omega arith))

-- on a day of four steps or more: the last of fewer is before the turn, and its label isn't the list's
pub label_listed : (steps k stop j : ℕ) → Plain steps k stop → 4 ≤ steps → steps ≤ places → k ≤ j → j ≤ stop
    → hour_label steps j ≡ part (10 * (half_hours steps k + (j - k)) + 4) 5 label_list
label_listed steps k stop j p w g a b =
    let m = half_hours steps k + (j - k) in
    let l : m < 49 = omega (arith, p.small) in
    let h : j ≤ steps = omega (arith, p.within) in
    let e = p.marks j a b in
    let o = half_of steps j m h g l e in
    by_test (eqb j steps)
    (λ t. let z = eqb-true j steps t in
    let n : m ≡ 48 = sym o ∙ (ap (half_hours steps) z ∙ end_half steps w) in
    ap (hour_label steps) z ∙ (label_end steps ∙ (sym entry_end ∙ ap (λ (i : ℕ). part (10 * i + 4) 5 label_list) (sym n))))
    (λ t. let f = eqb-false j steps t in
    let n : m < 48 =
    by_test (eqb m 48)
    (λ u. absurd (half_before_end steps j h f (o ∙ eqb-true m 48 u)))
    (λ u. omega (arith, eqb-false m 48 u)) in
    label_before steps j m h g l e f ∙ sym (entry_time m n))

-- the labels of the first step
pub first_labels : (steps : ℕ) → 2 ≤ steps → (hour_label steps 0 ≡ part 4 5 label_list) × (hour_label steps 1 ≡ part 14 5 label_list)
unfolding hour_label label_of
first_labels steps h =
    let a = ne_eqb 0 steps (λ (e : 0 ≡ steps). omega arith) in
    let b = ne_eqb 1 steps (λ (e : 1 ≡ steps). omega arith) in
    let l : (hour_label steps 0 ≡ time_label 0) × (hour_label steps 1 ≡ time_label 1) =
    by_test (ltb steps plain_steps) (λ t. (rw (a, t), rw (b, t))) (λ t. (rw (a, t), rw (b, t))) in
    (l.0 ∙ sym (entry_time 0 (omega arith)), l.1 ∙ sym (entry_time 1 (omega arith)))
