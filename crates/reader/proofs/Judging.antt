-- A step's line: its labels by their two texts, and its power by its bytes.
use mathlib.Core.Path.{◌≡◌, refl, sym, ap, ◌∙◌}
use mathlib.Core.Bool.{Bool, true, false, not, ◌&&◌}
use mathlib.Core.List.{List, [], ◌∷◌, ◌++◌, append_assoc}
use Prim.Native.Nat.{ℕ, ◌+◌, ◌-◌, ◌<◌, ◌≤◌}
use native.Mathlib.Nat.{add-zero}
use native.Mathlib.Numerals.{add-one}
use native.Mathlib.Omega.{arith}
use lib.ListN.{length, get_or, take, drop, length-append, length-take, length-drop}
use lib.Seq.{get_or-drop, take_all}
use borrow.Author.Tests.{lt-ltb, le-leb, not-true, not-false}
use Rattle.lists.proofs.Tests.{by_test}
use Rattle.calendar.specs.Labels.{again_at, label_of, labels_of, labels_at}
use Rattle.calendar.specs.declared.labels.Labels.{Labels}
use Rattle.notification.specs.Forms.{places}
use Rattle.notification.specs.Writing.{label_text, labels_text, power_text}
use Rattle.notification.specs.Reading.{has_labels, rest_of, power_value, is_power}
use Rattle.reader.specs.Walking.{starts_with, leading_power, line_power}
use Rattle.std.specs.Prelude.{Option, Some, None}
use Rattle.reader.specs.declared.tally.StepFault.TheVariants.{NoLabels, NoPower}
use Rattle.std.specs.Prelude.{Ok, Err}
use Rattle.notification.proofs.Powers.{value_power, power_made, power_back}
use Rattle.reader.proofs.Figures.{power_in, power_sound, power_found}
use Rattle.reader.proofs.Starts.{starts_append, starts_long}

-- ---- a label's nine bytes, of which some count

pub label_nine : (steps at : ℕ) → length (label_of steps at).bytes ≡ 9
unfolding label_of
label_nine steps at = by_test (again_at steps at) (λ t. rw t) (λ t. rw t)

pub label_few : (steps at : ℕ) → (label_of steps at).len ≤ 9
unfolding label_of
label_few steps at = by_test (again_at steps at) (λ t. rw t (omega arith)) (λ t. rw t (omega arith))

-- ---- a power, exactly

-- how many bytes were said to be a power and `;`
abbrev its_length : Option (ℕ × ℕ) → ℕ
its_length (Some (v, n)) = n
its_length None = 0

pub power_whole : (s : List ℕ) (v n : ℕ) → power_in s ≡ Some (v, n) → n ≡ length s → (is_power s ≡ true) × (power_value s ≡ v)
power_whole s v n e h =
    let p = power_sound s v n e in
    let t : s ≡ power_text v = sym (take_all n s (omega arith)) ∙ p.2 in
    (rw t (power_made v p.0), ap power_value t ∙ value_power v p.0)

append_nil : (s : List ℕ) → s ++ [] ≡ s
append_nil [] = refl
append_nil (x ∷ s) = ap (λ (t : List ℕ). x ∷ t) (append_nil s)

pub power_only : (s : List ℕ) → is_power s ≡ true → power_in s ≡ Some (power_value s, length s)
power_only s e =
    let p = power_back s e in
    let v = power_value s in
    let f : power_in (power_text v) ≡ Some (v, length (power_text v)) = rw append_nil at (power_found v [] p.0) in
    rw (← p.1) at f

-- ---- the labels that the calendar gives

module _ (steps k : ℕ) (line : List ℕ) (l : Labels) (h : k < steps) (g : steps ≤ places) (e : l ≡ labels_at steps k) where
  its_labels : l ≡ record { from = label_of steps k; until = label_of steps (k + 1) }
  unfolding labels_at labels_of
  its_labels = e ∙ rw (le-leb steps places g, lt-ltb k steps h)

  pub from_fits : l.from.len ≤ length l.from.bytes
  from_fits = rw its_labels (omega (arith, label_nine steps k, label_few steps k))

  pub until_fits : l.until.len ≤ length l.until.bytes
  until_fits = rw its_labels (omega (arith, label_nine steps (k + 1), label_few steps (k + 1)))

  pub from_few : l.from.len ≤ 9
  from_few = rw its_labels (label_few steps k)

  pub until_few : l.until.len ≤ 9
  until_few = rw its_labels (label_few steps (k + 1))

  abbrev first : List ℕ
  first = take l.from.len l.from.bytes ++ 59 ∷ []

  abbrev second : List ℕ
  second = take l.until.len l.until.bytes ++ 59 ∷ []

  first_length : length first ≡ l.from.len + 1
  first_length = let f = from_fits in simp (length-append, length-take) (omega arith)

  second_length : length second ≡ l.until.len + 1
  second_length = let f = until_fits in simp (length-append, length-take) (omega arith)

  two_texts : labels_text steps k ≡ first ++ second
  unfolding labels_text
  two_texts =
      let n = add-one k in
      rw (its_labels, ← n) (sym (append_assoc (label_text steps k) (59 ∷ []) (label_text steps (k + 1) ++ 59 ∷ [])))

  has_starts : has_labels steps k line ≡ starts_with (labels_text steps k) line
  unfolding has_labels starts_with
  has_starts = refl

  has_texts : has_labels steps k line ≡ (starts_with first line && starts_with second (drop (l.from.len + 1) line))
  has_texts = has_starts ∙ rw two_texts (rw first_length at (starts_append first second line))

  rest_place : rest_of steps k line ≡ drop (l.from.len + l.until.len + 2) line
  unfolding rest_of
  rest_place =
      let n : length (labels_text steps k) ≡ l.from.len + l.until.len + 2 = rw two_texts (rw (length-append first second) (omega (arith, first_length, second_length))) in
      rw n

  -- ---- the ways through a line, as a reader goes them

  pub no_from : (t : Bool) → t ≡ starts_with first line → not t ≡ true → Err NoLabels ≡ line_power steps k line
  unfolding line_power
  no_from t p q = rw (has_texts, ← p, not-true t q)

  module _ (t u : Bool) (p : t ≡ starts_with first line) (q : not t ≡ false) (r : u ≡ starts_with second (drop (l.from.len + 1) line)) where
    pub no_until : not u ≡ true → Err NoLabels ≡ line_power steps k line
    unfolding line_power
    no_until f = rw (has_texts, ← p, ← r, not-false t q, not-true u f)

    module _ (f : not u ≡ false) where
      abbrev at : ℕ
      at = l.from.len + l.until.len + 2

      has_both : has_labels steps k line ≡ true
      has_both = rw (has_texts, ← p, ← r, not-false t q, not-false u f)

      abbrev found : Option (ℕ × ℕ)
      found = leading_power (get_or line at 0) (get_or line (at + 1) 0) (get_or line (at + 2) 0) (get_or line (at + 3) 0) (get_or line (at + 4) 0)

      found_rest : power_in (rest_of steps k line) ≡ found
      found_rest =
          rw (rest_place, get_or-drop at line 0 0, get_or-drop at line 1 0, get_or-drop at line 2 0, get_or-drop at line 3 0, get_or-drop at line 4 0, add-zero at)

      rest_length : length (rest_of steps k line) ≡ length line - at
      rest_length = rw (rest_place, length-drop)

      pub line_long : at ≤ length line
      line_long =
          omega (arith, second_length, length-drop (l.from.len + 1) line, starts_long second (drop (l.from.len + 1) line) (sym r ∙ not-false u f))

      pub line_holds : (v n : ℕ) → Some (v, n) ≡ found → at + n ≤ length line
      line_holds v n o =
          omega (arith, rest_length, line_long, (power_sound (rest_of steps k line) v n (found_rest ∙ sym o)).1)

      pub line_gives : (v n : ℕ) → Some (v, n) ≡ found → at + n ≡ length line → Ok v ≡ line_power steps k line
      unfolding line_power
      line_gives v n o m =
          let w = power_whole (rest_of steps k line) v n (found_rest ∙ sym o) (omega (arith, rest_length)) in
          rw (has_both, w.0, w.1)

      pub line_longer : (v n : ℕ) → Some (v, n) ≡ found → (at + n ≡ length line → ⊥) → Err NoPower ≡ line_power steps k line
      unfolding line_power
      line_longer v n o m =
          by_test (is_power (rest_of steps k line))
          (λ b. let d : Some (v, n) ≡ Some (power_value (rest_of steps k line), length (rest_of steps k line)) = o ∙ (sym found_rest ∙ power_only (rest_of steps k line) b) in
          let c : n ≡ length (rest_of steps k line) = ap its_length d in
          absurd (m (omega (arith, rest_length, line_long))))
          (λ b. rw (has_both, b))

      pub line_none : None ≡ found → Err NoPower ≡ line_power steps k line
      unfolding line_power
      line_none o =
          by_test (is_power (rest_of steps k line))
          (λ b. let d : None ≡ Some (power_value (rest_of steps k line), length (rest_of steps k line)) = o ∙ (sym found_rest ∙ power_only (rest_of steps k line) b) in
          let z : ◌≡◌ {A = ℕ} 0 1 = cc in
          absurd (omega arith))
          (λ b. rw (has_both, b))
