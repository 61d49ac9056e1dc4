-- The fields of a line, told by where they stand: the field that starts at a place, those that the letter's field is followed by, and the
-- powers.
use mathlib.Core.Path.{◌≡◌, refl, sym, ap, ◌∙◌}
use mathlib.Core.Bool.{true}
use mathlib.Core.List.{List, [], ◌∷◌, map}
use Prim.Native.Nat.{ℕ, ◌+◌, ◌*◌, ◌<◌, ◌≤◌, min}
use native.Mathlib.Omega.{arith}
use lib.Dec.{leb}
use lib.ListN.{length, length-map}
use lib.Seq.{take-length}
use borrow.Author.Tests.{leb-true, leb-false}
use Rattle.lists.specs.Searches.{every, byte_from}
use Rattle.lists.proofs.Tests.{by_test, and_left, and_right}
use Rattle.script.specs.Numbers.{is_number, value_of}
use Rattle.script.specs.Lines.{comma}
use Rattle.script.specs.Fields.{fields_from}
use Rattle.script.specs.Spans.{cut, start, power_places, powers_of, end_of}
use Rattle.script.specs.declared.reading.Line.{Line}
use Rattle.script.proofs.Parting.{from_inside, from_past, fields_parted, field_ends}
use Rattle.script.proofs.Numerals.{number_parts}
use Rattle.script.proofs.Powers.{numbers_values}
use Rattle.script.proofs.FieldEnds.{span}

-- ---- the field that starts at a place

pub record Field (line : List ℕ) (at : ℕ) (x : List ℕ) (fs : List (List ℕ)) : Type 0 where
  pub within : at + length x ≤ length line
  pub is : cut line at (at + length x) ≡ x
  pub rest : fields_from line (at + length x + 1) ≡ fs

module _ (line : List ℕ) where
  pub first_field : (at : ℕ) (x : List ℕ) (fs : List (List ℕ)) → fields_from line at ≡ x ∷ fs → Field line at x fs
  first_field at x fs e =
      by_test (leb at (length line))
      (λ t.
      let end = byte_from comma line at in
      let f = field_ends line {from = at} {end = end} (leb-true at (length line) t) refl in
      let q : cut line at end ∷ fields_from line (end + 1) ≡ x ∷ fs = sym f.parts ∙ e in
      let p : cut line at end ≡ x = cc in
      let r : fields_from line (end + 1) ≡ fs = cc in
      let n : at + length x ≡ end = omega (arith, sym (ap length p) ∙ span f, f.after) in
      record { within = omega (arith, n, f.inside); is = rw n p; rest = rw n r })
      (λ t.
      let q : ◌≡◌ {A = List (List ℕ)} [] (x ∷ fs) = sym (from_past line at (leb-false at (length line) t)) ∙ e in
      let z : ◌≡◌ {A = ℕ} 0 1 = cc in absurd (omega arith))

  none_from : (at : ℕ) → fields_from line at ≡ [] → length line < at
  none_from at e =
      by_test (leb at (length line))
      (λ t.
      let q : ◌≡◌ {A = List (List ℕ)} [] _ = sym e ∙ from_inside line at (leb-true at (length line) t) ∙ fields_parted _ in
      let z : ◌≡◌ {A = ℕ} 0 1 = cc in absurd (omega arith))
      (λ t. leb-false at (length line) t)

  -- a number has a byte, and a comma stands between two
  pub few_numbers : (fs : List (List ℕ)) (at : ℕ) → at ≤ length line + 1 → fields_from line at ≡ fs → every is_number fs ≡ true → length fs * 2 + at ≤ length line + 1
  few_numbers [] at h e n = omega arith
  few_numbers (x ∷ fs) at h e n =
      let f = first_field at x fs e in
      let w = f.within in
      let p = (number_parts x (and_left (is_number x) (every is_number fs) n)).0 in
      omega (arith, few_numbers fs (at + length x + 1) (omega arith) f.rest (and_right (is_number x) (every is_number fs) n))

  -- a line's powers, counted
  pub powers_again : (r : Line) (fs : List (List ℕ)) → r.count ≡ length (map value_of fs) → length fs ≤ power_places → fields_from line r.from ≡ fs → every is_number fs ≡ true
      → powers_of line r ≡ map value_of fs
  unfolding powers_of
  powers_again r fs k h e n =
      let m : min r.count power_places ≡ length (map value_of fs) = omega (arith, k, length-map fs value_of) in
      rw (m, e, numbers_values fs n) (take-length (map value_of fs))

  -- ---- the fields of a line after a letter, by where they end

  module _ (l : List ℕ) (one : length l ≡ 1) where
    pub first_is : (x : List ℕ) (fs : List (List ℕ)) → fields_from line start ≡ x ∷ fs → cut line start (end_of (l ∷ x ∷ fs) 1) ≡ x
    unfolding end_of
    first_is x fs e =
        let n : length l + (length x + 0) + 1 ≡ start + length x = omega (arith, one) in
        rw n (first_field start x fs e).is

    pub second_is : (x y : List ℕ) (fs : List (List ℕ)) → fields_from line start ≡ x ∷ y ∷ fs → cut line (end_of (l ∷ x ∷ y ∷ fs) 1 + 1) (end_of (l ∷ x ∷ y ∷ fs) 2) ≡ y
    unfolding end_of
    second_is x y fs e =
        let f = first_field start x (y ∷ fs) e in
        let n : length l + (length x + 0) + 1 + 1 ≡ start + length x + 1 = omega (arith, one) in
        let m : length l + (length x + (length y + 0)) + 2 ≡ start + length x + 1 + length y = omega (arith, one) in
        rw (n, m) (first_field (start + length x + 1) y fs f.rest).is

    pub name_ends : (x y : List ℕ) → fields_from line start ≡ x ∷ y ∷ [] → (end_of (l ∷ x ∷ y ∷ []) 1 < length line) × (end_of (l ∷ x ∷ y ∷ []) 2 ≡ length line)
    unfolding end_of
    name_ends x y e =
        let f = first_field start x (y ∷ []) e in
        let g = first_field (start + length x + 1) y [] f.rest in
        let w = g.within in
        let n = none_from _ g.rest in
        (omega (arith, one), omega (arith, one))

    pub powers_from_lem : (x y z w : List ℕ) (fs : List (List ℕ)) → fields_from line start ≡ x ∷ y ∷ z ∷ w ∷ fs → fields_from line (end_of (l ∷ x ∷ y ∷ z ∷ w ∷ fs) 4 + 1) ≡ fs
    unfolding end_of
    powers_from_lem x y z w fs e =
        let f = first_field start x (y ∷ z ∷ w ∷ fs) e in
        let g = first_field (start + length x + 1) y (z ∷ w ∷ fs) f.rest in
        let h = first_field (start + length x + 1 + length y + 1) z (w ∷ fs) g.rest in
        let i = first_field (start + length x + 1 + length y + 1 + length z + 1) w fs h.rest in
        let n : length l + (length x + (length y + (length z + (length w + 0)))) + 4 + 1 ≡ start + length x + 1 + length y + 1 + length z + 1 + length w + 1 = omega (arith, one) in
        rw n i.rest
