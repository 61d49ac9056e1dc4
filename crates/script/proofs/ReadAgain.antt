-- What a line asks is said again by what was read of it: its texts are its fields, and its powers are the numbers that its last fields are.
use mathlib.Core.Path.{◌≡◌, refl, sym, ap, ap₂, ◌∙◌}
use mathlib.Core.Bool.{Bool, true, false, cond, ◌&&◌, false≢true}
use mathlib.Core.List.{List, [], ◌∷◌, map}
use Prim.Native.Nat.{ℕ, ◌+◌, ◌<◌, ◌≤◌}
use native.Mathlib.Omega.{arith}
use lib.Dec.{eqb, leb}
use lib.ListN.{length}
use borrow.Author.Tests.{leb-true}
use Rattle.lists.specs.Searches.{every}
use Rattle.lists.proofs.Tests.{and_right}
use Rattle.ledger.specs.Call as Call
use Rattle.script.specs.Numbers.{is_number, value_of, day_in, is_day}
use Rattle.script.specs.Lines.{Asked, calls, file_of, engagement, record_of, unknown, known, field, line_most, fields, letter_of, by_letter, line_of, advance_line, enrol_line, category_line, load_line, file_line, engagement_line, record_line}
use Rattle.script.specs.Fields.{fields_from}
use Rattle.script.specs.Spans.{start, power_places, powers_of, asked, names_file, end_of, read_as, line_read}
use Rattle.script.specs.declared.reading.Line.{Line}
use Rattle.script.proofs.Parting.{from_inside}
use Rattle.script.proofs.LineKinds.{no_line}
use Rattle.script.proofs.LineFields.{first_field, few_numbers, powers_again, first_is, second_is, name_ends, powers_from_lem}

record Again (line : List ℕ) (r : Line) (a : Asked) : Type 0 where
  says : asked line r ≡ a
  named : names_file r.kind ≡ true → (r.first < length line) × (r.second ≡ length line)

-- a line that names no file
plainly : (line : List ℕ) (r : Line) (a : Asked) → names_file r.kind ≡ false → asked line r ≡ a → Again line r a
plainly line r a e f = record { says = f; named = λ t. absurd (false≢true (sym e ∙ t)) }

module _ (line : List ℕ) where
  none_again : Again line no_line unknown
  unfolding asked
  none_again = plainly line _ _ refl refl

  known_again : (end : ℕ → ℕ) (t : Bool) (a : Asked) → (t ≡ true → Again line (read_as end a) a) → Again line (read_as end (known t a)) (known t a)
  known_again end true a p = p refl
  known_again end false a p = none_again

  advance_again : (end : ℕ → ℕ) (fs : List (List ℕ)) → Again line (read_as end (advance_line fs)) (advance_line fs)
  unfolding advance_line asked
  advance_again end [] = none_again
  advance_again end (d ∷ []) = none_again
  advance_again end (d ∷ m ∷ []) =
      known_again end (is_day d && is_number m) (calls (Call.advance (day_in d) (value_of m)))
      (λ t. plainly line (read_as end (calls (Call.advance (day_in d) (value_of m)))) (calls (Call.advance (day_in d) (value_of m))) refl refl)
  advance_again end (d ∷ m ∷ x ∷ fs) = none_again

  module _ (l : List ℕ) (one : length l ≡ 1) where
    enrol_again : (fs : List (List ℕ)) → fields_from line start ≡ fs → Again line (read_as (end_of (l ∷ fs)) (enrol_line fs)) (enrol_line fs)
    unfolding enrol_line asked
    enrol_again [] e = none_again
    enrol_again (x ∷ []) e = none_again
    enrol_again (x ∷ y ∷ []) e = none_again
    enrol_again (x ∷ y ∷ z ∷ []) e =
        known_again (end_of (l ∷ x ∷ y ∷ z ∷ [])) (is_day y && is_day z) _
        (λ t. plainly line _ _ refl (ap (λ (s : List ℕ). calls (Call.enrol_actor s (day_in y) (day_in z))) (first_is line l one x (y ∷ z ∷ []) e)))
    enrol_again (x ∷ y ∷ z ∷ w ∷ fs) e = none_again

    category_again : (fs : List (List ℕ)) → fields_from line start ≡ fs → Again line (read_as (end_of (l ∷ fs)) (category_line fs)) (category_line fs)
    unfolding category_line asked
    category_again [] e = none_again
    category_again (x ∷ []) e = plainly line _ _ refl (ap (λ (s : List ℕ). calls (Call.enrol_category s)) (first_is line l one x [] e))
    category_again (x ∷ y ∷ fs) e = none_again

    file_again : (fs : List (List ℕ)) → fields_from line start ≡ fs → Again line (read_as (end_of (l ∷ fs)) (file_line fs)) (file_line fs)
    unfolding file_line asked
    file_again [] e = none_again
    file_again (x ∷ []) e = none_again
    file_again (x ∷ y ∷ []) e =
        record { says = ap₂ file_of (first_is line l one x (y ∷ []) e) (second_is line l one x y [] e); named = λ t. name_ends line l one x y e }
    file_again (x ∷ y ∷ z ∷ fs) e = none_again

    engagement_again : (fs : List (List ℕ)) → fields_from line start ≡ fs → Again line (read_as (end_of (l ∷ fs)) (engagement_line fs)) (engagement_line fs)
    unfolding engagement_line asked
    engagement_again [] e = none_again
    engagement_again (x ∷ []) e = none_again
    engagement_again (x ∷ y ∷ []) e = none_again
    engagement_again (x ∷ y ∷ z ∷ []) e = none_again
    engagement_again (x ∷ y ∷ z ∷ w ∷ []) e =
        known_again (end_of (l ∷ x ∷ y ∷ z ∷ w ∷ [])) (is_day z && is_number w) _
        (λ t. plainly line _ _ refl (ap₂ (λ (s u : List ℕ). engagement s u (day_in z) (value_of w)) (first_is line l one x (y ∷ z ∷ w ∷ []) e) (second_is line l one x y (z ∷ w ∷ []) e)))
    engagement_again (x ∷ y ∷ z ∷ w ∷ v ∷ fs) e = none_again

    record_again : (fs : List (List ℕ)) → fields_from line start ≡ fs → Again line (read_as (end_of (l ∷ fs)) (record_line fs)) (record_line fs)
    unfolding record_line asked
    record_again [] e = none_again
    record_again (x ∷ []) e = none_again
    record_again (x ∷ y ∷ []) e =
        known_again (end_of (l ∷ x ∷ y ∷ [])) (is_number y) _ (λ t. plainly line _ _ refl (ap (λ (s : List ℕ). record_of s (value_of y)) (first_is line l one x (y ∷ []) e)))
    record_again (x ∷ y ∷ z ∷ fs) e = none_again

    module _ (short : length line ≤ line_most) where
      load_again : (fs : List (List ℕ)) → fields_from line start ≡ fs → Again line (read_as (end_of (l ∷ fs)) (load_line fs)) (load_line fs)
      unfolding load_line asked
      load_again [] e = none_again
      load_again (x ∷ []) e = none_again
      load_again (x ∷ y ∷ []) e = none_again
      load_again (x ∷ y ∷ z ∷ []) e = none_again
      load_again (x ∷ y ∷ z ∷ w ∷ []) e = none_again
      load_again (x ∷ y ∷ z ∷ w ∷ p ∷ ps) e =
          known_again (end_of (l ∷ x ∷ y ∷ z ∷ w ∷ p ∷ ps)) (is_day z && is_number w && every is_number (p ∷ ps)) _
          (λ t.
          let n = and_right (is_day z && is_number w) (every is_number (p ∷ ps)) t in
          let g = powers_from_lem line l one x y z w (p ∷ ps) e in
          let at = end_of (l ∷ x ∷ y ∷ z ∷ w ∷ p ∷ ps) 4 + 1 in
          let i = (first_field line at p ps g).within in
          let few : length (p ∷ ps) ≤ power_places = omega (arith, few_numbers line (p ∷ ps) at (omega arith) g n, short) in
          let r = read_as (end_of (l ∷ x ∷ y ∷ z ∷ w ∷ p ∷ ps)) (calls (Call.load x y (day_in z) (value_of w) (map value_of (p ∷ ps)))) in
          plainly line r _ refl
          (ap₂ (λ (s u : List ℕ). calls (Call.load s u (day_in z) (value_of w) (powers_of line r))) (first_is line l one x (y ∷ z ∷ w ∷ p ∷ ps) e) (second_is line l one x y (z ∷ w ∷ p ∷ ps) e)
          ∙ ap (λ (s : List ℕ). calls (Call.load x y (day_in z) (value_of w) s)) (powers_again line r (p ∷ ps) refl few g n)))

      either_again : (end : ℕ → ℕ) (t : Bool) (a b : Asked) → Again line (read_as end a) a → Again line (read_as end b) b → Again line (read_as end (cond t a b)) (cond t a b)
      either_again end true a b p q = p
      either_again end false a b p q = q

      letter_again : (b : ℕ) (fs : List (List ℕ)) → fields_from line start ≡ fs → Again line (read_as (end_of (l ∷ fs)) (by_letter b fs)) (by_letter b fs)
      unfolding by_letter
      letter_again b fs e =
          either_again (end_of (l ∷ fs)) (eqb b 84) _ _ (advance_again (end_of (l ∷ fs)) fs)
          (either_again (end_of (l ∷ fs)) (eqb b 65) _ _ (enrol_again fs e)
          (either_again (end_of (l ∷ fs)) (eqb b 67) _ _ (category_again fs e)
          (either_again (end_of (l ∷ fs)) (eqb b 76) _ _ (load_again fs e)
          (either_again (end_of (l ∷ fs)) (eqb b 70) _ _ (file_again fs e)
          (either_again (end_of (l ∷ fs)) (eqb b 69) _ _ (engagement_again fs e)
          (either_again (end_of (l ∷ fs)) (eqb b 82) _ _ (record_again fs e) none_again))))))

  fields_again : (fs : List (List ℕ)) → length line ≤ line_most → fields line ≡ fs
      → Again line (read_as (end_of fs) (field (λ letter. by_letter (letter_of letter)) fs)) (field (λ letter. by_letter (letter_of letter)) fs)
  unfolding by_letter
  fields_again [] h e = none_again
  fields_again ([] ∷ fs) h e = none_again
  fields_again ((b ∷ []) ∷ fs) h e =
      letter_again (b ∷ []) refl h b fs (first_field line 0 (b ∷ []) fs (from_inside line 0 (omega arith) ∙ e)).rest
  fields_again ((b ∷ c ∷ s) ∷ fs) h e = none_again

  line_again : Again line (line_read line) (line_of line)
  unfolding line_read line_of
  line_again = known_again (end_of (fields line)) (leb (length line) line_most) _ (λ t. fields_again (fields line) (leb-true (length line) line_most t) refl)

  -- WHAT A LINE READ SAYS is what the line asks
  pub asked_line : asked line (line_read line) ≡ line_of line
  asked_line = line_again.says

  -- the name of a file goes to the end of its line
  pub named_line : names_file (line_read line).kind ≡ true → ((line_read line).first < length line) × ((line_read line).second ≡ length line)
  named_line = line_again.named
