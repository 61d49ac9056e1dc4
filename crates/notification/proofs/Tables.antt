-- What the tests of a file to read, and those of a notification to write, ask where none refuses.
use mathlib.Core.Path.{◌≡◌}
use mathlib.Core.Bool.{true, false, ◌&&◌}
use mathlib.Core.List.{List}
use Prim.Native.Nat.{ℕ, ◌<◌}
use native.Mathlib.Omega.{arith}
use lib.Dec.{ltb, eqb}
use lib.ListN.{length, drop}
use borrow.Author.Tests.{eqb-true, eq-eqb, ltb-true, lt-ltb, le-ltb, not-false}
use Rattle.lists.specs.Searches.{every, same}
use Rattle.lists.proofs.Tests.{and_left, and_right}
use Rattle.lists.proofs.Searches.{same_refl, same_true}
use Rattle.calendar.specs.Steps.{steps_of}
use Rattle.refusals.specs.Tests.{first_met, pass}
use Rattle.refusals.proofs.Tests.{pass_all}
use Rattle.notification.specs.Forms.{all_zero}
use Rattle.notification.specs.Writing.{header_of, formed, ranged, note_tests}
use Rattle.notification.specs.Reading.{name_key, is_name, is_header, is_body, head_line, step_lines, powers_in, file_tests}
use Rattle.notification.specs.declared.Notification.{Notification}
use Rattle.notification.proofs.Steps.{in_range, Good, bad_none, none_bad}

-- ---- a file to read

-- the steps of the day that a name gives, and the powers that a body gives for them
abbrev pub steps_in : List ℕ → ℕ
steps_in name = steps_of (name_key name).day

abbrev pub powers_read : List ℕ → List ℕ → List ℕ
powers_read name body = powers_in (steps_in name) 0 (step_lines body)

-- a file without a fault
pub record Faultless (name body : List ℕ) : Type 0 where
  pub a_name : is_name name ≡ true
  pub a_body : is_body body ≡ true
  pub a_header : is_header (head_line body) ≡ true
  pub same_key : head_line body ≡ header_of (name_key name)
  pub right_count : length (step_lines body) ≡ steps_in name
  pub good_lines : Good (steps_in name) 0 (step_lines body)
  pub some_power : all_zero (powers_read name body) ≡ false

module _ (name body : List ℕ) where
  abbrev ls : List (List ℕ)
  ls = step_lines body

  pub file_passes : first_met (file_tests name body) ≡ pass → Faultless name body
  unfolding file_tests
  file_passes e =
      let all = pass_all (file_tests name body) e in
      let h = header_of (name_key name) in
      record {
        a_name = not-false (is_name name) all.0;
        a_body = not-false (is_body body) all.1.0;
        a_header = not-false (is_header (head_line body)) all.1.1.0;
        same_key = same_true (head_line body) h (not-false (same (head_line body) h) all.1.1.1.0);
        right_count = eqb-true (length ls) (steps_in name) (not-false (eqb (length ls) (steps_in name)) all.1.1.1.1.0);
        good_lines = none_bad (steps_in name) ls all.1.1.1.1.1.0;
        some_power = all.1.1.1.1.1.1.0;
      }

  pub passes_file : Faultless name body → first_met (file_tests name body) ≡ pass
  unfolding file_tests
  passes_file f =
      let n = length ls in
      let bad = bad_none (steps_in name) ls f.good_lines in
      rw (f.a_name, f.a_body, f.a_header, f.same_key, same_refl (header_of (name_key name)), eq-eqb n (steps_in name) f.right_count, bad, le-ltb n n (omega arith), f.some_power)

-- ---- a notification to write

pub record Writable (n : Notification) : Type 0 where
  pub a_form : formed n.key ≡ true
  pub a_day : n.key.day < 36525
  pub its_steps : n.steps ≡ steps_of n.key.day
  pub in_range_lem : every in_range n.powers ≡ true
  pub zero_past : all_zero (drop n.steps n.powers) ≡ true
  pub not_zero : all_zero n.powers ≡ false

module _ (n : Notification) where
  pub note_passes : first_met (note_tests n) ≡ pass → Writable n
  unfolding ranged
  note_passes e =
      let all = pass_all (note_tests n) e in
      let a = ltb n.key.day 36525 in
      let b = eqb n.steps (steps_of n.key.day) in
      let c = every in_range n.powers in
      let d = all_zero (drop n.steps n.powers) in
      let abcd = not-false (ranged n) all.1.0 in
      let abc = and_left (a && b && c) d abcd in
      let ab = and_left (a && b) c abc in
      record {
        a_form = not-false (formed n.key) all.0;
        a_day = ltb-true n.key.day 36525 (and_left a b ab);
        its_steps = eqb-true n.steps (steps_of n.key.day) (and_right a b ab);
        in_range_lem = and_right (a && b) c abc;
        zero_past = and_right (a && b && c) d abcd;
        not_zero = all.1.1.0;
      }

  pub passes_note : Writable n → first_met (note_tests n) ≡ pass
  unfolding ranged
  passes_note w =
      rw (w.a_form, lt-ltb n.key.day 36525 w.a_day, eq-eqb n.steps (steps_of n.key.day) w.its_steps, w.in_range_lem, w.zero_past, w.not_zero)
