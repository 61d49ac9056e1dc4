-- What the tests of an object to read, and those of a request to write, ask where none refuses.
use mathlib.Core.Path.{◌≡◌}
use mathlib.Core.Bool.{true, false, ◌&&◌}
use mathlib.Core.List.{List}
use Prim.Native.Nat.{ℕ, ◌≤◌}
use native.Mathlib.Omega.{arith}
use lib.Dec.{leb, eqb}
use lib.ListN.{length}
use borrow.Author.Tests.{eqb-true, eq-eqb, leb-true, le-leb, le-ltb, not-false}
use Rattle.lists.proofs.Tests.{and_left, and_right}
use Rattle.calendar.specs.Steps.{steps_of}
use Rattle.refusals.specs.Tests.{first_met, pass}
use Rattle.refusals.proofs.Tests.{pass_all}
use Rattle.notification.specs.Forms.{is_code, all_zero}
use Rattle.notification.specs.Writing.{formed, ranged, note_tests}
use Rattle.notification.proofs.Tables.{Writable, note_passes, passes_note}
use Rattle.request.specs.Tokens.{tokens}
use Rattle.request.specs.Moments.{in_time}
use Rattle.request.specs.Writing.{request_tests, object_most}
use Rattle.request.specs.Reading.{is_object, steps_read, day_read, powers_of, object_tests}
use Rattle.request.specs.declared.Request.{Request}
use Rattle.request.proofs.StepTokens.{Good, bad_none, none_bad}

-- ---- an object to read

-- the steps of the day that the tokens of an object give
abbrev pub steps_in : List (List ℕ) → ℕ
steps_in ts = steps_of (day_read ts)

-- tokens without a fault
pub record Faultless (ts : List (List ℕ)) : Type 0 where
  pub an_object : is_object ts ≡ true
  pub right_count : length (steps_read ts) ≡ steps_in ts
  pub good_steps : Good (steps_in ts) 0 (steps_read ts)
  pub some_power : all_zero (powers_of (steps_read ts)) ≡ false

module _ (s : List ℕ) where
  abbrev ts : List (List ℕ)
  ts = tokens s

  pub object_passes : first_met (object_tests s) ≡ pass → (length s ≤ object_most) × Faultless ts
  unfolding object_tests
  object_passes e =
      let all = pass_all (object_tests s) e in
      let n = length (steps_read ts) in
      let a = leb (length s) object_most in
      let both = not-false (a && is_object ts) all.0 in (
        leb-true (length s) object_most (and_left a (is_object ts) both),
        record {
          an_object = and_right a (is_object ts) both;
          right_count = eqb-true n (steps_in ts) (not-false (eqb n (steps_in ts)) all.1.0);
          good_steps = none_bad (steps_in ts) (steps_read ts) all.1.1.0;
          some_power = all.1.1.1.0;
        },
      )

  pub passes_object : length s ≤ object_most → Faultless ts → first_met (object_tests s) ≡ pass
  unfolding object_tests
  passes_object h f =
      let n = length (steps_read ts) in
      let bad = bad_none (steps_in ts) (steps_read ts) f.good_steps in
      rw (le-leb (length s) object_most h, f.an_object, eq-eqb n (steps_in ts) f.right_count, bad, le-ltb n n (omega arith), f.some_power)

-- ---- a request to write

-- its notification can be written, its origin is a code, its moment is in its range
pub record Fileable (r : Request) : Type 0 where
  pub note : Writable r.notification
  pub a_code : is_code r.origin ≡ true
  pub a_moment : in_time r.moment ≡ true

module _ (r : Request) where
  pub request_passes : first_met (request_tests r) ≡ pass → Fileable r
  request_passes e =
      let n = r.notification in
      let all = pass_all (request_tests r) e in
      let f = formed n.key in
      let c = is_code r.origin in
      let g = ranged n in
      let m = in_time r.moment in
      let fc = not-false (f && c) all.0 in
      let gm = not-false (g && m) all.1.0 in
      record {
        note = note_passes n (rw (and_left f c fc, and_left g m gm, all.1.1.0));
        a_code = and_right f c fc;
        a_moment = and_right g m gm;
      }

  pub passes_request : Fileable r → first_met (request_tests r) ≡ pass
  passes_request w =
      let n = r.notification in
      let all = pass_all (note_tests n) (passes_note n w.note) in
      rw (not-false (formed n.key) all.0, w.a_code, not-false (ranged n) all.1.0, w.a_moment, all.1.1.0)
