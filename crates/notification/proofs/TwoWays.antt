-- Reading accepts exactly the files that writing gives, each as the notification that it was written from.
use mathlib.Core.Path.{◌≡◌, refl, sym, ap, ◌∙◌}
use mathlib.Core.Logic.{◌↔◌}
use mathlib.Core.Bool.{true}
use mathlib.Core.List.{List}
use Prim.Native.Nat.{ℕ, ◌≤◌}
use native.Mathlib.Omega.{arith}
use lib.ListN.{length, take, drop, length-take, take-append-drop}
use Rattle.lists.specs.Searches.{every}
use Rattle.lists.proofs.Searches.{every_first}
use Rattle.calendar.specs.Steps.{steps_of}
use Rattle.calendar.proofs.StepCounts.{steps_small}
use Rattle.refusals.specs.Tests.{first_met, verdict}
use Rattle.refusals.proofs.Tests.{decide_pass}
use Rattle.notification.specs.Forms.{in_places, places}
use Rattle.notification.specs.Writing.{name_of, body_of, Writes}
use Rattle.notification.specs.Reading.{name_key, step_lines, file_tests, note_in, note_of, read_file}
use Rattle.notification.specs.declared.Key.{Key}
use Rattle.notification.specs.declared.Notification.{Notification}
use Rattle.std.specs.Prelude.{Ok, Err}
use Rattle.notification.proofs.Lines.{joined}
use Rattle.notification.proofs.Names.{name_key_lem, name_made, header_made, name_back}
use Rattle.notification.proofs.Steps.{in_range, rows, rows_joined, rows_length, rows_powers, rows_good, powers_range, powers_rows, powers_length}
use Rattle.notification.proofs.Bodies.{body_back, body_header, body_steps, body_made}
use Rattle.notification.proofs.Places.{places_length, places_take, places_past, places_every, places_zero, take_places, take_zero}
use Rattle.notification.proofs.Tables.{steps_in, powers_read, Faultless, file_passes, passes_file, Writable, note_passes, passes_note}

-- ---- from a file without a fault to its notification

module _ (name body : List ℕ) (f : Faultless name body) where
  abbrev steps : ℕ
  steps = steps_in name

  abbrev read : List ℕ
  read = powers_read name body

  read_length : length read ≡ steps
  read_length = powers_length steps 0 (step_lines body) ∙ f.right_count

  read_few : length read ≤ places
  read_few = omega (arith, read_length, steps_small (name_key name).day)

  read_take : take steps (in_places read) ≡ read
  read_take = rw read_length at (places_take read read_few)

  read_body : body ≡ body_of (note_in name body)
  unfolding note_in body_of joined
  read_body =
      let j = sym (rows_joined steps 0 read) ∙ ap joined (sym (powers_rows steps 0 (step_lines body) f.good_lines)) in
      body_back body f.a_body ∙ rw (f.same_key, read_take, j)

  read_writable : Writable (note_in name body)
  unfolding note_in
  read_writable =
      let m = name_back name f.a_name in
      record {
        a_form = m.its_form;
        a_day = m.its_day;
        its_steps = refl;
        in_range_lem = places_every read read_few in_range refl (powers_range steps 0 (step_lines body) f.good_lines);
        zero_past = rw read_length at (places_past read read_few);
        not_zero = places_zero read read_few f.some_power;
      }

  read_written : Writes (note_in name body) name body
  unfolding note_in
  read_written =
      let m = name_back name f.a_name in
      record {
        six = m.its_six;
        fifty = places_length read read_few;
        passes = passes_note (note_in name body) read_writable;
        its_name = m.its_name;
        its_body = read_body;
      }

-- ---- from a notification that can be written to its file

module _ (n : Notification) (six : length n.key.category ≡ 6) (fifty : length n.powers ≡ places) (w : Writable n) where
  abbrev name : List ℕ
  name = name_of n.key

  abbrev body : List ℕ
  body = body_of n

  abbrev ps : List ℕ
  ps = take n.steps n.powers

  few : n.steps ≤ places
  few = omega (arith, w.its_steps, steps_small n.key.day)

  ps_length : length ps ≡ n.steps
  ps_length = let h = few in rw length-take (omega arith)

  ps_range : every in_range ps ≡ true
  ps_range = every_first in_range ps (drop n.steps n.powers) (rw (take-append-drop n.steps n.powers) w.in_range_lem)

  its_key : name_key name ≡ n.key
  its_key = name_key_lem n.key w.a_form w.a_day six

  its_steps : steps_in name ≡ n.steps
  its_steps = ap (λ (k : Key). steps_of k.day) its_key ∙ sym w.its_steps

  its_rows : step_lines body ≡ rows n.steps 0 ps
  its_rows = body_steps n w.a_form w.a_day

  its_powers : powers_read name body ≡ ps
  its_powers = rw (its_steps, its_rows) (rows_powers n.steps 0 ps ps_range)

  written_faultless : Faultless name body
  written_faultless =
      let header = body_header n w.a_form w.a_day in
      record {
        a_name = name_made n.key w.a_form w.a_day six;
        a_body = body_made n w.a_form w.a_day few;
        a_header = rw header (header_made n.key w.a_form w.a_day six);
        same_key = rw its_key header;
        right_count = rw (its_steps, its_rows) (rows_length n.steps 0 ps ∙ ps_length);
        good_lines = rw (its_steps, its_rows) (λ i h. rows_good n.steps 0 ps ps_range i (rw (rows_length n.steps 0 ps) at h));
        some_power = rw its_powers (take_zero n.steps n.powers few fifty w.zero_past w.not_zero);
      }

  written_note : note_in name body ≡ n
  unfolding note_in
  written_note =
      let p : in_places (powers_read name body) ≡ n.powers = rw its_powers (take_places n.steps n.powers few fifty w.zero_past) in
      λ i. record { key = its_key i; steps = its_steps i; powers = p i }

  written_read : read_file name body ≡ Ok n
  unfolding read_file
  written_read = rw (passes_file name body written_faultless, written_note)

-- ---- both ways

read_back : (name body : List ℕ) (n : Notification) → read_file name body ≡ Ok n → Writes n name body
unfolding read_file
read_back name body n e =
    let passed = first_met (file_tests name body) in
    let d = decide_pass verdict passed (Ok (note_in name body)) Err (Ok n) (λ r. refl) refl e in
    rw (ap note_of d.1) at (read_written name body (file_passes name body d.0))

-- THE THEOREM: a file is read as a notification exactly where writing that notification gives that file
pub two_ways : (name body : List ℕ) (n : Notification) → (read_file name body ≡ Ok n) ↔ Writes n name body
two_ways name body n =
    (read_back name body n, λ w. rw (w.its_name, w.its_body) (written_read n w.six w.fifty (note_passes n w.passes)))
