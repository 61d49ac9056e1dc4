-- Tokens without a fault are those of the request that they give, and that request can be written.
use mathlib.Core.Path.{◌≡◌, refl, sym, ap, ◌∙◌, subst}
use mathlib.Core.Bool.{true}
use mathlib.Core.List.{List}
use Prim.Native.Nat.{ℕ, ◌≤◌}
use native.Mathlib.Omega.{arith}
use lib.ListN.{length, take}
use Rattle.calendar.proofs.StepCounts.{steps_small}
use Rattle.notification.specs.Forms.{is_code, is_category, in_places, places}
use Rattle.notification.specs.Writing.{formed}
use Rattle.notification.proofs.Stored.{six_back, filled_length}
use Rattle.notification.proofs.Steps.{in_range}
use Rattle.notification.proofs.Places.{places_length, places_take, places_past, places_every, places_zero}
use Rattle.notification.proofs.Tables.{Writable}
use Rattle.request.specs.Tokens.{quoted, inside}
use Rattle.request.specs.Moments.{is_day_text, is_moment_text}
use Rattle.request.specs.Objects.{Values, Step, further, parted, series_of, object_of}
use Rattle.request.specs.Writing.{values_of, steps_of_note, steps_for, object_tokens}
use Rattle.request.specs.Reading.{is_object, step_count, steps_read, day_read, powers_of, request_in}
use Rattle.request.specs.declared.Request.{Request}
use Rattle.request.proofs.Fits.{quoted_back}
use Rattle.request.proofs.Series.{token}
use Rattle.request.proofs.Shapes.{Fitted, parts_back, steps_of_lem}
use Rattle.request.proofs.MomentTexts.{moment_back, day_back}
use Rattle.request.proofs.StepTokens.{powers_range, powers_steps, powers_length}
use Rattle.request.proofs.Tables.{steps_in, Faultless, Fileable}

-- they are the tokens of the request that they give, and it can be written
pub record Filed (ts : List (List ℕ)) : Type 0 where
  pub its_six : length (request_in ts).notification.key.category ≡ 6
  pub its_fifty : length (request_in ts).notification.powers ≡ places
  pub fileable : Fileable (request_in ts)
  pub all : ts ≡ object_tokens (request_in ts)

module _ (v : Values (List ℕ)) (ss : List (Step (List ℕ))) (f : Fitted v) (w : Faultless (object_of token v ss)) where
  abbrev ts : List (List ℕ)
  ts = object_of token v ss

  abbrev r : Request
  r = request_in ts

  -- its values and its steps
  its_values : v ≡ values_of r
  unfolding request_in day_read object_of series_of parted further
  its_values =
      let c = quoted_back is_code v.ceder f.ceder in
      let a = quoted_back is_code v.acquirer f.acquirer in
      let o = quoted_back is_code v.origin f.origin in
      let k = quoted_back is_category v.category f.category in
      let d = quoted_back is_day_text v.day f.day in
      let m = quoted_back is_moment_text v.submitted f.submitted in
      let ck = k.0 ∙ ap quoted (sym (six_back (inside v.category) k.1)) in
      let cd = d.0 ∙ ap quoted (day_back (inside v.day) d.1).1 in
      let cm = m.0 ∙ ap quoted (moment_back (inside v.submitted) m.1).1 in
      λ i. record { ceder = c.0 i; acquirer = a.0 i; origin = o.0 i; category = ck i; day = cd i; submitted = cm i }

  abbrev read : List ℕ
  read = powers_of (steps_read ts)

  read_length : length read ≡ steps_in ts
  read_length = powers_length (steps_read ts) ∙ w.right_count

  read_few : length read ≤ places
  read_few = omega (arith, read_length, steps_small (day_read ts))

  read_take : take (steps_in ts) (in_places read) ≡ read
  read_take = rw read_length at (places_take read read_few)

  its_steps : ss ≡ steps_of_note r.notification
  unfolding request_in
  its_steps =
      let e : steps_read ts ≡ steps_for (steps_in ts) 0 read = powers_steps (steps_in ts) 0 (steps_read ts) w.good_steps in
      sym (steps_of_lem v ss) ∙ (e ∙ ap (steps_for (steps_in ts) 0) (sym read_take))

  -- what can be written
  its_form : formed r.notification.key ≡ true
  unfolding request_in day_read object_of series_of parted further formed
  its_form =
      let k = quoted_back is_category v.category f.category in
      rw ((quoted_back is_code v.ceder f.ceder).1, (quoted_back is_code v.acquirer f.acquirer).1, six_back (inside v.category) k.1) k.1

  its_note : Writable r.notification
  unfolding request_in day_read object_of series_of parted further
  its_note =
      record {
        a_form = its_form;
        a_day = (day_back (inside v.day) (quoted_back is_day_text v.day f.day).1).0;
        its_steps = refl;
        in_range_lem = places_every read read_few in_range refl (powers_range (steps_in ts) 0 (steps_read ts) w.good_steps);
        zero_past = rw read_length at (places_past read read_few);
        not_zero = places_zero read read_few w.some_power;
      }

  filed : Filed ts
  unfolding request_in day_read object_of series_of parted further object_tokens
  filed =
      let m = quoted_back is_moment_text v.submitted f.submitted in
      record {
        its_six = filled_length 6 (inside v.category);
        its_fifty = places_length read read_few;
        fileable =
            record {
              note = its_note;
              a_code = (quoted_back is_code v.origin f.origin).1;
              a_moment = (moment_back (inside v.submitted) m.1).0;
            };
        all = λ i. object_of token (its_values i) (its_steps i);
      }

pub faultless_filed : (ts : List (List ℕ)) → Faultless ts → Filed ts
unfolding is_object
faultless_filed ts w =
    let p = parts_back (step_count ts) ts w.an_object in
    subst Filed (sym p.all) (filed p.values p.steps p.fitted (subst Faultless p.all w))
