-- The tokens of a request that can be written are without a fault, they give that request back, and each layout of them has them.
use mathlib.Core.Path.{◌≡◌, sym, ap, ◌∙◌}
use mathlib.Core.Bool.{true}
use mathlib.Core.List.{List}
use Prim.Native.Nat.{ℕ, ◌≤◌}
use native.Mathlib.Omega.{arith}
use lib.ListN.{length, take, drop, length-take, take-append-drop}
use Rattle.lists.specs.Searches.{every}
use Rattle.lists.proofs.Searches.{every_first}
use Rattle.calendar.specs.Steps.{steps_of}
use Rattle.calendar.proofs.StepCounts.{steps_small}
use Rattle.notification.specs.Forms.{is_code, is_category, category_text, six_bytes, in_places, places}
use Rattle.notification.proofs.Lengths.{formed_parts}
use Rattle.notification.proofs.Names.{category_read}
use Rattle.notification.proofs.Steps.{in_range}
use Rattle.notification.proofs.Places.{take_places, take_zero}
use Rattle.request.specs.Tokens.{tokens}
use Rattle.request.specs.Moments.{is_day_text, is_moment_text, moment_text, moment_in, midnight}
use Rattle.request.specs.Objects.{further, parted, series_of, object_of}
use Rattle.request.specs.Writing.{values_of, steps_of_note, object_tokens}
use Rattle.request.specs.Reading.{is_object, steps_read, day_read, powers_of, request_in}
use Rattle.request.specs.declared.Moment.{Moment}
use Rattle.request.specs.declared.Request.{Request}
use Rattle.request.proofs.Laid.{Laid}
use Rattle.request.proofs.Whole.{Whole, laid_whole}
use Rattle.request.proofs.Fits.{quoted_made, inside_quoted}
use Rattle.request.proofs.Series.{step_fits}
use Rattle.request.proofs.Shapes.{Fitted, parts_made, steps_of_lem}
use Rattle.request.proofs.MomentTexts.{moment_made, moment_read, day_made, day_time}
use Rattle.request.proofs.StepTokens.{steps_length, steps_powers, steps_fit, steps_good}
use Rattle.request.proofs.WholeObjects.{object_whole}
use Rattle.request.proofs.Tables.{steps_in, Faultless, Fileable}

module _ (r : Request) (w : Fileable r) where
  abbrev steps : ℕ
  steps = r.notification.steps

  abbrev ts : List (List ℕ)
  ts = object_tokens r

  abbrev ps : List ℕ
  ps = take steps r.notification.powers

  -- ---- its values and its steps pass their tests

  values_fit : Fitted (values_of r)
  values_fit =
      let k = r.notification.key in
      let f = formed_parts k w.note.a_form in
      record {
        ceder = quoted_made is_code k.ceder f.ceder_code;
        acquirer = quoted_made is_code k.acquirer f.acquirer_code;
        origin = quoted_made is_code r.origin w.a_code;
        category = quoted_made is_category (category_text k.category) f.right_category;
        day = quoted_made is_day_text (moment_text (midnight k.day)) (day_made k.day w.note.a_day);
        submitted = quoted_made is_moment_text (moment_text r.moment) (moment_made r.moment w.a_moment);
      }

  powers_in_lem : every in_range ps ≡ true
  powers_in_lem =
      every_first in_range ps (drop steps r.notification.powers) (rw (take-append-drop steps r.notification.powers) w.note.in_range_lem)

  each_fits : every step_fits (steps_of_note r.notification) ≡ true
  each_fits = steps_fit steps 0 ps powers_in_lem

  -- each layout of its tokens has its tokens
  its_whole : Whole ts
  unfolding object_tokens
  its_whole = object_whole (values_of r) (steps_of_note r.notification) values_fit each_fits

  pub layout_tokens : (s : List ℕ) → Laid ts s → tokens s ≡ ts
  layout_tokens s l = laid_whole ts s l its_whole

  its_shape : is_object ts ≡ true
  unfolding object_tokens
  its_shape = parts_made (values_of r) (steps_of_note r.notification) values_fit each_fits

  -- ---- what is read from its tokens

  its_day : day_read ts ≡ r.notification.key.day
  unfolding object_tokens day_read object_of series_of parted further
  its_day =
      let t = moment_text (midnight r.notification.key.day) in
      ap (λ (s : List ℕ). (moment_in s).day) (inside_quoted t)
      ∙ ap (λ (m : Moment). m.day) (moment_read (midnight r.notification.key.day) (day_time r.notification.key.day w.note.a_day))

  its_count : steps_in ts ≡ steps
  its_count = ap steps_of its_day ∙ sym w.note.its_steps

  its_steps : steps_read ts ≡ steps_of_note r.notification
  unfolding object_tokens
  its_steps = steps_of_lem (values_of r) (steps_of_note r.notification)

  its_powers : powers_of (steps_read ts) ≡ ps
  its_powers = rw its_steps (steps_powers steps 0 ps powers_in_lem)

  few : steps ≤ places
  few = omega (arith, w.note.its_steps, steps_small r.notification.key.day)

  module _ (six : length r.notification.key.category ≡ 6) (fifty : length r.notification.powers ≡ places) where
    ps_length : length ps ≡ steps
    ps_length = let h = few in rw length-take (omega arith)

    pub tokens_faultless : Faultless ts
    tokens_faultless =
        record {
          an_object = its_shape;
          right_count = rw (its_steps, its_count) (steps_length steps 0 ps ∙ ps_length);
          good_steps = rw (its_steps, its_count) (steps_good steps 0 ps powers_in_lem);
          some_power =
              rw its_powers (take_zero steps r.notification.powers few fifty w.note.zero_past w.note.not_zero);
        }

    pub tokens_request : request_in ts ≡ r
    unfolding request_in object_tokens object_of series_of parted further
    tokens_request =
        let k = r.notification.key in
        let p : in_places (powers_of (steps_read ts)) ≡ r.notification.powers =
        rw its_powers (take_places steps r.notification.powers few fifty w.note.zero_past) in
        let c = ap six_bytes (inside_quoted (category_text k.category)) ∙ category_read k.category six in
        let m = ap moment_in (inside_quoted (moment_text r.moment)) ∙ moment_read r.moment w.a_moment in
        λ i.
        record {
          notification =
              record {
                key =
                    record {
                      ceder = inside_quoted k.ceder i;
                      acquirer = inside_quoted k.acquirer i;
                      category = c i;
                      day = its_day i;
                    };
                steps = its_count i;
                powers = p i;
              };
          origin = inside_quoted r.origin i;
          moment = m i;
        }
