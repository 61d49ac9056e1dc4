-- The reader's walk from one step's power to the next: what is kept there and the tokens after it say what was said before it.
use Rattle.std.specs.Prelude.{Some}
use Rattle.std.specs.Prelude.{Result, Ok}
use Rattle.reader.specs.declared.tally.StepFault.{StepFault}
use mathlib.Core.Path.{◌≡◌, refl, sym, ap, ◌∙◌}
use mathlib.Core.Bool.{true}
use mathlib.Core.List.{List, [], ◌∷◌, ◌++◌}
use Prim.Native.Nat.{ℕ, suc, ◌+◌, ◌<◌, ◌≤◌, min}
use native.Mathlib.Omega.{arith}
use lib.Dec.{ltb}
use lib.ListN.{length, drop, set, length-drop}
use borrow.Author.Tests.{lt-leb}
use Rattle.lists.specs.Searches.{every, same}
use Rattle.lists.proofs.Tests.{and_right}
use Rattle.lists.proofs.Searches.{same_refl}
use Rattle.notification.specs.Forms.{is_digit, places}
use Rattle.reader.specs.declared.tally.Tally.{Tally}
use Rattle.reader.specs.Folding.{Taken, step_taken, take_all}
use Rattle.request.specs.Tokens.{quoted, tokens}
use Rattle.request.specs.Objects.{Step}
use Rattle.request.specs.Reading.{is_label_byte, is_run, steps_in}
use Rattle.request.specs.Writing.{hour_label}
use Rattle.request.proofs.Fits.{quoted_made}
use Rattle.request.proofs.Unquoted.{hour_label_lem}
use Rattle.request_reader.specs.Walking.{starts}
use Rattle.request_reader.specs.Steps.{front_tests, front_of, step_in, power_of, said_of, said_by, said_at, FrontAt}
use Rattle.request_reader.specs.Series.{count_of, is_series, is_rest, steps_rest, between_steps, first_step, tell_all, Told, Onward, NextStep}
use Rattle.request_reader.proofs.StepReads.{said_run}
use Rattle.request_reader.proofs.StepSeries.{first-front, rest_front}

-- ---- one walk after another

pub onward_refl : (steps : ℕ) (s : List ℕ) (at : ℕ) (x : Taken) → Onward steps s at x at x
onward_refl steps s at x = record { its_form = refl; its_steps = λ q. refl; fewer = omega arith }

pub onward_on : (steps : ℕ) (s : List ℕ) (a b c : ℕ) (x y z : Taken)
    → Onward steps s a x b y → Onward steps s b y c z → Onward steps s a x c z
onward_on steps s a b c x y z o p =
    record {
      its_form = o.its_form ∙ p.its_form;
      its_steps = λ q. o.its_steps q ∙ p.its_steps (sym o.its_form ∙ q);
      fewer = omega (arith, o.fewer, p.fewer);
    }

pub told_on : (steps : ℕ) (s : List ℕ) (from a b : ℕ) (x y z : Taken)
    → Told steps s from x a y → Onward steps s a y b z → Told steps s from x b z
told_on steps s from a b x y z o p =
    record {
      its_form = o.its_form ∙ p.its_form;
      its_steps = λ q. o.its_steps q ∙ p.its_steps (sym o.its_form ∙ q);
    }

-- ---- one step more

module _ (steps : ℕ) (s : List ℕ) (at next : ℕ) (x y : Taken) (vs : List (List ℕ)) (f : starts front_tests vs ≡ true)
    (d : tokens (drop next s) ≡ drop 12 vs) (k : y ≡ step_taken first_step steps x (said_at steps x.tally.lines (step_in vs))) where
  -- what a step and those after it say is what those after it say once it is told
  step_first : tell_all steps x (step_in vs ∷ steps_rest (drop 12 vs)) ≡ tell_all steps y (steps_rest (tokens (drop next s)))
  unfolding take_all
  step_first =
      ap (λ (z : Taken). tell_all steps z (steps_rest (drop 12 vs))) (sym k)
      ∙ ap (λ (us : List (List ℕ)). tell_all steps y (steps_rest us)) (sym d)

  pub step_told : tokens (drop at s) ≡ vs → Told steps s at x next y
  step_told e =
      let r = first-front vs f in
      record {
        its_form = ap is_series e ∙ (r.0 ∙ ap is_rest (sym d));
        its_steps = λ q.
            ap (λ (us : List (List ℕ)). tell_all steps x (steps_in (count_of us) us)) e
            ∙ (ap (λ (ss : List (Step (List ℕ))). tell_all steps x ss) (r.1 (ap is_series (sym e) ∙ q)) ∙ step_first);
      }

  pub step_onward : tokens (drop at s) ≡ between_steps ++ vs → Onward steps s at x next y
  step_onward e =
      let r = rest_front vs f in
      record {
        its_form = ap is_rest e ∙ (r.0 ∙ ap is_rest (sym d));
        its_steps = λ q.
            ap (λ (us : List (List ℕ)). tell_all steps x (steps_rest us)) e
            ∙ (ap (λ (ss : List (Step (List ℕ))). tell_all steps x ss) (r.1 (ap is_rest (sym e) ∙ q)) ∙ step_first);
        fewer = omega (arith, ap length e, ap length d, length-drop 12 vs);
      }

-- ---- a step read at once

module _ (from until digits : List ℕ) where
  front_starts : (ts : List (List ℕ)) → every is_label_byte from ≡ true → every is_label_byte until ≡ true → is_run digits ≡ true
      → starts front_tests (front_of from until digits ++ ts) ≡ true
  unfolding starts same
  front_starts ts a b r = rw (quoted_made (every is_label_byte) from a, quoted_made (every is_label_byte) until b, r)

  front_said : (v n : ℕ) → is_run digits ≡ true → power_of digits ≡ Some (v, n)
      → Ok v ≡ said_by from until (record { from = quoted from; until = quoted until; power = digits })
  unfolding said_by
  front_said v n r p =
      let d = and_right (ltb 0 (length digits)) (every is_digit digits) r in
      rw (same_refl (quoted from), same_refl (quoted until)) (ap (said_of true) (sym p) ∙ said_run true digits d)

-- what is kept after a step of the day that gives a power, after no fault
abbrev pub one_told : Tally → List ℕ → ℕ → Taken
one_told t ps v = record { tally = record { lines = t.lines + 1; fault = 0; place = t.place }; powers = set ps t.lines v }

power_told : (steps v : ℕ) (t : Tally) (ps : List ℕ) (said : Result ℕ StepFault)
    → t.fault ≡ 0 → t.lines < steps → steps ≤ places → Ok v ≡ said
    → one_told t ps v ≡ step_taken first_step steps (record { tally = t; powers = ps }) said
power_told steps v t ps said p h g e =
    let m : min (t.lines + 1) 51 ≡ t.lines + 1 = omega arith in
    rw (← e, p, lt-leb steps t.lines h, m)

module _ (steps : ℕ) (s : List ℕ) (at next v : ℕ) (t : Tally) (ps : List ℕ) (p : t.fault ≡ 0) (h : t.lines < steps) (g : steps ≤ places)
    (lead : List (List ℕ)) (f : FrontAt lead (hour_label steps t.lines) (hour_label steps (suc t.lines)) s at next v) where
  abbrev front : List (List ℕ)
  front = front_of (hour_label steps t.lines) (hour_label steps (suc t.lines)) f.digits ++ tokens (drop next s)

  front_begins : starts front_tests front ≡ true
  front_begins =
      front_starts (hour_label steps t.lines) (hour_label steps (suc t.lines)) f.digits (tokens (drop next s))
      (hour_label_lem steps t.lines) (hour_label_lem steps (suc t.lines)) f.run

  front_told : one_told t ps v ≡ step_taken first_step steps (record { tally = t; powers = ps }) (said_at steps t.lines (step_in front))
  unfolding said_at
  front_told =
      power_told steps v t ps _ p h g
      (front_said (hour_label steps t.lines) (hour_label steps (suc t.lines)) f.digits v (length f.digits + 1) f.run f.its_power)

  pub front_onward : lead ≡ between_steps → Onward steps s at (record { tally = t; powers = ps }) next (one_told t ps v)
  front_onward e = step_onward steps s at next _ _ front front_begins refl front_told (rw e at f.its_tokens)

  pub front_next : lead ≡ [] → NextStep steps s at next (record { tally = t; powers = ps }) (one_told t ps v)
  front_next e =
      let d : tokens (drop at s) ≡ front = rw e at f.its_tokens in
      record {
        walked = record { within = f.within; passes = rw d front_begins; leaves = rw d };
        its_tally = rw d front_told;
      }
