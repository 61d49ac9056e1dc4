-- The steps of a day's powers read back as these powers, and steps that are read are the steps of the powers read.
use mathlib.Core.Path.{◌≡◌, refl, sym, ap, ◌∙◌}
use mathlib.Core.Bool.{Bool, true, false, ◌&&◌}
use mathlib.Core.List.{List, [], ◌∷◌, ◌++◌}
use Prim.Native.Nat.{ℕ, zero, suc, ◌+◌, ◌/◌, ◌%◌, ◌<◌}
use native.Mathlib.Nat.{add-zero, zero-add}
use native.Mathlib.Omega.{arith}
use lib.Dec.{ltb}
use lib.ListN.{length, get_or, take, length-append}
use lib.Seq.{take_at}
use borrow.Author.Tests.{ltb-true, ltb-false, lt-ltb, le-leb, not-false}
use Rattle.lists.specs.Searches.{every, same, first_from}
use Rattle.lists.proofs.Tests.{by_test, and_left, and_right, and_true}
use Rattle.lists.proofs.Searches.{same_refl, same_true, first_before, first_none}
use Rattle.notification.specs.Forms.{is_digit, power_end, digits}
use Rattle.notification.specs.Reading.{power_value, is_power}
use Rattle.notification.proofs.Powers.{value_power, power_made, power_back}
use Rattle.notification.proofs.Steps.{in_range}
use Rattle.request.specs.Tokens.{quoted}
use Rattle.request.specs.Objects.{Step}
use Rattle.request.specs.Writing.{hour_label, steps_for}
use Rattle.request.specs.Reading.{is_label_byte, is_run, has_labels, ended, no_step, bad_step, first_bad, powers_of}
use Rattle.request.proofs.Fits.{quoted_made}
use Rattle.request.proofs.Series.{step_fits}
use Rattle.request.proofs.Unquoted.{hour_label_lem}

-- ---- one step

-- the step of a power, as it is written
abbrev pub made : ℕ → ℕ → ℕ → Step (List ℕ)
made steps k p = record { from = quoted (hour_label steps k); until = quoted (hour_label steps (suc k)); power = digits p }

abbrev good_step : ℕ → ℕ → Step (List ℕ) → Bool
good_step steps k s = has_labels steps k s && is_power (ended s)

step_good : (steps k p : ℕ) → p < power_end → good_step steps k (made steps k p) ≡ true
unfolding has_labels
step_good steps k p h = rw (same_refl (quoted (hour_label steps k)), same_refl (quoted (hour_label steps (suc k)))) (power_made p h)

-- what stands before a last byte
before_last : (b : ℕ) (s t : List ℕ) → s ++ b ∷ [] ≡ t ++ b ∷ [] → s ≡ t
before_last b s t e =
    let n : length t ≡ length s = omega (arith, simp length-append at (ap length e)) in
    sym (take_at s (b ∷ []) (length s) refl) ∙ (ap (take (length s)) e ∙ take_at t (b ∷ []) (length s) n)

step_back : (steps k : ℕ) (s : Step (List ℕ)) → good_step steps k s ≡ true
    → (power_value (ended s) < power_end) × (s ≡ made steps k (power_value (ended s)))
unfolding has_labels
step_back steps k s e =
    let a = same s.from (quoted (hour_label steps k)) in
    let b = same s.until (quoted (hour_label steps (suc k))) in
    let c = is_power (ended s) in
    let f = same_true s.from (quoted (hour_label steps k)) (and_left a b (and_left (a && b) c e)) in
    let u = same_true s.until (quoted (hour_label steps (suc k))) (and_right a b (and_left (a && b) c e)) in
    let g = power_back (ended s) (and_right (a && b) c e) in
    let p = before_last 59 s.power (digits (power_value (ended s))) g.1 in
    (g.0, λ i. record { from = f i; until = u i; power = p i })

-- the digits of a power are a run
digit_is : (d : ℕ) → d < 10 → is_digit (48 + d) ≡ true
digit_is d h = and_true _ _ (le-leb 48 (48 + d) (omega arith)) (le-leb (48 + d) 57 (omega arith))

run_made : (p : ℕ) → p < power_end → is_run (digits p) ≡ true
unfolding digits
run_made p h =
    let ones : p % 10 < 10 = omega arith in
    let tens : p / 10 % 10 < 10 = omega arith in
    let hundreds : p / 100 % 10 < 10 = omega arith in
    by_test (ltb p 10)
    (λ t. let a = ltb-true p 10 t in rw (t, digit_is p a))
    (λ t. by_test (ltb p 100)
    (λ u. let a = ltb-true p 100 u in
    let b : p / 10 < 10 = omega arith in
    rw (t, u, digit_is (p / 10) b, digit_is (p % 10) ones))
    (λ u. by_test (ltb p 1000)
    (λ v. let a = ltb-true p 1000 v in
    let b : p / 100 < 10 = omega arith in
    rw (t, u, v, digit_is (p / 100) b, digit_is (p / 10 % 10) tens, digit_is (p % 10) ones))
    (λ v. let b : p / 1000 < 10 = omega arith in
    rw (t, u, v, digit_is (p / 1000) b, digit_is (p / 100 % 10) hundreds, digit_is (p / 10 % 10) tens, digit_is (p % 10) ones))))

made_fits : (steps k p : ℕ) → p < power_end → step_fits (made steps k p) ≡ true
made_fits steps k p h =
    rw (quoted_made (every is_label_byte) (hour_label steps k) (hour_label_lem steps k), quoted_made (every is_label_byte) (hour_label steps (suc k)) (hour_label_lem steps (suc k)))
    (run_made p h)

-- ---- all steps

pub steps_length : (steps k : ℕ) (ps : List ℕ) → length (steps_for steps k ps) ≡ length ps
unfolding steps_for
steps_length steps k [] = refl
steps_length steps k (p ∷ ps) = ap suc (steps_length steps (suc k) ps)

pub steps_powers : (steps k : ℕ) (ps : List ℕ) → every in_range ps ≡ true → powers_of (steps_for steps k ps) ≡ ps
unfolding steps_for powers_of
steps_powers steps k [] e = refl
steps_powers steps k (p ∷ ps) e =
    let h = ltb-true p power_end (and_left (in_range p) (every in_range ps) e) in
    cc (value_power p h, steps_powers steps (suc k) ps (and_right (in_range p) (every in_range ps) e))

pub steps_fit : (steps k : ℕ) (ps : List ℕ) → every in_range ps ≡ true → every step_fits (steps_for steps k ps) ≡ true
unfolding steps_for
steps_fit steps k [] e = refl
steps_fit steps k (p ∷ ps) e =
    and_true (step_fits (made steps k p)) (every step_fits (steps_for steps (suc k) ps))
    (made_fits steps k p (ltb-true p power_end (and_left (in_range p) (every in_range ps) e)))
    (steps_fit steps (suc k) ps (and_right (in_range p) (every in_range ps) e))

-- every step from k on is good
abbrev pub Good : ℕ → ℕ → List (Step (List ℕ)) → Type 0
Good steps k ss = (i : ℕ) → i < length ss → good_step steps (k + i) (get_or ss i no_step) ≡ true

pub steps_good : (steps k : ℕ) (ps : List ℕ) → every in_range ps ≡ true → Good steps k (steps_for steps k ps)
unfolding steps_for
steps_good steps k [] e i h = absurd (omega arith)
steps_good steps k (p ∷ ps) e zero h =
    rw add-zero (step_good steps k p (ltb-true p power_end (and_left (in_range p) (every in_range ps) e)))
steps_good steps k (p ∷ ps) e (suc i) h =
    let n : k + suc i ≡ suc k + i = omega arith in
    rw n (steps_good steps (suc k) ps (and_right (in_range p) (every in_range ps) e) i (omega arith))

good_rest : (steps k : ℕ) (s : Step (List ℕ)) (ss : List (Step (List ℕ))) → Good steps k (s ∷ ss) → Good steps (suc k) ss
good_rest steps k s ss g i h =
    let n : k + suc i ≡ suc k + i = omega arith in
    rw n at (g (suc i) (omega arith))

good_first : (steps k : ℕ) (s : Step (List ℕ)) (ss : List (Step (List ℕ))) → Good steps k (s ∷ ss) → good_step steps k s ≡ true
good_first steps k s ss g = rw add-zero at (g 0 (omega arith))

pub powers_range : (steps k : ℕ) (ss : List (Step (List ℕ))) → Good steps k ss → every in_range (powers_of ss) ≡ true
unfolding powers_of
powers_range steps k [] g = refl
powers_range steps k (s ∷ ss) g =
    let v = power_value (ended s) in
    and_true (in_range v) (every in_range (powers_of ss))
    (lt-ltb v power_end (step_back steps k s (good_first steps k s ss g)).0) (powers_range steps (suc k) ss (good_rest steps k s ss g))

pub powers_steps : (steps k : ℕ) (ss : List (Step (List ℕ))) → Good steps k ss → ss ≡ steps_for steps k (powers_of ss)
unfolding powers_of steps_for
powers_steps steps k [] g = refl
powers_steps steps k (s ∷ ss) g =
    cc ((step_back steps k s (good_first steps k s ss g)).1, powers_steps steps (suc k) ss (good_rest steps k s ss g))

pub powers_length : (ss : List (Step (List ℕ))) → length (powers_of ss) ≡ length ss
unfolding powers_of
powers_length [] = refl
powers_length (s ∷ ss) = ap suc (powers_length ss)

-- ---- the first bad step

pub bad_none : (steps : ℕ) (ss : List (Step (List ℕ))) → Good steps 0 ss → first_bad steps ss ≡ length ss
unfolding first_bad
bad_none steps ss g =
    first_none (bad_step steps ss) 0 (length ss) (λ k a b. good k (omega arith)) ∙ zero-add (length ss)
  where
    good : (k : ℕ) → k < length ss → bad_step steps ss k ≡ false
    good k h = let e = rw (zero-add k) at (g k h) in rw e

pub none_bad : (steps : ℕ) (ss : List (Step (List ℕ))) → ltb (first_bad steps ss) (length ss) ≡ false → Good steps 0 ss
unfolding first_bad
none_bad steps ss e i h =
    let n = ltb-false (first_from (bad_step steps ss) 0 (length ss)) (length ss) e in
    rw (zero-add i) (not-false (good_step steps i (get_or ss i no_step)) (first_before (bad_step steps ss) 0 (length ss) i (omega arith) (omega arith)))
