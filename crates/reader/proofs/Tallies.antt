-- A file's lines as steps: a good line gives its power, and the first bad one is the table's.
use mathlib.Core.Path.{◌≡◌, refl, sym, ap, ◌∙◌}
use mathlib.Core.Bool.{true, not}
use mathlib.Core.List.{List, [], ◌∷◌}
use Prim.Native.Nat.{ℕ, zero, suc, ◌+◌, ◌<◌, ◌≤◌}
use native.Mathlib.Nat.{zero-add}
use native.Mathlib.Omega.{arith}
use lib.Dec.{ltb, eqb}
use lib.ListN.{length, get_or, drop, set, replicate, drop_of_length-le}
use lib.Seq.{drop-cons}
use borrow.Author.Tests.{lt-ltb, le-ltb, lt-leb}
use Rattle.lists.specs.Searches.{first_from}
use Rattle.lists.proofs.Tests.{by_test}
use Rattle.refusals.specs.Tests.{Test, input, first_met, decide, Verdict, pass}
use Rattle.refusals.specs.declared.Refusal.TheVariants.{Input}
use Rattle.refusals.specs.declared.InputRefusal.TheVariants.{Lines, Labels, Power, Zeros}
use Rattle.std.specs.Prelude.{Result, Ok, Err}
use Rattle.refusals.proofs.Tests.{refused_pass}
use Rattle.refusals.specs.declared.Refusal.{Refusal}
use Rattle.notification.specs.Forms.{places, in_places, all_zero}
use Rattle.notification.specs.Reading.{has_labels, rest_of, power_value, is_power, bad_line, first_bad, line_refusal, powers_in}
use Rattle.notification.specs.declared.Key.{Key}
use Rattle.notification.specs.declared.Notification.{Notification}
use Rattle.reader.specs.Walking.{line_power}
use Rattle.reader.specs.Folding.{Taken, counted, first_line, take_step, take_steps, take_all, no_steps, judgement}
use Rattle.reader.proofs.Series.{verdict_from, powers_from, told, judged_told}

-- ---- one line more

pub takes_cons : (steps : ℕ) (x y : Taken) (l : List ℕ) (ls : List (List ℕ)) → take_step steps x l ≡ y
    → take_steps steps x (l ∷ ls) ≡ take_steps steps y ls
unfolding take_steps
takes_cons steps x y l ls e = ap (λ (z : Taken). take_steps steps z ls) e

-- a good line after no fault
pub line_good : (steps : ℕ) (x : Taken) (l : List ℕ) → x.tally.fault ≡ 0 → x.tally.lines < steps
    → has_labels steps x.tally.lines l ≡ true → is_power (rest_of steps x.tally.lines l) ≡ true
    → take_step steps x l ≡ record {
      tally = counted x.tally;
      powers = set x.powers x.tally.lines (power_value (rest_of steps x.tally.lines l));
    }
unfolding take_step line_power
line_good steps x l p h a b = rw (p, lt-leb steps x.tally.lines h, a, b)

-- lines are steps of which their power is said
pub takes_all : (steps : ℕ) (x : Taken) (ls : List (List ℕ)) → take_steps steps x ls ≡ take_all (line_power steps) first_line steps x ls
unfolding take_steps take_step take_all
takes_all steps x [] = refl
takes_all steps x (l ∷ ls) = takes_all steps (take_step steps x l) ls

-- ---- the first bad line of all

module _ (steps : ℕ) where
  abbrev fault : ℕ → List (List ℕ) → Verdict
  fault k ls = verdict_from (line_power steps) first_line steps k ls

  verdict_first : (all : List (List ℕ)) (i n : ℕ) → i + n ≡ length all
      → fault i (drop i all)
      ≡ first_met ((ltb (first_from (bad_line steps all) i n) (length all), line_refusal steps all (first_from (bad_line steps all) i n)) ∷ [])
  unfolding verdict_from first_from line_power
  verdict_first all i zero e =
      let h : length all ≤ i = omega arith in
      rw (drop_of_length-le all h, le-ltb i (length all) h)
  verdict_first all i (suc n) e =
      let h : i < length all = omega arith in
      let t = lt-ltb i (length all) h in
      let l = get_or all i [] in
      let d = drop-cons all i [] h in
      by_test (has_labels steps i l)
      (λ a. by_test (is_power (rest_of steps i l))
      (λ b. rw (d, a, b) (verdict_first all (suc i) n (omega arith)))
      (λ b. rw (d, a, b, t, a)))
      (λ a. rw (d, a, t, a))

  verdict_table : (ls : List (List ℕ)) → fault 0 ls ≡ first_met ((ltb (first_bad steps ls) (length ls), line_refusal steps ls (first_bad steps ls)) ∷ [])
  unfolding first_bad
  verdict_table ls = verdict_first ls 0 (length ls) (zero-add (length ls))

  -- where none is bad, the powers are those of the lines
  powers_said : (k : ℕ) (ls : List (List ℕ)) → fault k ls ≡ pass → powers_from (line_power steps) first_line steps k ls ≡ powers_in steps k ls
  unfolding verdict_from powers_from powers_in line_power
  powers_said k [] e = refl
  powers_said k (l ∷ ls) e =
      by_test (has_labels steps k l)
      (λ a. by_test (is_power (rest_of steps k l))
      (λ b. rw (a, b, powers_said (suc k) ls (rw (a, b) at e)))
      (λ b. refused_pass (Input Power (k + first_line)) (rw (a, b) at e)))
      (λ a. refused_pass (Input Labels (k + first_line)) (rw a at e))

-- ---- THE LAST THREE ROWS, of the lines of a day

abbrev line_tests : ℕ → List (List ℕ) → List Test
line_tests steps ls =
    (not (eqb (length ls) steps), input Lines)
    ∷ (ltb (first_bad steps ls) (length ls), line_refusal steps ls (first_bad steps ls))
    ∷ (all_zero (powers_in steps 0 ls), input Zeros)
    ∷ []

abbrev pub line_result : Key → ℕ → List (List ℕ) → Result Notification Refusal
line_result key steps ls =
    decide (first_met (line_tests steps ls)) (Ok (record { key = key; steps = steps; powers = in_places (powers_in steps 0 ls) })) Err

module _ (key : Key) (steps : ℕ) (few : steps ≤ places) (ls : List (List ℕ)) where
  by_verdict : (v : Verdict) → fault steps 0 ls ≡ v → eqb (length ls) steps ≡ true
      → told (line_power steps) first_line steps key ls ≡ line_result key steps ls
  by_verdict (Err r) e n =
      let t = sym (verdict_table steps ls) ∙ e in
      by_test (ltb (first_bad steps ls) (length ls))
      (λ q. let z : Err (line_refusal steps ls (first_bad steps ls)) ≡ Err r = rw q at t in
      rw (n, e, q)
      (sym (ap (λ (v : Verdict). decide v (Ok (record { key = key; steps = steps; powers = in_places (powers_in steps 0 ls) })) Err) z)))
      (λ q. let z : pass ≡ Err r = rw q at t in refused_pass r (sym z))
  by_verdict (Ok u) e n =
      let t = sym (verdict_table steps ls) ∙ e in
      let w = powers_said steps 0 ls e in
      by_test (ltb (first_bad steps ls) (length ls))
      (λ q. let z : Err (line_refusal steps ls (first_bad steps ls)) ≡ pass = rw q at t in refused_pass (line_refusal steps ls (first_bad steps ls)) z)
      (λ q. by_test (all_zero (powers_in steps 0 ls))
      (λ z. rw (n, e, w, z, q))
      (λ z. rw (n, e, w, z, q)))

  told_lines : told (line_power steps) first_line steps key ls ≡ line_result key steps ls
  told_lines =
      by_test (eqb (length ls) steps)
      (λ n. by_verdict (fault steps 0 ls) refl n)
      (λ n. rw n)

  abbrev start : Taken
  start = record { tally = no_steps; powers = replicate places 0 }

  pub judged_all : judgement key steps (take_steps steps start ls).tally (take_steps steps start ls).powers ≡ line_result key steps ls
  judged_all =
      ap (λ (z : Taken). judgement key steps z.tally z.powers) (takes_all steps start ls)
      ∙ (judged_told (line_power steps) first_line steps key few ls ∙ told_lines)
