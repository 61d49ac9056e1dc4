-- What is kept after all steps, however they are told, is what the table says of them: their number, the first fault, the powers.
use mathlib.Core.Path.{◌≡◌, refl, sym, ap, subst, ◌∙◌}
use mathlib.Core.Bool.{true, false, cond, not}
use mathlib.Core.List.{List, [], ◌∷◌, ◌++◌}
use Prim.Native.Nat.{ℕ, zero, suc, ◌+◌, ◌-◌, ◌<◌, ◌≤◌, min}
use native.Mathlib.Nat.{zero-add}
use native.Mathlib.Omega.{arith}
use lib.Dec.{eqb}
use lib.ListN.{length, drop, replicate, set, length-replicate}
use lib.Seq.{sets, sets-eq}
use borrow.Author.Tests.{eqb-true, eqb-false, eq-eqb, ne_eqb, lt-leb}
use Rattle.lists.proofs.Tests.{by_test}
use Rattle.refusals.specs.Tests.{input, decide, Verdict, pass}
use Rattle.refusals.specs.declared.Refusal.{Refusal}
use Rattle.refusals.specs.declared.Refusal.TheVariants.{Input}
use Rattle.refusals.specs.declared.InputRefusal.TheVariants.{Lines, Labels, Power, Zeros}
use Rattle.std.specs.Prelude.{Result, Ok, Err}
use Rattle.refusals.proofs.Tests.{refused_pass}
use Rattle.notification.specs.Forms.{places, in_places, all_zero}
use Rattle.notification.specs.Reading.{}
use Rattle.notification.specs.declared.Key.{Key}
use Rattle.notification.specs.declared.Notification.{Notification}
use Rattle.notification.proofs.Places.{places_filled, places_every, places_zero}
use Rattle.reader.specs.Folding.{Taken, one_more, counted, labels_fault, power_fault, faulted, judged, is_over, step_taken, take_all, no_steps}
use Rattle.reader.specs.Folding.{fault_of, outcome_of, judgement}
use Rattle.reader.specs.declared.tally.Tally.{Tally}
use Rattle.reader.specs.declared.tally.StepFault.{StepFault}
use Rattle.reader.specs.declared.tally.StepFault.TheVariants.{NoLabels, NoPower}
use Rattle.std.specs.Prelude.{Result, Ok, Err}

-- ---- what the steps come to

module _ (steps : ℕ) (t : Tally) (ps : List ℕ) where
  pub outcome_lines : (t.lines ≡ steps → ⊥) → Err (input Lines) ≡ outcome_of steps t ps
  unfolding outcome_of
  outcome_lines h = rw (ne_eqb t.lines steps h)

  module _ (h : t.lines ≡ steps) where
    pub outcome_fault : (r : Refusal) → fault_of t ≡ Err r → Err r ≡ outcome_of steps t ps
    unfolding outcome_of
    outcome_fault r v = rw (eq-eqb t.lines steps h, v)

    pub outcome_passed : fault_of t ≡ pass → all_zero ps ≡ false → pass ≡ outcome_of steps t ps
    unfolding outcome_of
    outcome_passed v a = rw (eq-eqb t.lines steps h, v, a)

    pub outcome_zeros : fault_of t ≡ pass → all_zero ps ≡ true → Err (input Zeros) ≡ outcome_of steps t ps
    unfolding outcome_of
    outcome_zeros v a = rw (eq-eqb t.lines steps h, v, a)

-- ---- the powers in their places

pub sets_places : (ps : List ℕ) → length ps ≤ places → sets (replicate places 0) 0 ps ≡ in_places ps
sets_places ps h =
    let l = length-replicate {A = ℕ} places 0 in
    sets-eq ps (replicate places 0) 0 (omega arith) ∙ (rest ∙ sym (places_filled ps h))
  where
    dropped : (n m : ℕ) → drop {A = ℕ} n (replicate (n + m) 0) ≡ replicate m 0
    dropped zero m = rw zero-add
    dropped (suc n) m = let e : suc n + m ≡ suc (n + m) = omega arith in rw e (dropped n m)

    rest : ps ++ drop (0 + length ps) (replicate places 0) ≡ ps ++ replicate (places - length ps) 0
    rest =
        let e : places ≡ length ps + (places - length ps) = omega arith in
        let d = dropped (length ps) (places - length ps) in
        rw (zero-add, ← d, ← e)

-- in their places, powers are all 0 where they are
zero_places : (ps : List ℕ) → length ps ≤ places → all_zero (in_places ps) ≡ all_zero ps
unfolding all_zero
zero_places ps h =
    by_test (all_zero ps)
    (λ z. places_every ps h (λ (p : ℕ). eqb p 0) refl z ∙ sym z)
    (λ z. places_zero ps h z ∙ sym z)

-- ---- steps one after another

module _ {A : Type 0} (say : ℕ → A → Result ℕ StepFault) (first steps : ℕ) where
  abbrev take : Taken → List A → Taken
  take x xs = take_all say first steps x xs

  abbrev next : Taken → A → Taken
  next x a = step_taken first steps x (say x.tally.lines a)

  -- ---- how many steps

  judged_count : (x : Taken) (l : Result ℕ StepFault) → (judged first x l).tally.lines ≡ one_more x.tally.lines
  judged_count x (Ok p) = refl
  judged_count x (Err NoLabels) = refl
  judged_count x (Err NoPower) = refl

  next_count : (x : Taken) (a : A) → (next x a).tally.lines ≡ one_more x.tally.lines
  next_count x a =
      by_test (is_over steps x.tally)
      (λ t. rw t)
      (λ t. rw t (judged_count x (say x.tally.lines a)))

  counts : (x : Taken) (xs : List A) → x.tally.lines ≤ 51 → (take x xs).tally.lines ≡ min (x.tally.lines + length xs) 51
  unfolding take_all
  counts x [] h = omega arith
  counts x (a ∷ xs) h =
      let e = next_count x a in
      counts (next x a) xs (omega arith) ∙ omega arith

  -- ---- the first fault

  -- what step k is refused by, and what its power is
  abbrev pub refused_by : ℕ → Result ℕ StepFault → Verdict
  refused_by k (Ok p) = pass
  refused_by k (Err NoLabels) = Err (Input Labels (k + first))
  refused_by k (Err NoPower) = Err (Input Power (k + first))

  abbrev pub power_said : Result ℕ StepFault → ℕ
  power_said (Ok p) = p
  power_said (Err NoLabels) = 0
  power_said (Err NoPower) = 0

  unfoldable pub verdict_from : ℕ → List A → Verdict
  verdict_from k [] = pass
  verdict_from k (a ∷ xs) = decide (refused_by k (say k a)) (verdict_from (suc k) xs) Err

  unfoldable pub powers_from : ℕ → List A → List ℕ
  powers_from k [] = []
  powers_from k (a ∷ xs) = power_said (say k a) ∷ powers_from (suc k) xs

  takes_cons : (x y : Taken) (a : A) (xs : List A) → next x a ≡ y → take x (a ∷ xs) ≡ take y xs
  unfolding take_all
  takes_cons x y a xs e = ap (λ (z : Taken). take z xs) e

  -- after a fault it stays the first
  fault_stays : (x : Taken) (xs : List A) → eqb x.tally.fault 0 ≡ false → fault_of (take x xs).tally ≡ fault_of x.tally
  unfolding take_all fault_of
  fault_stays x [] e = refl
  fault_stays x (a ∷ xs) e =
      let y : Taken = record { tally = counted x.tally; powers = x.powers } in
      let n : next x a ≡ y = rw e in
      ap (λ (z : Taken). fault_of z.tally) (takes_cons x y a xs n) ∙ fault_stays y xs e

  -- what is kept after steps that are no more than those left, after no fault
  record Kept (k : ℕ) (x : Taken) (xs : List A) : Type 0 where
    its_fault : fault_of (take x xs).tally ≡ verdict_from k xs
    its_powers : verdict_from k xs ≡ pass → (take x xs).powers ≡ sets x.powers k (powers_from k xs)

  refused_kept : (k : ℕ) (x y : Taken) (r : Refusal) (a : A) (xs : List A) → next x a ≡ y
      → eqb y.tally.fault 0 ≡ false → fault_of y.tally ≡ Err r → verdict_from k (a ∷ xs) ≡ Err r → Kept k x (a ∷ xs)
  refused_kept k x y r a xs e f v w =
      record {
        its_fault = ap (λ (z : Taken). fault_of z.tally) (takes_cons x y a xs e) ∙ (fault_stays y xs f ∙ (v ∙ sym w));
        its_powers = λ q. refused_pass r (sym w ∙ q);
      }

  -- one good step, and those after it
  kept_more : (k p : ℕ) (x y : Taken) (a : A) (xs : List A) → next x a ≡ y → say k a ≡ Ok p
      → y.powers ≡ set x.powers k p → Kept (suc k) y xs → Kept k x (a ∷ xs)
  unfolding verdict_from powers_from
  kept_more k p x y a xs e g w r =
      let c = takes_cons x y a xs e in
      let u : verdict_from k (a ∷ xs) ≡ verdict_from (suc k) xs = rw g in
      let ps : powers_from k (a ∷ xs) ≡ p ∷ powers_from (suc k) xs = rw g in
      record {
        its_fault = ap (λ (z : Taken). fault_of z.tally) c ∙ (r.its_fault ∙ sym u);
        its_powers = λ q. ap (λ (z : Taken). z.powers) c
            ∙ (r.its_powers (sym u ∙ q)
            ∙ (ap (λ (z : List ℕ). sets z (suc k) (powers_from (suc k) xs)) w ∙ ap (λ (z : List ℕ). sets x.powers k z) (sym ps)));
      }

  kept : (x : Taken) (xs : List A) → x.tally.fault ≡ 0 → x.tally.lines + length xs ≤ steps → steps ≤ places → Kept x.tally.lines x xs
  unfolding take_all verdict_from powers_from fault_of
  kept x [] v h g = record { its_fault = rw v; its_powers = λ q. refl }
  kept x (a ∷ xs) v h g = by_said (say x.tally.lines a) refl (λ p. kept (with_power x p) xs v (omega arith) g)
    where
      with_power : Taken → ℕ → Taken
      with_power z p = record { tally = counted z.tally; powers = set z.powers z.tally.lines p }

      judged_next : next x a ≡ judged first x (say x.tally.lines a)
      judged_next = let i : x.tally.lines < steps = omega arith in rw (v, lt-leb steps x.tally.lines i)

      with_fault : ℕ → Taken
      with_fault n = record { tally = faulted x.tally n (x.tally.lines + first); powers = x.powers }

      by_said : (l : Result ℕ StepFault) → say x.tally.lines a ≡ l → ((p : ℕ) → Kept (with_power x p).tally.lines (with_power x p) xs)
          → Kept x.tally.lines x (a ∷ xs)
      by_said (Ok p) e more =
          let n : (with_power x p).tally.lines ≡ suc x.tally.lines = omega arith in
          kept_more x.tally.lines p x (with_power x p) a xs (judged_next ∙ rw e) e refl
          (subst (λ (m : ℕ). Kept m (with_power x p) xs) n (more p))
      by_said (Err NoLabels) e more =
          refused_kept x.tally.lines x (with_fault labels_fault) (Input Labels (x.tally.lines + first)) a xs
          (judged_next ∙ rw e) refl refl (rw e)
      by_said (Err NoPower) e more =
          refused_kept x.tally.lines x (with_fault power_fault) (Input Power (x.tally.lines + first)) a xs
          (judged_next ∙ rw e) refl refl (rw e)

  -- ---- ALL STEPS

  -- 5 to 8 of steps: their number, the first fault, every power 0
  abbrev pub told : Key → List A → Result Notification Refusal
  told key xs =
      cond (not (eqb (length xs) steps)) (Err (input Lines))
      (decide (verdict_from 0 xs)
      (cond (all_zero (powers_from 0 xs)) (Err (input Zeros)) (Ok (record { key = key; steps = steps; powers = in_places (powers_from 0 xs) })))
      Err)

  module _ (key : Key) (few : steps ≤ places) (xs : List A) where
    abbrev start : Taken
    start = record { tally = no_steps; powers = replicate places 0 }

    abbrev end : Taken
    end = take start xs

    count_end : end.tally.lines ≡ min (length xs) 51
    count_end = counts start xs (omega arith) ∙ ap (λ (n : ℕ). min n 51) (zero-add (length xs))

    powers_length : (k : ℕ) (ys : List A) → length (powers_from k ys) ≡ length ys
    unfolding powers_from
    powers_length k [] = refl
    powers_length k (a ∷ ys) = ap suc (powers_length (suc k) ys)

    module _ (n : length xs ≡ steps) where
      count_same : end.tally.lines ≡ steps
      count_same = omega (arith, count_end)

      all_kept : Kept 0 start xs
      all_kept = kept start xs refl (omega arith) few

      by_verdict : (v : Verdict) → verdict_from 0 xs ≡ v → judgement key steps end.tally end.powers ≡ told key xs
      unfolding judgement
      by_verdict (Err r) e =
          rw (← outcome_fault steps end.tally end.powers count_same r (all_kept.its_fault ∙ e), eq-eqb (length xs) steps n, e)
      by_verdict (Ok u) e =
          let v = all_kept.its_fault ∙ e in
          let few-powers : length (powers_from 0 xs) ≤ places = omega (arith, powers_length 0 xs) in
          let p : end.powers ≡ in_places (powers_from 0 xs) = all_kept.its_powers e ∙ sets_places (powers_from 0 xs) few-powers in
          let o : all_zero end.powers ≡ all_zero (powers_from 0 xs) = ap all_zero p ∙ zero_places (powers_from 0 xs) few-powers in
          by_test (all_zero (powers_from 0 xs))
          (λ z. rw (← outcome_zeros steps end.tally end.powers count_same v (o ∙ z), eq-eqb (length xs) steps n, e, z))
          (λ z. rw (← outcome_passed steps end.tally end.powers count_same v (o ∙ z), eq-eqb (length xs) steps n, e, z, p))

    pub judged_told : judgement key steps end.tally end.powers ≡ told key xs
    unfolding judgement
    judged_told =
        by_test (eqb (length xs) steps)
        (λ a. by_verdict (eqb-true (length xs) steps a) (verdict_from 0 xs) refl)
        (λ a. let f = eqb-false (length xs) steps a in
        rw (← outcome_lines steps end.tally end.powers (λ (e : end.tally.lines ≡ steps). f (omega (arith, count_end))), a))
