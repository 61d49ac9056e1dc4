-- DEMAND 3 OF THE CODE, said of every run of the register's own functions from a fresh register.
use Rattle.refusals.specs.declared.Refusal.{Refusal}
use Rattle.std.specs.Prelude.{Err, Ok, Result}
use mathlib.Core.Path.{◌≡◌, refl, sym, ◌∙◌, ap, subst}
use mathlib.Core.Bool.{Bool, true, false, ◌||◌}
use native.Mathlib.Omega.{arith}
use mathlib.Core.List.{List, [], ◌∷◌}
use Prim.Native.Nat.{ℕ, ◌+◌, ◌≤◌, ◌<◌}
use Rattle.lists.specs.Sums.{sum_over}
use Rattle.lists.specs.Searches.{same}
use Rattle.lists.proofs.Searches.{same_refl}
use Rattle.lists.proofs.All.{All, all_none, all_more, all_also}
use Rattle.lists.proofs.Sums.{over_ext}
use Rattle.refusals.specs.Tests.{first_met, decide, Verdict}
use Rattle.calendar.specs.Steps.{steps_of}
use Rattle.calendar.specs.Clocks.{counts}
use Rattle.ledger.specs.Ledger.{Ledger, fresh}
use Rattle.ledger.specs.Call.{Answered, Call}
use Rattle.ledger.specs.Asking.{engagement_tests, engaged_at, ask_engagement}
use Rattle.ledger.specs.Reading.{Event, events, actors_of, categories_of, is_among, clock_of, loaded_of, approved_of, acquired_of, ceded_of}
use Rattle.ledger.specs.Whole.{after, answers_to, Asked, Holds}
use Rattle.ledger.proofs.Whole.{demand3}
use Rattle.tables.specs.Tables.{Columns, LoadColumns}
use Rattle.register.specs.View.{Register, lent, held}
use Rattle.register.specs.declared.Fresh.{Fresh}
use Rattle.register.proofs.Runs.{Begun, Did, Ran, Engages, begun_is, did_step, ran_after, engages_is}

-- DEMAND 3: of the calls, their answers and the register after them; h is the reading of calls and answers alone
pub record Demand3 (cs : List Call) (ys : List Answered) (t : Register) (h : List Event) : Type 1 where
  -- the engagement call answers a power for every enrolled actor and category and every step of a day
  pub answers : (a z : List ℕ) (d s : ℕ) (y : Result ℕ Refusal) → Asked h a z d s → Engages t a z d s y → (g : ℕ) × (y ≡ Ok g)
  -- it is exactly loaded + acquired - ceded by the exchanges that survive
  pub engaged : (a z : List ℕ) (d s g : ℕ) → Asked h a z d s → Engages t a z d s (Ok g) →
      g + ceded_of h a z d s ≡ loaded_of h a z d s + acquired_of h a z d s
  -- per category and step they add up to the loaded powers
  pub conserved : (z : List ℕ) (d s : ℕ) (g : List ℕ → ℕ) → is_among z (categories_of h) ≡ true → s < steps_of d →
      ((a : List ℕ) → is_among a (actors_of h) ≡ true → Engages t a z d s (Ok (g a))) →
      sum_over (actors_of h) g ≡ sum_over (actors_of h) (λ a. loaded_of h a z d s)
  -- each lies from 0 to the approved power
  pub bounded : (a z : List ℕ) (d s g : ℕ) → Asked h a z d s → Engages t a z d s (Ok g) → g ≤ approved_of h a z d
  -- whichever call comes next changes no step that no longer counts
  pub frozen : (c : Call) (y : Answered) (next : Register) → Did t c y next → (a z : List ℕ) (d s g g' : ℕ) → Asked h a z d s →
      counts (clock_of (record { call = c; answer = y } ∷ h)) d s ≡ false → Engages t a z d s (Ok g) →
      Engages next a z d s (Ok g') → g' ≡ g
  -- each answer is the one that the ledger gives when it starts fresh and is given the list's calls alone
  pub answered : ys ≡ answers_to fresh cs

-- ---- from the ledger's engagements to the answers of the engagement call

by_verdict : (v : Verdict) (e g : ℕ) → decide v (Ok e) Err ≡ Ok g → g ≡ e
by_verdict (Ok u) e g q = cc
by_verdict (Err r) e g q = let z : ◌≡◌ {A = ℕ} 0 1 = cc in absurd (omega arith)

power_is : (l : Ledger) (a z : List ℕ) (d s g : ℕ) → Ok g ≡ ask_engagement l a z d s → g ≡ engaged_at l a z d s
unfolding ask_engagement
power_is l a z d s g e = by_verdict (first_met (engagement_tests l a z d s)) (engaged_at l a z d s) g (sym e)

or_right : (x y : Bool) → y ≡ true → (x || y) ≡ true
or_right true y e = refl
or_right false y e = e

among_all : (xs : List (List ℕ)) → All (λ a. is_among a xs ≡ true) xs
among_all [] = all_none
among_all (x ∷ xs) =
    all_more (ap (λ t. t || is_among x xs) (same_refl x)) (all_also (λ a e. or_right (same x a) (is_among a xs) e) (among_all xs))

of_holds : (cs : List Call) (ys : List Answered) (t : Register) (h : List Event) → ys ≡ answers_to fresh cs → Holds (held t) h → Demand3 cs ys t h
of_holds cs ys t h e k =
    record {
      answers = λ a z d s y i q. (engaged_at (held t) a z d s, engages_is q ∙ k.answered a z d s i);
      engaged = λ a z d s g i q. rw (power_is (held t) a z d s g (engages_is q)) (k.engaged a z d s i);
      conserved = λ z d s g i below q.
          over_ext (actors_of h) g (λ a. engaged_at (held t) a z d s)
          (all_also (λ a m. power_is (held t) a z d s (g a) (engages_is (q a m))) (among_all (actors_of h)))
          ∙ k.conserved z d s i below;
      bounded = λ a z d s g i q. rw (power_is (held t) a z d s g (engages_is q)) (k.bounded a z d s i);
      frozen = λ c y next did a z d s g g' i out q q'.
          let p = did_step did in
          power_is (held next) a z d s g' (engages_is q') ∙ ap (λ l. engaged_at l a z d s) p.0
          ∙ k.frozen c a z d s i (ap (λ v. counts (clock_of (record { call = c; answer = v } ∷ h)) d s) (sym p.1) ∙ out)
          ∙ sym (power_is (held t) a z d s g (engages_is q));
      answered = e;
    }

-- THE THEOREM, OF EVERY LIST OF CALLS FROM A FRESH REGISTER, whatever its lent columns hold
pub demand3_of_calls : (start : Fresh) → Begun start → (cols : Columns) (ls : LoadColumns) (cs : List Call)
    (ys : List Answered) (t : Register) → Ran (lent start.head cols ls) cs ys t → Demand3 cs ys t (events cs ys [])
demand3_of_calls start fresh-one cols ls cs ys t run =
    let p = ran_after run fresh ((begun_is fresh-one).1 cols ls) in
    of_holds cs ys t (events cs ys []) p.1
    (subst (λ l. Holds l (events cs ys [])) (sym p.0) (subst (λ zs. Holds (after fresh cs) (events cs zs [])) (sym p.1) (demand3 cs)))
