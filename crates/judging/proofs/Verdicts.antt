-- The verdict of the checks 32 to 35, by the steps that the searches find.
use Rattle.std.proofs.Common.{◌≡◌, ℕ, ◌+◌, ◌-◌, ◌<◌, ◌≤◌, Bool, true, false, cond, ◌&&◌, ltb, leb, List, get_or, sym, ◌∙◌, ap₂, arith, le-ltb, leb-true}
use Rattle.lists.specs.Searches.{first_from}
use Rattle.lists.proofs.Searches.{first_agree, first_none}
use Rattle.lists.proofs.Tests.{by_test, both_true}
use Rattle.std.specs.Prelude.{Ok, Err, ⊤}
use Rattle.refusals.specs.Tests.{Verdict, pass, first_met}
use Rattle.refusals.specs.declared.Refusal.{Refusal}
use Rattle.refusals.specs.declared.Refusal.TheVariants.{State}
use Rattle.refusals.specs.declared.StateRefusal.{StateRefusal}
use Rattle.ledger.specs.Filing.{failing}
use Rattle.refusals.proofs.Tests.{all_pass, refused_pass}
use Rattle.judging.specs.Nets.{base}
use Rattle.judging.specs.Steps.{below_at, step_fits, net_tests}
use Rattle.judging.specs.declared.nets.Nets.{Nets}

-- the step that a search by two lists found, by what the lists hold
pub found_by : (first until : ℕ) → first ≤ until → until ≤ 50 → (left right : List ℕ) (f g : ℕ → ℕ) →
    ((s : ℕ) → s < 50 → get_or left s 0 ≡ f s) → ((s : ℕ) → s < 50 → get_or right s 0 ≡ g s) →
    (s : ℕ) → s ≡ first_from (below_at left right) first (until - first) →
    first_from (λ s. ltb (f s) (g s)) first (until - first) ≡ s
found_by first until h i left right f g l m s e =
    sym
    (e ∙ first_agree (below_at left right) (λ s. ltb (f s) (g s)) first (until - first)
    (λ s a b. ap₂ ltb (l s (omega arith)) (m s (omega arith))))

-- a check with the step that its search finds: it refuses there, or the checks after it decide
module _ (f : StateRefusal) (p : ℕ → Bool) (first until s : ℕ) (found : first_from p first (until - first) ≡ s) (rest : Verdict) where
  abbrev pub checked : Verdict
  checked = cond (failing f p first until).0 (Err (failing f p first until).1) rest

  pub refused_at : (r : Refusal) → Err r ≡ cond (ltb s until) (Err (State f s)) pass → Err r ≡ checked
  refused_at r e =
      rw found (by_test (ltb s until) (λ t. rw t (rw t at e)) (λ t. refused_pass r (rw t at e)))

  pub passed_at : (u : ⊤) → Ok u ≡ cond (ltb s until) (Err (State f s)) pass → rest ≡ checked
  passed_at u e =
      rw found (by_test (ltb s until) (λ t. refused_pass (State f s) (sym (rw t at e))) (λ t. rw t))

-- ---- where every step fits, no check fails

-- the four checks of a step that fits
abbrev Passes : (c a p ceders acquirers : ℕ) → Type 0
Passes c a p ceders acquirers =
    (ltb c (base + p) ≡ false) × (ltb (base + acquirers) (a + p) ≡ false) × (ltb (base + ceders + p) c ≡ false) × (ltb (a + p) base ≡ false)

step_passes : (c a p ceders acquirers : ℕ) → step_fits c a p ceders acquirers ≡ true → Passes c a p ceders acquirers
step_passes c a p ceders acquirers e =
    let fits = both_true (leb (base + p) c && leb c (base + p + ceders)) (leb base (a + p) && leb (a + p) (base + acquirers)) e in
    let ceder = both_true (leb (base + p) c) (leb c (base + p + ceders)) fits.0 in
    let acquirer = both_true (leb base (a + p)) (leb (a + p) (base + acquirers)) fits.1 in (
      le-ltb c (base + p) (leb-true (base + p) c ceder.0),
      le-ltb (base + acquirers) (a + p) (leb-true (a + p) (base + acquirers) acquirer.1),
      le-ltb (base + ceders + p) c (omega (arith, leb-true c (base + p + ceders) ceder.1)),
      le-ltb (a + p) base (leb-true base (a + p) acquirer.0),
    )

pub all_passed : (nets : Nets) (ps : List ℕ) (ceders acquirers first until : ℕ) → first ≤ until →
    ((s : ℕ) → first ≤ s → s < until → step_fits (get_or nets.ceder s 0) (get_or nets.acquirer s 0) (get_or ps s 0) ceders acquirers ≡ true) →
    pass ≡ first_met (net_tests nets ps ceders acquirers first until)
unfolding net_tests
all_passed nets ps ceders acquirers first until h fit =
    let none : (p : ℕ → Bool) → ((s : ℕ) → first ≤ s → s < until → p s ≡ false) → ltb (first_from p first (until - first)) until ≡ false =
    λ p f. le-ltb _ until (omega (arith, first_none p first (until - first) (λ k a b. f k a (omega arith)))) in
    let at : (s : ℕ) → first ≤ s → s < until → Passes (get_or nets.ceder s 0) (get_or nets.acquirer s 0) (get_or ps s 0) ceders acquirers =
    λ s a b. step_passes _ _ _ ceders acquirers (fit s a b) in
    sym
    (all_pass (net_tests nets ps ceders acquirers first until)
    (none _ (λ s a b. (at s a b).0), (none _ (λ s a b. (at s a b).1), (none _ (λ s a b. (at s a b).2), (none _ (λ s a b. (at s a b).3), tt)))))
