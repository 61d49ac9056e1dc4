-- How a filing moves what actors acquire and cede: only a paired one, only at its counted steps, the filed power in place
-- of the key's power until then, for its ceder and its acquirer alone.
use mathlib.Core.Path.{◌≡◌, refl, sym, ◌∙◌, ap}
use mathlib.Core.Bool.{Bool, true, false, cond, ◌&&◌, and-false}
use mathlib.Core.List.{List}
use Prim.Native.Nat.{ℕ, ◌+◌, ◌≤◌, ◌<◌}
use native.Mathlib.Omega.{arith}
use lib.Dec.{leb, eqb}
use lib.ListN.{length, get_or}
use borrow.Author.Tests.{leb-true, le-leb, eqb-true, ne_eqb}
use Rattle.lists.proofs.Tests.{both_true}
use Rattle.lists.proofs.Sums.{sum_ext, sum_update}
use Rattle.calendar.specs.Steps.{steps_of}
use Rattle.calendar.specs.Clocks.{first_counted}
use Rattle.ledger.specs.Ledger.{Key, Ledger, power, acquired, ceded}
use Rattle.ledger.specs.Filing.{filed}
use Rattle.ledger.specs.Calls.{with_records}
use Rattle.ledger.proofs.Passed.{Fileable}
use Rattle.ledger.proofs.Powers.{eq_key, eq_key_refl, key_from, Parties, Spans, power_filed, parties_filed, spans_filed, acquired_keys, ceded_keys}

-- a filing moves power in a category, on a day, at a step
abbrev pub live : Ledger → Key → Bool → ℕ → ℕ → ℕ → Bool
live l k paired z d s = paired && leb (first_counted l.clock k.day) s && (eqb z k.category && eqb d k.day)

-- no key of another ceder, none of another acquirer is the filing's
other_ceder : (t c a z d : Bool) → (t && (z && d) && c) ≡ false → (t && (c && a && z && d)) ≡ false
other_ceder false c a z d e = refl
other_ceder true false a z d e = refl
other_ceder true true false z d e = refl
other_ceder true true true false d e = refl
other_ceder true true true true false e = refl
other_ceder true true true true true e = e

other_acquirer : (t c a z d : Bool) → (t && (z && d) && a) ≡ false → (t && (c && a && z && d)) ≡ false
other_acquirer false c a z d e = refl
other_acquirer true false a z d e = refl
other_acquirer true true false z d e = refl
other_acquirer true true true false d e = refl
other_acquirer true true true true false e = refl
other_acquirer true true true true true e = e

-- where it does, it is paired, the step counts, and category and day are its own
pub live_true : (l : Ledger) (k : Key) (paired : Bool) (z d s : ℕ) → live l k paired z d s ≡ true →
    (paired ≡ true) × (first_counted l.clock k.day ≤ s) × (z ≡ k.category) × (d ≡ k.day)
live_true l k paired z d s e =
    let first = first_counted l.clock k.day in
    let p = both_true (paired && leb first s) (eqb z k.category && eqb d k.day) e in
    let q = both_true paired (leb first s) p.0 in
    let r = both_true (eqb z k.category) (eqb d k.day) p.1 in
    (q.0, leb-true first s q.1, eqb-true z k.category r.0, eqb-true d k.day r.1)

-- the ledger that a filing leaves, by whether it is paired
abbrev pub filed_in : Ledger → ℕ → Key → List ℕ → Bool → Ledger
filed_in l by k ps paired = with_records l (filed paired l by k ps)

module _ (l : Ledger) (by : ℕ) (k : Key) (ps : List ℕ) (ok : Fileable l by k ps) (parties : Parties l) (spans : Spans l) where
  pub parties_after : (paired : Bool) → Parties (filed_in l by k ps paired)
  parties_after paired = parties_filed l by k ps ok.reached ok.counted paired parties ok.ceder ok.acquirer ok.category

  pub spans_after : (paired : Bool) → Spans (filed_in l by k ps paired)
  spans_after paired = spans_filed l by k ps ok.reached ok.counted paired spans

  -- the power of a key that the filing leaves, and of the filing's own
  power_kept : (paired : Bool) (c a z d s : ℕ) → s < steps_of d →
      (paired && leb (first_counted l.clock k.day) s && eq_key (key_from c a z d) k) ≡ false →
      power (filed paired l by k ps) (key_from c a z d) s ≡ power l.records (key_from c a z d) s
  power_kept paired c a z d s below e =
      power_filed l by k ps ok.reached ok.counted paired spans (key_from c a z d) s below ∙
      ap (λ t. cond t (get_or ps s 0) (power l.records (key_from c a z d) s)) e

  power_moved : (s : ℕ) → first_counted l.clock k.day ≤ s → s < steps_of k.day → power (filed true l by k ps) k s ≡ get_or ps s 0
  power_moved s h below =
      power_filed l by k ps ok.reached ok.counted true spans k s below ∙
      rw (le-leb (first_counted l.clock k.day) s h, eq_key_refl k)

  -- a key of another ceder, of another acquirer
  with_other_ceder : (paired : Bool) (c a z d s : ℕ) → s < steps_of d → (live l k paired z d s && eqb c k.ceder) ≡ false →
      power (filed paired l by k ps) (key_from c a z d) s ≡ power l.records (key_from c a z d) s
  with_other_ceder paired c a z d s below e =
      power_kept paired c a z d s below
      (other_ceder (paired && leb (first_counted l.clock k.day) s) (eqb c k.ceder) (eqb a k.acquirer) (eqb z k.category) (eqb d k.day) e)

  with_other_acquirer : (paired : Bool) (c a z d s : ℕ) → s < steps_of d → (live l k paired z d s && eqb a k.acquirer) ≡ false →
      power (filed paired l by k ps) (key_from c a z d) s ≡ power l.records (key_from c a z d) s
  with_other_acquirer paired c a z d s below e =
      power_kept paired c a z d s below
      (other_acquirer (paired && leb (first_counted l.clock k.day) s) (eqb c k.ceder) (eqb a k.acquirer) (eqb z k.category) (eqb d k.day) e)

  -- ---- ceded

  pub ceded_kept : (paired : Bool) (x z d s : ℕ) → s < steps_of d → (live l k paired z d s && eqb x k.ceder) ≡ false →
      ceded (filed paired l by k ps) x z d s ≡ ceded l.records x z d s
  ceded_kept paired x z d s below e =
      ceded_keys (filed_in l by k ps paired) (parties_after paired) x z d s ∙
      sum_ext (length l.actors) (λ b. power (filed paired l by k ps) (key_from x b z d) s) (λ b. power l.records (key_from x b z d) s)
      (λ b. with_other_ceder paired x b z d s below e) ∙
      sym (ceded_keys l parties x z d s)

  pub ceded_moved : (s : ℕ) → first_counted l.clock k.day ≤ s → s < steps_of k.day →
      ceded (filed true l by k ps) k.ceder k.category k.day s + power l.records k s
      ≡ ceded l.records k.ceder k.category k.day s + get_or ps s 0
  ceded_moved s h below =
      let new = ceded_keys (filed_in l by k ps true) (parties_after true) k.ceder k.category k.day s in
      let old = ceded_keys l parties k.ceder k.category k.day s in
      let change =
      sum_update (length l.actors) k.acquirer (λ b. power (filed true l by k ps) (key_from k.ceder b k.category k.day) s)
      (λ b. power l.records (key_from k.ceder b k.category k.day) s)
      (λ b ne. with_other_acquirer true k.ceder b k.category k.day s below (simp (ne_eqb b k.acquirer ne, and-false)))
      ok.acquirer in
      omega (arith, new, old, change, power_moved s h below)

  -- ---- acquired

  pub acquired_kept : (paired : Bool) (x z d s : ℕ) → s < steps_of d → (live l k paired z d s && eqb x k.acquirer) ≡ false →
      acquired (filed paired l by k ps) x z d s ≡ acquired l.records x z d s
  acquired_kept paired x z d s below e =
      acquired_keys (filed_in l by k ps paired) (parties_after paired) x z d s ∙
      sum_ext (length l.actors) (λ c. power (filed paired l by k ps) (key_from c x z d) s) (λ c. power l.records (key_from c x z d) s)
      (λ c. with_other_acquirer paired c x z d s below e) ∙
      sym (acquired_keys l parties x z d s)

  pub acquired_moved : (s : ℕ) → first_counted l.clock k.day ≤ s → s < steps_of k.day →
      acquired (filed true l by k ps) k.acquirer k.category k.day s + power l.records k s
      ≡ acquired l.records k.acquirer k.category k.day s + get_or ps s 0
  acquired_moved s h below =
      let new = acquired_keys (filed_in l by k ps true) (parties_after true) k.acquirer k.category k.day s in
      let old = acquired_keys l parties k.acquirer k.category k.day s in
      let change =
      sum_update (length l.actors) k.ceder (λ c. power (filed true l by k ps) (key_from c k.acquirer k.category k.day) s)
      (λ c. power l.records (key_from c k.acquirer k.category k.day) s)
      (λ c ne. with_other_ceder true c k.acquirer k.category k.day s below (simp (ne_eqb c k.ceder ne, and-false)))
      ok.ceder in
      omega (arith, new, old, change, power_moved s h below)
