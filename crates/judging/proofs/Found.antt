-- What std's search of a range finds is what the definition of a search says.
use Rattle.std.specs.Prelude.{Option, Some, None, unwrap_or, MatchOption}
use Rattle.std.proofs.Common.{◌≡◌, true, false, true≢false, Bool, ℕ, ◌-◌, ◌<◌, ◌≤◌, sym, ◌∙◌, arith}
use Rattle.lists.specs.Searches.{first_from}
use Rattle.lists.proofs.Searches.{first_from_lem, first_before, first_passes, first_none}

-- the first number from `first` to before `until` that passes, or `until` where none does
pub first_found : (p : ℕ → Bool) (first until : ℕ) (r : Option ℕ) → first ≤ until →
    MatchOption r ((k : ℕ) → first ≤ k → k < until → p k ≡ false)
    (λ i. (first ≤ i) × (i < until) × (p i ≡ true) × ((k : ℕ) → first ≤ k → k < i → p k ≡ false)) →
    unwrap_or r until ≡ first_from p first (until - first)
first_found p first until None h none =
    let e = first_none p first (until - first) (λ k a b. none k a (omega arith)) in
    omega (arith, e)
first_found p first until (Some i) h d =
    let n = until - first in
    let f = first_from p first n in
    let none_less : f < i → ⊥ = λ l. true≢false (sym (first_passes p first n (omega arith)) ∙ d.3 f (first_from_lem p first n) l) in
    let none_more : i < f → ⊥ = λ l. true≢false (sym d.2 ∙ first_before p first n i d.0 l) in
    omega (arith, none_less, none_more)
