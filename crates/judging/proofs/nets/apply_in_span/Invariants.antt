-- Each step passed has the power gained and given; no step has moved by more than one power.
use Rattle.std.proofs.Common.{◌≡◌, ℕ, ◌+◌, ◌<◌, ◌≤◌, Bool, cond, ◌&&◌, ltb, leb, List, length, get_or}
use Rattle.judging.proofs.nets.apply_in_span.Given as goal

-- what is so of a step and the number there before step s is reached
abbrev pub Applying : List ℕ → List ℕ → Bool → Bool → ℕ → ℕ → ℕ → ℕ → ℕ → Type 0
Applying net row gains gives from till s j x =
    (j < s →
    x + cond gives (cond (leb from j && ltb j till) (get_or row j 0) 0) 0
    ≡ get_or net j 0 + cond gains (cond (leb from j && ltb j till) (get_or row j 0) 0) 0)
    × (s ≤ j → x ≡ get_or net j 0)
    × (get_or net j 0 ≤ x + 65535)
    × (x ≤ get_or net j 0 + 65535)

abbrev pub invariant-loop-s : goal.invariant-loop-s
invariant-loop-s l =
    (length l.net ≡ 50) × ((j : ℕ) → Applying l.initial.net l.row l.gains l.gives l.from l.till l.s j (get_or l.net j 0))
