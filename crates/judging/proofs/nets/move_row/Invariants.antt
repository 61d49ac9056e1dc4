-- Each step passed has the row's power gained or given, and the others are what they were.
use Rattle.std.proofs.Common.{◌≡◌, ℕ, ◌+◌, ◌<◌, ◌≤◌, Bool, cond, List, length, get_or}
use Rattle.judging.proofs.nets.move_row.Given as goal

-- what is so of a step and the number there before step s is reached
abbrev pub Moving : List ℕ → Bool → List ℕ → ℕ → ℕ → ℕ → Type 0
Moving net gains row s j x =
    (j < s → (x + cond gains 0 (get_or row j 0) ≡ get_or net j 0 + cond gains (get_or row j 0) 0) × (get_or row j 0 ≤ 65535))
    × (s ≤ j → x ≡ get_or net j 0)

abbrev pub invariant-loop-s : goal.invariant-loop-s
invariant-loop-s l =
    (length l.net ≡ 50) × ((j : ℕ) → Moving l.initial.net l.gains l.row l.s j (get_or l.net j 0))
