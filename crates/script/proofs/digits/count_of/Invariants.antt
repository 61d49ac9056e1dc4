-- Up to four digits are told by comparing. Of more, the digits counted and those of what is left are as many as all of them and one.
use mathlib.Core.Path.{◌≡◌}
use Prim.Native.Nat.{◌+◌, ◌<◌}
use lib.ListN.{length}
use Rattle.script.specs.Numbers.{decimal}
use Rattle.script.proofs.Decimals.{word_end}
use Rattle.script.proofs.digits.count_of.Given as goal

abbrev pub invariant-loop-rest : goal.invariant-loop-rest
invariant-loop-rest l = (l.count + length (decimal l.rest) ≡ length (decimal l.n) + 1) × (l.rest < word_end) × (l.n < word_end)

abbrev pub decreases-loop-rest : goal.decreases-loop-rest
decreases-loop-rest l = l.rest
