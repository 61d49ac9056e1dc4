-- `writing::lines_length` meets its contract: the sum so far is the length of the lines passed.
use mathlib.Core.Path.{◌≡◌}
use Prim.Native.Nat.{◌≤◌}
use lib.ListN.{length, take, drop}
use Rattle.writer.specs.Placing.{step_text, step_texts}
use Rattle.writer.proofs.writing.lines_length.Given as goal

abbrev pub invariant-loop-k : goal.invariant-loop-k
invariant-loop-k l =
    (l.sum ≡ length (step_texts (step_text l.steps) 0 (take l.k-iterator.a.start l.powers)))
    × (l.k-iterator.a.end ≡ l.steps) × (l.k-iterator.a.start ≤ l.steps)
    × (l.k-iterator.b.rest.now ≡ drop l.k-iterator.a.start l.powers)
