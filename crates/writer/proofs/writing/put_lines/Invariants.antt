-- `writing::put_lines` meets its contract: so far as it has come, the lines are put, and the other powers are left.
use mathlib.Core.Path.{◌≡◌}
use Prim.Native.Nat.{◌≤◌}
use lib.ListN.{take, drop}
use Rattle.writer.specs.Placing.{Placed, step_text, step_texts}
use Rattle.writer.proofs.writing.put_lines.Given as goal

abbrev pub invariant-loop-k : goal.invariant-loop-k
invariant-loop-k l =
    (l.k-iterator.a.end ≡ l.steps) × (l.k-iterator.a.start ≤ l.steps) × (l.k-iterator.b.rest.now ≡ drop l.k-iterator.a.start l.powers)
    × Placed l.initial.buffer l.at (step_texts (step_text l.steps) 0 (take l.k-iterator.a.start l.powers)) l.buffer l.next
