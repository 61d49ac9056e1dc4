-- The digits put so far are the last ones, and those before them are the digits of what is left.
use Prim.Native.Nat.{◌-◌, ◌≤◌}
use Rattle.script.proofs.Decimals.{Spelt}
use Rattle.script.proofs.digits.put_number.Given as goal

abbrev pub invariant-loop-place : goal.invariant-loop-place
invariant-loop-place l = (l.at ≤ l.place) × Spelt l.initial.out l.n (l.place - l.at) l.rest l.place l.out
