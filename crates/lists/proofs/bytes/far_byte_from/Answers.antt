-- The search from the place on is the one asked for, since the sixteen bytes that are passed at once don't have the byte.
use mathlib.Core.Path.{◌≡◌, sym, ◌∙◌}
use mathlib.Core.Bool.{Bool, false}
use mathlib.Core.List.{List}
use Prim.Native.Nat.{ℕ, ◌+◌, ◌-◌}
use native.Mathlib.Omega.{arith}
use lib.ListN.{take, drop}
use Rattle.lists.specs.Searches.{some, is_byte}
use Rattle.lists.proofs.ByteSearch.{bytes_past}
use Rattle.lists.proofs.bytes.far_byte_from.Goals as goal

-- a part of sixteen bytes from a place on
sixteen : (i : ℕ) (b : ℕ) (s : List ℕ) {r : Bool} → r ≡ some (is_byte b) (take (i + 16 - i) (drop i s)) → r ≡ false →
    some (is_byte b) (take 16 (drop i s)) ≡ false
sixteen i b s e f = let n : i + 16 - i ≡ 16 = omega arith in sym (rw n at e) ∙ f

pub loop-i-preserved : goal.loop-i-preserved
loop-i-preserved c =
    let a = c.args in
    let l = c.loop-i in
    bytes_past a.b a.s.now l.i 16 (omega arith) (sixteen l.i _ _ c.has_byte.ensures c.if-has_byte.false) ∙ l.invariant
