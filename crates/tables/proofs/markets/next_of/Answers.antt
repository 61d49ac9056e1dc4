-- The search from `k` on answers as the search from the start: the first record is passed alone, then four at once, then one by one.
use borrow.Author.Tests.{eq-eqb, ne_eqb}
use mathlib.Core.Path.{◌≡◌, sym, ap, ◌∙◌}
use Prim.Native.Nat.{◌-◌, min}
use native.Mathlib.Omega.{arith}
use lib.Count.{trailing_le}
use Rattle.lists.specs.Searches.{first_from}
use Rattle.lists.proofs.Searches.{first_here, first_past, first_end}
use Rattle.tables.specs.Passing.{in_market}
use Rattle.tables.proofs.Fours.{first_past_bits, first_at_bit}
use Rattle.tables.proofs.markets.next_of.Goals as goal

pub returns-then-last-i : goal.returns-then-last-i
returns-then-last-i c =
    let a = c.args in
    sym (first_end (in_market a.keys.now a.market) a.i (min a.n 256) (omega (arith, c.min-last.ensures)))

pub returns-then-keys-i : goal.returns-then-keys-i
returns-then-keys-i c =
    let a = c.args in
    sym (first_here (in_market a.keys.now a.market) a.i (min a.n 256) (omega (arith, c.min-last.ensures)) (eq-eqb _ _ c.if-keys-i.true))

pub loop-k-init : goal.loop-k-init
loop-k-init c =
    let a = c.args in
    let l = c.min-last in (
      omega arith,
      ap (λ m. first_from (in_market a.keys.now a.market) a.i (m - a.i)) (sym l.ensures)
          ∙ first_past (in_market a.keys.now a.market) a.i l.result (omega arith) (ne_eqb _ _ c.if-keys-i.false),
    )

pub overflow_add-result : goal.overflow_add-result
overflow_add-result c = omega (arith, trailing_le 32 c.bits_of_four-four.result)

pub returns-then-four-ne0 : goal.returns-then-four-ne0
returns-then-four-ne0 c =
    let b = c.loop-k in
    let a = c.args in
    let last = c.min-last.result in
    let f = c.bits_of_four-four.ensures in
    rw f
    (first_at_bit (in_market a.keys.now a.market) 32 b.k 4 last (omega arith) (omega arith) (λ e. c.if-four-ne0.true (f ∙ e))
    ∙ sym b.invariant.1)

pub loop-k-preserved : goal.loop-k-preserved
loop-k-preserved c =
    let b = c.loop-k in
    let a = c.args in
    let last = c.min-last.result in
    let f = c.bits_of_four-four.ensures in
    (omega arith, b.invariant.1 ∙ first_past_bits (in_market a.keys.now a.market) b.k 4 last (omega arith) (sym f ∙ c.if-four-ne0.false))

pub returns-then-keys-k : goal.returns-then-keys-k
returns-then-keys-k c =
    let b = c.loop-k-2 in
    let a = c.args in
    let last = c.min-last.result in
    sym (b.invariant.1 ∙ first_here (in_market a.keys.now a.market) b.k last (omega arith) (eq-eqb _ _ c.if-keys-k.true))

pub loop-k-2-preserved : goal.loop-k-2-preserved
loop-k-2-preserved c =
    let b = c.loop-k-2 in
    let a = c.args in
    let last = c.min-last.result in
    (omega arith, b.invariant.1 ∙ first_past (in_market a.keys.now a.market) b.k last (omega arith) (ne_eqb _ _ c.if-keys-k.false))

pub returns : goal.returns
returns c =
    let b = c.loop-k-2 in
    let a = c.args in
    let last = c.min-last.result in
    let e : b.k ≡ last = omega arith in
    sym (b.invariant.1 ∙ (first_end (in_market a.keys.now a.market) b.k last (omega arith) ∙ e))
