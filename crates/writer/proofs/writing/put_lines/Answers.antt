-- `writing::put_lines` meets its contract: so far as it has come, the lines are put, and the other powers are left.
use borrow.Author.Rules.{rules}
use mathlib.Core.Path.{◌≡◌, ap}
use mathlib.Core.List.{◌∷◌}
use mathlib.Core.Logic.{inl, inr}
use Prim.Native.Nat.{◌+◌, ◌<◌, ◌≤◌}
use native.Mathlib.Omega.{arith}
use lib.ListN.{length, take, drop}
use Rattle.std.proofs.lemmas.List.{length-drop}
use Rattle.writer.specs.Placing.{step_text, step_texts}
use Rattle.writer.proofs.Placed.{placed_none}
use Rattle.writer.proofs.StepTexts.{step_power, step_room, step_placed, texts_placed, left_first, left_more}
use Rattle.writer.proofs.Pieces.{lines_texts}
use Rattle.writer.proofs.writing.put_lines.Goals as goal

pub loop-k-init : goal.loop-k-init
unfolding step_texts
loop-k-init c =
    let s : c.into_iter-k-iterator.result.a.start ≡ 0 = search rules in
    let e : c.into_iter-k-iterator.result.a.end ≡ c.args.steps = search rules in
    let r : c.into_iter-k-iterator.result.b.rest.now ≡ c.args.powers.now = search rules in
    (e, omega arith, rw s r, rw s (placed_none c.args.buffer.now c.args.at))

pub put_line-next-requires : goal.put_line-next-requires
put_line-next-requires c =
    let l = c.loop-k in
    let i = l.k-iterator.a.start in
    let k : c.in-Some.k ≡ i = search rules in
    let h : i < c.args.steps = search rules in
    let p = left_first c.args.powers.now c.next.new.self.b.rest.now i c.in-Some.power.now (search rules) in (
      rw k h,
      c.requires.0.few,
      rw p (step_power c.args.steps c.args.powers.now c.requires.0 i h),
      rw (k, p) (step_room (step_text c.args.steps) c.args.steps c.args.powers.now c.requires.0 i h _ _ _ _ l.invariant.3
          (rw (← lines_texts c.args.steps 0 (take c.args.steps c.args.powers.now)) at c.requires.1)),
    )

pub loop-k-preserved : goal.loop-k-preserved
loop-k-preserved c =
    let l = c.loop-k in
    let i = l.k-iterator.a.start in
    let t : c.next.new.self.a.start ≡ i + 1 = search rules in
    let k : c.in-Some.k ≡ i = search rules in
    let h : i < c.args.steps = search rules in
    let e : drop i c.args.powers.now ≡ c.in-Some.power.now ∷ c.next.new.self.b.rest.now = search rules in
    let p = left_first c.args.powers.now c.next.new.self.b.rest.now i c.in-Some.power.now e in (
      search rules,
      omega arith,
      rw t (left_more c.args.powers.now c.next.new.self.b.rest.now i c.in-Some.power.now e),
      rw t (step_placed (step_text c.args.steps) c.args.steps c.args.powers.now c.requires.0 i h _ _ _ _ l.invariant.3 _ _ (rw (k, p) at c.put_line-next.ensures)),
    )

pub returns : goal.returns
returns c =
    let l = c.loop-k in
    let i = l.k-iterator.a.start in
    let d : c.args.steps ≤ i =
    elim c.in-None.ensures.steps [ inl w ↦ search rules | inr w ↦ omega (arith, c.requires.0.there, length-drop i c.args.powers.now, ap length l.invariant.2, w.1.0) ]
    in
    rw (lines_texts c.args.steps 0 (take c.args.steps c.args.powers.now)) at
    (texts_placed (step_text c.args.steps) c.args.steps c.args.powers.now c.requires.0 _ _ _ _ i l.invariant.1 d l.invariant.3)
