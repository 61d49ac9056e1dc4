-- `writing::lines_length` meets its contract: the sum so far is the length of the lines passed.
use borrow.Author.Rules.{rules}
use mathlib.Core.Path.{◌≡◌, ap, ◌∙◌}
use mathlib.Core.List.{◌∷◌}
use mathlib.Core.Logic.{inl, inr}
use Prim.Native.Nat.{◌+◌, ◌<◌, ◌≤◌}
use native.Mathlib.Omega.{arith}
use lib.ListN.{length, take, drop}
use Rattle.std.proofs.lemmas.List.{length-drop}
use Rattle.writer.specs.Placing.{step_text, step_texts}
use Rattle.writer.proofs.StepTexts.{sum_more, sum_fits, sum_all, left_first, left_more}
use Rattle.writer.proofs.Pieces.{lines_texts, line_most_lem}
use Rattle.writer.proofs.writing.lines_length.Goals as goal

pub loop-k-init : goal.loop-k-init
unfolding step_texts
loop-k-init c = search rules

pub overflow_add-sum : goal.overflow_add-sum
overflow_add-sum c =
    let l = c.loop-k in
    let i = l.k-iterator.a.start in
    let k : c.in-Some.k ≡ i = search rules in
    let h : i < c.args.steps = search rules in
    let p = left_first c.args.powers.now c.next.new.self.b.rest.now i c.in-Some.power.now (search rules) in
    omega
    (arith, c.requires.few, sum_fits (step_text c.args.steps) c.args.steps c.args.powers.now c.requires i h 26 (line_most_lem c.args.steps) l.sum c.line_length-sum.result l.invariant.0 (rw (k, p) at c.line_length-sum.ensures))

pub loop-k-preserved : goal.loop-k-preserved
loop-k-preserved c =
    let l = c.loop-k in
    let i = l.k-iterator.a.start in
    let t : c.next.new.self.a.start ≡ i + 1 = search rules in
    let k : c.in-Some.k ≡ i = search rules in
    let h : i < c.args.steps = search rules in
    let e : drop i c.args.powers.now ≡ c.in-Some.power.now ∷ c.next.new.self.b.rest.now = search rules in
    let p = left_first c.args.powers.now c.next.new.self.b.rest.now i c.in-Some.power.now e in (
      rw t (sum_more (step_text c.args.steps) c.args.steps c.args.powers.now c.requires i h l.sum c.line_length-sum.result l.invariant.0 (rw (k, p) at c.line_length-sum.ensures)),
      search rules,
      omega arith,
      rw t (left_more c.args.powers.now c.next.new.self.b.rest.now i c.in-Some.power.now e),
    )

pub returns : goal.returns
returns c =
    let l = c.loop-k in
    let i = l.k-iterator.a.start in
    let d : c.args.steps ≤ i =
    elim c.in-None.ensures.steps [ inl w ↦ search rules | inr w ↦ omega (arith, c.requires.there, length-drop i c.args.powers.now, ap length l.invariant.3, w.1.0) ]
    in
    sum_all (step_text c.args.steps) c.args.steps c.args.powers.now c.requires l.sum i l.invariant.2 d l.invariant.0
    ∙ ap length (lines_texts c.args.steps 0 (take c.args.steps c.args.powers.now))
