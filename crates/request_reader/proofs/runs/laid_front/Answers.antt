-- What is the same as in the other step, the four bytes of each label and the power, one after another.
use mathlib.Core.Path.{refl, sym, ◌∙◌}
use Rattle.request_reader.proofs.LaidFronts.{laid_again}
use Rattle.request_reader.proofs.runs.laid_front.Goals as goal

pub returns : goal.returns
returns c =
    let a = c.args in
    laid_again a.s.now a.t.now a.at a.lead a.i a.l c.requires.1 c.requires.3 c.requires.4 _ _ _ refl refl refl _ _
    (sym c.same_at.ensures ∙ c.if-not-same_at.false)
    (sym c.four_at.ensures ∙ c.if-not-four_at.false)
    (sym c.same_near.ensures ∙ c.if-not-same_near.false)
    (sym c.four_at-2.ensures ∙ c.if-not-four_at-2.false)
    (sym c.same_near-2.ensures ∙ c.if-not-same_near-2.false)
    (c.in_ok-v.ensures)
