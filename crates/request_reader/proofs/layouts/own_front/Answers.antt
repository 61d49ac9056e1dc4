-- `layouts::own_front` meets its contract: two labels are compared, and then the digits are read.
use mathlib.Core.Path.{sym, ◌∙◌}
use Rattle.request_reader.proofs.StepLayouts.{own_says}
use Rattle.request_reader.proofs.layouts.own_front.Goals as goal

pub returns : goal.returns
returns c =
    let a = c.args in
    own_says a.s.now a.t.now a.i a.l c.run_power.result (sym c.four_at.ensures ∙ c.if-not-four_at.false)
    (sym c.four_at-2.ensures ∙ c.if-not-four_at-2.false) c.run_power.ensures
