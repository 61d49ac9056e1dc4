-- `runs::first_step` meets its contract: the first step has the first two labels of the day.
use mathlib.Core.Path.{refl}
use native.Mathlib.Omega.{arith}
use Rattle.request_reader.proofs.LabelLists.{label_entry}
use Rattle.request_reader.proofs.RunStarts.{may_run, first_next}
use Rattle.request_reader.proofs.runs.first_step.Goals as goal

pub plain_front-requires : goal.plain_front-requires
plain_front-requires c =
    (omega (arith, c.requires.0), refl, refl, rw c.requires.2 (label_entry 0 (omega arith)), rw c.requires.2 (label_entry 1 (omega arith)))

pub returns-clause-next_step : goal.returns-clause-next_step
returns-clause-next_step c =
    let a = c.args in
    let w = rw c.requires.2 at c.in_ok-power.ensures in
    let m = may_run a.steps a.t _ c.is_over.ensures c.if-is_over-steps.false in
    first_next a.steps a.s.now a.at _ _ a.t a.powers.now (omega (arith, c.if-at-lt2.false)) c.if-t-ne0.false m.1 m.2 c.requires.1 w.1
