-- `series::told_step` meets its contract: the labels are those of the step's place, and what it says is told.
use mathlib.Core.Path.{ap, ◌∙◌}
use native.Mathlib.Omega.{arith}
use lib.ListN.{length}
use Rattle.lists.specs.Searches.{every}
use Rattle.request.specs.Reading.{is_label_byte}
use Rattle.request.proofs.Unquoted.{hour_label_lem, hour_length}
use Rattle.request_reader.proofs.SeriesReads.{next_told}
use Rattle.request_reader.proofs.series.told_step.Goals as goal

pub step_at-requires : goal.step_at-requires
step_at-requires c =
    let h = c.hour_label-from.ensures in
    let u = c.hour_label-until.ensures in (
      c.requires.0,
      ap (every is_label_byte) h.0 ∙ hour_label_lem c.args.steps _,
      omega (arith, ap length h.0, hour_length c.args.steps c.min-k.result),
      ap (every is_label_byte) u.0 ∙ hour_label_lem c.args.steps _,
      omega (arith, ap length u.0, hour_length c.args.steps c.min.result),
    )

pub returns-clause-told : goal.returns-clause-told
returns-clause-told c =
    let a = c.args in
    next_told a.steps _ _ _ _ a.s.now a.at _ _ _ _ c.min-k.ensures c.min.ensures
    c.hour_label-from.ensures.0 c.hour_label-until.ensures.0 c.in_ok-step.ensures c.tell.ensures
