-- The steps without blanks, and after them those that are laid out as the step before.
use Rattle.std.proofs.Common.{rules}
use Rattle.request_reader.proofs.runs.steps_run.Goals as goal

pub is_wide-requires : goal.is_wide-requires
is_wide-requires c =
    let l = c.requires.3 c.in-Some.l c.in-Some.is in
    (l.to_from.on, l.to_until.on, l.to_power.on)

pub run-requires-clause-fronts : goal.run-requires-clause-fronts
run-requires-clause-fronts c =
    let laid = c.requires.3 c.in-Some.l c.in-Some.is in
    let wide = c.is_wide.ensures c.if-not-is_wide.false in
    search rules
