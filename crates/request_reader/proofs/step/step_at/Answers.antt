-- `step::step_at` meets its contract: its tokens stand one after another, or one of them is missing.
use mathlib.Core.Path.{refl}
use Rattle.request.specs.Objects.{from_name, until_name, power_name}
use Rattle.request_reader.proofs.Walks.{comma, brace, quoted_is}
use Rattle.request_reader.proofs.StepReads.{no_brace, no_label, no_comma, no_second, no_last, no_power, step_read}
use Rattle.request_reader.proofs.step.step_at.Goals as goal

pub after_mark-requires : goal.after_mark-requires
after_mark-requires c = (c.requires.0, brace)

pub returns-in_err-inner : goal.returns-in_err-inner
returns-in_err-inner c = rw c.from_residual.ensures (no_brace c.args.s.now c.args.at c.in_err-inner.ensures.walked)

pub label_member-requires : goal.label_member-requires
label_member-requires c = (c.in_ok-inner.ensures.walked.within, quoted_is from_name refl, c.requires.1, c.requires.2)

pub returns-in_err-first : goal.returns-in_err-first
returns-in_err-first c =
    rw c.from_residual-in_err-first.ensures (no_label c.args.s.now c.args.at _ c.in_ok-inner.ensures.walked c.in_err-first.ensures)

pub after_mark-requires-2 : goal.after_mark-requires-2
after_mark-requires-2 c = (c.in_ok-first.ensures.walked.within, comma)

pub returns-in_err-next : goal.returns-in_err-next
returns-in_err-next c =
    rw c.from_residual-in_err-next.ensures
    (no_comma c.args.s.now c.args.at _ c.in_ok-inner.ensures.walked _ _ _ c.in_ok-first.ensures c.in_err-next.ensures.walked)

pub label_member-requires-2 : goal.label_member-requires-2
label_member-requires-2 c = (c.in_ok-next.ensures.walked.within, quoted_is until_name refl, c.requires.3, c.requires.4)

pub returns-in_err-second : goal.returns-in_err-second
returns-in_err-second c =
    rw c.from_residual-in_err-second.ensures
    (no_second c.args.s.now c.args.at _ c.in_ok-inner.ensures.walked _ _ _ c.in_ok-first.ensures _ c.in_ok-next.ensures.walked c.in_err-second.ensures)

pub after_mark-requires-3 : goal.after_mark-requires-3
after_mark-requires-3 c = (c.in_ok-second.ensures.walked.within, comma)

pub returns-in_err-last : goal.returns-in_err-last
returns-in_err-last c =
    rw c.from_residual-in_err-last.ensures
    (no_last c.args.s.now c.args.at _ c.in_ok-inner.ensures.walked _ _ _ c.in_ok-first.ensures _ c.in_ok-next.ensures.walked _ _ _ c.in_ok-second.ensures
    c.in_err-last.ensures.walked)

pub power_member-requires : goal.power_member-requires
power_member-requires c = (c.in_ok-last.ensures.walked.within, quoted_is power_name refl)

pub returns-in_err-third : goal.returns-in_err-third
returns-in_err-third c =
    rw c.from_residual-in_err-third.ensures
    (no_power c.args.s.now c.args.at _ c.in_ok-inner.ensures.walked _ _ _ c.in_ok-first.ensures _ c.in_ok-next.ensures.walked _ _ _ c.in_ok-second.ensures _
    c.in_ok-last.ensures.walked c.in_err-third.ensures)

pub returns : goal.returns
returns c =
    rw c.say.ensures
    (step_read c.args.s.now c.args.at _ c.in_ok-inner.ensures.walked _ _ _ c.in_ok-first.ensures _ c.in_ok-next.ensures.walked _ _ _ c.in_ok-second.ensures _
    c.in_ok-last.ensures.walked _ _ c.in_ok-third.ensures)
