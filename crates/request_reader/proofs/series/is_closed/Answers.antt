-- `series::is_closed` meets its contract: two tokens, and then blanks at most.
use mathlib.Core.Path.{refl}
use Rattle.request_reader.specs.Walking.{is_mark}
use Rattle.request_reader.proofs.SeriesReads.{no_bracket, no_brace, closed_by}
use Rattle.request_reader.proofs.series.is_closed.Goals as goal

pub after_mark-requires : goal.after_mark-requires
unfolding is_mark
after_mark-requires c = (c.requires, refl)

pub after_mark-requires-2 : goal.after_mark-requires-2
unfolding is_mark
after_mark-requires-2 c = (c.in-Some.ensures.walked.within, refl)

pub returns-in_default : goal.returns-in_default
returns-in_default c = no_bracket c.args.s.now c.args.at c.in_default.ensures.walked

pub returns-in_default-after_mark : goal.returns-in_default-after_mark
returns-in_default-after_mark c =
    no_brace c.args.s.now c.args.at _ c.in-Some.ensures.walked c.in_default-after_mark.ensures.walked

pub returns : goal.returns
returns c =
    closed_by c.args.s.now c.args.at _ c.in-Some.ensures.walked _ _ c.in-Some-after_mark.ensures.walked c.past_blanks.ensures.past
