-- An engagement, a record, or nothing that is known.
use Rattle.session.proofs.Spans.{engagement_said, record_said, none_said}
use Rattle.session.proofs.asking.ask.Goals as goal

pub returns-in-Engagement : goal.returns-in-Engagement
returns-in-Engagement c approved = engagement_said _ _ _ c.in-Engagement.is (c.engaged.ensures _ approved)

pub returns-in-RecordOf : goal.returns-in-RecordOf
returns-in-RecordOf c approved = record_said _ _ _ c.in-RecordOf.is c.of_shown.ensures (c.record-answer.ensures _) c.first_text.ensures

pub returns-in_default : goal.returns-in_default
returns-in_default c approved = none_said _ _ _ c.in_default.not-Engagement c.in_default.not-RecordOf c.refused.ensures
