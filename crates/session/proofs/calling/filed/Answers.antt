-- Either the file can't be read, or it is filed.
use mathlib.Core.Path.{◌∙◌}
use Rattle.session.proofs.Spans.{none_filed, one_filed, settled}
use Rattle.session.proofs.calling.filed.Goals as goal

pub returns-in_default : goal.returns-in_default
returns-in_default c = rw c.in_default.is (none_filed _ _ _ c.refused.ensures)

pub returns : goal.returns
returns c =
    rw c.in-Some.is (settled c.file_reading-reply.result c.settle.ensures c.file_reading-reply.ensures ∙ one_filed _ c.in-Some.reading _ c.first_text.ensures)
