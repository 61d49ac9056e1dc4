-- `comparing::same_text` meets its contract: texts of one length are compared pair by pair.
use mathlib.Core.Path.{◌∙◌}
use borrow.Author.Tests.{ne_eqb}
use Rattle.lists.proofs.Places.{same_none}
use Rattle.tables.proofs.Texts.{pairs_same}
use Rattle.tables.proofs.comparing.same_text.Goals as goal

pub returns-then-a-b : goal.returns-then-a-b
returns-then-a-b c = c.equal_pairs.ensures ∙ pairs_same c.args.a.now c.args.b.now c.if-a-b.true

pub returns-else-a-b : goal.returns-else-a-b
returns-else-a-b c = ne_eqb _ _ c.if-a-b.false ∙ same_none c.args.a.now c.args.b.now c.if-a-b.false
