-- `texts::pair` meets its contract: its test is the definition's.
use Rattle.calendar.specs.Texts.{pair_of}
use Rattle.calendar.proofs.texts.pair.Goals as goal

pub returns-then-a-b : goal.returns-then-a-b
unfolding pair_of
returns-then-a-b c = rw c.if-a-b.true

pub returns-else-a-b : goal.returns-else-a-b
unfolding pair_of
returns-else-a-b c = rw c.if-a-b.false
