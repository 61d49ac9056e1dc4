-- A comma ends the number.
use Rattle.script.proofs.Spelling.{spelt_ended}
use Rattle.script.proofs.numbers.ended_number.Goals as goal

pub returns-then-line-end-eq44 : goal.returns-then-line-end-eq44
returns-then-line-end-eq44 c = spelt_ended c.requires c.if-line-end-eq44.true
