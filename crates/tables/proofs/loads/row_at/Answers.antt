-- `loads::row_at` meets its contract: each arm of the match knows what was found.
use Rattle.tables.proofs.LoadTable.{row_found, row_past, row_nothing}
use Rattle.tables.proofs.loads.row_at.Goals as goal

pub returns-in-Some : goal.returns-in-Some
returns-in-Some c = row_found _ _ _ c.if-i-lt-LOADS.true c.in-Some.is

pub returns-in_default : goal.returns-in_default
returns-in_default c = row_past _ _ _ c.if-i-lt-LOADS.false c.in-Some.is

pub returns-in_default-2 : goal.returns-in_default-2
returns-in_default-2 c = row_nothing _ _ c.in_default.is
