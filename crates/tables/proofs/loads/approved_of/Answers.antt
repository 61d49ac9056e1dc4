-- `loads::approved_of` meets its contract: each arm knows what was found.
use mathlib.Core.Path.{◌∙◌}
use native.Mathlib.Omega.{arith}
use Rattle.tables.proofs.LoadTable.{most_at, most_past, most_nothing}
use Rattle.tables.proofs.loads.approved_of.Goals as goal

pub returns-in-Some : goal.returns-in-Some
returns-in-Some c = (c.from.ensures ∙ most_at _ _ _ c.if-i-lt-LOADS.true c.in-Some.is, omega (arith, c.fits-approved c.in-Some.i))

pub returns-in_default : goal.returns-in_default
returns-in_default c = (most_past _ _ _ c.if-i-lt-LOADS.false c.in-Some.is, omega arith)

pub returns-in_default-2 : goal.returns-in_default-2
returns-in_default-2 c = (most_nothing _ _ c.in_default.is, omega arith)
