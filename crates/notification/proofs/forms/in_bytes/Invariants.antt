-- `forms::in_bytes` meets its contract: as long as the loop runs, the bytes passed are copied.
use mathlib.Core.Path.{◌≡◌}
use lib.ListN.{length, take}
use Rattle.notification.specs.Forms.{filled}
use Rattle.notification.proofs.forms.in_bytes.Given as goal

abbrev pub invariant-loop-i : goal.invariant-loop-i
invariant-loop-i g l = (length l.b-items ≡ g.row.N) × (take l.i l.b-items ≡ take l.i (filled g.row.N l.s))
