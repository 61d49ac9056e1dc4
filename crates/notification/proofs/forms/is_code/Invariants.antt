-- `forms::is_code` meets its contract: what is known of the bytes passed is whether each may stand in a code.
use mathlib.Core.Path.{◌≡◌}
use lib.ListN.{take}
use Rattle.lists.specs.Searches.{every}
use Rattle.notification.specs.Forms.{is_code_byte}
use Rattle.notification.proofs.forms.is_code.Given as goal

abbrev pub invariant-loop-b : goal.invariant-loop-b
invariant-loop-b l = l.good ≡ every is_code_byte (take l.b-index l.s)
