-- `loading::none_above` meets its contract: what is known of the powers passed is whether none is above the approved one.
use mathlib.Core.Path.{◌≡◌}
use lib.ListN.{take}
use Rattle.register.proofs.CallTests.{not_above}
use Rattle.register.proofs.loading.none_above.Given as goal

abbrev pub invariant-loop-p : goal.invariant-loop-p
invariant-loop-p l = l.good ≡ not_above l.most (take l.p-index l.powers)
