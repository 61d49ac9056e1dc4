-- `forms::is_code` meets its contract: what is known of the bytes passed is whether each may stand in a code.
use borrow.Author.Rules.{rules}
use native.Mathlib.Omega.{arith}
use Rattle.notification.proofs.Tested.{code_none, code_all}
use Rattle.notification.proofs.forms.is_code.Goals as goal

pub returns-then-s-ne16 : goal.returns-then-s-ne16
returns-then-s-ne16 c = search (code_none, rules)

pub returns : goal.returns
returns c = code_all c.args.s.now c.loop-b.b-index c.loop-b.good c.if-s-ne16.false (omega arith) c.loop-b.invariant
