-- `writing::object_length` meets its contract: what stands around the values, the category and the steps.
use borrow.Author.Rules.{rules}
use mathlib.Core.Path.{◌≡◌}
use native.Mathlib.Omega.{arith}
use lib.ListN.{length}
use Rattle.request_writer.proofs.WholeObjects.{its_powers, object_sum}
use Rattle.request_writer.proofs.writing.object_length.Goals as goal
use Rattle.request_writer.proofs.writing.object_length.Goals.{Start}

-- the places of the arrays
fifty : (a : Start) → length a.args.r.notification.powers ≡ 50
fifty a = search rules

six : (a : Start) → length a.args.r.notification.key.category ≡ 6
six a = search rules

ceder_length : (a : Start) → length a.args.r.notification.key.ceder ≡ 16
ceder_length a = search rules

acquirer_length : (a : Start) → length a.args.r.notification.key.acquirer ≡ 16
acquirer_length a = search rules

origin-length : (a : Start) → length a.args.r.origin ≡ 16
origin-length a = search rules

pub steps_length-requires : goal.steps_length-requires
steps_length-requires c =
    its_powers c.args.r c.requires (fifty (goal.at.steps_length-requires c).Start)

pub overflow_add-result : goal.overflow_add-result
overflow_add-result c =
    let m = c.category_length-head in
    omega (arith, m.ensures.2, six (goal.at.overflow_add-result c).Start, (object_sum c.args.r c.requires (fifty (goal.at.overflow_add-result c).Start) (ceder_length (goal.at.overflow_add-result c).Start) (acquirer_length (goal.at.overflow_add-result c).Start) (origin-length (goal.at.overflow_add-result c).Start) m.result c.steps_length.result m.ensures.1 c.steps_length.ensures).1)

pub returns : goal.returns
returns c =
    let m = c.category_length-head in
    (object_sum c.args.r c.requires (fifty (goal.at.returns c).Start) (ceder_length (goal.at.returns c).Start) (acquirer_length (goal.at.returns c).Start) (origin-length (goal.at.returns c).Start) m.result c.steps_length.result m.ensures.1 c.steps_length.ensures).0
