-- `head::plain_terms` meets its contract: the category's member, and the two dates after it.
use Prim.Native.Nat.{◌+◌, ◌-◌}
use native.Mathlib.Omega.{arith}
use Rattle.request_reader.proofs.PlainMembers.{plain_terms}
use Rattle.request_reader.proofs.head.plain_terms.Goals as goal

pub returns : goal.returns
returns c =
    let a = c.args in
    let n = c.category_length-n.result in
    plain_terms a.s.now a.at n (a.at + 26 + n - (a.at + 26)) _ _ _ _ (omega arith)
    c.same_text.ensures c.if-not-same_text.false c.is_category.ensures
    c.if-not-is_category.false c.in_bytes.ensures c.plain_dates.ensures
