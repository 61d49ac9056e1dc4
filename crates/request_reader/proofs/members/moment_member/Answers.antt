-- `members::moment_member` meets its contract: a colon, twenty bytes of a moment in quotes, and a comma.
use mathlib.Core.List.{[], ◌∷◌}
use mathlib.Core.Path.{◌≡◌, sym, ◌∙◌}
use mathlib.Core.Bool.{true}
use Prim.Native.Nat.{◌+◌, ◌≤◌}
use native.Mathlib.Omega.{arith}
use lib.ListN.{length}
use Rattle.request.specs.Moments.{moment_in}
use Rattle.request.specs.Tokens.{is, quoted_by}
use Rattle.request_reader.specs.Heads.{is_timely}
use Rattle.request_reader.specs.Walking.{framed}
use Rattle.request_reader.proofs.Walks.{comma, missing_first}
use Rattle.request_reader.proofs.Values.{framed_parts}
use Rattle.request_reader.proofs.ValueForms.{moment_twenty, part_cut, part_found, part_unframed, part_other, part_unended}
use Rattle.request_reader.proofs.Heads.{timely_plain, timely_long, timely_none, timely_late, timely_good}
use Rattle.request_reader.proofs.members.moment_member.Goals as goal
use Rattle.request_reader.proofs.members.moment_member.Goals.{Else-not-is_framed}

quotes-stand : (c : Else-not-is_framed) → framed c.args.s.now c.in_ok-from.from 20 ≡ true
quotes-stand c = sym c.is_framed.ensures ∙ c.if-not-is_framed.false

-- the twenty bytes and their quotes are within the text
framed-within : (c : Else-not-is_framed) → c.in_ok-from.from + 20 + 2 ≤ length c.args.s.now
framed-within c = (framed_parts c.args.s.now c.in_ok-from.from 20 (quotes-stand c)).0

pub returns-in_err-from : goal.returns-in_err-from
returns-in_err-from c =
    rw c.from_residual.ensures
    (missing_first (is (58 ∷ []) ∷ []) (quoted_by (is_timely c.args.latest) ∷ is (44 ∷ []) ∷ []) c.args.s.now c.args.at c.in_err-from.ensures.opened)

pub returns-then-not-is_framed : goal.returns-then-not-is_framed
returns-then-not-is_framed c =
    let latest = c.args.latest in
    let from = c.in_ok-from.from in
    part_unframed (is_timely latest) (timely_plain latest) _ _ from c.in_ok-from.ensures.opened 20 (timely_long latest _ from moment_twenty)
    (sym c.is_framed.ensures ∙ c.if-not-is_framed.true)

pub slice_bounds-moment_of-end : goal.slice_bounds-moment_of-end
slice_bounds-moment_of-end c = omega (arith, framed-within c)

pub returns-in_err-value : goal.returns-in_err-value
returns-in_err-value c =
    let latest = c.args.latest in
    let from = c.in_ok-from.from in
    rw c.from_residual-in_err-value.ensures
    (part_other (is_timely latest) (timely_plain latest) _ _ from c.in_ok-from.ensures.opened 20 (timely_long latest _ from moment_twenty) _
    (part_cut _ from 20 (from + 21) (omega arith)) (timely_none latest _ c.in_err-value.ensures))

pub returns-then-latest-value : goal.returns-then-latest-value
returns-then-latest-value c =
    let latest = c.args.latest in
    let from = c.in_ok-from.from in
    part_other (is_timely latest) (timely_plain latest) _ _ from c.in_ok-from.ensures.opened 20 (timely_long latest _ from moment_twenty) _
    (part_cut _ from 20 (from + 21) (omega arith)) (timely_late latest _ _ c.in_ok-value.ensures c.if-latest-value.true)

pub after_mark-requires : goal.after_mark-requires
after_mark-requires c = (omega (arith, framed-within (goal.at.after_mark-requires c).Else-not-is_framed), comma)

pub returns-in_err-next : goal.returns-in_err-next
returns-in_err-next c =
    let latest = c.args.latest in
    let from = c.in_ok-from.from in
    rw c.from_residual-in_err-next.ensures
    (part_unended (is_timely latest) (timely_plain latest) _ _ from c.in_ok-from.ensures.opened 20 (timely_long latest _ from moment_twenty) _
    (part_cut _ from 20 (from + 21) (omega arith)) (quotes-stand (goal.at.returns-in_err-next c).Else-not-is_framed)
    (timely_good latest _ _ c.in_ok-value.ensures c.if-latest-value.false) (from + 22) (omega arith) c.in_err-next.ensures.walked)

pub returns : goal.returns
returns c =
    let latest = c.args.latest in
    let from = c.in_ok-from.from in
    part_found (is_timely latest) (timely_plain latest) _ _ from c.in_ok-from.ensures.opened 20 (timely_long latest _ from moment_twenty) _
    (part_cut _ from 20 (from + 21) (omega arith)) (quotes-stand (goal.at.returns c).Else-not-is_framed)
    (timely_good latest _ _ c.in_ok-value.ensures c.if-latest-value.false) (from + 22) (omega arith) moment_in _ _ c.in_ok-next.ensures.walked
    c.in_ok-value.ensures.1
