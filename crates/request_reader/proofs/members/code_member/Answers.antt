-- `members::code_member` meets its contract: a colon, sixteen characters of a code in quotes, and a comma.
use mathlib.Core.List.{[], ◌∷◌}
use mathlib.Core.Path.{◌≡◌, sym, ◌∙◌}
use mathlib.Core.Bool.{true}
use Prim.Native.Nat.{◌+◌, ◌≤◌}
use native.Mathlib.Omega.{arith}
use lib.ListN.{length}
use Rattle.notification.specs.Forms.{is_code}
use Rattle.request.specs.Tokens.{is, quoted_by}
use Rattle.request.proofs.Unquoted.{code_unquoted}
use Rattle.request_reader.specs.Walking.{framed}
use Rattle.request_reader.proofs.Walks.{comma, missing_first}
use Rattle.request_reader.proofs.Values.{framed_parts}
use Rattle.request_reader.proofs.ValueForms.{code_filled, code_long, part_cut, part_found, part_unframed, part_other, part_unended}
use Rattle.request_reader.proofs.members.code_member.Goals as goal
use Rattle.request_reader.proofs.members.code_member.Goals.{Else-not-is_framed}

quotes-stand : (c : Else-not-is_framed) → framed c.args.s.now c.in_ok-from.from 16 ≡ true
quotes-stand c = sym c.is_framed.ensures ∙ c.if-not-is_framed.false

-- the sixteen characters and their quotes are within the bytes
framed-within : (c : Else-not-is_framed) → c.in_ok-from.from + 16 + 2 ≤ length c.args.s.now
framed-within c = (framed_parts c.args.s.now c.in_ok-from.from 16 (quotes-stand c)).0

pub returns-in_err-from : goal.returns-in_err-from
returns-in_err-from c =
    rw c.from_residual.ensures
    (missing_first (is (58 ∷ []) ∷ []) (quoted_by is_code ∷ is (44 ∷ []) ∷ []) c.args.s.now c.args.at c.in_err-from.ensures.opened)

pub returns-then-not-is_framed : goal.returns-then-not-is_framed
returns-then-not-is_framed c =
    let from = c.in_ok-from.from in
    part_unframed is_code code_unquoted _ _ from c.in_ok-from.ensures.opened 16 (code_long _ from) (sym c.is_framed.ensures ∙ c.if-not-is_framed.true)

pub slice_bounds-code-end : goal.slice_bounds-code-end
slice_bounds-code-end c = omega (arith, framed-within c)

pub returns-then-not-is_code : goal.returns-then-not-is_code
returns-then-not-is_code c =
    let from = c.in_ok-from.from in
    part_other is_code code_unquoted _ _ from c.in_ok-from.ensures.opened 16 (code_long _ from) _
    (part_cut _ from 16 (from + 17) (omega arith)) (sym c.is_code.ensures ∙ c.if-not-is_code.true)

pub after_mark-requires : goal.after_mark-requires
after_mark-requires c = (omega (arith, framed-within (goal.at.after_mark-requires c).Else-not-is_framed), comma)

pub returns-in_err-next : goal.returns-in_err-next
returns-in_err-next c =
    let from = c.in_ok-from.from in
    rw c.from_residual-in_err-next.ensures
    (part_unended is_code code_unquoted _ _ from c.in_ok-from.ensures.opened 16 (code_long _ from) _
    (part_cut _ from 16 (from + 17) (omega arith)) (quotes-stand (goal.at.returns-in_err-next c).Else-not-is_framed)
    (sym c.is_code.ensures ∙ c.if-not-is_code.false) (from + 18) (omega arith) c.in_err-next.ensures.walked)

pub returns : goal.returns
returns c =
    let from = c.in_ok-from.from in
    let good = sym c.is_code.ensures ∙ c.if-not-is_code.false in
    part_found is_code code_unquoted _ _ from c.in_ok-from.ensures.opened 16 (code_long _ from) _
    (part_cut _ from 16 (from + 17) (omega arith)) (quotes-stand (goal.at.returns c).Else-not-is_framed)
    good (from + 18) (omega arith) (λ t. t) _ _ c.in_ok-next.ensures.walked (code_filled _ _ good c.in_bytes-value.ensures)
