-- `members::category_member` meets its contract: a colon, a category in quotes, and a comma.
use mathlib.Core.List.{[], ◌∷◌}
use mathlib.Core.Path.{◌≡◌, refl, sym, ◌∙◌}
use mathlib.Core.Bool.{true}
use Prim.Native.Nat.{◌+◌, ◌≤◌}
use native.Mathlib.Omega.{arith}
use lib.ListN.{length}
use Rattle.notification.specs.Forms.{is_category, six_bytes}
use Rattle.request.specs.Tokens.{inside, is, quoted_by}
use Rattle.request.proofs.Unquoted.{category_unquoted}
use Rattle.request_reader.specs.Walking.{first_token, framed}
use Rattle.request_reader.proofs.Walks.{comma, missing_first}
use Rattle.request_reader.proofs.Values.{framed_parts}
use Rattle.request_reader.proofs.ValueForms.{category_long, part_cut, part_found, part_unframed, part_other, part_unended}
use Rattle.request_reader.proofs.members.category_member.Goals as goal
use Rattle.request_reader.proofs.members.category_member.Goals.{After-category_length-n, Else-not-is_framed}

quotes-stand : (c : Else-not-is_framed) → framed c.args.s.now c.in_ok-from.from c.category_length-n.result ≡ true
quotes-stand c = sym c.is_framed.ensures ∙ c.if-not-is_framed.false

-- the category and its quotes are within the bytes
framed-within : (c : Else-not-is_framed) → c.in_ok-from.from + c.category_length-n.result + 2 ≤ length c.args.s.now
framed-within c = (framed_parts c.args.s.now c.in_ok-from.from c.category_length-n.result (quotes-stand c)).0

-- a category at the value is as long as was measured
category-length-said : (c : After-category_length-n)
    → quoted_by is_category (first_token c.args.s.now c.in_ok-from.from) ≡ true
    → length (inside (first_token c.args.s.now c.in_ok-from.from)) ≡ c.category_length-n.result
category-length-said c e =
    let o = c.in_ok-from.ensures.opened in
    category_long c.args.s.now o.mid c.in_ok-from.from o.past e ∙ sym c.category_length-n.ensures.0

pub returns-in_err-from : goal.returns-in_err-from
returns-in_err-from c =
    rw c.from_residual.ensures
    (missing_first (is (58 ∷ []) ∷ []) (quoted_by is_category ∷ is (44 ∷ []) ∷ []) c.args.s.now c.args.at c.in_err-from.ensures.opened)

pub returns-then-not-is_framed : goal.returns-then-not-is_framed
returns-then-not-is_framed c =
    let from = c.in_ok-from.from in
    let n = c.category_length-n.result in
    part_unframed is_category category_unquoted _ _ from c.in_ok-from.ensures.opened n
    (category-length-said (goal.at.returns-then-not-is_framed c).After-category_length-n) (sym c.is_framed.ensures ∙ c.if-not-is_framed.true)

pub slice_bounds-category-end : goal.slice_bounds-category-end
slice_bounds-category-end c = omega (arith, framed-within c)

pub returns-then-not-is_category : goal.returns-then-not-is_category
returns-then-not-is_category c =
    let from = c.in_ok-from.from in
    let n = c.category_length-n.result in
    part_other is_category category_unquoted _ _ from c.in_ok-from.ensures.opened n
    (category-length-said (goal.at.returns-then-not-is_category c).After-category_length-n) _
    (part_cut _ from n (from + n + 1) refl) (sym c.is_category.ensures ∙ c.if-not-is_category.true)

pub after_mark-requires : goal.after_mark-requires
after_mark-requires c = (omega (arith, framed-within (goal.at.after_mark-requires c).Else-not-is_framed), comma)

pub returns-in_err-next : goal.returns-in_err-next
returns-in_err-next c =
    let from = c.in_ok-from.from in
    let n = c.category_length-n.result in
    rw c.from_residual-in_err-next.ensures
    (part_unended is_category category_unquoted _ _ from c.in_ok-from.ensures.opened n
    (category-length-said (goal.at.returns-in_err-next c).After-category_length-n) _
    (part_cut _ from n (from + n + 1) refl) (quotes-stand (goal.at.returns-in_err-next c).Else-not-is_framed)
    (sym c.is_category.ensures ∙ c.if-not-is_category.false) (from + n + 1 + 1) (omega arith) c.in_err-next.ensures.walked)

pub returns : goal.returns
returns c =
    let from = c.in_ok-from.from in
    let n = c.category_length-n.result in
    part_found is_category category_unquoted _ _ from c.in_ok-from.ensures.opened n
    (category-length-said (goal.at.returns c).After-category_length-n) _
    (part_cut _ from n (from + n + 1) refl) (quotes-stand (goal.at.returns c).Else-not-is_framed)
    (sym c.is_category.ensures ∙ c.if-not-is_category.false) (from + n + 1 + 1) (omega arith) six_bytes _ _ c.in_ok-next.ensures.walked c.in_bytes-value.ensures
