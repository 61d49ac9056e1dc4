-- `step::label_member` meets its contract: the label wanted stands there, or another.
use mathlib.Core.List.{[], ◌∷◌}
use mathlib.Core.Path.{sym, ◌∙◌}
use Prim.Native.Nat.{◌+◌, ◌≤◌}
use lib.ListN.{length}
use Rattle.lists.specs.Searches.{every}
use Rattle.lists.proofs.Tests.{and_left}
use Rattle.request.specs.Reading.{is_label_byte}
use Rattle.request.specs.Tokens.{is, quoted_by}
use Rattle.request_reader.specs.Walking.{framed}
use Rattle.request_reader.proofs.Walks.{missing_first}
use Rattle.request_reader.proofs.Values.{framed_parts}
use Rattle.request_reader.proofs.StepReads.{label_right, label_other, value_missing}
use Rattle.request_reader.proofs.step.label_member.Goals as goal
use Rattle.request_reader.proofs.step.label_member.Goals.{Then-is_quoted_at}

framed-within : (c : Then-is_quoted_at) → c.in_ok-from.from + length c.args.wanted.now + 2 ≤ length c.args.s.now
framed-within c =
    let n = length c.args.wanted.now in
    (framed_parts c.args.s.now c.in_ok-from.from n (and_left (framed c.args.s.now c.in_ok-from.from n) _ (sym c.is_quoted_at.ensures ∙ c.if-is_quoted_at.true))).0

pub returns-in_err-from : goal.returns-in_err-from
returns-in_err-from c =
    rw c.from_residual.ensures
    (missing_first (is c.args.name.now ∷ is (58 ∷ []) ∷ []) (quoted_by (every is_label_byte) ∷ []) c.args.s.now c.args.at c.in_err-from.ensures)

pub returns-then-is_quoted_at : goal.returns-then-is_quoted_at
returns-then-is_quoted_at c =
    label_right c.args.name.now c.args.s.now c.args.at _ c.in_ok-from.ensures c.args.wanted.now
    c.requires.2 (sym c.is_quoted_at.ensures ∙ c.if-is_quoted_at.true)

pub returns-in_err-next : goal.returns-in_err-next
returns-in_err-next c =
    rw c.from_residual-in_err-next.ensures
    (value_missing c.args.name.now c.args.s.now c.args.at _ c.in_ok-from.ensures (quoted_by (every is_label_byte)) c.in_err-next.ensures)

pub returns : goal.returns
returns c =
    label_other c.args.name.now c.args.s.now c.args.at _ c.in_ok-from.ensures c.args.wanted.now _
    (sym c.is_quoted_at.ensures ∙ c.if-is_quoted_at.false) c.in_ok-next.ensures
