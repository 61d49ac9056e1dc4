-- `layouts::layout_at` meets its contract: a mark, a name and a colon stand up to each label and up to the power.
use mathlib.Core.Path.{refl}
use Prim.Native.Nat.{◌+◌}
use Rattle.request.specs.Tokens.{quoted}
use Rattle.request.specs.Objects.{from_name, until_name, power_name}
use Rattle.request_reader.specs.Walking.{Passed}
use Rattle.request_reader.specs.Steps.{before_from, before_until, before_power}
use Rattle.request_reader.proofs.Walks.{comma, brace, quoted_is}
use Rattle.request_reader.proofs.StepLayouts.{named_passed}
use Rattle.request_reader.proofs.ByteRuns.{to_seven}
use Rattle.request_reader.proofs.layouts.layout_at.Goals as goal
use Rattle.request_reader.proofs.layouts.layout_at.Goals.{In_ok-first, In_ok-second, In_ok-power}

-- what stands up to a label or to the power
to_from : (c : In_ok-first) → Passed before_from c.args.s.now c.args.at c.in_ok-first.first
to_from c =
    named_passed 123 (quoted from_name) c.args.s.now c.args.at _ _ _ c.in_ok-open.ensures.passed c.in_ok-debut.ensures.passed c.in_ok-first.ensures.passed

to_until : (c : In_ok-second) → Passed before_until c.args.s.now (c.in_ok-first.first + 7) c.in_ok-second.second
to_until c =
    named_passed 44 (quoted until_name) c.args.s.now _ _ _ _ c.in_ok-fin_comma.ensures.passed c.in_ok-fin.ensures.passed c.in_ok-second.ensures.passed

to_power : (c : In_ok-power) → Passed before_power c.args.s.now (c.in_ok-second.second + 7) c.in_ok-power.power
to_power c =
    named_passed 44 (quoted power_name) c.args.s.now _ _ _ _ c.in_ok-power_comma.ensures.passed c.in_ok-puissance.ensures.passed
    c.in_ok-power.ensures.passed

pub after_mark-requires : goal.after_mark-requires
after_mark-requires c = (c.requires, brace)

pub after_text-requires : goal.after_text-requires
after_text-requires c = (c.in_ok-open.ensures.walked.within, quoted_is from_name refl)

pub after_mark-requires-2 : goal.after_mark-requires-2
after_mark-requires-2 c = ((to_seven c.args.s.now c.in_ok-first.first c.in_ok-first.ensures.passed.within (c.is_five.ensures c.if-not-is_five.false)), comma)

pub after_text-requires-2 : goal.after_text-requires-2
after_text-requires-2 c = (c.in_ok-fin_comma.ensures.walked.within, quoted_is until_name refl)

pub after_mark-requires-3 : goal.after_mark-requires-3
after_mark-requires-3 c = ((to_seven c.args.s.now c.in_ok-second.second c.in_ok-second.ensures.passed.within (c.is_five-2.ensures c.if-not-is_five-2.false)), comma)

pub after_text-requires-3 : goal.after_text-requires-3
after_text-requires-3 c = (c.in_ok-power_comma.ensures.walked.within, quoted_is power_name refl)

pub returns-clause-laid_out : goal.returns-clause-laid_out
returns-clause-laid_out c =
    record {
      to_from = to_from (goal.at.returns-clause-laid_out c).In_ok-first;
      from_label = c.is_five.ensures c.if-not-is_five.false;
      to_until = to_until (goal.at.returns-clause-laid_out c).In_ok-second;
      until_label = c.is_five-2.ensures c.if-not-is_five-2.false;
      to_power = to_power (goal.at.returns-clause-laid_out c).In_ok-power;
    }
