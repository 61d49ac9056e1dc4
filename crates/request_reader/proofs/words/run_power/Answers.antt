-- `words::run_power` meets its contract: byte after byte is a digit, up to one that is none.
use mathlib.Core.Path.{ap, ◌∙◌}
use native.Mathlib.Omega.{arith}
use Rattle.lists.specs.Digits.{digit_value}
use Rattle.request_reader.proofs.DigitRuns.{run_of_one, run_of_two, run_of_three, run_of_four}
use Rattle.request_reader.proofs.words.run_power.Goals as goal

pub returns-then-next-gt9 : goal.returns-then-next-gt9
returns-then-next-gt9 c =
    run_of_one c.args.s.now c.args.a c.requires _ _
    c.digit_value-one.ensures
    c.if-one-gt9.false c.digit_value-next.ensures c.if-next-gt9.true

pub returns-then-next-gt9-2 : goal.returns-then-next-gt9-2
returns-then-next-gt9-2 c =
    run_of_two c.args.s.now c.args.a c.requires _ _ c.digit_value-one.ensures c.if-one-gt9.false
    c.digit_value-next.ensures c.if-next-gt9.false c.if-one-eq0.false
    _ c.digit_value-next-2.ensures c.if-next-gt9-2.true

pub returns-then-next-gt9-3 : goal.returns-then-next-gt9-3
returns-then-next-gt9-3 c =
    run_of_three c.args.s.now c.args.a c.requires _ _ c.digit_value-one.ensures c.if-one-gt9.false
    c.digit_value-next.ensures c.if-next-gt9.false c.if-one-eq0.false
    _ c.digit_value-next-2.ensures c.if-next-gt9-2.false
    _ c.digit_value-next-3.ensures c.if-next-gt9-3.true

pub returns : goal.returns
returns c =
    let last = c.digit_value.ensures ∙ ap digit_value c.byte_at.ensures in
    run_of_four c.args.s.now c.args.a c.requires _ _ c.digit_value-one.ensures c.if-one-gt9.false
    c.digit_value-next.ensures c.if-next-gt9.false c.if-one-eq0.false
    _ c.digit_value-next-2.ensures c.if-next-gt9-2.false
    _ c.digit_value-next-3.ensures c.if-next-gt9-3.false _ last (omega arith)
