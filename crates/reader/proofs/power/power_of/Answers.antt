-- Each way through the code is a way through the definition.
use Rattle.reader.proofs.Figures.{no_first, one_digit, no_second, needless, two_digits, no_third, three_digits, no_fourth, four_digits, no_end}
use Rattle.reader.proofs.power.power_of.Goals as goal

pub returns-then-one-gt9 : goal.returns-then-one-gt9
returns-then-one-gt9 c = no_first _ _ _ _ _ _ c.digit_value-one.ensures c.if-one-gt9.true

pub returns-then-b-eq59 : goal.returns-then-b-eq59
returns-then-b-eq59 c = one_digit _ _ _ _ _ _ c.digit_value-one.ensures c.if-one-gt9.false c.if-b-eq59.true

pub returns-then-next-gt9 : goal.returns-then-next-gt9
returns-then-next-gt9 c = no_second _ _ _ _ _ _ _ c.digit_value-one.ensures c.if-one-gt9.false c.if-b-eq59.false c.digit_value-next.ensures c.if-next-gt9.true

pub returns-then-one-eq0 : goal.returns-then-one-eq0
returns-then-one-eq0 c =
    needless _ _ _ _ _ _ _ c.digit_value-one.ensures c.if-one-gt9.false c.if-b-eq59.false c.digit_value-next.ensures c.if-next-gt9.false c.if-one-eq0.true

pub returns-then-c-eq59 : goal.returns-then-c-eq59
returns-then-c-eq59 c =
    two_digits _ _ _ _ _ _ _ c.digit_value-one.ensures c.if-one-gt9.false c.if-b-eq59.false c.digit_value-next.ensures c.if-next-gt9.false c.if-one-eq0.false c.if-c-eq59.true

pub returns-then-next-gt9-2 : goal.returns-then-next-gt9-2
returns-then-next-gt9-2 c =
    no_third _ _ _ _ _ _ _ c.digit_value-one.ensures c.if-one-gt9.false c.if-b-eq59.false c.digit_value-next.ensures c.if-next-gt9.false c.if-one-eq0.false c.if-c-eq59.false _ c.digit_value-next-2.ensures c.if-next-gt9-2.true

pub returns-then-d-eq59 : goal.returns-then-d-eq59
returns-then-d-eq59 c =
    three_digits _ _ _ _ _ _ _ c.digit_value-one.ensures c.if-one-gt9.false c.if-b-eq59.false c.digit_value-next.ensures c.if-next-gt9.false c.if-one-eq0.false c.if-c-eq59.false _ c.digit_value-next-2.ensures c.if-next-gt9-2.false c.if-d-eq59.true

pub returns-then-next-gt9-3 : goal.returns-then-next-gt9-3
returns-then-next-gt9-3 c = no_fourth _ _ _ _ _ _ _ c.digit_value-one.ensures c.if-one-gt9.false c.if-b-eq59.false c.digit_value-next.ensures c.if-next-gt9.false c.if-one-eq0.false c.if-c-eq59.false _ c.digit_value-next-2.ensures c.if-next-gt9-2.false c.if-d-eq59.false _ c.digit_value-next-3.ensures c.if-next-gt9-3.true

pub returns-then-e-eq59 : goal.returns-then-e-eq59
returns-then-e-eq59 c = four_digits _ _ _ _ _ _ _ c.digit_value-one.ensures c.if-one-gt9.false c.if-b-eq59.false c.digit_value-next.ensures c.if-next-gt9.false c.if-one-eq0.false c.if-c-eq59.false _ c.digit_value-next-2.ensures c.if-next-gt9-2.false c.if-d-eq59.false _ c.digit_value-next-3.ensures c.if-next-gt9-3.false c.if-e-eq59.true

pub returns-else-e-eq59 : goal.returns-else-e-eq59
returns-else-e-eq59 c = no_end _ _ _ _ _ _ _ c.digit_value-one.ensures c.if-one-gt9.false c.if-b-eq59.false c.digit_value-next.ensures c.if-next-gt9.false c.if-one-eq0.false c.if-c-eq59.false _ c.digit_value-next-2.ensures c.if-next-gt9-2.false c.if-d-eq59.false _ c.digit_value-next-3.ensures c.if-next-gt9-3.false c.if-e-eq59.false
