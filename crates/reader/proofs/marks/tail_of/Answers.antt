-- Each way through the code is a way through the definition.
use mathlib.Core.Path.{refl}
use native.Mathlib.Omega.{arith}
use Rattle.reader.proofs.Figures.{one_digit, two_digits, three_digits, four_digits, tail_says}
use Rattle.reader.proofs.marks.tail_of.Goals as goal

pub returns-then-b-eq59 : goal.returns-then-b-eq59
returns-then-b-eq59 c =
    let x = c.args in
    tail_says x.a x.b x.c x.d x.e x.f _ 15 x.c _ c.ended.ensures
    (one_digit x.a x.b x.c x.d x.e _ c.digit_value-one.ensures c.if-one-gt9.false c.if-b-eq59.true)
    refl (omega arith) (omega arith)

pub returns-then-c-eq59 : goal.returns-then-c-eq59
returns-then-c-eq59 c =
    let x = c.args in
    tail_says x.a x.b x.c x.d x.e x.f _ 16 x.d _ c.ended-then-c-eq59.ensures
    (two_digits x.a x.b x.c x.d x.e _ _ c.digit_value-one.ensures c.if-one-gt9.false c.if-b-eq59.false
    c.digit_value-next.ensures c.if-next-gt9.false c.if-one-eq0.false c.if-c-eq59.true)
    refl (omega arith) (omega arith)

pub returns-then-d-eq59 : goal.returns-then-d-eq59
returns-then-d-eq59 c =
    let x = c.args in
    tail_says x.a x.b x.c x.d x.e x.f _ 17 x.e _ c.ended-then-d-eq59.ensures
    (three_digits x.a x.b x.c x.d x.e _ _ c.digit_value-one.ensures c.if-one-gt9.false c.if-b-eq59.false
    c.digit_value-next.ensures c.if-next-gt9.false c.if-one-eq0.false c.if-c-eq59.false _
    c.digit_value-next-2.ensures c.if-next-gt9-2.false c.if-d-eq59.true)
    refl (omega arith) (omega arith)

pub returns-then-e-eq59 : goal.returns-then-e-eq59
returns-then-e-eq59 c =
    let x = c.args in
    tail_says x.a x.b x.c x.d x.e x.f _ 18 x.f _ c.ended-then-e-eq59.ensures
    (four_digits x.a x.b x.c x.d x.e _ _ c.digit_value-one.ensures c.if-one-gt9.false c.if-b-eq59.false
    c.digit_value-next.ensures c.if-next-gt9.false c.if-one-eq0.false c.if-c-eq59.false _
    c.digit_value-next-2.ensures c.if-next-gt9-2.false c.if-d-eq59.false _ c.digit_value-next-3.ensures
    c.if-next-gt9-3.false c.if-e-eq59.true)
    refl (omega arith) (omega arith)
