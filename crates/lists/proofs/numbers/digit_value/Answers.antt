-- A byte below the digits wraps.
use Rattle.std.proofs.Common.{arith}
use Rattle.lists.proofs.Digits.{value_wraps}
use Rattle.lists.proofs.numbers.digit_value.Goals as goal

pub returns : goal.returns
returns c = rw (c.from.ensures, c.from-2.ensures) (value_wraps c.args.b (omega (arith, c.ranges.b)))
