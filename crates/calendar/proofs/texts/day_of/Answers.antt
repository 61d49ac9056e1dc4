-- `texts::day_of` meets its contract: eight bytes are four pairs.
use Rattle.calendar.proofs.Reading.{not_eight, eight_read}
use Rattle.calendar.proofs.texts.day_of.Goals as goal

pub returns-then-s-ne-DIGITS : goal.returns-then-s-ne-DIGITS
returns-then-s-ne-DIGITS c = not_eight _ c.if-s-ne-DIGITS.true

pub returns : goal.returns
returns c =
    cc (eight_read c.args.s.now c.if-s-ne-DIGITS.false)
