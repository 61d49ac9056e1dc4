-- `markets::bits_of_four` meets its contract: each bit says whether its one of the four is of the category and day.
use native.Mathlib.Omega.{arith}
use Rattle.std.proofs.lemmas.Grind.{common_steps}
use Rattle.tables.specs.Passing.{in_market}
use Rattle.tables.proofs.Fours.{four_bits}
use Rattle.tables.proofs.markets.bits_of_four.Goals as goal

pub returns : goal.returns
returns c =
    let a = c.args in
    grind (arith, common_steps, four_bits (in_market a.keys.now a.market) a.i)
