-- `newest::none_of_four` meets its contract: where it says so, no bit of the four is set.
use Rattle.tables.proofs.Fours.{four_none}
use Rattle.tables.proofs.LoadTable.{is_number}
use Rattle.tables.proofs.newest.none_of_four.Goals as goal

pub returns : goal.returns
returns g c =
    let a = c.args in
    four_none (is_number a.keys.now a.number) a.i
