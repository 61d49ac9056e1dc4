-- `Actors::len` meets its contract: as many as are counted, and no more than there are places.
use mathlib.Core.Path.{sym, ◌∙◌}
use native.Mathlib.Omega.{arith}
use lib.Seq.{length-take-le}
use Rattle.tables.specs.Tables.{actors_in}
use Rattle.tables.proofs.Entries.{actors_length}
use Rattle.tables.proofs.actors.Actors.len.Goals as goal

pub returns : goal.returns
unfolding actors_in
returns c =
    let x = c.args.self in
    let l = actors_length x _ c.well_formed.0 in
    c.min.ensures ∙ sym (length-take-le _ x.entries (omega arith))
