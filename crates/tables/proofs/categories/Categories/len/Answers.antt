-- `Categories::len` meets its contract: as many as are counted, and no more than there are places.
use mathlib.Core.Path.{sym, ◌∙◌}
use native.Mathlib.Omega.{arith}
use lib.ListN.{length-map}
use lib.Seq.{length-take-le}
use Rattle.tables.specs.Tables.{categories_in}
use Rattle.tables.proofs.Entries.{categories_length}
use Rattle.tables.proofs.categories.Categories.len.Goals as goal

pub returns : goal.returns
unfolding categories_in
returns c =
    let x = c.args.self in
    let l = categories_length x _ c.well_formed.0 in
    c.min.ensures ∙ rw length-map (sym (length-take-le _ x.entries (omega arith)))
