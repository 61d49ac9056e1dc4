-- `Head::places` meets its contract: each search finds its place.
use mathlib.Core.Path.{sym}
use Rattle.register.proofs.Parties.{acquirer_length, placed}
use Rattle.register.proofs.Head.places.Goals as goal

pub slice_bounds-place-end-2 : goal.slice_bounds-place-end-2
slice_bounds-place-end-2 c =
    sym (acquirer_length c.args.n _ c.well_formed.1.1.0)

pub returns : goal.returns
returns c cols loads =
    placed c.args.self cols loads _ c.args.n _ _ _ _ c.place.ensures c.place-2.ensures c.place-3.ensures c.place_of_six.ensures
