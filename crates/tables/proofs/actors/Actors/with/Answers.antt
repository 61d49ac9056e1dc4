-- `Actors::with` meets its contract: the actor stands after those that were there.
use mathlib.Core.Path.{refl}
use Rattle.tables.proofs.Entries.{actors_length, actor_more}
use Rattle.tables.proofs.actors.Actors.with.Goals as goal

pub returns : goal.returns
returns c = let x = c.args.self in (actor_more x c.args.a (actors_length x _ c.well_formed.0) c.requires, refl)
