-- `Categories::with` meets its contract: the category stands after those that were there.
use mathlib.Core.Path.{refl}
use Rattle.tables.proofs.Entries.{categories_length, category_more}
use Rattle.tables.proofs.categories.Categories.with.Goals as goal

pub returns : goal.returns
returns c = let x = c.args.self in (category_more x c.args.z (categories_length x _ c.well_formed.0) c.requires, refl)
