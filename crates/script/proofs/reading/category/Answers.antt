-- The category is the rest of the line, where no comma stands in it.
use mathlib.Core.Path.{sym, ◌∙◌}
use Rattle.script.proofs.LineKinds.{category_cut, category_whole}
use Rattle.script.proofs.reading.category.Goals as goal

pub returns-then-has_byte : goal.returns-then-has_byte
returns-then-has_byte c = category_cut _ c.requires (sym c.has_byte.ensures ∙ c.if-has_byte.true)

pub returns : goal.returns
returns c = category_whole _ c.requires (sym c.has_byte.ensures ∙ c.if-has_byte.false)
