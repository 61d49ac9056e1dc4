-- The comma is looked for from the place on, or after some bytes of which none is one.
use mathlib.Core.Path.{sym, ◌∙◌}
use native.Mathlib.Omega.{arith}
use Rattle.script.proofs.Parting.{field_ends, field_past}
use Rattle.script.proofs.fields.long_end.Goals as goal

pub returns-then-not-has_byte : goal.returns-then-not-has_byte
returns-then-not-has_byte g c =
    field_past _ (omega arith) (omega (arith, c.if-line-from.true, c.requires)) (sym c.has_byte.ensures ∙ c.if-not-has_byte.true) c.byte_from.ensures

pub returns : goal.returns
returns g c = field_ends _ c.requires c.byte_from-2.ensures
