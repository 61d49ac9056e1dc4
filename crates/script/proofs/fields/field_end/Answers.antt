-- The search for the comma ends where the field ends.
use Rattle.script.proofs.Parting.{field_ends}
use Rattle.script.proofs.fields.field_end.Goals as goal

pub returns : goal.returns
returns c = field_ends _ c.requires c.byte_from.ensures
