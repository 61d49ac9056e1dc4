-- `six_of` meets its contract: the bytes are six.
use mathlib.Core.Path.{sym}
use mir.Syntax.{w8}
use borrow.Kind.Array.{e_int, good_length}
use Rattle.notification.proofs.Names.{category_read}
use Rattle.register.proofs.showing.six_of.Goals as goal

pub returns : goal.returns
returns c = sym (category_read c.args.text (good_length (e_int w8) 6 c.args.text _ c.well_formed.0))
