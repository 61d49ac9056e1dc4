-- `checks::category_length` meets its contract: a category of five digits ends with a 0.
use borrow.Kind.Array.{e_int, good_length}
use mir.Syntax.{w8}
use Rattle.notification.proofs.Tested.{category_short, category_long}
use Rattle.writer.proofs.checks.category_length.Goals as goal

pub returns-then-category-eq0 : goal.returns-then-category-eq0
returns-then-category-eq0 c = category_short c.args.category (good_length (e_int w8) 6 c.args.category _ c.well_formed.0) c.if-category-eq0.true

pub returns-else-category-eq0 : goal.returns-else-category-eq0
returns-else-category-eq0 c = category_long c.args.category (good_length (e_int w8) 6 c.args.category _ c.well_formed.0) c.if-category-eq0.false
