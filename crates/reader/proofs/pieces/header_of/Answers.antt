-- `pieces::header_of` meets its contract: the bytes between the marks of a name, with `;` for `_`, then `;` and LF.
use native.Mathlib.Omega.{arith}
use Rattle.reader.proofs.NameLines.{name_long, header_short, header_full}
use Rattle.reader.proofs.pieces.header_of.Goals as goal

pub slice_bounds-parts-end : goal.slice_bounds-parts-end
slice_bounds-parts-end c = omega (arith, (name_long c.args.name.now c.requires).0)

pub returns-then-name-eq57 : goal.returns-then-name-eq57
returns-then-name-eq57 c =
    header_full c.args.name.now c.requires c.copy_from_slice.new.self c.copy_from_slice.ensures.after c.if-name-eq57.true

pub returns-else-name-eq57 : goal.returns-else-name-eq57
returns-else-name-eq57 c =
    header_short c.args.name.now c.requires c.copy_from_slice.new.self c.copy_from_slice.ensures.after c.if-name-eq57.false
