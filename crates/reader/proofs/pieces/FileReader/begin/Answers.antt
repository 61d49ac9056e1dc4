-- `FileReader::begin` meets its contract: the name is one or not, and its length is 6 more than its header's line with LF.
use native.Mathlib.Omega.{arith}
use Rattle.reader.proofs.NameLines.{name_long}
use Rattle.reader.proofs.Feeding.{named, begun_unnamed, begun_named}
use Rattle.reader.proofs.pieces.FileReader.begin.Goals as goal

pub header_of-requires : goal.header_of-requires
header_of-requires c = (named c.args.name.now _ c.in-Some.ensures).0

pub overflow_cast-name : goal.overflow_cast-name
overflow_cast-name c = omega (arith, (name_long c.args.name.now (named c.args.name.now _ c.in-Some.ensures).0).1)

pub returns-in-Some : goal.returns-in-Some
returns-in-Some c = begun_named c.args.name.now _ _ _ c.in-Some.ensures c.header_of.ensures c.fresh.ensures

pub returns-in-None : goal.returns-in-None
returns-in-None c = begun_unnamed c.args.name.now _ c.in-None.ensures c.fresh-in-None.ensures
