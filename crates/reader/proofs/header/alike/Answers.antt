-- Two texts are the same where the library's test of two slices says so.
use Rattle.reader.proofs.SameTexts.{same_slices}
use Rattle.reader.proofs.header.alike.Goals as goal

pub returns : goal.returns
returns c = same_slices _ _ c.eq.ensures
