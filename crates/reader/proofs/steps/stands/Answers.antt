-- A part of a text and `;` stand at a place of a line where the part is what is there and the byte after it is `;`.
use Rattle.reader.proofs.SameTexts.{same_slices}
use Rattle.reader.proofs.Starts.{stands_short, stands_whole}
use Rattle.reader.proofs.steps.stands.Goals as goal

pub returns-then-line-end : goal.returns-then-line-end
returns-then-line-end c = stands_short c.args.line.now c.args.text.now c.args.at c.args.n c.requires.0 c.if-line-end.true

pub returns : goal.returns
returns c =
    let a = c.args in
    stands_whole a.line.now a.text.now a.at a.n c.requires.0 c.eq.result c.if-line-end.false (same_slices _ _ c.eq.ensures)
