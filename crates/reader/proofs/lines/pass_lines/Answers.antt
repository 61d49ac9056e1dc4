-- After a header that is refused nothing more is kept; without a line nothing; else the first is judged.
use mathlib.Core.Path.{sym}
use native.Mathlib.Omega.{arith}
use lib.ListN.{drop}
use Rattle.notification.specs.Reading.{lines_in}
use Rattle.reader.specs.Walking.{LineEnd}
use Rattle.reader.specs.Folding.{with_powers}
use Rattle.reader.proofs.Ends.{line_ends, lines_over}
use Rattle.reader.proofs.Heads.{lines_stay, none_taken, other_taken}
use Rattle.reader.proofs.lines.pass_lines.Goals as goal
use Rattle.reader.proofs.lines.pass_lines.Goals.{After-byte_from-end}

-- the line that begins there, by its end

module _ (c : After-byte_from-end) where
  ended : LineEnd c.args.body.now c.args.from c.byte_from-end.result
  ended = line_ends _ c.requires.0 c.byte_from-end.ensures

pub returns-then-t-ne-NO_LINE : goal.returns-then-t-ne-NO_LINE
returns-then-t-ne-NO_LINE c =
    let a = c.args in record {
      by_index = λ steps powers. sym (lines_stay steps (with_powers a.t powers) (lines_in (drop a.from a.body.now)) c.if-t-ne-NO_LINE.true c.requires.1);
      at_value = c.rest_start-at.ensures;
    }

pub returns-then-body-end : goal.returns-then-body-end
returns-then-body-end c =
    let a = c.args in
    let none = lines_over a.body.now a.from _ (ended (goal.at.returns-then-body-end c).After-byte_from-end) c.if-body-end.true in record {
      by_index = λ steps powers. none_taken steps (with_powers a.t powers) (lines_in (drop a.from a.body.now)) none;
      at_value = c.rest_start-at.ensures;
    }

pub slice_bounds-other_header-count : goal.slice_bounds-other_header-count
slice_bounds-other_header-count c = omega (arith, (ended (goal.at.slice_bounds-other_header-count c).After-byte_from-end).after)

pub slice_bounds-other_header-start : goal.slice_bounds-other_header-start
slice_bounds-other_header-start c = omega (arith, (ended (goal.at.slice_bounds-other_header-start c).After-byte_from-end).after)

pub returns : goal.returns
returns c =
    let a = c.args in record {
      by_index = other_taken a.body.now a.from _ (ended (goal.at.returns c).After-byte_from-end) c.if-body-end.false a.t c.other_header.result
          c.if-t-ne-NO_LINE.false c.other_header.ensures;
      at_value = c.rest_start-at.ensures;
    }
