-- A line is a header where it is a key and `;`.
use mathlib.Core.Path.{ap, ◌∙◌}
use Rattle.std.specs.Prelude.{Option, is_some}
use Rattle.notification.specs.declared.Key.{Key}
use Rattle.reader.proofs.Frames.{header_unended, header_inside}
use Rattle.reader.proofs.keys.is_header.Goals as goal

pub returns-in-Some : goal.returns-in-Some
returns-in-Some c =
    header_inside c.args.line.now _ _ c.in-Some.ensures.cases.1 c.in-Some.ensures.cases.0 (c.is_some.ensures ∙ ap (λ (r : Option Key). is_some r) c.key_in.ensures)

pub returns-in-None : goal.returns-in-None
returns-in-None c = header_unended c.args.line.now c.in-None.ensures.cases
