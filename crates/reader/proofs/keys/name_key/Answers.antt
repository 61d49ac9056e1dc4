-- A name is a key between its marks.
use mathlib.Core.Path.{◌∙◌}
use Rattle.reader.proofs.Frames.{name_unmarked, name_unended, name_marked}
use Rattle.reader.proofs.keys.name_key.Goals as goal

pub returns-in_err-rest : goal.returns-in_err-rest
returns-in_err-rest c = c.from_residual.ensures ∙ name_unmarked c.args.name.now c.in_err-rest.ensures.cases

pub returns-in_err-key : goal.returns-in_err-key
returns-in_err-key c =
    c.from_residual-in_err-key.ensures ∙ name_unended c.args.name.now _ c.in_ok-rest.ensures.cases.1 c.in_err-key.ensures.cases

pub returns : goal.returns
returns c =
    name_marked c.args.name.now _ c.in_ok-rest.ensures.cases.1 _ c.in_ok-key.ensures.cases.1 c.in_ok-rest.ensures.cases.0 c.in_ok-key.ensures.cases.0 _ c.key_in.ensures
