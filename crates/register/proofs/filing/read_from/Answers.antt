-- An object that isn't read is refused as it is; one that is read is refused by 43, or is the submitter's own.
use mathlib.Core.Path.{sym, ◌∙◌}
use Rattle.std.proofs.lemmas.Result.{err_from_is_err_and}
use Rattle.register.proofs.Objects.{object_unread, object_origin, object_own}
use Rattle.register.proofs.filing.read_from.Goals as goal

pub returns-in_err-request : goal.returns-in_err-request
returns-in_err-request c =
    let a = c.args in
    let p = err_from_is_err_and c.from_residual.result c.from_residual.ensures.1 in
    rw (p.1, p.2) (object_unread a.submitter.now a.body.now _ (sym c.in_err-request.was ∙ c.read_object.ensures))

pub returns-in_err-refuse_if : goal.returns-in_err-refuse_if
returns-in_err-refuse_if c =
    let a = c.args in
    let p = err_from_is_err_and c.from_residual-in_err-refuse_if.result c.from_residual-in_err-refuse_if.ensures.1 in
    rw (p.1, p.2)
    (object_origin a.submitter.now a.body.now _ (sym c.in_ok-request.was ∙ c.read_object.ensures) _ c.is_text.ensures _ c.in_err-refuse_if.ensures)

pub returns : goal.returns
returns c =
    let a = c.args in
    object_own a.submitter.now a.body.now _ (sym c.in_ok-request.was ∙ c.read_object.ensures) _ c.is_text.ensures _ c.in_ok-refuse_if.ensures
