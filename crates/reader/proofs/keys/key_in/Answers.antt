-- Each way through the code is one of the tests of a text's parts.
use mathlib.Core.Bool.{not}
use mathlib.Core.Path.{sym, ap, ◌∙◌}
use Rattle.notification.specs.Forms.{is_category, six_bytes}
use Rattle.lists.proofs.Parts.{rest_all}
use Rattle.reader.proofs.KeyParts.{read_short, read_long, read_wrong, read_no_day, read_key}
use Rattle.reader.proofs.keys.key_in.Goals as goal

pub returns-then-n-lt48 : goal.returns-then-n-lt48
returns-then-n-lt48 c =
    read_short c.args.by c.args.s.now c.if-n-lt48.true

pub returns-then-n-gt49 : goal.returns-then-n-gt49
returns-then-n-gt49 c =
    read_long c.args.by c.args.s.now c.if-n-gt49.true

pub returns-then-not-parted-is_code : goal.returns-then-not-parted-is_code
returns-then-not-parted-is_code c =
    read_wrong c.args.by c.args.s.now _ _ _ c.is_code.ensures c.is_code-2.ensures (c.is_category.ensures ∙ ap is_category (rest_all 43 c.args.s.now)) (ap not c.if-not-parted-is_code.true)

pub returns-in_err-day : goal.returns-in_err-day
returns-in_err-day c =
    c.from_residual.ensures ∙ read_no_day c.args.by c.args.s.now _ _ _ c.is_code.ensures c.is_code-2.ensures (c.is_category.ensures ∙ ap is_category (rest_all 43 c.args.s.now)) c.if-n-lt48.false c.if-n-gt49.false (ap not c.if-not-parted-is_code.false) (sym c.in_err-day.ensures)

pub returns : goal.returns
returns c =
    read_key c.args.by c.args.s.now _ _ _ c.is_code.ensures c.is_code-2.ensures (c.is_category.ensures ∙ ap is_category (rest_all 43 c.args.s.now)) c.if-n-lt48.false c.if-n-gt49.false (ap not c.if-not-parted-is_code.false) _ (sym c.in_ok-day.ensures)
    _ _ _ c.in_bytes.ensures c.in_bytes-2.ensures (c.in_bytes-3.ensures ∙ ap six_bytes (rest_all 43 c.args.s.now))
