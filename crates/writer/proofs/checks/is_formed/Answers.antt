-- `checks::is_formed` meets its contract: it tests the two codes and the category's text.
use Rattle.notification.proofs.Tested.{formed_tests}
use Rattle.writer.proofs.checks.is_formed.Goals as goal

pub returns : goal.returns
returns c =
    let n = c.category_length-n in
    formed_tests c.args.key _ _ _ n.result
    c.is_code.ensures c.is_code-2.ensures c.is_category.ensures n.ensures.0
