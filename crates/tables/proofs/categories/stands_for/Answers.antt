-- `categories::stands_for` meets its contract, by whether the category ends with a 0.
use mathlib.Core.Path.{◌∙◌, ap}
use Rattle.lists.specs.Searches.{same}
use Rattle.tables.proofs.Texts.{text_short, text_long}
use Rattle.tables.proofs.categories.stands_for.Goals as goal

pub returns-then-c-eq0 : goal.returns-then-c-eq0
returns-then-c-eq0 c =
    c.same_text.ensures ∙ ap (λ t. same t c.args.s.now) (text_short c.args.c c.if-c-eq0.true)

pub returns : goal.returns
returns c =
    c.same_text-2.ensures ∙ ap (λ t. same t c.args.s.now) (text_long c.args.c c.if-c-eq0.false)
