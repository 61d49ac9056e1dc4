-- `forms::is_category` meets its contract, by the two lengths that a category may have.
use Rattle.notification.proofs.Tested.{category_five, category_six, category_none}
use borrow.Author.Rules.{rules}
use Rattle.notification.proofs.forms.is_category.Goals as goal

pub returns-in-5 : goal.returns-in-5
returns-in-5 c = search (category_five, rules)

pub returns-in-6 : goal.returns-in-6
returns-in-6 c = search (category_six, rules)

pub returns-in_default : goal.returns-in_default
returns-in_default c = search (category_none, rules)
