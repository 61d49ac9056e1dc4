-- `Categories::place_of_six` meets its contract, by whether the category ends with a 0.
use mathlib.Core.Path.{sym, ◌∙◌, ap}
use native.Mathlib.Omega.{arith}
use lib.Seq.{length-take-le}
use mir.Syntax.{w8}
use borrow.Kind.Array.{e_int, good_length}
use Rattle.ledger.specs.Ledger.{category_at}
use Rattle.tables.proofs.Texts.{text_short, text_long}
use Rattle.tables.proofs.categories.Categories.place_of_six.Goals as goal

pub slice_bounds-place-end : goal.slice_bounds-place-end
slice_bounds-place-end c =
    let n = good_length (e_int w8) 6 c.args.c _ c.well_formed.1.0 in
    sym (length-take-le 5 c.args.c (omega arith))

pub returns-then-c-eq0 : goal.returns-then-c-eq0
returns-then-c-eq0 c =
    c.place.ensures ∙ ap (category_at _) (text_short c.args.c c.if-c-eq0.true)

pub returns : goal.returns
returns c =
    c.place-2.ensures ∙ ap (category_at _) (text_long c.args.c c.if-c-eq0.false)
