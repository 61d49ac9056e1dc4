-- Each way through the code is a way through the definition.
use mathlib.Core.Bool.{not}
use mathlib.Core.Path.{sym, ap, ◌∙◌}
use native.Mathlib.Omega.{arith}
use Rattle.reader.proofs.Judging.{from_fits, until_fits, from_few, until_few, no_from, no_until, line_long, line_holds, line_gives, line_longer, line_none}
use Rattle.reader.proofs.steps.line_power.Goals as goal

pub stands-requires : goal.stands-requires
stands-requires c =
    (from_fits c.args.steps c.args.k c.args.line.now c.labels_of-labels.result c.requires.0 c.requires.1 c.labels_of-labels.ensures, omega (arith, from_few c.args.steps c.args.k c.args.line.now c.labels_of-labels.result c.requires.0 c.requires.1 c.labels_of-labels.ensures), omega arith)

pub returns-then-not-stands : goal.returns-then-not-stands
returns-then-not-stands c =
    no_from c.args.steps c.args.k c.args.line.now c.labels_of-labels.result c.requires.0 c.requires.1 c.labels_of-labels.ensures _ c.stands.ensures (ap not c.if-not-stands.true)

pub stands-requires-2 : goal.stands-requires-2
stands-requires-2 c =
    (until_fits c.args.steps c.args.k c.args.line.now c.labels_of-labels.result c.requires.0 c.requires.1 c.labels_of-labels.ensures, omega (arith, until_few c.args.steps c.args.k c.args.line.now c.labels_of-labels.result c.requires.0 c.requires.1 c.labels_of-labels.ensures), omega (arith, from_few c.args.steps c.args.k c.args.line.now c.labels_of-labels.result c.requires.0 c.requires.1 c.labels_of-labels.ensures))

pub returns-then-not-stands-2 : goal.returns-then-not-stands-2
returns-then-not-stands-2 c =
    no_until c.args.steps c.args.k c.args.line.now c.labels_of-labels.result c.requires.0 c.requires.1 c.labels_of-labels.ensures _ _ c.stands.ensures (ap not c.if-not-stands.false) c.stands-2.ensures (ap not c.if-not-stands-2.true)

pub power_at-requires : goal.power_at-requires
power_at-requires c =
    line_long c.args.steps c.args.k c.args.line.now c.labels_of-labels.result c.requires.0 c.requires.1 c.labels_of-labels.ensures _ _ c.stands.ensures (ap not c.if-not-stands.false) c.stands-2.ensures (ap not c.if-not-stands-2.false)

pub returns-in_default : goal.returns-in_default
returns-in_default c =
    line_none c.args.steps c.args.k c.args.line.now c.labels_of-labels.result c.requires.0 c.requires.1 c.labels_of-labels.ensures _ _ c.stands.ensures (ap not c.if-not-stands.false) c.stands-2.ensures (ap not c.if-not-stands-2.false) (sym c.in_default.is ∙ c.power_at.ensures)

pub overflow_add-at-3 : goal.overflow_add-at-3
overflow_add-at-3 c =
    omega (arith, line_holds c.args.steps c.args.k c.args.line.now c.labels_of-labels.result c.requires.0 c.requires.1 c.labels_of-labels.ensures _ _ c.stands.ensures (ap not c.if-not-stands.false) c.stands-2.ensures (ap not c.if-not-stands-2.false) _ _ (sym c.in-Some.is ∙ c.power_at.ensures))

pub returns-then-at-len : goal.returns-then-at-len
returns-then-at-len c =
    line_gives c.args.steps c.args.k c.args.line.now c.labels_of-labels.result c.requires.0 c.requires.1 c.labels_of-labels.ensures _ _ c.stands.ensures (ap not c.if-not-stands.false) c.stands-2.ensures (ap not c.if-not-stands-2.false) _ _ (sym c.in-Some.is ∙ c.power_at.ensures) c.if-at-len.true

pub returns-else-at-len : goal.returns-else-at-len
returns-else-at-len c =
    line_longer c.args.steps c.args.k c.args.line.now c.labels_of-labels.result c.requires.0 c.requires.1 c.labels_of-labels.ensures _ _ c.stands.ensures (ap not c.if-not-stands.false) c.stands-2.ensures (ap not c.if-not-stands-2.false) _ _ (sym c.in-Some.is ∙ c.power_at.ensures) c.if-at-len.false
