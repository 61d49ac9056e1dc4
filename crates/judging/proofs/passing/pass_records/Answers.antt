-- Both nets after the records passed, and the places of those under the key: from one record of the category and day to the next.
use Rattle.std.proofs.Common.{◌/◌, ◌<◌, arith}
use Rattle.tables.specs.Passing.{in_market}
use Rattle.tables.proofs.Fours.{next_is}
use Rattle.judging.specs.Nets.{Passing}
use Rattle.judging.proofs.Passed.{passed_next, passed_more, passed_between, passed_all}
use Rattle.judging.proofs.passing.pass_records.Goals as goal

pub pass_record-count-requires : goal.pass_record-count-requires
pass_record-count-requires c =
    let b = c.loop-k in
    let a = c.args in
    let few = c.requires.0 in
    let k = c.next_of-k.result in
    let is : Passing = record { ceder = b.ceder; acquirer = b.acquirer; places = b.places; count = b.count } in
    let next = next_is (in_market a.records.keys.now (a.own / 64)) b.i a.n k b.invariant.0 few c.next_of-k.ensures in
    let so =
    passed_next a.records.statuses.now a.records.keys.now a.records.marks.now a.records.rows.now a.own a.first a.until a.ceder.now
    a.acquirer.now b.i a.n k is next b.invariant.1 in
    let m : k < 256 = omega arith in
    let between = passed_between _ _ _ _ _ _ _ _ _ k is m so in (
      (m, so.under.few, c.requires.1),
      next.passes (omega arith),
      between.0,
      between.1,
    )

pub loop-k-smaller : goal.loop-k-smaller
loop-k-smaller c =
    let b = c.loop-k in
    let a = c.args in
    omega (arith, (next_is (in_market a.records.keys.now (a.own / 64)) b.i a.n c.next_of-k.result b.invariant.0 c.requires.0 c.next_of-k.ensures).from)

pub loop-k-preserved : goal.loop-k-preserved
loop-k-preserved c =
    let b = c.loop-k in
    let a = c.args in
    let few = c.requires.0 in
    let k = c.next_of-k.result in
    let is : Passing = record { ceder = b.ceder; acquirer = b.acquirer; places = b.places; count = b.count } in
    let next = next_is (in_market a.records.keys.now (a.own / 64)) b.i a.n k b.invariant.0 few c.next_of-k.ensures in
    let so =
    passed_next a.records.statuses.now a.records.keys.now a.records.marks.now a.records.rows.now a.own a.first a.until a.ceder.now
    a.acquirer.now b.i a.n k is next b.invariant.1 in
    (omega arith, passed_more _ _ _ _ _ _ _ _ _ k is _ c.pass_record-count.ensures so)

pub returns : goal.returns
returns c =
    let b = c.loop-k in
    let a = c.args in
    let few = c.requires.0 in
    let k = c.next_of-k.result in
    let is : Passing = record { ceder = b.ceder; acquirer = b.acquirer; places = b.places; count = b.count } in
    let next = next_is (in_market a.records.keys.now (a.own / 64)) b.i a.n k b.invariant.0 few c.next_of-k.ensures in
    let so =
    passed_next a.records.statuses.now a.records.keys.now a.records.marks.now a.records.rows.now a.own a.first a.until a.ceder.now
    a.acquirer.now b.i a.n k is next b.invariant.1 in
    passed_all _ _ _ _ _ _ _ _ _ a.n k is few (omega (arith, next.until)) so
