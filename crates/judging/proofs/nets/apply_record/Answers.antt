-- A record is applied by its whole row, or step by step, or leaves the net as it is.
use Rattle.std.proofs.Common.{leb, arith, leb-true}
use Rattle.lists.proofs.Tests.{and_left, and_right}
use Rattle.judging.proofs.Netting.{alike, differs, applied_same, applied_past, applied_everywhere, applied_whole}
use Rattle.judging.proofs.nets.apply_record.Goals as goal

pub returns-then-gains-gives : goal.returns-then-gains-gives
returns-then-gains-gives c =
    let a = c.args in
    applied_same a.net.now a.gains a.gives a.mark a.row.now a.first a.until c.requires.1.fifty (alike a.gains a.gives c.if-gains-gives.true)

pub returns-then-till-first : goal.returns-then-till-first
returns-then-till-first c =
    let a = c.args in
    let till = c.from-till.ensures in
    applied_past a.net.now a.gains a.gives a.mark a.row.now a.first a.until c.requires.1.fifty (omega arith)

pub returns-then-from-first : goal.returns-then-from-first
returns-then-from-first c =
    let a = c.args in
    let from = c.from-from.ensures in
    let till = c.from-till.ensures in
    let f = c.from-from.result in
    let t = c.from-till.result in
    let span = c.if-from-first.true in
    applied_whole a.net.now a.gains a.gives a.mark a.row.now a.first a.until
    (omega (arith, leb-true f a.first (and_left (leb f a.first) (leb a.until t) span))) (omega (arith, leb-true a.until t (and_right (leb f a.first) (leb a.until t) span))) _ c.requires.0
    (differs a.gains a.gives c.if-gains-gives.false) c.move_row.ensures

pub returns : goal.returns
returns c =
    let a = c.args in
    applied_everywhere a.net.now a.gains a.gives a.mark a.row.now a.first a.until _ c.requires.0 c.apply_in_span.ensures
