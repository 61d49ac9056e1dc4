-- `runs::run` meets its contract: as long as the loop runs, what is kept now and the tokens from here on say what they said at first.
use native.Mathlib.Omega.{arith}
use Rattle.request_reader.proofs.RunLoops.{run_entries, run_more}
use Rattle.request_reader.proofs.RunStarts.{may_run}
use Rattle.request_reader.proofs.runs.run.Goals as goal

pub front-requires : goal.front-requires
front-requires g c =
    let a = c.args in
    let l = c.loop-k in
    let h = c.loop-k-test.true in
    let p = c.run_end-stop.ensures (omega (arith, l.invariant.on)) in
    let e = run_entries a.steps a.from.tally.lines c.run_end-stop.result a.s.now a.from.at _ p _ _ _ _ l.invariant h in
    (c.requires.fronts l.at l.i l.invariant.within (rw c.requires.known.2 e.0) (rw c.requires.known.2 e.1)).0

pub overflow_add-at : goal.overflow_add-at
overflow_add-at g c =
    let a = c.args in
    let l = c.loop-k in
    let h = c.loop-k-test.true in
    let p = c.run_end-stop.ensures (omega (arith, l.invariant.on)) in
    let e = run_entries a.steps a.from.tally.lines c.run_end-stop.result a.s.now a.from.at _ p _ _ _ _ l.invariant h in
    let says = (c.requires.fronts l.at l.i l.invariant.within (rw c.requires.known.2 e.0) (rw c.requires.known.2 e.1)).1 _ c.front.ensures in
    let w = rw c.in-Some.is at says in
    omega (arith, w.within)

pub loop-k-preserved : goal.loop-k-preserved
loop-k-preserved g c =
    let a = c.args in
    let l = c.loop-k in
    let m = may_run a.steps a.from.tally _ c.is_over.ensures c.if-is_over-steps.false in
    let h = c.loop-k-test.true in
    let p = c.run_end-stop.ensures (omega (arith, l.invariant.on)) in
    let e = run_entries a.steps a.from.tally.lines c.run_end-stop.result a.s.now a.from.at _ p _ _ _ _ l.invariant h in
    let says = (c.requires.fronts l.at l.i l.invariant.within (rw c.requires.known.2 e.0) (rw c.requires.known.2 e.1)).1 _ c.front.ensures in
    let w = rw (c.in-Some.is, c.requires.known.2) at says in
    run_more a.steps a.from.tally.lines c.run_end-stop.result a.s.now a.from.at _ p _ _ _ _ l.invariant h m.2 c.requires.known.1 _ _ w
