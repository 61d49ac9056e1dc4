-- As long as the loop runs, what is kept now and the lines from here on come to what all lines come to.
use mathlib.Core.Path.{refl}
use Prim.Native.Nat.{◌+◌}
use native.Mathlib.Omega.{arith}
use Rattle.reader.specs.Walking.{times_text, six_at, LineAt}
use Rattle.reader.proofs.Taking.{no_fault}
use Rattle.reader.proofs.GoodLines.{good_on}
use Rattle.reader.proofs.steps.good_run.Goals as goal

pub loop-k-init : goal.loop-k-init
unfolding times_text
loop-k-init c =
    let e = c.half_hours.ensures.0 in (
      no_fault c.args.steps c.args.t _ c.is_over.ensures c.if-is_over.false,
      omega arith,
      omega arith,
      omega arith,
      refl,
      record { after = omega arith; within = c.requires.1; kept = refl; rest = refl },
    )

pub loop-k-preserved : goal.loop-k-preserved
unfolding times_text
loop-k-preserved c =
    let a = c.args in
    let l = c.loop-k in
    let p = c.run_end-stop.ensures c.if-stop-k.false in
    let w : LineAt a.body.now l.at (six_at times_text l.i) (six_at times_text (l.i + 6)) _ _ =
    c.in-Some.ensures in
    let r =
    good_on a.steps a.t.lines c.run_end-stop.result p c.requires.0 a.body.now l.k l.i l.at _ _ l.invariant.1
    c.loop-k-test.true l.invariant.3 w a.from _ a.t l.powers l.invariant.0 l.invariant.5 in
    (l.invariant.0, omega arith, omega arith, omega arith, l.invariant.4, r)
