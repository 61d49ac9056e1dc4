-- `changing::change_all` meets its contract: the records below the place reached are changed, and the others are what they were.
use mathlib.Core.Path.{◌≡◌, ◌∙◌, subst}
use Prim.Native.Nat.{ℕ, ◌<◌}
use native.Mathlib.Omega.{arith}
use lib.ListN.{length}
use lib.Seq.{get_or-take}
use Rattle.tables.specs.Tables.{columns}
use Rattle.tables.specs.Passing.{is_under, reached}
use Rattle.tables.proofs.Listing.{listed_end}
use Rattle.recording.specs.Recording.{Changed}
use Rattle.recording.proofs.Changes.{changed_none, changed_same, changed_listed}
use Rattle.recording.proofs.changing.change_all.Goals as goal

pub loop-place-init : goal.loop-place-init
loop-place-init c =
    let p = c.args in (
      c.told-statuses,
      c.told-marks,
      (λ ids n l. changed_none p.paired p.clock p.by p.own p.ps
          (columns p.statuses.now ids p.keys.now p.marks.now p.rows.now)),
    )

pub loop-place-preserved : goal.loop-place-preserved
loop-place-preserved c =
    let p = c.args in
    let q = c.loop-place in
    let i = c.from-i.result in
    let h : i < length p.statuses.now = omega (arith, q.invariant.0) in
    let m : i < length p.marks.now = omega (arith, q.invariant.1) in (
      q.invariant.0,
      q.invariant.1,
      (λ ids n l.
          let cols = columns p.statuses.now ids p.keys.now p.marks.now p.rows.now in
          changed_listed p.paired p.clock p.by p.own p.ps cols n p.count q.place-index i p.places.now
          q.statuses _ q.marks _ l (omega arith) (c.from-i.ensures ∙ get_or-take p.count p.places.now q.place-index 0 (omega arith)) h m
          (q.invariant.2 ids n l) (c.change_at.ensures ids)),
    )

pub returns : goal.returns
returns c =
    let p = c.args in
    let q = c.loop-place in
    let e : q.place-index ≡ p.count = omega arith in
    λ ids n l.
    let cols = columns p.statuses.now ids p.keys.now p.marks.now p.rows.now in
    let so : ℕ → Type 0 = λ i. Changed p.paired p.clock p.by p.own p.ps i cols q.statuses q.marks in
    listed_end (is_under p.keys.now p.own) n p.count p.places.now l so
    (λ i e f. changed_same p.paired p.clock p.by p.own p.ps cols i q.statuses q.marks f e)
    (subst (λ j. so (reached p.places.now j)) e (q.invariant.2 ids n l))
