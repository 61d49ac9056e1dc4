-- `adding::totals_of` meets its contract: both sums are those of the records passed, from one of the category and day to the next.
use mathlib.Core.Path.{◌≡◌, refl, ◌∙◌, ap}
use mathlib.Core.List.{List}
use Prim.Native.Nat.{ℕ}
use native.Mathlib.Omega.{arith}
use Rattle.lists.specs.Sums.{sum_to}
use Rattle.tables.specs.Lent.{columns_of}
use Rattle.tables.specs.Tables.{Columns}
use Rattle.tables.specs.Passing.{in_market}
use Rattle.tables.proofs.Fours.{next_is}
use Rattle.recording.specs.Recording.{gained_at, given_at}
use Rattle.recording.proofs.Turns.{gained_through, given_through, gained_here, given_here}
use Rattle.recording.proofs.adding.totals_of.Goals as goal

pub loop-k-init : goal.loop-k-init
loop-k-init c = (omega arith, omega arith, omega arith, (λ ids. refl), (λ ids. refl))

pub loop-k-smaller : goal.loop-k-smaller
loop-k-smaller c =
    let q = c.loop-k in
    let p = c.args in
    omega (arith, (next_is (in_market p.records.keys.now p.market) q.i p.n c.next_of-k.result q.invariant.0 c.requires.0 c.next_of-k.ensures).from)

pub loop-k-preserved : goal.loop-k-preserved
loop-k-preserved c =
    let q = c.loop-k in
    let p = c.args in
    let cols : List ℕ → Columns = λ ids. columns_of p.records ids in
    let k = c.next_of-k.result in
    let next = next_is (in_market p.records.keys.now p.market) q.i p.n k q.invariant.0 c.requires.0 c.next_of-k.ensures in
    let gained : (ids : List ℕ) → q.gained ≡ sum_to k (gained_at (cols ids) p.market p.actor p.s) =
    λ ids.
    gained_through (cols ids) p.market p.actor p.s q.i k q.gained next.from next.before (q.invariant.3 ids) in
    let given : (ids : List ℕ) → q.given ≡ sum_to k (given_at (cols ids) p.market p.actor p.s) =
    λ ids.
    given_through (cols ids) p.market p.actor p.s q.i k q.given next.from next.before (q.invariant.4 ids) in
    let here = next.passes (omega arith) in
    let from = next.from in (
      omega arith,
      omega (arith, c.moved_where-gained.ensures.1),
      omega (arith, c.moved_where-given.ensures.1),
      (λ ids.
          gained_here (cols ids) p.market p.actor p.s k q.gained _ here (gained ids)
          (c.moved_where-gained.ensures.0 ids)),
      (λ ids.
          given_here (cols ids) p.market p.actor p.s k q.given _ here (given ids)
          (c.moved_where-given.ensures.0 ids)),
    )

pub returns : goal.returns
returns c =
    let q = c.loop-k in
    let p = c.args in
    let cols : List ℕ → Columns = λ ids. columns_of p.records ids in
    let k = c.next_of-k.result in
    let next = next_is (in_market p.records.keys.now p.market) q.i p.n k q.invariant.0 c.requires.0 c.next_of-k.ensures in
    let gained : (ids : List ℕ) → q.gained ≡ sum_to k (gained_at (cols ids) p.market p.actor p.s) =
    λ ids.
    gained_through (cols ids) p.market p.actor p.s q.i k q.gained next.from next.before (q.invariant.3 ids) in
    let given : (ids : List ℕ) → q.given ≡ sum_to k (given_at (cols ids) p.market p.actor p.s) =
    λ ids.
    given_through (cols ids) p.market p.actor p.s q.i k q.given next.from next.before (q.invariant.4 ids) in
    let e : k ≡ p.n = omega (arith, next.until) in
    let from = next.from in (
      (λ ids. (
        gained ids ∙ ap (λ m. sum_to m (gained_at (cols ids) p.market p.actor p.s)) e,
        given ids ∙ ap (λ m. sum_to m (given_at (cols ids) p.market p.actor p.s)) e,
      )),
      (omega arith, omega arith),
    )
