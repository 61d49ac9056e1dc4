-- `pairing::is_paired` meets its contract: what is known of the records passed, from one listed place to the next, is whether
-- one of them is answered.
use mathlib.Core.Path.{◌≡◌, refl, sym, ◌∙◌, subst}
use mathlib.Core.Bool.{◌||◌}
use native.Mathlib.Omega.{arith}
use lib.ListN.{get_or}
use lib.Seq.{get_or-take}
use Rattle.std.proofs.Math.Bool.{or_comm}
use Rattle.ledger.specs.Filing.{answers}
use Rattle.tables.specs.Lent.{columns_of}
use Rattle.tables.specs.Tables.{key_from, record_in}
use Rattle.tables.specs.Passing.{is_under, reached}
use Rattle.tables.proofs.Listing.{listed_next, listed_end, reached_more}
use Rattle.recording.specs.Recording.{pairs_below}
use Rattle.recording.proofs.Changes.{pairs_next, pairs_same}
use Rattle.recording.proofs.pairing.is_paired.Goals as goal

pub loop-place-init : goal.loop-place-init
unfolding pairs_below
loop-place-init c = λ ids n l. refl

pub loop-place-preserved : goal.loop-place-preserved
loop-place-preserved c =
    let p = c.args in
    let q = c.loop-place in
    let i = get_or p.places.now q.place-index 0 in
    (λ ids n l.
    let cols = columns_of p.records ids in
    let before = listed_next (is_under p.records.keys.now p.own) n p.count p.places.now l
    (λ i. q.found ≡ pairs_below cols i p.by p.own p.ps)
    (λ i e f. pairs_same cols i p.by p.own p.ps q.found e f)
    q.place-index (omega arith) (q.invariant ids n l) in
    let here = subst (λ i. c.is_answered-found.result ≡ answers p.by (key_from p.own) p.ps (record_in cols i)) (c.from-at.ensures ∙ get_or-take p.count p.places.now q.place-index 0 (omega arith)) c.is_answered-found.ensures in
    or_comm q.found c.is_answered-found.result ∙ subst (λ m. (c.is_answered-found.result || q.found) ≡ pairs_below cols m p.by p.own p.ps) (sym (reached_more p.places.now q.place-index))
    (pairs_next cols i p.by p.own p.ps _ q.found here before))

pub returns : goal.returns
returns c =
    let p = c.args in
    let q = c.loop-place in
    let e : q.place-index ≡ p.count = omega arith in
    λ ids n l.
    let cols = columns_of p.records ids in
    listed_end (is_under p.records.keys.now p.own) n p.count p.places.now l
    (λ i. q.found ≡ pairs_below cols i p.by p.own p.ps)
    (λ i e f. pairs_same cols i p.by p.own p.ps q.found e f)
    (subst (λ j. q.found ≡ pairs_below cols (reached p.places.now j) p.by p.own p.ps) e (q.invariant ids n l))
