-- `Head::nets_of` meets its contract: both nets start from the loads' rows, and the records are passed.
use native.Mathlib.Omega.{arith}
use Rattle.calendar.proofs.StepCounts.{steps_small}
use Rattle.register.proofs.Records.{under_listed}
use Rattle.register.proofs.Fits.{netted_at}
use Rattle.register.proofs.Head.nets_of.Goals as goal

pub key_number-own-requires : goal.key_number-own-requires
key_number-own-requires c = let j = c.requires.0 in (j.ceder, j.acquirer, j.category, j.day)

pub pass_records-requires : goal.pass_records-requires
pass_records-requires c = (
  omega (arith, c.min-n.ensures),
  omega (arith, c.steps_of-until.ensures, steps_small c.args.at.day),
  c.start_net.ensures.between,
  c.start_net-2.ensures.between,
)

pub returns : goal.returns
returns c =
    let a = c.args in
    let own = c.key_number-own.ensures.0 in
    let few = c.min-n.ensures in (
      (λ ids.
          netted_at a.self _ a.rows.now a.ceders a.acquirers a.at _ _ _ _ _ _ own few c.first_counted-first.ensures
          c.steps_of-until.ensures c.start_net.ensures c.start_net-2.ensures (c.pass_records.ensures.0 ids)),
      under_listed a.self a.at _ own a.records.keys.now _ _ _ few c.pass_records.ensures.1,
    )
