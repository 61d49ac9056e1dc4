-- `loading::none_above` meets its contract: what is known of the powers passed is whether none is above the approved one.
use borrow.Author.Rules.{rules}
use Rattle.register.proofs.CallTests.{above_more, above_all}
use Rattle.register.proofs.loading.none_above.Goals as goal

pub loop-p-preserved : goal.loop-p-preserved
loop-p-preserved c = search (above_more, rules)

pub returns : goal.returns
returns c =
    let l = c.loop-p in
    above_all c.args.powers.now c.args.most l.p-index l.good c.loop-p-test.false l.invariant
