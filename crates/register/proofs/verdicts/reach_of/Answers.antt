-- `verdicts::reach_of` meets its contract: each entry has its reach.
use mathlib.Core.Path.{◌≡◌, refl}
use Rattle.ledger.specs.Filing.{reach_of}
use Rattle.ledger.specs.declared.Entry.{Entry}
use Rattle.ledger.specs.declared.Entry.TheVariants.{SevenDays}
use Rattle.register.proofs.verdicts.reach_of.Goals as goal

of_entry : (e : Entry) → 7 ≡ reach_of e
of_entry SevenDays = refl

pub returns : goal.returns
returns c = of_entry c.args.entry
