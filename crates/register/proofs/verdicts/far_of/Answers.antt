-- `verdicts::far_of` meets its contract: each entry has its refusal.
use mathlib.Core.Path.{◌≡◌, refl}
use Rattle.refusals.specs.declared.StateRefusal.TheVariants.{DayFar}
use Rattle.ledger.specs.Filing.{far_of}
use Rattle.ledger.specs.declared.Entry.{Entry}
use Rattle.ledger.specs.declared.Entry.TheVariants.{SevenDays}
use Rattle.register.proofs.verdicts.far_of.Goals as goal

of_entry : (e : Entry) → DayFar ≡ far_of e
of_entry SevenDays = refl

pub returns : goal.returns
returns c = of_entry c.args.entry
