-- THE REGISTER THAT A CALL LEAVES, the ledger that this holds, and WHAT IT SAYS in document 01's numbers and values.
use Rattle.ledger.specs.Ledger.{Ledger}
use Rattle.answers.specs.Values.{said_of}
use Rattle.answers.specs.declared.Said.{Said}
use Rattle.register.specs.View.{Register, held}
use Rattle.register.specs.Written.{Done}

pub record Told : Type 0 where
  pub register : Register
  pub ledger : Ledger
  pub said : Said

-- what is told of a call
abbrev pub told : Done → Told
told d = record { register = d.register; ledger = d.outcome.ledger; said = said_of d.outcome.answer }

-- what is seen of it: the register after it, the ledger that this holds, and what is said
abbrev pub tells : Register → Said → Told
tells r said = record { register = r; ledger = held r; said = said }
