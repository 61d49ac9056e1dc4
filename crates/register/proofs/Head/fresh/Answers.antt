-- `Head::fresh` meets its contract: every count is 0.
use mathlib.Core.Path.{ap}
use mathlib.Core.List.{[]}
use Rattle.calendar.specs.declared.clock.Clock.{Clock}
use Rattle.tables.specs.Tables.{actors_in, categories_in, loads_in, records_in}
use Rattle.ledger.specs.Ledger.{Ledger}
use Rattle.register.specs.View.{view}
use Rattle.register.specs.Written.{fresh_head, fresh_register, with_clock}
use Rattle.register.specs.declared.Fresh.{Fresh}
use Rattle.register.proofs.Head.fresh.Goals as goal

pub returns : goal.returns
unfolding view actors_in categories_in loads_in records_in
returns c =
    let at : Clock → Fresh = λ t.
    record { head = with_clock fresh_head t; statuses = fresh_register.statuses; ids = fresh_register.ids } in
    let held : Clock → Ledger = λ t. record { clock = t; actors = []; categories = []; loads = []; records = [] } in
    (ap at c.fresh.ensures, (λ columns loads. ap held c.fresh.ensures))
