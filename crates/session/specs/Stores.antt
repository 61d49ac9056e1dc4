-- The register that a store is, and the ledger that it holds.
use Rattle.std.specs.Prelude.{List, ℕ}
use Rattle.ledger.specs.Ledger.{Ledger}
use Rattle.tables.specs.Tables.{columns, load_columns}
use Rattle.register.specs.View.{Register, view, lent, held}
use Rattle.session.specs.declared.store.Store.{Store}

abbrev pub register_in : Store → Register
register_in s = lent s.head (columns s.statuses s.ids s.keys s.marks s.rows) (load_columns s.numbers s.approved s.loads)

abbrev pub ledger_in : Store → Ledger
ledger_in s = held (register_in s)

-- the same with other ids and approved powers
abbrev pub ledger_but : Store → (ids approved : List ℕ) → Ledger
ledger_but s ids approved = view s.head (columns s.statuses ids s.keys s.marks s.rows) (load_columns s.numbers approved s.loads)
