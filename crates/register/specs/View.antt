-- A REGISTER, AND THE LEDGER THAT IT HOLDS with its head and its lent columns.
use Rattle.ledger.specs.Ledger.{Ledger}
use Rattle.tables.specs.Tables.{Columns, LoadColumns, actors_in, categories_in, loads_in, records_in}
use Rattle.register.specs.declared.Head.{Head}

-- a register: its head, and the columns of records and of loads that the caller lends with it
pub record Register : Type 0 where
  pub head : Head
  pub columns : Columns
  pub loads : LoadColumns

abbrev pub lent : Head → Columns → LoadColumns → Register
lent h columns loads = record { head = h; columns = columns; loads = loads }

unfoldable pub view : Head → Columns → LoadColumns → Ledger
view h columns loads =
    record {
      clock = h.clock;
      actors = actors_in h.actors;
      categories = categories_in h.categories;
      loads = loads_in h.loads loads;
      records = records_in h.records columns;
    }

-- the ledger that it holds
abbrev pub held : Register → Ledger
held r = view r.head r.columns r.loads
