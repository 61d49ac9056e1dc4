-- The columns of the structs in which the code hands them on.
use Rattle.std.specs.Prelude.{List, ℕ}
use Rattle.tables.specs.declared.loads.Loads.{Loads}
use Rattle.tables.specs.declared.records.Records.{Records}
use Rattle.tables.specs.Tables.{Columns, LoadColumns, columns, load_columns}

-- the records' columns that are lent, with a column of ids
abbrev pub columns_of : Records → List ℕ → Columns
columns_of records ids = columns records.statuses.now ids records.keys.now records.marks.now records.rows.now

-- the loads' columns that are lent
abbrev pub loads_of : Loads → LoadColumns
loads_of loads = load_columns loads.numbers.now loads.approved.now loads.rows.now
