-- `Head::file` meets its contract: a file is read, and filed as it was read.
use mathlib.Core.Path.{◌∙◌}
use Rattle.tables.specs.Tables.{columns, load_columns}
use Rattle.register.specs.View.{Register, lent}
use Rattle.ledger.specs.Call.{csv}
use Rattle.ledger.specs.declared.Entry.TheVariants.{SevenDays}
use Rattle.register.proofs.Notes.{file_read, reading_does}
use Rattle.register.proofs.Head.file.Goals as goal
use Rattle.register.proofs.Head.file.Goals.{Start}

-- the register that was lent
abbrev register : Start → Register
register b =
    let a = b.args in
    lent a.self (columns a.statuses.now a.ids.now a.keys.now a.marks.now a.rows.now)
    (load_columns a.numbers.now a.approved.now a.loads.now)

pub returns : goal.returns
returns c =
    let a = c.args in
    c.file_reading.ensures
    ∙ reading_does (register (goal.at.returns c).Start) SevenDays a.submitter.now (csv a.name.now a.body.now) _
    (file_read a.submitter.now a.name.now a.body.now _ c.read_file-reading.ensures)
