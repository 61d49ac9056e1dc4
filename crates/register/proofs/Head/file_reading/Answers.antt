-- `Head::file_reading` meets its contract: a form that was read is refused as it was read, or its notification is filed.
use mathlib.Core.Path.{sym, ap, ◌∙◌}
use Rattle.refusals.specs.Tests.{verdict}
use Rattle.notification.specs.Reading.{note_of}
use Rattle.tables.specs.Tables.{columns, load_columns}
use Rattle.register.specs.View.{Register, lent}
use Rattle.register.specs.Written.{seen, does_note}
use Rattle.register.specs.declared.Reply.{Reply}
use Rattle.ledger.specs.declared.Entry.TheVariants.{SevenDays}
use Rattle.register.proofs.Notes.{reading_refused, reading_passed}
use Rattle.register.proofs.Head.file_reading.Goals as goal
use Rattle.register.proofs.Head.file_reading.Goals.{Start}

-- the register that was lent
abbrev register : Start → Register
register b =
    let a = b.args in
    lent a.self (columns a.statuses.now a.ids.now a.keys.now a.marks.now a.rows.now)
    (load_columns a.numbers.now a.approved.now a.loads.now)

pub returns-in-Err : goal.returns-in-Err
returns-in-Err c =
    let a = c.args in
    let r = register (goal.at.returns-in-Err c).Start in
    ap (λ (y : Reply). seen (lent y.head r.columns r.loads) y.answer) c.refused.ensures
    ∙ reading_refused r SevenDays a.submitter.now a.reading _ (ap verdict c.in-Err.is)

pub returns-in-Ok : goal.returns-in-Ok
returns-in-Ok c =
    let a = c.args in
    let r = register (goal.at.returns-in-Ok c).Start in
    reading_passed r SevenDays a.submitter.now a.reading (ap verdict c.in-Ok.is) _
    (c.file_note.ensures ∙ ap (λ x. does_note r SevenDays a.submitter.now (note_of x)) (sym c.in-Ok.is))
