-- `Head::file_note` meets its contract: a notification is judged by its places, and recorded.
use mathlib.Core.Path.{sym, ap, ◌∙◌}
use Rattle.std.proofs.lemmas.Result.{IfOk-at_ok}
use Rattle.refusals.specs.Tests.{verdict}
use Rattle.tables.specs.Tables.{columns, load_columns}
use Rattle.register.specs.View.{Register, lent}
use Rattle.register.specs.Written.{seen}
use Rattle.register.specs.declared.Reply.{Reply}
use Rattle.register.proofs.Filings.{fileable_of}
use Rattle.register.proofs.Notes.{note_refused, note_passed}
use Rattle.register.proofs.Head.file_note.Goals as goal
use Rattle.register.proofs.Head.file_note.Goals.{Start}

-- the register that was lent
abbrev register : Start → Register
register b =
    let a = b.args in
    lent a.self (columns a.statuses.now a.ids.now a.keys.now a.marks.now a.rows.now)
    (load_columns a.numbers.now a.approved.now a.loads.now)

pub returns-in-Err : goal.returns-in-Err
returns-in-Err c =
    let a = c.args in
    let r = register (goal.at.returns-in-Err c).Start in
    ap (λ (y : Reply). seen (lent y.head r.columns r.loads) y.answer) c.refused.ensures
    ∙ note_refused r a.entry a.submitter.now a.n _ (c.places-at.ensures r.columns r.loads) _
    (c.judge.ensures.0 a.ids.now) _ (ap verdict c.in-Err.is)

pub record_note-requires : goal.record_note-requires
record_note-requires c =
    let a = c.args in
    let r = register (goal.at.record_note-requires c).Start in (
      fileable_of a.self r.columns r.loads a.entry c.places-at.result a.n.powers (sym (c.judge.ensures.0 a.ids.now) ∙ ap verdict c.in-Ok.is),
      IfOk-at_ok _ c.in-Ok.is c.judge.ensures.1,
    )

pub returns-in-Ok : goal.returns-in-Ok
returns-in-Ok c =
    let a = c.args in
    let r = register (goal.at.returns-in-Ok c).Start in
    note_passed r a.entry a.submitter.now a.n _ (c.places-at.ensures r.columns r.loads) _
    (c.judge.ensures.0 a.ids.now) (ap verdict c.in-Ok.is) _ (c.record_note.ensures r.loads)
