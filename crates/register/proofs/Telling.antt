-- A reply in numbers and values tells what the call does.
use mathlib.Core.Path.{◌≡◌, ap, ◌∙◌}
use Rattle.answers.specs.Values.{said_of}
use Rattle.tables.specs.Tables.{Columns, LoadColumns}
use Rattle.register.specs.View.{lent}
use Rattle.register.specs.Written.{Done, seen}
use Rattle.register.specs.Told.{told, tells}
use Rattle.register.specs.declared.Reply.{Reply}
use Rattle.register.specs.declared.turning.Turn.{Turn}

pub tells_done : {t : Turn} {y : Reply} {columns : Columns} {loads : LoadColumns} {d : Done} →
    t ≡ record { head = y.head; said = said_of y.answer } → seen (lent y.head columns loads) y.answer ≡ d →
    tells (lent t.head columns loads) t.said ≡ told d
tells_done {columns = columns} {loads = loads} e f =
    ap (λ (t : Turn). tells (lent t.head columns loads) t.said) e ∙ ap told f
