-- What the lines from here on come to is what all lines come to: each line that is answered is one step of the walk.
use Rattle.std.proofs.Common.{sym, refl, ◌∙◌, arith}
use Rattle.session.specs.Stores.{register_in}
use Rattle.lines.proofs.Names.{named_read, file_wanted}
use Rattle.lines.proofs.Walks.{Answers, filed_answers, others_answer, goes_on, at_room, at_file, no_line, its_line}
use Rattle.lines.proofs.answering.answer_lines.Goals as goal
use Rattle.lines.proofs.answering.answer_lines.Goals.{then-names_file+in-Some-given, else-names_file}

pub loop-stop-preserved : goal.loop-stop-preserved
loop-stop-preserved c =
    let i = c.loop-stop.invariant in
    let e = c.in-Some.ensures in
    let w = c.read_line-read.ensures in
    let n = c.names_file.ensures in
    let y : Answers (register_in c.loop-stop.store) (its_line i.1 e.0 e.1) c.loop-stop.given (register_in c.if-names_file.store) c.if-names_file.said =
    elim c.if-names_file.branch [
      | then-names_file+in-Some-given v ↦ filed_answers _ w _ v.store-is v.said-is (sym n ∙ v.if-names_file.true) v.in-Some-given.is v.filed-said.ensures
      | else-names_file v ↦ others_answer _ w _ v.store-is v.said-is _ (sym n ∙ v.if-names_file.false) v.answer-said.ensures
    ] in
    (i.0, goes_on i.1 e.0 e.1 c.has_room.ensures c.if-not-has_room.false y refl c.write_answer-out.ensures c.write_answer-out.auto.out)

pub returns-in_default : goal.returns-in_default
returns-in_default c = rw c.loop-stop.invariant.0 (no_line c.loop-stop.invariant.1 c.in_default.ensures)

pub returns-then-not-has_room : goal.returns-then-not-has_room
returns-then-not-has_room c =
    let e = c.in-Some.ensures in
    at_room c.loop-stop.invariant.1 e.0 e.1 c.has_room.ensures c.if-not-has_room.true

pub overflow_add-name : goal.overflow_add-name
overflow_add-name c =
    let f = sym c.names_file.ensures ∙ c.if-names_file.true in
    omega (arith, (named_read _ c.read_line-read.ensures f).inside, c.in-Some.ensures)

pub overflow_add-wants : goal.overflow_add-wants
overflow_add-wants c =
    let f = sym c.names_file.ensures ∙ c.if-names_file.true in
    omega (arith, (named_read _ c.read_line-read.ensures f).inside, c.in-Some.ensures.0.after, c.in-Some.ensures)

pub returns-in_default-given : goal.returns-in_default-given
returns-in_default-given c =
    let e = c.in-Some.ensures in
    let w = c.read_line-read.ensures in
    let f = sym c.names_file.ensures ∙ c.if-names_file.true in
    at_file c.loop-stop.invariant.1 e.0 e.1 c.has_room.ensures c.if-not-has_room.false (file_wanted _ w c.loop-stop.given f c.in_default-given.is, λ h. named_read _ w f) (omega arith)
