-- `changing::change_of` meets its contract: each way through the code is a case of the ledger's rules.
use mathlib.Core.Path.{sym, ◌∙◌, ap}
use mathlib.Core.Bool.{◌&&◌}
use Prim.Native.Nat.{◌/◌}
use Rattle.calendar.specs.Clocks.{replaces_whole}
use Rattle.tables.specs.Tables.{key_from, rec_of}
use Rattle.tables.proofs.Keys.{parts_own}
use Rattle.recording.proofs.Changes.{own_deleted, other_answered, other_kept, made_obsolete, made_updated, rest_kept}
use Rattle.recording.proofs.changing.change_of.Goals as goal

pub returns-then-from-by : goal.returns-then-from-by
returns-then-from-by c =
    let p = c.args in
    λ id.
    let e = own_deleted p.clock p.by (key_from p.own) p.ps.now (rec_of id p.status p.own p.mark p.row.now) (parts_own p.own) p.paired
    c.if-status-eq-CREATED.true (sym c.from.ensures ∙ c.if-from-by.true) in
    (sym (ap (λ x. x.status) e), sym (ap (λ x. x.until) e))

pub returns-then-paired-same_powers : goal.returns-then-paired-same_powers
returns-then-paired-same_powers c =
    let p = c.args in
    λ id.
    let e = other_answered p.clock p.by (key_from p.own) p.ps.now (rec_of id p.status p.own p.mark p.row.now) (parts_own p.own) p.paired
    (sym (ap (λ b. p.paired && b) c.same_powers.ensures) ∙ c.if-paired-same_powers.true) c.if-status-eq-CREATED.true (λ e. c.if-from-by.false (c.from.ensures ∙ e)) in
    (sym (ap (λ x. x.status) e), sym (ap (λ x. x.until) e))

pub returns-then-status-eq-CREATED : goal.returns-then-status-eq-CREATED
returns-then-status-eq-CREATED c =
    let p = c.args in
    λ id.
    let e = other_kept p.clock p.by (key_from p.own) p.ps.now (rec_of id p.status p.own p.mark p.row.now) (parts_own p.own) p.paired
    (sym (ap (λ b. p.paired && b) c.same_powers.ensures) ∙ c.if-paired-same_powers.false) c.if-status-eq-CREATED.true (λ e. c.if-from-by.false (c.from.ensures ∙ e)) in
    (sym (ap (λ x. x.status) e), sym (ap (λ x. x.until) e))

pub returns-then-replaces_whole : goal.returns-then-replaces_whole
returns-then-replaces_whole c =
    let p = c.args in
    λ id.
    let e = made_obsolete p.clock p.by (key_from p.own) p.ps.now (rec_of id p.status p.own p.mark p.row.now) (parts_own p.own) p.paired
    c.if-paired-status.true c.if-status-eq-CREATED.false
    (sym (c.replaces_whole.ensures ∙ ap (λ x. replaces_whole p.clock x (p.own / 256)) c.from-then-paired-status.ensures) ∙ c.if-replaces_whole.true) in
    (sym (ap (λ x. x.status) e), sym (ap (λ x. x.until) e))

pub returns-then-paired-status : goal.returns-then-paired-status
returns-then-paired-status c =
    let p = c.args in
    λ id.
    let e = made_updated p.clock p.by (key_from p.own) p.ps.now (rec_of id p.status p.own p.mark p.row.now) (parts_own p.own) p.paired
    c.if-paired-status.true c.if-status-eq-CREATED.false
    (sym (c.replaces_whole.ensures ∙ ap (λ x. replaces_whole p.clock x (p.own / 256)) c.from-then-paired-status.ensures) ∙ c.if-replaces_whole.false) in
    (sym (ap (λ x. x.status) e), c.first_counted-first.ensures ∙ sym (ap (λ x. x.until) e))

pub returns : goal.returns
returns c =
    let p = c.args in
    λ id.
    let e = rest_kept p.clock p.by (key_from p.own) p.ps.now (rec_of id p.status p.own p.mark p.row.now) (parts_own p.own) p.paired
    c.if-paired-status.false c.if-status-eq-CREATED.false in
    (sym (ap (λ x. x.status) e), sym (ap (λ x. x.until) e))
