-- `Head::enrol_actor` meets its contract: the verdict decides, and the head has one actor more.
use mathlib.Core.Path.{◌≡◌, sym, ◌∙◌, ap}
use Prim.Native.Nat.{◌<◌}
use lib.ListN.{length}
use Rattle.notification.proofs.Stored.{filled_all}
use Rattle.ledger.specs.Call.{enrol_actor}
use Rattle.ledger.specs.Calls.{verdict_of}
use Rattle.register.specs.View.{lent}
use Rattle.register.specs.Written.{seen}
use Rattle.register.specs.declared.Reply.{Reply}
use Rattle.register.proofs.CallTests.{no_columns, no_loads}
use Rattle.register.proofs.Parties.{head_entries}
use Rattle.register.proofs.Steps.{does_refused, actor_room, actor_done}
use Rattle.register.proofs.Head.enrol_actor.Goals as goal
use Rattle.register.proofs.Head.enrol_actor.Goals.{In_default}

-- an accepted actor has a code of 16 bytes, and a place
room : (c : In_default) →
    let a = c.args in (length a.code.now ≡ 16) × (a.self.actors.count < 8)
room c =
    let a = c.args in
    actor_room a.self no_columns no_loads a.code.now a.first a.last (head_entries a.self _ c.well_formed.0) (sym (c.actor_verdict.ensures no_columns no_loads) ∙ c.in_default.is)

pub returns-in-Err : goal.returns-in-Err
unfolding verdict_of
returns-in-Err c =
    let a = c.args in
    λ columns loads.
    ap (λ (y : Reply). seen (lent y.head columns loads) y.answer) c.refused.ensures
    ∙ does_refused (lent a.self columns loads) (enrol_actor a.code.now a.first a.last) _ _ (c.actor_verdict.ensures columns loads) c.in-Err.is

pub with-actors-requires : goal.with-actors-requires
with-actors-requires c = (room (goal.at.with-actors-requires c).In_default).1

pub returns : goal.returns
returns c =
    let a = c.args in
    λ columns loads.
    actor_done a.self columns loads a.code.now a.first a.last (head_entries a.self _ c.well_formed.0) (sym (c.actor_verdict.ensures columns loads) ∙ c.in_default.is)
    _ c.with-actors.result (c.in_bytes.ensures ∙ filled_all 16 a.code.now (room (goal.at.returns c).In_default).0) c.with-actors.ensures.1
