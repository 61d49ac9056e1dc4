-- `writing::put_object` meets its contract: the codes, the terms, the steps and the end, one after the other.
use borrow.Author.Rules.{rules}
use mathlib.Core.Path.{◌≡◌}
use lib.ListN.{length}
use Rattle.request_writer.proofs.WholeObjects.{its_powers, room_actors, room_terms, room_steps, room_end, object_placed}
use Rattle.request_writer.proofs.writing.put_object.Goals as goal
use Rattle.request_writer.proofs.writing.put_object.Goals.{Start}

fifty : (a : Start) → length a.args.r.notification.powers ≡ 50
fifty a = search rules

pub put_actors-second-requires : goal.put_actors-second-requires
put_actors-second-requires c =
    room_actors c.args.r c.requires.0 (fifty (goal.at.put_actors-second-requires c).Start) c.args.buffer.now c.requires.1

pub put_terms-third-requires : goal.put_terms-third-requires
put_terms-third-requires c =
    room_terms c.args.r c.requires.0 (fifty (goal.at.put_terms-third-requires c).Start) c.args.buffer.now c.requires.1 _ _ c.put_actors-second.ensures

pub put_steps-end-requires : goal.put_steps-end-requires
put_steps-end-requires c =
    (its_powers c.args.r c.requires.0 (fifty (goal.at.put_steps-end-requires c).Start), room_steps c.args.r c.requires.0 (fifty (goal.at.put_steps-end-requires c).Start) c.args.buffer.now c.requires.1 _ _ c.put_actors-second.ensures _ _ c.put_terms-third.ensures)

pub put_text-requires : goal.put_text-requires
put_text-requires c =
    room_end c.args.r c.requires.0 (fifty (goal.at.put_text-requires c).Start) c.args.buffer.now c.requires.1 _ _ c.put_actors-second.ensures _ _ c.put_terms-third.ensures _ _ c.put_steps-end.ensures

pub returns : goal.returns
returns c =
    object_placed c.args.r c.requires.0 (fifty (goal.at.returns c).Start) c.args.buffer.now c.requires.1 _ _ c.put_actors-second.ensures _ _ c.put_terms-third.ensures
    _ _ c.put_steps-end.ensures _ _ c.put_text.ensures
