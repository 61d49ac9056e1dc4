-- `Head::record_note` meets its contract: the records before are changed, and the new one stands first.
use native.Mathlib.Omega.{arith}
use Prim.Native.Nat.{◌≤◌, ◌<◌}
use Rattle.calendar.specs.Steps.{steps_of}
use Rattle.calendar.proofs.StepCounts.{steps_small}
use Rattle.tables.specs.Tables.{columns}
use Rattle.register.proofs.Records.{first_small, record_done, listed_under}
use Rattle.register.proofs.Head.record_note.Goals as goal
use Rattle.register.proofs.Head.record_note.Goals.{After-status_of-status, Start}

-- there are no more places than records
few : (b : Start) → b.args.count ≤ 256
few b = omega (arith, b.requires.1.few)

-- what is known of the filing once its status is
module _ (c : After-status_of-status) where
  room : c.args.self.records < 256
  room = c.requires.0.room

  steps : steps_of c.args.at.day ≤ 50
  steps = steps_small c.args.at.day

pub key_number-own-requires : goal.key_number-own-requires
key_number-own-requires c = let j = c.requires.0.judgeable in (j.ceder, j.acquirer, j.category, j.day)

pub is_paired-paired-requires : goal.is_paired-paired-requires
is_paired-paired-requires c = few (goal.at.is_paired-paired-requires c).Start

pub change_all-requires : goal.change_all-requires
change_all-requires c =
    (few (goal.at.change_all-requires c).Start, first_small c.args.self c.args.at _ c.requires.0.judgeable c.key_number-own.ensures.0)

pub overflow_add-id : goal.overflow_add-id
overflow_add-id c = omega (arith, room c)

pub overflow_cast-place : goal.overflow_cast-place
overflow_cast-place c = omega (arith, room c)

pub bounds-statuses-place : goal.bounds-statuses-place
bounds-statuses-place c = room (goal.at.bounds-statuses-place c).After-status_of-status

pub offset_bounds-ids-place : goal.offset_bounds-ids-place
offset_bounds-ids-place c = omega (arith, room (goal.at.offset_bounds-ids-place c).After-status_of-status)

pub bounds-ids-place : goal.bounds-ids-place
bounds-ids-place c = room (goal.at.bounds-ids-place c).After-status_of-status

pub offset_bounds-keys-place : goal.offset_bounds-keys-place
offset_bounds-keys-place c = omega (arith, room (goal.at.offset_bounds-keys-place c).After-status_of-status)

pub bounds-keys-place : goal.bounds-keys-place
bounds-keys-place c = room (goal.at.bounds-keys-place c).After-status_of-status

pub overflow_cast-marks : goal.overflow_cast-marks
overflow_cast-marks c = omega (arith, c.requires.0.judgeable.submitter)

pub overflow_cast-marks-2 : goal.overflow_cast-marks-2
overflow_cast-marks-2 c =
    omega (arith, c.first_counted-first.ensures, c.requires.0.judgeable.counted, steps (goal.at.overflow_cast-marks-2 c).After-status_of-status)

pub overflow_cast-marks-3 : goal.overflow_cast-marks-3
overflow_cast-marks-3 c = omega (arith, c.steps_of-until.ensures, steps (goal.at.overflow_cast-marks-3 c).After-status_of-status)

pub offset_bounds-marks-place : goal.offset_bounds-marks-place
offset_bounds-marks-place c = omega (arith, room (goal.at.offset_bounds-marks-place c).After-status_of-status)

pub bounds-marks-place : goal.bounds-marks-place
bounds-marks-place c = room (goal.at.bounds-marks-place c).After-status_of-status

pub offset_bounds-rows-place : goal.offset_bounds-rows-place
offset_bounds-rows-place c = omega (arith, room (goal.at.offset_bounds-rows-place c).After-status_of-status)

pub bounds-rows-place : goal.bounds-rows-place
bounds-rows-place c = room (goal.at.bounds-rows-place c).After-status_of-status

pub overflow_add-result : goal.overflow_add-result
overflow_add-result c = omega (arith, room (goal.at.overflow_add-result c).After-status_of-status)

pub returns : goal.returns
returns c =
    let a = c.args in
    let own = c.key_number-own.ensures.0 in
    let list = listed_under a.self a.at _ own a.keys.now a.under.now a.count (room (goal.at.returns c).After-status_of-status) c.requires.1 in
    λ loads.
    record_done a.self loads (columns a.statuses.now a.ids.now a.keys.now a.marks.now a.rows.now) a.at a.ps
    _ _ _ _ _ _ _ c.requires.0
    c.told-statuses c.told-ids c.told-keys
    c.told-marks c.told-rows
    own c.first_counted-first.ensures c.steps_of-until.ensures c.status_of-status.ensures
    (c.is_paired-paired.ensures _ _ list) (c.change_all.ensures _ _ list)
