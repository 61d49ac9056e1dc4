-- EVERY LIST OF CALLS HAS A RUN: from every register whose arrays have their places there is, call after call, an answer and a register that
-- meet what the called function ensures. So what is shown of every run is shown of every list of calls, and no contract asks for what
-- can't be.
use Rattle.std.specs.Prelude.{Result}
use Rattle.refusals.specs.declared.Refusal.{Refusal}
use mathlib.Core.Path.{refl}
use mathlib.Core.List.{List, [], ◌∷◌}
use Prim.Native.Nat.{ℕ}
use Rattle.ledger.specs.Call.{Answered, csv, json, Call, enrol_actor, enrol_category, load, file, advance}
use Rattle.ledger.specs.declared.Entry.TheVariants.{SevenDays}
use Rattle.ledger.specs.declared.Shown.{Shown}
use Rattle.tables.specs.Tables.{Columns, LoadColumns, actors_in, categories_in, loads_in, records_in}
use Rattle.register.specs.View.{Register, lent, view}
use Rattle.register.specs.Written.{fresh_head, fresh_register}
use Rattle.register.specs.declared.Fresh.{Fresh}
use Rattle.register.proofs.Runs.{Begun, begun, Ran, none, more, Engages, Shows, Lists}
use Rattle.register.proofs.Sized.{LoadsSized, RecordsSized, Sized, Next}
use Rattle.register.proofs.CallsExist.{next_advance, next_actor, next_category, next_load}
use Rattle.register.proofs.FilingsExist.{next_file, next_object}
use Rattle.register.proofs.AsksExist.{engagement_exists, record_exists, history_exists}

-- ---- every list

pub next : (r : Register) → Sized r → (c : Call) → Next r c
next r z (enrol_actor code first last) = next_actor r code first last z
next r z (enrol_category text) = next_category r text z
next r z (load actor category day most ps) = next_load r actor category day most ps z
next r z (file SevenDays submitter (csv name body)) = next_file r submitter name body z
next r z (file SevenDays submitter (json body)) = next_object r submitter body z
next r z (advance day minute) = next_advance r day minute z

-- the answers of a list of calls, and the register that it leaves
pub record Run (r : Register) (cs : List Call) : Type 1 where
  pub answers : List Answered
  pub register : Register
  pub ran : Ran r cs answers register

pub run : (cs : List Call) (r : Register) → Sized r → Run r cs
run [] r z = record { answers = []; register = r; ran = none }
run (c ∷ cs) r z =
    let s = next r z c in
    let rest = run cs s.register s.sized in
    record { answers = s.answer ∷ rest.answers; register = rest.register; ran = more s.did rest.ran }

-- ---- a fresh register

pub fresh_sized : (cols : Columns) (ls : LoadColumns) → RecordsSized cols → LoadsSized ls → Sized (lent fresh_head cols ls)
fresh_sized cols ls c l = record { actors = refl; categories = refl; loads = l; records = c }

pub fresh_begun : Begun fresh_register
unfolding view actors_in categories_in loads_in records_in
fresh_begun = begun fresh_register (λ t. (refl, λ cols ls. refl))

-- WHATEVER THE CALLS, THERE ARE A FRESH REGISTER AND A RUN OF THEM FROM IT, and each call that only asks has an answer after them
pub record Exists (cols : Columns) (ls : LoadColumns) (cs : List Call) : Type 1 where
  pub start : Fresh
  pub begun : Begun start
  pub run : Run (lent start.head cols ls) cs
  pub engagement : (actor category : List ℕ) (day s : ℕ) → (y : Result ℕ Refusal) × Engages run.register actor category day s y
  pub record_of : (asker : List ℕ) (id : ℕ) → (y : Result Shown Refusal) × Shows run.register asker id y
  pub history : (actor before : List ℕ) → (y : Result ℕ Refusal) × (later : List ℕ) × Lists run.register actor before y later

pub every_list_runs : (cols : Columns) (ls : LoadColumns) → RecordsSized cols → LoadsSized ls → (cs : List Call) → Exists cols ls cs
every_list_runs cols ls c l cs =
    let runs = run cs (lent fresh_head cols ls) (fresh_sized cols ls c l) in
    record {
      start = fresh_register;
      begun = fresh_begun;
      run = runs;
      engagement = λ actor category day s. (_, engagement_exists runs.register actor category day s);
      record_of = λ asker id. (_, record_exists runs.register asker id);
      history = λ actor before. (_, _, history_exists runs.register actor before);
    }
