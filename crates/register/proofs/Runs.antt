-- A RUN: a list of calls of the register's own functions, and a call that only asks after it. Each step is what the called function
-- ensures where what it asks holds, as Rattle reads both off the source, and nothing else is known of it.
use Rattle.std.specs.Prelude.{Result}
use Rattle.refusals.specs.declared.Refusal.{Refusal}
use borrow.Fn.Kinds
use borrow.Fn.World
use denote.Triple.Clauses
use contract.Lifetimes
use mathlib.Core.Path.{◌≡◌, refl, ◌∙◌, ap, ap₂}
use mathlib.Core.List.{List, [], ◌∷◌}
use Prim.Native.Nat.{ℕ}
use lib.ListN.{length}
use Rattle.ledger.specs.Ledger.{Ledger, fresh}
use Rattle.ledger.specs.Call.{Answered, csv, json, Call, enrol_actor, enrol_category, load, file, advance}
use Rattle.ledger.specs.Calls.{step}
use Rattle.ledger.specs.Asking.{ask_engagement, ask_record, ask_history, history_in}
use Rattle.ledger.specs.Whole.{after, answers_to}
use Rattle.ledger.specs.declared.Entry.TheVariants.{SevenDays}
use Rattle.ledger.specs.declared.Shown.{Shown}
use Rattle.tables.specs.Tables.{Columns, LoadColumns, columns, load_columns}
use Rattle.register.specs.View.{Register, lent, view, held}
use Rattle.register.specs.Written.{fresh_register, Done, does, seen}
use Rattle.register.specs.declared.Fresh.{Fresh}
use Rattle.register.specs.declared.Reply.{Reply}
use Rattle.register.proofs.Head.fresh.Reads as fresh-reads
use Rattle.register.proofs.Head.enrol_actor.Reads as actor-reads
use Rattle.register.proofs.Head.enrol_category.Reads as category-reads
use Rattle.register.proofs.Head.load.Reads as load-reads
use Rattle.register.proofs.Head.file.Reads as file-reads
use Rattle.register.proofs.Head.file_object.Reads as object-reads
use Rattle.register.proofs.Head.file_note.Reads as note-reads
use Rattle.register.proofs.Head.file_reading.Reads as reading-reads
use Rattle.register.proofs.Head.advance.Reads as advance-reads
use Rattle.register.proofs.Head.engagement.Reads as engagement-reads
use Rattle.register.proofs.Head.record.Reads as record-reads
use Rattle.register.proofs.Head.history.Reads as history-reads
use Rattle.register.specs.contracts.Head.enrol_actor as actor-fn
use Rattle.register.specs.contracts.Head.enrol_category as category-fn
use Rattle.register.specs.contracts.Head.load as load_fn
use Rattle.register.specs.contracts.Head.file as file-fn
use Rattle.register.specs.contracts.Head.file_object as object-fn
use Rattle.register.specs.contracts.Head.file_note as note-fn
use Rattle.register.specs.contracts.Head.file_reading as reading-fn
use Rattle.register.specs.contracts.Head.advance as advance-fn
use Rattle.register.specs.contracts.Head.engagement as engagement-fn
use Rattle.register.specs.contracts.Head.record as record-fn
use Rattle.register.specs.contracts.Head.history as history-fn
use Rattle.register.proofs.Head.enrol_actor.Kinds as actor-kinds
use Rattle.register.proofs.Head.enrol_category.Kinds as category-kinds
use Rattle.register.proofs.Head.load.Kinds as load-kinds
use Rattle.register.proofs.Head.file.Kinds as file-kinds
use Rattle.register.proofs.Head.file_object.Kinds as object-kinds
use Rattle.register.proofs.Head.advance.Kinds as advance-kinds
use Rattle.register.proofs.Head.engagement.Kinds as engagement-kinds
use Rattle.register.proofs.Head.record.Kinds as record-kinds
use Rattle.register.proofs.Head.history.Kinds as history-kinds

-- ---- the calls of demand 3's list

-- A FRESH REGISTER: what `fresh` ensures
pub data Begun : Fresh → Type 1 where
  begun : (start : Fresh) → (fresh-reads.Asked tt tt → fresh-reads.Post tt tt start tt) → Begun start

-- A CALL, ITS ANSWER AND THE REGISTER THAT IT LEAVES: what the called function ensures of what it was handed. Arguments are
-- read at entry, what it may write at exit; nobody else writes to the register meanwhile.
pub data Did : Register → Call → Answered → Register → Type 1 where
  did_actor : (cols : Columns) (ls : LoadColumns) (κs : Lifetimes.Lfts 1) (a : World.ArgsD actor-fn.signature κs) (y : Reply)
      (s : Clauses.AtExit (Kinds.ended_of 1 actor-kinds.ps actor-kinds.r) κs) → (actor-reads.Asked κs a → actor-reads.Post κs a y s) →
      Did (lent a.0 cols ls) (enrol_actor a.1.0.now a.1.1.0 a.1.1.1.0) y.answer (lent y.head cols ls)
  did_category : (cols : Columns) (ls : LoadColumns) (κs : Lifetimes.Lfts 1) (a : World.ArgsD category-fn.signature κs) (y : Reply)
      (s : Clauses.AtExit (Kinds.ended_of 1 category-kinds.ps category-kinds.r) κs) → (category-reads.Asked κs a → category-reads.Post κs a y s) →
      Did (lent a.0 cols ls) (enrol_category a.1.0.now) y.answer (lent y.head cols ls)
  did_load : (cols : Columns) (κs : Lifetimes.Lfts 6) (a : World.ArgsD load_fn.signature κs) (y : Reply)
      (s : Clauses.AtExit (Kinds.ended_of 6 load-kinds.ps load-kinds.r) κs) → (load-reads.Asked κs a → load-reads.Post κs a y s) →
      Did (lent a.0 cols (load_columns a.1.0.now a.1.1.0.now a.1.1.1.0.now))
      (load a.1.1.1.1.0.now a.1.1.1.1.1.0.now a.1.1.1.1.1.1.0 a.1.1.1.1.1.1.1.0 a.1.1.1.1.1.1.1.1.0.now)
      y.answer
      (lent y.head cols (load_columns s.1.0.now s.1.1.0.now s.1.1.1.0.now))
  did_file : (κs : Lifetimes.Lfts 11) (a : World.ArgsD file-fn.signature κs) (y : Reply)
      (s : Clauses.AtExit (Kinds.ended_of 11 file-kinds.ps file-kinds.r) κs) → (file-reads.Asked κs a → file-reads.Post κs a y s) →
      Did
      (lent a.0 (columns a.1.0.now a.1.1.0.now a.1.1.1.0.now a.1.1.1.1.0.now a.1.1.1.1.1.0.now)
      (load_columns a.1.1.1.1.1.1.0.now a.1.1.1.1.1.1.1.0.now a.1.1.1.1.1.1.1.1.0.now))
      (file SevenDays a.1.1.1.1.1.1.1.1.1.0.now (csv a.1.1.1.1.1.1.1.1.1.1.0.now a.1.1.1.1.1.1.1.1.1.1.1.0.now)) y.answer
      (lent y.head (columns s.1.0.now s.1.1.0.now s.1.1.1.0.now s.1.1.1.1.0.now s.1.1.1.1.1.0.now)
      (load_columns a.1.1.1.1.1.1.0.now a.1.1.1.1.1.1.1.0.now a.1.1.1.1.1.1.1.1.0.now))
  did_object : (κs : Lifetimes.Lfts 10) (a : World.ArgsD object-fn.signature κs) (y : Reply)
      (s : Clauses.AtExit (Kinds.ended_of 10 object-kinds.ps object-kinds.r) κs) → (object-reads.Asked κs a → object-reads.Post κs a y s) →
      Did
      (lent a.0 (columns a.1.0.now a.1.1.0.now a.1.1.1.0.now a.1.1.1.1.0.now a.1.1.1.1.1.0.now)
      (load_columns a.1.1.1.1.1.1.0.now a.1.1.1.1.1.1.1.0.now a.1.1.1.1.1.1.1.1.0.now))
      (file SevenDays a.1.1.1.1.1.1.1.1.1.0.now (json a.1.1.1.1.1.1.1.1.1.1.0.now)) y.answer
      (lent y.head (columns s.1.0.now s.1.1.0.now s.1.1.1.0.now s.1.1.1.1.0.now s.1.1.1.1.1.0.now)
      (load_columns a.1.1.1.1.1.1.0.now a.1.1.1.1.1.1.1.0.now a.1.1.1.1.1.1.1.1.0.now))
  did_advance : (cols : Columns) (ls : LoadColumns) (a : World.ArgsD advance-fn.signature tt) (y : Reply)
      (s : Clauses.AtExit (Kinds.ended_of 0 advance-kinds.ps advance-kinds.r) tt) → (advance-reads.Asked tt a → advance-reads.Post tt a y s) →
      Did (lent a.0 cols ls) (advance a.1.0 a.1.1.0) y.answer (lent y.head cols ls)

-- a list of calls, each given the register as the one before left it
pub data Ran : Register → List Call → List Answered → Register → Type 1 where
  none : {r : Register} → Ran r [] [] r
  more : {r s t : Register} {c : Call} {y : Answered} {cs : List Call} {ys : List Answered} → Did r c y s → Ran s cs ys t → Ran r (c ∷ cs) (y ∷ ys) t

-- ---- the calls that only ask

-- what the engagement call answers of a register; ids and approved powers are not lent to it
pub data Engages : Register → List ℕ → List ℕ → ℕ → ℕ → Result ℕ Refusal → Type 1 where
  engages : (ids approved : List ℕ) (κs : Lifetimes.Lfts 8) (a : World.ArgsD engagement-fn.signature κs) (y : Result ℕ Refusal)
      (s : Clauses.AtExit (Kinds.ended_of 8 engagement-kinds.ps engagement-kinds.r) κs) → (engagement-reads.Asked κs a → engagement-reads.Post κs a y s) →
      Engages
      (lent a.0 (columns a.1.0.now ids a.1.1.0.now a.1.1.1.0.now a.1.1.1.1.0.now)
      (load_columns a.1.1.1.1.1.0.now approved a.1.1.1.1.1.1.0.now))
      a.1.1.1.1.1.1.1.0.now a.1.1.1.1.1.1.1.1.0.now a.1.1.1.1.1.1.1.1.1.0 a.1.1.1.1.1.1.1.1.1.1.0 y

-- what the record call answers of a register; the loads are not lent to it
pub data Shows : Register → List ℕ → ℕ → Result Shown Refusal → Type 1 where
  shows : (ls : LoadColumns) (κs : Lifetimes.Lfts 6) (a : World.ArgsD record-fn.signature κs) (y : Result Shown Refusal)
      (s : Clauses.AtExit (Kinds.ended_of 6 record-kinds.ps record-kinds.r) κs) → (record-reads.Asked κs a → record-reads.Post κs a y s) →
      Shows
      (lent a.0 (columns a.1.0.now a.1.1.0.now a.1.1.1.0.now a.1.1.1.1.0.now a.1.1.1.1.1.0.now) ls)
      a.1.1.1.1.1.1.0.now a.1.1.1.1.1.1.1.0 y

-- what the history call answers of a register, and the lent buffer before and after it; only ids and keys are lent to it
pub data Lists : Register → List ℕ → List ℕ → Result ℕ Refusal → List ℕ → Type 1 where
  lists : (statuses : List ℕ) (marks rows : List (List ℕ)) (ls : LoadColumns) (κs : Lifetimes.Lfts 4) (a : World.ArgsD history-fn.signature κs)
      (y : Result ℕ Refusal) (s : Clauses.AtExit (Kinds.ended_of 4 history-kinds.ps history-kinds.r) κs) →
      (history-reads.Asked κs a → history-reads.Post κs a y s) →
      Lists (lent a.0 (columns statuses a.1.0.now a.1.1.0.now marks rows) ls)
      a.1.1.1.0.now a.1.1.1.1.0.now y s.1.1.1.1.0.now

-- ---- no open function asks anything of its caller

-- WHAT EACH OPEN FUNCTION ASKS ALWAYS HOLDS, for all that it may be handed ("Open functions have no `requires`")
pub record AsksNothing : Type 1 where
  pub fresh : fresh-reads.Asked tt tt
  pub enrol_actor_lem : (κs : Lifetimes.Lfts 1) (a : World.ArgsD actor-fn.signature κs) → actor-reads.Asked κs a
  pub enrol_category_lem : (κs : Lifetimes.Lfts 1) (a : World.ArgsD category-fn.signature κs) → category-reads.Asked κs a
  pub load : (κs : Lifetimes.Lfts 6) (a : World.ArgsD load_fn.signature κs) → load-reads.Asked κs a
  pub file : (κs : Lifetimes.Lfts 11) (a : World.ArgsD file-fn.signature κs) → file-reads.Asked κs a
  pub file_object : (κs : Lifetimes.Lfts 10) (a : World.ArgsD object-fn.signature κs) → object-reads.Asked κs a
  pub file_note_lem : (κs : Lifetimes.Lfts 9) (a : World.ArgsD note-fn.signature κs) → note-reads.Asked κs a
  pub file_reading : (κs : Lifetimes.Lfts 9) (a : World.ArgsD reading-fn.signature κs) → reading-reads.Asked κs a
  pub advance : (a : World.ArgsD advance-fn.signature tt) → advance-reads.Asked tt a
  pub engagement : (κs : Lifetimes.Lfts 8) (a : World.ArgsD engagement-fn.signature κs) → engagement-reads.Asked κs a
  pub record_of : (κs : Lifetimes.Lfts 6) (a : World.ArgsD record-fn.signature κs) → record-reads.Asked κs a
  pub history : (κs : Lifetimes.Lfts 4) (a : World.ArgsD history-fn.signature κs) → history-reads.Asked κs a

pub asks_nothing : AsksNothing
asks_nothing =
    record {
      fresh = tt;
      enrol_actor_lem = λ κs a. tt;
      enrol_category_lem = λ κs a. tt;
      load = λ κs a. tt;
      file = λ κs a. tt;
      file_object = λ κs a. tt;
      file_note_lem = λ κs a. tt;
      file_reading = λ κs a. tt;
      advance = λ a. tt;
      engagement = λ κs a. tt;
      record_of = λ κs a. tt;
      history = λ κs a. tt;
    }

-- ---- so what each ensures is known: the ledger's steps and answers

pub begun_is : {start : Fresh} → Begun start → (start ≡ fresh_register) × ((cols : Columns) (ls : LoadColumns) → view start.head cols ls ≡ fresh)
begun_is (begun start e) = e asks_nothing.fresh

-- the register that a call leaves, byte by byte, the ledger that this holds, and the answer
pub did_all : {r s : Register} {c : Call} {y : Answered} → Did r c y s → seen s y ≡ does r c
did_all (did_actor cols ls κs a y s e) = e (asks_nothing.enrol_actor_lem κs a) cols ls
did_all (did_category cols ls κs a y s e) = e (asks_nothing.enrol_category_lem κs a) cols ls
did_all (did_load cols κs a y s e) = e (asks_nothing.load κs a) cols
did_all (did_file κs a y s e) = e (asks_nothing.file κs a)
did_all (did_object κs a y s e) = e (asks_nothing.file_object κs a)
did_all (did_advance cols ls a y s e) = e (asks_nothing.advance a) cols ls

pub did_step : {r s : Register} {c : Call} {y : Answered} → Did r c y s → (held s ≡ (step (held r) c).ledger) × (y ≡ (step (held r) c).answer)
did_step d = (ap (λ (x : Done). x.outcome.ledger) (did_all d), ap (λ (x : Done). x.outcome.answer) (did_all d))

pub ran_after : {r t : Register} {cs : List Call} {ys : List Answered} → Ran r cs ys t → (l : Ledger) → held r ≡ l → (held t ≡ after l cs) × (ys ≡ answers_to l cs)
ran_after none l e = (e, refl)
ran_after (more {c = c} q k) l e =
    let p = did_step q in
    let rest = ran_after k (step l c).ledger (p.0 ∙ ap (λ l. (step l c).ledger) e) in
    (rest.0, ap₂ ◌∷◌ (p.1 ∙ ap (λ l. (step l c).answer) e) rest.1)

pub engages_is : {r : Register} {a z : List ℕ} {d s : ℕ} {y : Result ℕ Refusal} → Engages r a z d s y → y ≡ ask_engagement (held r) a z d s
engages_is (engages ids approved κs a y s e) = e (asks_nothing.engagement κs a) ids approved

pub shows_is : {r : Register} {asker : List ℕ} {id : ℕ} {y : Result Shown Refusal} → Shows r asker id y → y ≡ ask_record (held r) asker id
shows_is (shows ls κs a y s e) = e (asks_nothing.record_of κs a) ls

pub lists_is : {r : Register} {actor before later : List ℕ} {y : Result ℕ Refusal} → Lists r actor before y later →
    (y ≡ ask_history (held r) actor (length before)) × (later ≡ history_in (held r) actor before)
lists_is (lists statuses marks rows ls κs a y s e) = e (asks_nothing.history κs a) statuses marks rows ls
