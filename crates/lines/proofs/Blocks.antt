-- A SCRIPT IN BLOCKS: what is printed for an input that comes in blocks, however it is cut, is what document 01 has printed for its lines.
-- Each step of a run is what the called function ensures where what it asks holds, as Rattle reads both off the source, and nothing
-- else is known of it.
use borrow.Fn.Kinds
use borrow.Fn.World
use denote.Triple.Clauses
use contract.Lifetimes
use Rattle.std.proofs.Common.{◌≡◌, ℕ, suc, ◌+◌, ◌<◌, ◌≤◌, Bool, true, false, List, [], ◌∷◌, ◌++◌, length, take, drop, refl, ap, ◌∙◌}
use lib.Seq.{sets}
use Rattle.notification.specs.Reading.{lines_in, read_file}
use Rattle.std.specs.Prelude.{Option, Some, None, MatchOption}
use Rattle.session.specs.Lines.{Reading}
use Rattle.reader.specs.InHand.{joined_pieces}
use Rattle.reader.specs.declared.pieces.FileReader.{FileReader}
use Rattle.reader.proofs.InPieces.{Fed, Ends, read_in_pieces}
use Rattle.tables.specs.Tables.{Columns, LoadColumns}
use Rattle.register.specs.View.{Register, lent, held}
use Rattle.register.specs.declared.Fresh.{Fresh}
use Rattle.register.proofs.Runs.{Begun}
use Rattle.script.specs.Spans.{cut}
use Rattle.session.specs.Lines.{File}
use Rattle.session.specs.Stores.{register_in}
use Rattle.lines.specs.Scripts.{Files, Found}
use Rattle.lines.specs.Walking.{held_of, ended, ended_at, Walked, stands, walk, NamedIf}
use Rattle.lines.specs.declared.answering.Wants.{Wants}
use Rattle.lines.specs.declared.answering.Wants.TheVariants as Want
use Rattle.lines.specs.declared.answering.Wants.TheVariants.{Input}
use Rattle.lines.specs.declared.answering.Progress.{Progress}
use Rattle.lines.specs.contracts.answering.answer_lines as answer-fn
use Rattle.lines.proofs.answering.answer_lines.Kinds as answer-kinds
use Rattle.lines.proofs.answering.answer_lines.Reads as answer-reads
use Rattle.lines.specs.contracts.holding.hold as hold-fn
use Rattle.lines.proofs.holding.hold.Kinds as hold-kinds
use Rattle.lines.proofs.holding.hold.Reads as hold-reads
use Rattle.lines.specs.contracts.holding.end_line as end-fn
use Rattle.lines.proofs.holding.end_line.Kinds as end-kinds
use Rattle.lines.proofs.holding.end_line.Reads as end_reads

-- ---- the three functions

-- `hold`: an input, two places, how many bytes are held, and the input afterwards
pub data Held : List ℕ → ℕ → ℕ → ℕ → List ℕ → Type 1 where
  holds : (κs : Lifetimes.Lfts 1) (a : World.ArgsD hold-fn.signature κs) (n : ℕ) (s : Clauses.AtExit (Kinds.ended_of 1 hold-kinds.ps hold-kinds.r) κs) →
      (hold-reads.Asked κs a → hold-reads.Post κs a n s) → Held a.0.now a.1.0 a.1.1.0 n s.0.now

-- `end_line`: an input, how many bytes are held, where it ends, and the input afterwards
pub data Ended : List ℕ → ℕ → ℕ → List ℕ → Type 1 where
  ends : (κs : Lifetimes.Lfts 1) (a : World.ArgsD end-fn.signature κs) (m : ℕ) (s : Clauses.AtExit (Kinds.ended_of 1 end-kinds.ps end-kinds.r) κs) →
      (end_reads.Asked κs a → end_reads.Post κs a m s) → Ended a.0.now a.1.0 m s.0.now

-- `answer_lines`: what is given of the first file, the input, and how far the lines were before and after
pub data Went : Option File → List ℕ → Walked → Walked → Type 1 where
  goes : (κs : Lifetimes.Lfts 3) (a : World.ArgsD answer-fn.signature κs) (y : Progress) (s : Clauses.AtExit (Kinds.ended_of 3 answer-kinds.ps answer-kinds.r) κs) →
      (answer-reads.Asked κs a → answer-reads.Post κs a y s) →
      Went a.1.1.1.1.1.1.0 a.1.1.0.now
      (stands (register_in a.0.now) a.1.0 a.1.1.1.0 a.1.1.1.1.0.now a.1.1.1.1.1.0 Input)
      (stands (register_in s.0.now) y.number y.at s.1.1.1.1.0.now y.out y.wants)

-- WHAT EACH OF THEM ASKS ALWAYS HOLDS
pub record AsksNothing : Type 1 where
  pub hold : (κs : Lifetimes.Lfts 1) (a : World.ArgsD hold-fn.signature κs) → hold-reads.Asked κs a
  pub end_line : (κs : Lifetimes.Lfts 1) (a : World.ArgsD end-fn.signature κs) → end_reads.Asked κs a
  pub answer_lines : (κs : Lifetimes.Lfts 3) (a : World.ArgsD answer-fn.signature κs) → answer-reads.Asked κs a

pub asks_nothing : AsksNothing
asks_nothing = record { hold = λ κs a. tt; end_line = λ κs a. tt; answer_lines = λ κs a. tt }

-- ---- a run

-- where a run stands: the register, how many lines were answered, the input with what is unread in it (from a place to before its end), the
-- output with how many bytes of answers wait in it, what is wanted, and what was written
pub record Standing : Type 0 where
  pub register : Register
  pub number : ℕ
  pub input : List ℕ
  pub at : ℕ
  pub end : ℕ
  pub output : List ℕ
  pub out : ℕ
  pub wants : Wants
  pub written : List ℕ

-- the input up to its end, and how far its lines were answered
abbrev pub block : Standing → List ℕ
block s = take s.end s.input

abbrev pub walked : Standing → Walked
walked s = stands s.register s.number s.at s.output s.out Input

-- the same with other input, unread from its beginning on
abbrev pub reads : Standing → List ℕ → ℕ → Standing
reads s input end =
    record { register = s.register; number = s.number; input = input; at = 0; end = end; output = s.output; out = s.out; wants = s.wants; written = s.written }

-- the same with its lines answered further
abbrev pub further : Standing → Walked → Standing
further s w =
    record { register = w.register; number = w.number; input = s.input; at = w.at; end = s.end; output = w.output; out = w.out; wants = w.wants; written = s.written }

-- the same with the answers that wait written
abbrev pub writes : Standing → Standing
writes s =
    record { register = s.register; number = s.number; input = s.input; at = s.at; end = s.end; output = s.output; out = 0; wants = s.wants; written = s.written ++ take s.out s.output }

-- what the file that is found under a name is read as, where it can be read
abbrev pub Reads : File → List ℕ → Found → Type 0
Reads file name there =
    MatchOption file (there.readable ≡ false) (λ reading. (there.readable ≡ true) × (reading ≡ read_file name there.body))

-- what the reader's functions give, begun with the name, fed its bytes as they come, in pieces cut anywhere, and ended, is what such a file is read as
pub pieces_read : {reading : Reading} {name : List ℕ} {there : Found} {ps : List (List ℕ)} {b : FileReader} → Fed name ps b → Ends b reading →
    joined_pieces ps ≡ there.body → there.readable ≡ true → Reads (Some reading) name there
pieces_read {name = name} f e j h = (h, read_in_pieces f e ∙ ap (read_file name) j)

-- A RUN over blocks, and whether the input has ended. `files` is what is found for the line of a number, by the name that it has
pub data Ran (files : Files) : List (List ℕ) → Bool → Standing → Type 1 where
  -- a fresh register; an input with room for 513 bytes and one more
  starts : (start : Fresh) → Begun start → (cols : Columns) (loads : LoadColumns) (input output : List ℕ) → 513 < length input →
      Ran files [] false (record { register = lent start.head cols loads; number = 0; input = input; at = 0; end = 0; output = output; out = 0; wants = Input; written = [] })
  -- more input is wanted, and a block comes behind what is held
  fed : {bs : List (List ℕ)} {s : Standing} → Ran files bs false s → s.wants ≡ Input →
      (n : ℕ) (front : List ℕ) → Held s.input s.at s.end n front →
      (b input : List ℕ) → take (n + length b) input ≡ take n front ++ b → length input ≡ length front →
      (w : Walked) → Went None (take (n + length b) input) (walked (reads s input (n + length b))) w →
      Ran files (bs ++ b ∷ []) false (further (reads s input (n + length b)) w)
  -- a file is wanted, and what it was read as is given, where it can be read
  found : {bs : List (List ℕ)} {e : Bool} {s : Standing} → Ran files bs e s → (from to : ℕ) → s.wants ≡ Want.File from to →
      (file : File) → Reads file (cut (block s) from to) (files (suc s.number) (cut (block s) from to)) →
      (w : Walked) → Went (Some file) (block s) (walked s) w →
      Ran files bs e (further s w)
  -- the answers that wait are written
  wrote : {bs : List (List ℕ)} {e : Bool} {s : Standing} → Ran files bs e s → Ran files bs e (writes s)
  -- the lines go on
  went : {bs : List (List ℕ)} {e : Bool} {s : Standing} → Ran files bs e s →
      (w : Walked) → Went None (block s) (walked s) w → Ran files bs e (further s w)
  -- more input is wanted, and there is none: what is held is the last line
  closed : {bs : List (List ℕ)} {s : Standing} → Ran files bs false s → s.wants ≡ Input →
      (n : ℕ) (front : List ℕ) → Held s.input s.at s.end n front → (m : ℕ) (input : List ℕ) → Ended front n m input →
      (w : Walked) → Went None (take m input) (walked (reads s input m)) w →
      Ran files bs true (further (reads s input m) w)

-- ---- what the contracts give

pub held_is : {input front : List ℕ} {from to n : ℕ} → Held input from to n front → (front ≡ sets input 0 (held_of input from to)) × (n ≡ length (held_of input from to)) × (n ≤ 513) × (n ≤ length input)
held_is (holds κs a n s e) = e (asks_nothing.hold κs a)

pub ended_is : {front input : List ℕ} {n m : ℕ} → Ended front n m input → (input ≡ ended front n) × (m ≡ ended_at front n) × (m ≤ length front)
ended_is (ends κs a m s e) = e (asks_nothing.end_line κs a)

pub record Walks (given : Option File) (input : List ℕ) (w v : Walked) : Type 0 where
  pub is : v ≡ walk given w (lines_in (drop w.at input))
  pub room : w.out ≤ length w.output → v.out ≤ length w.output
  pub even : v.ledger ≡ held v.register
  pub named : NamedIf input v.at v.wants

pub went_is : {given : Option File} {input : List ℕ} {w v : Walked} → Went given input w v → Walks given input w v
went_is (goes κs a y s e) =
    let p = e (asks_nothing.answer_lines κs a) in
    record { is = p.0; room = p.1.room; even = refl; named = p.1.named }
