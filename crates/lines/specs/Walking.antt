-- How the lines of an input are walked: what the functions inside say.
use Rattle.std.specs.Prelude.{◌≡◌, ℕ, suc, ◌+◌, ◌-◌, ◌%◌, ◌≤◌, ◌<◌, Bool, cond, ◌&&◌, List, [], ◌∷◌, length, take, drop, ◌==◌, nat_le, nat_lt, slice_set, Option, Some, None, unwrap_or, MatchOption}
use Rattle.reader.specs.Walking.{LineEnd}
use Rattle.refusals.specs.Tests.{decide, verdict}
use Rattle.notification.specs.Reading.{note_of}
use Rattle.session.specs.Lines.{Reading}
use Rattle.ledger.specs.Ledger.{Ledger}
use Rattle.ledger.specs.Calls.{Outcome, refused_by, step_note}
use Rattle.ledger.specs.Asking.{ask_engagement, ask_record}
use Rattle.ledger.specs.declared.Entry.TheVariants.{SevenDays}
use Rattle.answers.specs.Values.{said_of, said_number, said_shown, said_refused}
use Rattle.register.specs.View.{Register, held}
use Rattle.script.specs.Lines.{Asked, calls, file_of, engagement, record_of, unknown, line_of}
use Rattle.script.specs.Spans.{cut}
use Rattle.script.specs.Answers.{line_room, answer_put, answer_end}
use Rattle.session.specs.Lines.{File, no_call, line_step}
use Rattle.lines.specs.Scripts.{lf, Line, called, says}
use Rattle.lines.specs.declared.answering.Wants.{Wants}
use Rattle.lines.specs.declared.answering.Wants.TheVariants as Want
use Rattle.lines.specs.declared.answering.Wants.TheVariants.{Input, Room}
use Rattle.lines.specs.declared.answering.Progress.{Progress}

-- ---- what is held between two blocks

-- the most bytes that are kept of a line whose end hasn't come yet: one more than a line may have
abbrev pub held_most : ℕ
held_most = 513

-- the bytes from a place to before another, as many as are kept
abbrev pub held_of : List ℕ → ℕ → ℕ → List ℕ
held_of input from to = take held_most (drop from (take to input))

-- a last line is there where something is held, and room for its LF
abbrev pub is_last : List ℕ → ℕ → Bool
is_last input held = nat_lt 0 held && nat_lt held (length input)

unfoldable pub ended : List ℕ → ℕ → List ℕ
ended input held = cond (is_last input held) (slice_set input held lf) input

unfoldable pub ended_at : List ℕ → ℕ → ℕ
ended_at input held = cond (is_last input held) (held + 1) 0

-- ---- what a line says, by what its file was read as

-- the ledger that a filing leaves, and its answer
abbrev pub step_reading : Ledger → List ℕ → Reading → Outcome
step_reading l submitter x = decide (verdict x) (step_note l SevenDays submitter (note_of x)) (refused_by l)

abbrev pub filed : Ledger → List ℕ → Reading → Line
filed l submitter x = record { ledger = (step_reading l submitter x).ledger; said = said_of (step_reading l submitter x).answer }

-- a line says the same as by the file itself, of which only the reading is kept
unfoldable pub says_read : Ledger → File → Asked → Line
says_read l file (calls c) = called l c
says_read l (Some x) (file_of submitter name) = filed l submitter x
says_read l None (file_of submitter name) = says l (said_refused no_call)
says_read l file (engagement actor category day s) = says l (said_number (ask_engagement l actor category day s))
says_read l file (record_of asker id) = says l (said_shown (ask_record l asker id))
says_read l file unknown = says l (said_refused no_call)

-- ---- the walk

-- the LF that ends a line, where one does; else no line starts at the place, or it goes to the end of the bytes
abbrev pub LineFound : List ℕ → ℕ → Option ℕ → Type 0
LineFound s from found =
    MatchOption found (from ≤ length s → LineEnd s from (length s)) (λ end. LineEnd s from end × (end < length s))

-- how far the lines went: the register, and the ledger that it holds
pub record Walked : Type 0 where
  pub register : Register
  pub ledger : Ledger
  pub number : ℕ
  pub at : ℕ
  pub output : List ℕ
  pub out : ℕ
  pub wants : Wants

abbrev pub stands : Register → ℕ → ℕ → List ℕ → ℕ → Wants → Walked
stands r number at output out want =
    record { register = r; ledger = held r; number = number; at = at; output = output; out = out; wants = want }

-- there is room for the longest answer behind those that wait
abbrev pub has_room : List ℕ → ℕ → Bool
has_room output out = nat_le (out + line_room) (length output)

-- the number of the next line, in 64 bits
abbrev pub next : ℕ → ℕ
next n = (n + 1) % 18446744073709551616

-- where the name of the file starts that a line of so many bytes names: one after the comma before it; 0 where it names none
abbrev pub name_from : ℕ → Asked → ℕ
name_from n (calls c) = 0
name_from n (file_of submitter name) = suc (n - suc (length name))
name_from n (engagement actor category day s) = 0
name_from n (record_of asker id) = 0
name_from n unknown = 0

unfoldable pub name_at : List ℕ → ℕ
name_at line = name_from (length line) (line_of line)

-- the same, unless the file is given
abbrev pub wanted : Option File → List ℕ → ℕ
wanted None line = name_at line
wanted (Some file) line = 0

-- the file that is given; where none is, none can be read
abbrev pub file_in : Option File → File
file_in given = unwrap_or given None

-- the walk stops and wants something
abbrev pub stops : Walked → Wants → Walked
stops w want =
    record { register = w.register; ledger = w.ledger; number = w.number; at = w.at; output = w.output; out = w.out; wants = want }

-- a line is answered: the register that it leaves, the ledger, and what it says
abbrev pub tells_on : Walked → List ℕ → Register → Line → Walked
tells_on w line r x =
    record {
      register = r;
      ledger = x.ledger;
      number = next w.number;
      at = w.at + (length line + 1);
      output = answer_put w.output w.out (next w.number) x.said;
      out = answer_end w.output w.out (next w.number) x.said;
      wants = Input;
    }

abbrev pub answered : Option File → Walked → List ℕ → Walked
answered given w line =
    tells_on w line (line_step w.register (file_in given) (line_of line)).register (says_read w.ledger (file_in given) (line_of line))

-- lines are answered until there is none, no room, or one whose file isn't given yet
unfoldable pub walk : Option File → Walked → List (List ℕ) → Walked
walk given w [] = stops w Input
walk given w (line ∷ ls) =
    cond (has_room w.output w.out)
    (cond (wanted given line == 0)
    (walk None (answered given w line) ls)
    (stops w (Want.File (w.at + wanted given line) (w.at + length line))))
    (stops w Room)

-- ---- where the walk stands

-- the name of the file that a line names is the rest of the line from a place on
pub record NamedIn (line : List ℕ) (from : ℕ) : Type 0 where
  pub inside : from ≤ length line
  pub submitter : List ℕ
  pub files : line_of line ≡ file_of submitter (drop from line)

-- the name that is wanted lies in the input, at the end of the next line, which is one that files it
pub record Named (input : List ℕ) (at from to : ℕ) : Type 0 where
  pub after : from ≤ to
  pub inside : to ≤ length input
  pub submitter : List ℕ
  pub line : line_of (cut input at to) ≡ file_of submitter (cut input from to)

abbrev pub NamedIf : List ℕ → ℕ → Wants → Type 0
NamedIf input at Input = 0 ≤ at
NamedIf input at (Want.File from to) = Named input at from to
NamedIf input at Room = 0 ≤ at

-- the places lie in the input and the output
pub record Progressed (input : List ℕ) (at : ℕ) (output : List ℕ) (out : ℕ) (r : Progress) : Type 0 where
  pub reached : at ≤ length input → r.at ≤ length input
  pub room : out ≤ length output → r.out ≤ length output
  pub named : NamedIf input r.at r.wants
