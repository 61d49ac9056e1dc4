-- A SCRIPT (document 01, "The script program"): which lines an input has, and what is printed for them.
use Rattle.std.specs.Prelude.{ℕ, suc, Bool, cond, List, [], ◌∷◌, ◌++◌, ◌==◌}
use Rattle.ledger.specs.Ledger.{Ledger}
use Rattle.ledger.specs.Call as Call
use Rattle.ledger.specs.Calls.{step}
use Rattle.ledger.specs.Asking.{ask_engagement, ask_record}
use Rattle.answers.specs.declared.Said.{Said}
use Rattle.answers.specs.Values.{said_of, said_number, said_shown, said_refused}
use Rattle.script.specs.Lines.{Asked, calls, file_of, engagement, record_of, unknown, filing, line_of}
use Rattle.script.specs.Answers.{answer_line}
use Rattle.session.specs.Lines.{no_call}

-- ---- the lines

abbrev pub lf : ℕ
lf = 10

-- "(the last may lack it)": bytes that no LF ends are a line; where there are none, there is no such line
abbrev pub last_line : List ℕ → List (List ℕ)
last_line [] = []
last_line (b ∷ s) = (b ∷ s) ∷ []

-- "each ended by an LF that isn't counted": the lines of what comes after the bytes with which a line has begun
unfoldable pub lines_after : List ℕ → List ℕ → List (List ℕ)
lines_after begun [] = last_line begun
lines_after begun (b ∷ s) = cond (b == lf) (begun ∷ lines_after [] s) (lines_after (begun ++ b ∷ []) s)

-- THE LINES OF AN INPUT
abbrev pub lines_of : List ℕ → List (List ℕ)
lines_of input = lines_after [] input

-- blocks of bytes, one after the other
abbrev pub joined : List (List ℕ) → List ℕ
joined [] = []
joined (b ∷ bs) = b ++ joined bs

-- ---- the answers

-- what is found under a name: whether there is a file that can be read, and its bytes
pub record Found : Type 0 where
  pub readable : Bool
  pub body : List ℕ

-- the ledger that a line leaves, and what it says
pub record Line : Type 0 where
  pub ledger : Ledger
  pub said : Said

abbrev pub called : Ledger → Call.Call → Line
called l c = record { ledger = (step l c).ledger; said = said_of (step l c).answer }

abbrev pub says : Ledger → Said → Line
says l said = record { ledger = l; said = said }

-- A LINE is its call of the ledger, or it asks, or it is 11; "(the body is the file of that name)": what is found of it
unfoldable pub line_says : Ledger → Found → Asked → Line
line_says l f (calls c) = called l c
line_says l f (file_of submitter name) = cond f.readable (called l (filing submitter name f.body)) (says l (said_refused no_call))
line_says l f (engagement actor category day s) = says l (said_number (ask_engagement l actor category day s))
line_says l f (record_of asker id) = says l (said_shown (ask_record l asker id))
line_says l f unknown = says l (said_refused no_call)

-- what is found for the line of a number, by the name that it has
abbrev pub Files : Type 0
Files = ℕ → List ℕ → Found

-- the name of the file that a line names; no bytes where it names none
abbrev pub name_of : Asked → List ℕ
name_of (calls c) = []
name_of (file_of submitter name) = name
name_of (engagement actor category day s) = []
name_of (record_of asker id) = []
name_of unknown = []

-- the line of the number n
abbrev pub answer : Files → Ledger → ℕ → List ℕ → Line
answer files l n line = line_says l (files n (name_of (line_of line))) (line_of line)

-- "For each line it prints the line's number, then ..": WHAT IS PRINTED FOR LINES, of which the first has the number n, each answered by
-- the ledger as the line before left it
unfoldable pub printed : Files → Ledger → ℕ → List (List ℕ) → List ℕ
printed files l n [] = []
printed files l n (line ∷ ls) = answer_line n (answer files l n line).said ++ printed files (answer files l n line).ledger (suc n) ls
