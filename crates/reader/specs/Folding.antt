-- What is kept from step to step, however the steps are told, and from line to line of a file.
use Rattle.std.specs.Prelude.{◌≡◌, Bool, cond, not, ◌&&◌, ◌||◌, List, [], ◌∷◌, ℕ, ◌+◌, ◌≤◌, min, leb, eqb, length, drop, set, replicate, Result, Ok, Err}
use Rattle.refusals.specs.Tests.{Verdict, pass, input, decide}
use Rattle.refusals.specs.declared.Refusal.{Refusal}
use Rattle.refusals.specs.declared.Refusal.TheVariants.{Input}
use Rattle.refusals.specs.declared.InputRefusal.TheVariants.{Header, Differs, Lines, Labels, Power, Zeros}
use Rattle.notification.specs.Forms.{places, all_zero}
use Rattle.notification.specs.Reading.{is_header, lines_in}
use Rattle.notification.specs.declared.Key.{Key}
use Rattle.notification.specs.declared.Notification.{Notification}
use Rattle.reader.specs.declared.lines.FileTally.{FileTally}
use Rattle.reader.specs.declared.tally.StepFault.{StepFault}
use Rattle.reader.specs.declared.tally.StepFault.TheVariants.{NoLabels, NoPower}
use Rattle.std.specs.Prelude.{Result, Ok, Err}
use Rattle.reader.specs.declared.tally.Tally.{Tally}
use Rattle.reader.specs.Walking.{starts_with, line_power, whole_to, rest_in}

-- WHAT IS KEPT FROM STEP TO STEP

-- the tally, and the powers in their places
pub record Taken : Type 0 where
  pub tally : Tally
  pub powers : List ℕ

-- more steps than any day has are counted as one more than that
abbrev pub one_more : ℕ → ℕ
one_more n = min (n + 1) 51

abbrev pub counted : Tally → Tally
counted t = record { lines = one_more t.lines; fault = t.fault; place = t.place }

-- a fault is said by the number of its refusal, and 0 is none
abbrev pub labels_fault : ℕ
labels_fault = 6

abbrev pub power_fault : ℕ
power_fault = 7

abbrev pub faulted : Tally → ℕ → ℕ → Tally
faulted t number place = record { lines = one_more t.lines; fault = number; place = place }

-- a step of the day, after no fault: its power, or the first fault, where the place of the first step is given
abbrev pub judged : ℕ → Taken → Result ℕ StepFault → Taken
judged first x (Ok p) = record { tally = counted x.tally; powers = set x.powers x.tally.lines p }
judged first x (Err NoLabels) = record { tally = faulted x.tally labels_fault (x.tally.lines + first); powers = x.powers }
judged first x (Err NoPower) = record { tally = faulted x.tally power_fault (x.tally.lines + first); powers = x.powers }

-- after a fault, and past the day's steps, a step is only counted
abbrev pub is_over : ℕ → Tally → Bool
is_over steps t = not (eqb t.fault 0) || leb steps t.lines

-- the next step, by what is said of it
abbrev pub step_taken : ℕ → ℕ → Taken → Result ℕ StepFault → Taken
step_taken first steps x said =
    cond (is_over steps x.tally) (record { tally = counted x.tally; powers = x.powers }) (judged first x said)

-- steps one after another, by what is said of each as step k
unfoldable pub take_all : {A : Type 0} → (ℕ → A → Result ℕ StepFault) → ℕ → ℕ → Taken → List A → Taken
take_all say first steps x [] = x
take_all say first steps x (a ∷ xs) = take_all say first steps (step_taken first steps x (say x.tally.lines a)) xs

-- the line of a file's first step, the header being 1
abbrev pub first_line : ℕ
first_line = 2

-- the next step's line
unfoldable pub take_step : ℕ → Taken → List ℕ → Taken
take_step steps x line = step_taken first_line steps x (line_power steps x.tally.lines line)

unfoldable pub take_steps : ℕ → Taken → List (List ℕ) → Taken
take_steps steps x [] = x
take_steps steps x (l ∷ ls) = take_steps steps (take_step steps x l) ls

-- before the first step
abbrev pub no_steps : Tally
no_steps = record { lines = 0; fault = 0; place = 0 }

-- what the first fault is refused by
unfoldable pub fault_of : Tally → Verdict
fault_of t = cond (eqb t.fault 0) pass (cond (eqb t.fault labels_fault) (Err (Input Labels t.place)) (Err (Input Power t.place)))

-- what the steps come to: their number, the first fault, whether a power is not 0
unfoldable pub outcome_of : ℕ → Tally → List ℕ → Verdict
outcome_of steps t powers =
    cond (not (eqb t.lines steps)) (Err (input Lines))
    (decide (fault_of t) (cond (all_zero powers) (Err (input Zeros)) pass) Err)

-- the notification that the steps come to, or their refusal
unfoldable pub judgement : Key → ℕ → Tally → List ℕ → Result Notification Refusal
judgement key steps t powers = decide (outcome_of steps t powers) (Ok (record { key = key; steps = steps; powers = powers })) Err

-- WHAT IS KEPT FROM LINE TO LINE OF A FILE

-- what was found of the header (0: no line yet, 1: it is the name's, 3 and 4: what refuses it), and the steps
pub record FileTaken : Type 0 where
  pub header : ℕ
  pub steps : Taken

abbrev pub with_powers : FileTally → List ℕ → FileTaken
with_powers t ps = record { header = t.header; steps = record { tally = t.steps; powers = ps } }

-- a line 1 that is not the name's header: 4 where it is a header, else 3
abbrev pub other_header : List ℕ → ℕ
other_header l = cond (is_header l) 4 3

-- the next line: a header that is not the name's, or a step's; after a header that is refused no line is looked at
unfoldable pub take_line : ℕ → FileTaken → List ℕ → FileTaken
take_line steps x l =
    cond (eqb x.header 0) (record { header = other_header l; steps = x.steps })
    (cond (eqb x.header 1) (record { header = x.header; steps = take_step steps x.steps l }) x)

unfoldable pub take_lines : ℕ → FileTaken → List (List ℕ) → FileTaken
take_lines steps x [] = x
take_lines steps x (l ∷ ls) = take_lines steps (take_line steps x l) ls

-- the name's header and its LF are what a text begins with, where there was no line yet
abbrev pub is_headed : List ℕ → ℕ → List ℕ → Bool
is_headed header found text = eqb found 0 && starts_with header text

abbrev pub headed_by : List ℕ → ℕ → List ℕ → ℕ
headed_by header found text = cond (is_headed header found text) 1 found

-- what stands after it
abbrev pub past_header : List ℕ → ℕ → List ℕ → List ℕ
past_header header found text = cond (is_headed header found text) (drop (length header) text) text

-- the whole lines of a text, and the unfinished line after them
unfoldable pub take_text : List ℕ → ℕ → FileTaken → List ℕ → FileTaken
take_text header steps x text =
    take_lines steps (record { header = headed_by header x.header text; steps = x.steps }) (lines_in (past_header header x.header text))

unfoldable pub rest_of_text : List ℕ → ℕ → List ℕ → List ℕ
rest_of_text header found text = rest_in (past_header header found text)

-- before the first line
abbrev pub no_lines : FileTaken
no_lines = record { header = 0; steps = record { tally = no_steps; powers = replicate places 0 } }

-- what the header is refused by
unfoldable pub header_said : ℕ → Verdict
header_said found = cond (eqb found 3) (Err (Input Header 1)) (cond (eqb found 4) (Err (Input Differs 1)) pass)

-- what a file's lines come to: the header's refusal, else what the steps come to
unfoldable pub concluded : Key → ℕ → FileTaken → Result Notification Refusal
concluded key steps x = decide (header_said x.header) (judgement key steps x.steps.tally x.steps.powers) Err

-- LINES TAKEN FROM A PLACE ON

-- steps' lines taken from a place on come to what is kept at a later place
pub record RunOn (steps : ℕ) (s : List ℕ) (from : ℕ) (x : Taken) (at : ℕ) (y : Taken) : Type 0 where
  pub after : from ≤ at
  pub within : at ≤ length s
  pub kept : take_steps steps x (lines_in (drop from s)) ≡ take_steps steps y (lines_in (drop at s))
  pub rest : from + whole_to (drop from s) ≡ at + whole_to (drop at s)
