-- A step of an object as it is read: its two labels, held against those of its place in the day, and its power.
use Rattle.std.specs.Prelude.{Option, Some, None}
use Rattle.std.specs.Prelude.{Result, Ok, Err}
use Rattle.reader.specs.declared.tally.StepFault.{StepFault}
use Rattle.reader.specs.declared.tally.StepFault.TheVariants.{NoLabels, NoPower}
use Rattle.std.specs.Prelude.{◌≡◌, Bool, true, false, cond, not, ◌&&◌, List, [], ◌∷◌, ◌++◌, ℕ, suc, ◌+◌, ◌≤◌, length, get_or, drop}
use Rattle.lists.specs.Searches.{every, same}
use Rattle.notification.specs.Reading.{power_value, is_power}
use Rattle.reader.specs.Walking.{leading_power}
use Rattle.request.specs.Tokens.{quoted, tokens, is, quoted_by}
use Rattle.request.specs.Objects.{Step, from_name, until_name, power_name}
use Rattle.request.specs.Writing.{hour_label}
use Rattle.request.specs.Reading.{is_label_byte, is_run, ended}
use Rattle.notification.specs.Forms.{is_digit}
use Rattle.request_reader.specs.declared.layouts.Layout.{Layout}
use Rattle.request_reader.specs.Walking.{Walked, part, Passed}

-- a label's member, without the comma after it
abbrev pub label_tests : List ℕ → List (List ℕ → Bool)
label_tests name = is name ∷ is (58 ∷ []) ∷ quoted_by (every is_label_byte) ∷ []

-- it stands at a place, and whether its label is the one wanted
pub record LabelAt (name wanted s : List ℕ) (at next : ℕ) (right : Bool) : Type 0 where
  pub walked : Walked (label_tests name) s at next
  pub its_label : right ≡ same (get_or (tokens (drop at s)) 2 []) (quoted wanted)

-- the power in the digits of a token, as they stand in a file, where `;` ends them
unfoldable pub power_of : List ℕ → Option (ℕ × ℕ)
power_of t =
    let s = t ++ 59 ∷ [] in
    leading_power (get_or s 0 0) (get_or s 1 0) (get_or s 2 0) (get_or s 3 0) (get_or s 4 0)

abbrev pub power_tests : List ℕ → List (List ℕ → Bool)
power_tests name = is name ∷ is (58 ∷ []) ∷ is_run ∷ []

-- a power's member stands at a place, and what its digits give
pub record PowerAt (name s : List ℕ) (at next : ℕ) (power : Option (ℕ × ℕ)) : Type 0 where
  pub walked : Walked (power_tests name) s at next
  pub its_power : power ≡ power_of (get_or (tokens (drop at s)) 2 [])

-- the tokens of a step up to its power
abbrev pub front_tests : List (List ℕ → Bool)
front_tests =
    is (123 ∷ [])
    ∷ (label_tests (quoted from_name) ++ is (44 ∷ []) ∷ (label_tests (quoted until_name) ++ is (44 ∷ []) ∷ power_tests (quoted power_name)))

-- the first step of some tokens
abbrev pub step_in : List (List ℕ) → Step (List ℕ)
step_in ts = record { from = get_or ts 3 []; until = get_or ts 7 []; power = get_or ts 11 [] }

-- what is said of a step whose labels are right or not, by its power
abbrev pub said_of : Bool → Option (ℕ × ℕ) → Result ℕ StepFault
said_of false power = (Err NoLabels)
said_of true (Some (v, n)) = Ok v
said_of true None = (Err NoPower)

-- what a step says, by the labels that it should have
unfoldable pub said_by : List ℕ → List ℕ → Step (List ℕ) → Result ℕ StepFault
said_by from until s =
    cond (not (same s.from (quoted from) && same s.until (quoted until))) (Err NoLabels)
    (cond (not (is_power (ended s))) (Err NoPower) (Ok (power_value (ended s))))

-- what it says as step k of a day
unfoldable pub said_at : ℕ → ℕ → Step (List ℕ) → Result ℕ StepFault
said_at steps k s = said_by (hour_label steps k) (hour_label steps (suc k)) s

-- a step stands at a place, and the next place is after its power
pub record StepAt (from until s : List ℕ) (at next : ℕ) (said : Result ℕ StepFault) : Type 0 where
  pub walked : Walked front_tests s at next
  pub its_said : said ≡ said_by from until (step_in (tokens (drop at s)))

-- HOW A STEP IS LAID OUT

-- the tokens before its first label, its second and its power
abbrev pub before_from : List (List ℕ)
before_from = (123 ∷ []) ∷ quoted from_name ∷ (58 ∷ []) ∷ []

abbrev pub before_until : List (List ℕ)
before_until = (44 ∷ []) ∷ quoted until_name ∷ (58 ∷ []) ∷ []

abbrev pub before_power : List (List ℕ)
before_power = (44 ∷ []) ∷ quoted power_name ∷ (58 ∷ []) ∷ []

-- its tokens up to its power, by its labels and its digits
abbrev pub front_of : List ℕ → List ℕ → List ℕ → List (List ℕ)
front_of from until digits =
    before_from ++ (quoted from ∷ (before_until ++ (quoted until ∷ (before_power ++ digits ∷ []))))

-- a text of five bytes of which the last is 0 stands in quotes at a place
pub record FiveAt (s : List ℕ) (at : ℕ) : Type 0 where
  pub opens : get_or s at 0 ≡ 34
  pub last : get_or s (at + 5) 0 ≡ 48
  pub closes : get_or s (at + 6) 0 ≡ 34

-- from a place on stand these tokens, the first label, and so on up to the power
pub record LaidOut (lead : List (List ℕ)) (s : List ℕ) (at : ℕ) (l : Layout) : Type 0 where
  pub to_from : Passed lead s at l.first
  pub from_label : FiveAt s l.first
  pub to_until : Passed before_until s (l.first + 7) l.second
  pub until_label : FiveAt s l.second
  pub to_power : Passed before_power s (l.second + 7) l.power

-- A POWER AT ONCE

-- n digits at a place are a power, and no digit stands after them
pub record RunAt (s : List ℕ) (at v n : ℕ) : Type 0 where
  pub some : 1 ≤ n
  pub within : at + n ≤ length s
  pub all : every is_digit (part at n s) ≡ true
  pub stop : is_digit (get_or s (at + n) 0) ≡ false
  pub its_power : power_of (part at n s) ≡ Some (v, n + 1)

abbrev pub RunSays : List ℕ → ℕ → Option (ℕ × ℕ) → Type 0
RunSays s at (Some (v, n)) = RunAt s at v n
RunSays s at None = Unit {0}

-- what is said of a step that is laid out so: the digits of its power, where two labels of a list stand in it
abbrev pub OwnSays : List ℕ → ℕ → List ℕ → Layout → Option (ℕ × ℕ) → Type 0
OwnSays t i s l (Some (v, n)) = (part (l.first + 1) 4 s ≡ part (i + 4) 4 t) × (part (l.second + 1) 4 s ≡ part (i + 14) 4 t) × RunAt s l.power v n
OwnSays t i s l None = Unit {0}

-- A STEP AT ONCE

-- from a place on stand these tokens and a step up to its power, which ends at the next place
pub record FrontAt (lead : List (List ℕ)) (from until s : List ℕ) (at next v : ℕ) : Type 0 where
  pub digits : List ℕ
  pub within : next ≤ length s
  pub its_tokens : tokens (drop at s) ≡ lead ++ (front_of from until digits ++ tokens (drop next s))
  pub run : is_run digits ≡ true
  pub its_power : power_of digits ≡ Some (v, length digits + 1)

-- `{"Debu`
abbrev pub open_text : List ℕ
open_text = 123 ∷ 34 ∷ 68 ∷ 101 ∷ 98 ∷ 117 ∷ []

-- at a place of a list of labels stands `t":"hhhm0"`, with any four bytes of a label before the 0
pub record LabelEntry (t : List ℕ) (i : ℕ) : Type 0 where
  pub within : i + 10 ≤ length t
  pub opens : part i 4 t ≡ 116 ∷ 34 ∷ 58 ∷ 34 ∷ []
  pub label : every is_label_byte (part (i + 4) 5 t) ≡ true
  pub last : get_or t (i + 8) 0 ≡ 48
  pub closes : get_or t (i + 9) 0 ≡ 34

-- 16 bytes at least and so many at most stand between two places
pub record Between (most from to : ℕ) : Type 0 where
  pub least : from + 16 ≤ to
  pub upto : to ≤ from + most

-- so many stand from a step's lead to its first label, from the last byte of that to the second, and from the last byte of this to its power
pub record Wide (lead : ℕ) (l : Layout) : Type 0 where
  pub to_from : Between 32 lead (l.first + 1)
  pub to_until : Between 24 (l.first + 5) (l.second + 1)
  pub to_power : Between 24 (l.second + 5) l.power

-- `t":"hhhmm"` of each half hour from 00h00 to the end of the day, one after another
unfoldable pub label_list : List ℕ
label_list =
    116 ∷ 34 ∷ 58 ∷ 34 ∷ 48 ∷ 48 ∷ 104 ∷ 48 ∷ 48 ∷ 34 ∷ 116 ∷ 34 ∷ 58 ∷ 34 ∷ 48 ∷ 48 ∷ 104 ∷ 51 ∷ 48 ∷ 34
    ∷ 116 ∷ 34 ∷ 58 ∷ 34 ∷ 48 ∷ 49 ∷ 104 ∷ 48 ∷ 48 ∷ 34 ∷ 116 ∷ 34 ∷ 58 ∷ 34 ∷ 48 ∷ 49 ∷ 104 ∷ 51 ∷ 48 ∷ 34
    ∷ 116 ∷ 34 ∷ 58 ∷ 34 ∷ 48 ∷ 50 ∷ 104 ∷ 48 ∷ 48 ∷ 34 ∷ 116 ∷ 34 ∷ 58 ∷ 34 ∷ 48 ∷ 50 ∷ 104 ∷ 51 ∷ 48 ∷ 34
    ∷ 116 ∷ 34 ∷ 58 ∷ 34 ∷ 48 ∷ 51 ∷ 104 ∷ 48 ∷ 48 ∷ 34 ∷ 116 ∷ 34 ∷ 58 ∷ 34 ∷ 48 ∷ 51 ∷ 104 ∷ 51 ∷ 48 ∷ 34
    ∷ 116 ∷ 34 ∷ 58 ∷ 34 ∷ 48 ∷ 52 ∷ 104 ∷ 48 ∷ 48 ∷ 34 ∷ 116 ∷ 34 ∷ 58 ∷ 34 ∷ 48 ∷ 52 ∷ 104 ∷ 51 ∷ 48 ∷ 34
    ∷ 116 ∷ 34 ∷ 58 ∷ 34 ∷ 48 ∷ 53 ∷ 104 ∷ 48 ∷ 48 ∷ 34 ∷ 116 ∷ 34 ∷ 58 ∷ 34 ∷ 48 ∷ 53 ∷ 104 ∷ 51 ∷ 48 ∷ 34
    ∷ 116 ∷ 34 ∷ 58 ∷ 34 ∷ 48 ∷ 54 ∷ 104 ∷ 48 ∷ 48 ∷ 34 ∷ 116 ∷ 34 ∷ 58 ∷ 34 ∷ 48 ∷ 54 ∷ 104 ∷ 51 ∷ 48 ∷ 34
    ∷ 116 ∷ 34 ∷ 58 ∷ 34 ∷ 48 ∷ 55 ∷ 104 ∷ 48 ∷ 48 ∷ 34 ∷ 116 ∷ 34 ∷ 58 ∷ 34 ∷ 48 ∷ 55 ∷ 104 ∷ 51 ∷ 48 ∷ 34
    ∷ 116 ∷ 34 ∷ 58 ∷ 34 ∷ 48 ∷ 56 ∷ 104 ∷ 48 ∷ 48 ∷ 34 ∷ 116 ∷ 34 ∷ 58 ∷ 34 ∷ 48 ∷ 56 ∷ 104 ∷ 51 ∷ 48 ∷ 34
    ∷ 116 ∷ 34 ∷ 58 ∷ 34 ∷ 48 ∷ 57 ∷ 104 ∷ 48 ∷ 48 ∷ 34 ∷ 116 ∷ 34 ∷ 58 ∷ 34 ∷ 48 ∷ 57 ∷ 104 ∷ 51 ∷ 48 ∷ 34
    ∷ 116 ∷ 34 ∷ 58 ∷ 34 ∷ 49 ∷ 48 ∷ 104 ∷ 48 ∷ 48 ∷ 34 ∷ 116 ∷ 34 ∷ 58 ∷ 34 ∷ 49 ∷ 48 ∷ 104 ∷ 51 ∷ 48 ∷ 34
    ∷ 116 ∷ 34 ∷ 58 ∷ 34 ∷ 49 ∷ 49 ∷ 104 ∷ 48 ∷ 48 ∷ 34 ∷ 116 ∷ 34 ∷ 58 ∷ 34 ∷ 49 ∷ 49 ∷ 104 ∷ 51 ∷ 48 ∷ 34
    ∷ 116 ∷ 34 ∷ 58 ∷ 34 ∷ 49 ∷ 50 ∷ 104 ∷ 48 ∷ 48 ∷ 34 ∷ 116 ∷ 34 ∷ 58 ∷ 34 ∷ 49 ∷ 50 ∷ 104 ∷ 51 ∷ 48 ∷ 34
    ∷ 116 ∷ 34 ∷ 58 ∷ 34 ∷ 49 ∷ 51 ∷ 104 ∷ 48 ∷ 48 ∷ 34 ∷ 116 ∷ 34 ∷ 58 ∷ 34 ∷ 49 ∷ 51 ∷ 104 ∷ 51 ∷ 48 ∷ 34
    ∷ 116 ∷ 34 ∷ 58 ∷ 34 ∷ 49 ∷ 52 ∷ 104 ∷ 48 ∷ 48 ∷ 34 ∷ 116 ∷ 34 ∷ 58 ∷ 34 ∷ 49 ∷ 52 ∷ 104 ∷ 51 ∷ 48 ∷ 34
    ∷ 116 ∷ 34 ∷ 58 ∷ 34 ∷ 49 ∷ 53 ∷ 104 ∷ 48 ∷ 48 ∷ 34 ∷ 116 ∷ 34 ∷ 58 ∷ 34 ∷ 49 ∷ 53 ∷ 104 ∷ 51 ∷ 48 ∷ 34
    ∷ 116 ∷ 34 ∷ 58 ∷ 34 ∷ 49 ∷ 54 ∷ 104 ∷ 48 ∷ 48 ∷ 34 ∷ 116 ∷ 34 ∷ 58 ∷ 34 ∷ 49 ∷ 54 ∷ 104 ∷ 51 ∷ 48 ∷ 34
    ∷ 116 ∷ 34 ∷ 58 ∷ 34 ∷ 49 ∷ 55 ∷ 104 ∷ 48 ∷ 48 ∷ 34 ∷ 116 ∷ 34 ∷ 58 ∷ 34 ∷ 49 ∷ 55 ∷ 104 ∷ 51 ∷ 48 ∷ 34
    ∷ 116 ∷ 34 ∷ 58 ∷ 34 ∷ 49 ∷ 56 ∷ 104 ∷ 48 ∷ 48 ∷ 34 ∷ 116 ∷ 34 ∷ 58 ∷ 34 ∷ 49 ∷ 56 ∷ 104 ∷ 51 ∷ 48 ∷ 34
    ∷ 116 ∷ 34 ∷ 58 ∷ 34 ∷ 49 ∷ 57 ∷ 104 ∷ 48 ∷ 48 ∷ 34 ∷ 116 ∷ 34 ∷ 58 ∷ 34 ∷ 49 ∷ 57 ∷ 104 ∷ 51 ∷ 48 ∷ 34
    ∷ 116 ∷ 34 ∷ 58 ∷ 34 ∷ 50 ∷ 48 ∷ 104 ∷ 48 ∷ 48 ∷ 34 ∷ 116 ∷ 34 ∷ 58 ∷ 34 ∷ 50 ∷ 48 ∷ 104 ∷ 51 ∷ 48 ∷ 34
    ∷ 116 ∷ 34 ∷ 58 ∷ 34 ∷ 50 ∷ 49 ∷ 104 ∷ 48 ∷ 48 ∷ 34 ∷ 116 ∷ 34 ∷ 58 ∷ 34 ∷ 50 ∷ 49 ∷ 104 ∷ 51 ∷ 48 ∷ 34
    ∷ 116 ∷ 34 ∷ 58 ∷ 34 ∷ 50 ∷ 50 ∷ 104 ∷ 48 ∷ 48 ∷ 34 ∷ 116 ∷ 34 ∷ 58 ∷ 34 ∷ 50 ∷ 50 ∷ 104 ∷ 51 ∷ 48 ∷ 34
    ∷ 116 ∷ 34 ∷ 58 ∷ 34 ∷ 50 ∷ 51 ∷ 104 ∷ 48 ∷ 48 ∷ 34 ∷ 116 ∷ 34 ∷ 58 ∷ 34 ∷ 50 ∷ 51 ∷ 104 ∷ 51 ∷ 48 ∷ 34
    ∷ 116 ∷ 34 ∷ 58 ∷ 34 ∷ 48 ∷ 48 ∷ 104 ∷ 48 ∷ 48 ∷ 34 ∷ []
