-- A line of the script as it is read (document 01, "The script program"): its texts are spans of the line, and its powers are the fields
-- from a place on.
use Rattle.std.specs.Prelude.{Bool, true, false, List, ◌++◌, map, ℕ, suc, ◌+◌, ◌-◌, min, length, take, drop, replicate}
use Rattle.lists.specs.Sums.{sum_over}
use Rattle.ledger.specs.Call as Call
use Rattle.script.specs.Fields.{fields_from, number_in}
use Rattle.script.specs.Lines.{Asked, calls, file_of, engagement, record_of, unknown, fields, line_of}
use Rattle.script.specs.declared.reading.CallKind.{CallKind}
use Rattle.script.specs.declared.reading.CallKind.TheVariants.{Advance, EnrolActor, EnrolCategory, Load}
use Rattle.script.specs.declared.reading.Kind.{Kind}
use Rattle.script.specs.declared.reading.Kind.TheVariants.{Calls, Files, Engagement, RecordOf, Unknown}
use Rattle.script.specs.declared.reading.Line.{Line}
use Rattle.script.specs.declared.parts.Powers.{Powers}

-- the span of a line from a place to before another
abbrev pub cut : List ℕ → ℕ → ℕ → List ℕ
cut line from to = take (to - from) (drop from line)

-- where the first field after the letter and its comma starts
abbrev pub start : ℕ
start = 2

-- a line's two texts: the first, and the one after the comma that ends it
abbrev pub first_text : List ℕ → Line → List ℕ
first_text line r = cut line start r.first

abbrev pub second_text : List ℕ → Line → List ℕ
second_text line r = cut line (r.first + 1) r.second

-- the places for powers
abbrev pub power_places : ℕ
power_places = 256

-- a line's powers: the numbers that the fields from a place on are, so many of them
unfoldable pub powers_of : List ℕ → Line → List ℕ
powers_of line r = take (min r.count power_places) (map number_in (fields_from line r.from))

-- the same as they are handed on: how many they are, and every place, zeros after the powers
unfoldable pub powers_read : List ℕ → Line → Powers
powers_read line r =
    let powers = powers_of line r in
    record { count = length powers; numbers = powers ++ replicate (power_places - length powers) 0 }

-- THE CALL that a line is, by its texts, its day, its number and its powers
abbrev pub call_of : CallKind → List ℕ → List ℕ → ℕ → ℕ → List ℕ → Call.Call
call_of Advance x y day n powers = Call.advance day n
call_of EnrolActor x y day n powers = Call.enrol_actor x day n
call_of EnrolCategory x y day n powers = Call.enrol_category x
call_of Load x y day n powers = Call.load x y day n powers

-- WHAT A LINE ASKS by them
abbrev pub asked_of : Kind → List ℕ → List ℕ → ℕ → ℕ → List ℕ → Asked
asked_of (Calls call) x y day n powers = calls (call_of call x y day n powers)
asked_of Files x y day n powers = file_of x y
asked_of Engagement x y day n powers = engagement x y day n
asked_of RecordOf x y day n powers = record_of x n
asked_of Unknown x y day n powers = unknown

-- WHAT A LINE READ SAYS
unfoldable pub asked : List ℕ → Line → Asked
asked line r = asked_of r.kind (first_text line r) (second_text line r) r.day r.number (powers_of line r)

-- a line that files names a file
abbrev pub names_file : Kind → Bool
names_file (Calls call) = false
names_file Files = true
names_file Engagement = false
names_file RecordOf = false
names_file Unknown = false

-- where the k-th field of a line ends, field 0 being its letter: after the bytes of the fields up to it and the commas between them
unfoldable pub end_of : List (List ℕ) → ℕ → ℕ
end_of fs k = sum_over (take (suc k) fs) length + k

-- a line without powers
abbrev pub plain : Kind → ℕ → ℕ → ℕ → ℕ → Line
plain kind first second day n =
    record { kind = kind; first = first; second = second; day = day; number = n; from = 0; count = 0 }

-- a line as it is read, by what it asks and where its fields end; a filing is no call before its body is found
abbrev pub call_as : (ℕ → ℕ) → Call.Call → Line
call_as end (Call.advance day minute) = plain (Calls Advance) 0 0 day minute
call_as end (Call.enrol_actor code first last) = plain (Calls EnrolActor) (end 1) 0 first last
call_as end (Call.enrol_category text) = plain (Calls EnrolCategory) (end 1) 0 0 0
call_as end (Call.load actor category day approved powers) =
    record {
      kind = Calls Load;
      first = end 1;
      second = end 2;
      day = day;
      number = approved;
      from = end 4 + 1;
      count = length powers;
    }
call_as end (Call.file entry submitter form) = plain Unknown 0 0 0 0

abbrev pub read_as : (ℕ → ℕ) → Asked → Line
read_as end (calls call) = call_as end call
read_as end (file_of submitter name) = plain Files (end 1) (end 2) 0 0
read_as end (engagement actor category day s) = plain Engagement (end 1) (end 2) day s
read_as end (record_of asker id) = plain RecordOf (end 1) 0 0 id
read_as end unknown = plain Unknown 0 0 0 0

-- A LINE AS IT IS READ
unfoldable pub line_read : List ℕ → Line
line_read line = read_as (end_of (fields line)) (line_of line)
