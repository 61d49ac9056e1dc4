-- What a line of the script asks (document 01, "The script program").
use Rattle.std.specs.Prelude.{Bool, cond, ◌&&◌, List, [], ◌∷◌, map, ℕ, leb, eqb, length}
use Rattle.lists.specs.Searches.{every}
use Rattle.notification.specs.Reading.{onto}
use Rattle.ledger.specs.Call as Call
use Rattle.ledger.specs.declared.Entry.TheVariants.{SevenDays}
use Rattle.script.specs.Numbers.{is_number, value_of, is_day, day_in}

-- what lines ask: a call of demand 3's list, a filing, whose body is found under the name, an engagement or a record; a line of no known
-- form, or over its length, is unknown
pub data Asked : Type 0 where
  calls : Call.Call → Asked
  file_of : (submitter name : List ℕ) → Asked
  engagement : (actor category : List ℕ) → (day step : ℕ) → Asked
  record_of : (asker : List ℕ) → (id : ℕ) → Asked
  unknown : Asked

-- "F .. (the body is the file of that name)": the call of a line that files, once its body is found
abbrev pub filing : (submitter name body : List ℕ) → Call.Call
filing submitter name body = Call.file SevenDays submitter (Call.csv name body)

-- "lines of at most 512 bytes"
abbrev pub line_most : ℕ
line_most = 512

-- "fields in a fixed order parted by commas, no quoting"
abbrev pub comma : ℕ
comma = 44

unfoldable pub fields : List ℕ → List (List ℕ)
fields [] = [] ∷ []
fields (b ∷ s) = onto (eqb b comma) b (fields s)

abbrev pub known : Bool → Asked → Asked
known good asked = cond good asked unknown

-- "in a fixed order": one field and then the others, no field any more, one field or more; another number of fields is unknown
abbrev pub field : (List ℕ → List (List ℕ) → Asked) → List (List ℕ) → Asked
field f [] = unknown
field f (x ∷ fs) = f x fs

abbrev pub end : Asked → List (List ℕ) → Asked
end asked [] = asked
end asked (x ∷ fs) = unknown

abbrev pub more : (List (List ℕ) → Asked) → List (List ℕ) → Asked
more f [] = unknown
more f (x ∷ fs) = f (x ∷ fs)

-- `T,date,minute`
unfoldable pub advance_line : List (List ℕ) → Asked
advance_line =
    field (λ date. field (λ minute. end (known (is_day date && is_number minute) (calls (Call.advance (day_in date) (value_of minute))))))

-- `A,code,first,last`
unfoldable pub enrol_line : List (List ℕ) → Asked
enrol_line =
    field (λ code. field (λ first. field (λ last. end
    (known (is_day first && is_day last) (calls (Call.enrol_actor code (day_in first) (day_in last)))))))

-- `C,category`
unfoldable pub category_line : List (List ℕ) → Asked
category_line = field (λ text. end (calls (Call.enrol_category text)))

-- `L,actor,category,date,approved,` then one power or more
unfoldable pub load_line : List (List ℕ) → Asked
load_line =
    field (λ actor. field (λ category. field (λ date. field (λ approved. more (λ powers.
    known (is_day date && is_number approved && every is_number powers)
    (calls (Call.load actor category (day_in date) (value_of approved) (map value_of powers))))))))

-- `F,submitter,name`
unfoldable pub file_line : List (List ℕ) → Asked
file_line = field (λ submitter. field (λ name. end (file_of submitter name)))

-- `E,actor,category,date,step`
unfoldable pub engagement_line : List (List ℕ) → Asked
engagement_line =
    field (λ actor. field (λ category. field (λ date. field (λ step. end
    (known (is_day date && is_number step) (engagement actor category (day_in date) (value_of step)))))))

-- `R,asker,id`
unfoldable pub record_line : List (List ℕ) → Asked
record_line = field (λ asker. field (λ id. end (known (is_number id) (record_of asker (value_of id)))))

-- the first field is one letter, and 0 stands for a field that is none
abbrev pub letter_of : List ℕ → ℕ
letter_of [] = 0
letter_of (b ∷ []) = b
letter_of (b ∷ c ∷ s) = 0

-- T, A, C, L, F, E or R says what the other fields are
unfoldable pub by_letter : ℕ → List (List ℕ) → Asked
by_letter b fs =
    cond (eqb b 84) (advance_line fs)
    (cond (eqb b 65) (enrol_line fs)
    (cond (eqb b 67) (category_line fs)
    (cond (eqb b 76) (load_line fs)
    (cond (eqb b 70) (file_line fs)
    (cond (eqb b 69) (engagement_line fs)
    (cond (eqb b 82) (record_line fs) unknown))))))

-- WHAT A LINE ASKS
unfoldable pub line_of : List ℕ → Asked
line_of line = known (leb (length line) line_most) (field (λ letter. by_letter (letter_of letter)) (fields line))
