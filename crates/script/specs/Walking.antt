-- How a line is walked, field by field: what the functions inside say.
use Rattle.std.specs.Prelude.{◌≡◌, true, false, List, ◌∷◌, ℕ, ◌+◌, ◌*◌, ◌≤◌, ◌<◌, length, take, Option, MatchOption, unwrap_or}
use Rattle.lists.specs.Searches.{every}
use Rattle.script.specs.Numbers.{is_number, value_of, is_day, day_in}
use Rattle.script.specs.Lines.{Asked}
use Rattle.script.specs.Fields.{fields_from}
use Rattle.script.specs.Spans.{cut, start, end_of, plain, read_as}
use Rattle.script.specs.declared.reading.Kind.TheVariants.{Unknown}
use Rattle.script.specs.declared.reading.Line.{Line}
use Rattle.script.specs.declared.numbers.Numeral.{Numeral}

-- where the field that starts at a place ends: it is the line's span up to there, and the other fields start after it
pub record FieldEnd (line : List ℕ) (from end : ℕ) : Type 0 where
  pub after : from ≤ end
  pub inside : end ≤ length line
  pub parts : fields_from line from ≡ cut line from end ∷ fields_from line (end + 1)

-- the comma that ends a field, where one does; else the field goes to the end of the line
abbrev pub CommaFound : List ℕ → ℕ → Option ℕ → Type 0
CommaFound line from found =
    MatchOption found (FieldEnd line from (length line)) (λ end. FieldEnd line from end × (end < length line))

-- a text is a date of a day, or a number of a value
abbrev pub IsDay : List ℕ → ℕ → Type 0
IsDay s day = (is_day s ≡ true) × (day ≡ day_in s)

abbrev pub IsValue : List ℕ → ℕ → Type 0
IsValue s v = (is_number s ≡ true) × (v ≡ value_of s)

-- a text is read as a number: its value, where it is one
abbrev pub ValueRead : List ℕ → Option ℕ → Type 0
ValueRead s found = MatchOption found (is_number s ≡ false) (IsValue s)

-- the fields of a line that begins with a letter and a comma
abbrev pub lettered : List ℕ → List (List ℕ)
lettered line = take 1 line ∷ fields_from line start

-- such a line as it is read, by what its other fields say in a form
abbrev pub read_by : List ℕ → (List (List ℕ) → Asked) → Line
read_by line form = read_as (end_of (lettered line)) (form (fields_from line start))

-- a line of no known form is unknown
abbrev pub or_unknown : Option Line → Line
or_unknown read = unwrap_or read (plain Unknown 0 0 0 0)

-- the bytes from a place to before another are a number, and more bytes follow
pub record Spelt (line : List ℕ) (from v end : ℕ) : Type 0 where
  pub after : from ≤ end
  pub inside : end < length line
  pub good : is_number (cut line from end) ≡ true
  pub value : value_of (cut line from end) ≡ v

-- a field is read: where it ends, and the number that it is, where it is one
pub record NumberRead (line : List ℕ) (from : ℕ) (r : Numeral) : Type 0 where
  pub ends : FieldEnd line from r.end
  pub number : ValueRead (cut line from r.end) r.number

-- the fields from a place on are counted where each is a number; each has a byte, and a comma stands between two
abbrev pub AllCounted : List ℕ → ℕ → Option ℕ → Type 0
AllCounted line from counted =
    MatchOption counted (every is_number (fields_from line from) ≡ false)
    (λ n. (every is_number (fields_from line from) ≡ true) × (n ≡ length (fields_from line from)) × (n * 2 + from ≤ length line + 1))
