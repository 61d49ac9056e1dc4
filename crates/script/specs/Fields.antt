-- The fields of a line (document 01, "The script program": "fields in a fixed order parted by commas, no quoting") from a place on, and the
-- numbers that they are.
use Rattle.std.specs.Prelude.{cond, List, [], ℕ, leb, length, drop}
use Rattle.script.specs.Numbers.{number_end, is_number, value_of}
use Rattle.script.specs.Lines.{fields}

-- the fields from a place on; none past the end of the line
unfoldable pub fields_from : List ℕ → ℕ → List (List ℕ)
fields_from line at = cond (leb at (length line)) (fields (drop at line)) []

-- "numbers of up to five digits without needless zeros": the number that a text is, and the least with six digits where it is none
unfoldable pub number_in : List ℕ → ℕ
number_in s = cond (is_number s) (value_of s) number_end
