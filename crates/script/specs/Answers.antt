-- The line that answers a line of the script (document 01, "The script program": "For each line it prints the line's number, then
-- `ok` and the result, or `no`, the number and the place").
use Rattle.std.specs.Prelude.{Bool, cond, List, [], ◌∷◌, ◌++◌, ℕ, suc, ◌+◌, ◌%◌, eqb, leb, length, take}
use Rattle.std.proofs.lemmas.List.Edits.{sets}
use Rattle.answers.specs.declared.Said.{Said}
use Rattle.script.specs.Numbers.{decimal}
use Rattle.script.specs.Lines.{comma}

-- a value: a number in digits, or a status's letter, which is one byte
unfoldable pub value_text : Bool → ℕ → List ℕ
value_text letter v = cond letter (v % 256 ∷ []) (decimal v)

-- the values of a result from the i-th on, each after a comma
unfoldable pub values_text : ℕ → ℕ → List ℕ → List ℕ
values_text letter i [] = []
values_text letter i (v ∷ vs) = comma ∷ (value_text (eqb i letter) v ++ values_text letter (suc i) vs)

-- `ok` and the result
abbrev pub ok_text : Said → List ℕ
ok_text said = 111 ∷ 107 ∷ values_text said.letter 0 (take said.count said.values)

-- `no`, the number and the place
abbrev pub no_text : Said → List ℕ
no_text said = 110 ∷ 111 ∷ comma ∷ (decimal said.number ++ comma ∷ decimal said.place)

-- what comes after the line's number, with the LF
unfoldable pub said_text : Said → List ℕ
said_text said = comma ∷ (cond (eqb said.number 0) (ok_text said) (no_text said) ++ 10 ∷ [])

-- THE LINE THAT ANSWERS
unfoldable pub answer_line : ℕ → Said → List ℕ
answer_line number said = decimal number ++ said_text said

-- the most bytes of such a line
abbrev pub line_room : ℕ
line_room = 64

-- a lent buffer with the line that answers at a place, every other byte as it was; without room for the longest line it stays as it is
unfoldable pub answer_put : List ℕ → ℕ → ℕ → Said → List ℕ
answer_put out at number said = cond (leb (at + line_room) (length out)) (sets out at (answer_line number said)) out

-- the place after that line
unfoldable pub answer_end : List ℕ → ℕ → ℕ → Said → ℕ
answer_end out at number said = cond (leb (at + line_room) (length out)) (at + length (answer_line number said)) at
