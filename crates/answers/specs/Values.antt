-- Document 01's number and values for each case of an answer ("Choosing the form by place": "Where an answer is an enum, a
-- definition sets out this paper's number and values for each of its cases").
use Rattle.std.specs.Prelude.{[], ◌∷◌, ℕ, Result, Ok, Err}
use Rattle.refusals.specs.Numbers.{number_of, place_of}
use Rattle.refusals.specs.declared.Refusal.{Refusal}
use Rattle.ledger.specs.Call.{Answered}
use Rattle.ledger.specs.declared.Answer.TheVariants.{Moved, Held, Filed}
use Rattle.ledger.specs.declared.Shown.{Shown}
use Rattle.answers.specs.declared.Said.{Said}

-- none of the values is a letter
abbrev pub no_letter : ℕ
no_letter = 3

-- a result: how many values, which of them is a letter, and the values, 0 past their count
abbrev pub said_ok : ℕ → ℕ → ℕ → ℕ → ℕ → Said
said_ok count letter a b c = record { number = 0; place = 0; count = count; letter = letter; values = a ∷ b ∷ c ∷ [] }

-- a refusal: its number and place
abbrev pub said_refusal : ℕ → ℕ → Said
said_refusal number place = record { number = number; place = place; count = 0; letter = no_letter; values = 0 ∷ 0 ∷ 0 ∷ [] }

-- a refusal that has a number alone: 11, "program only"
abbrev pub said_refused : ℕ → Said
said_refused number = said_refusal number 0

abbrev pub said_no : Refusal → Said
said_no r = said_refusal (number_of r) (place_of r)

-- "T nothing; A, C and L how many there now are; F id, status, from-step"
abbrev pub said_of : Answered → Said
said_of (Ok Moved) = said_ok 0 no_letter 0 0 0
said_of (Ok (Held n)) = said_ok 1 no_letter n 0 0
said_of (Ok (Filed id status from)) = said_ok 3 1 id status from
said_of (Err r) = said_no r

-- "E the engagement"; the history: how many ids
abbrev pub said_number : Result ℕ Refusal → Said
said_number (Ok n) = said_ok 1 no_letter n 0 0
said_number (Err r) = said_no r

-- "R status, from, until"
abbrev pub said_shown : Result Shown Refusal → Said
said_shown (Ok s) = said_ok 3 0 s.status s.from s.until
said_shown (Err r) = said_no r
