-- The tokens of a text. Document 02, K3: "Blanks, tabs, CR and LF may stand between tokens and around the object".
use Rattle.std.specs.Prelude.{Bool, true, false, cond, ◌&&◌, ◌||◌, List, [], ◌∷◌, ◌++◌, ℕ, ◌-◌, eqb, length, get_or, take, drop}
use Rattle.lists.specs.Searches.{same}
use Rattle.notification.specs.Forms.{is_digit}

-- "Blanks, tabs, CR and LF"
abbrev pub is_blank : ℕ → Bool
is_blank b = eqb b 32 || eqb b 9 || eqb b 13 || eqb b 10

abbrev pub quote : ℕ
quote = 34

-- a text in quotes, and what stands between the quotes of a token
abbrev pub quoted : List ℕ → List ℕ
quoted t = quote ∷ (t ++ quote ∷ [])

abbrev pub inside : List ℕ → List ℕ
inside t = take (length t - 2) (drop 1 t)

-- one byte more in front of the first token
abbrev pub onto : ℕ → List (List ℕ) → List (List ℕ)
onto b [] = (b ∷ []) ∷ []
onto b (t ∷ ts) = (b ∷ t) ∷ ts

-- the tokens of a text that begins inside quotes or outside: a quoted text, which ends with the next quote, a run of digits, or any
-- other byte that is no blank
unfoldable pub tokens_from : (inQuotes : Bool) → List ℕ → List (List ℕ)
tokens_from q [] = []
tokens_from true (b ∷ s) = cond (eqb b quote) ((b ∷ []) ∷ tokens_from false s) (onto b (tokens_from true s))
tokens_from false (b ∷ s) =
    cond (is_blank b) (tokens_from false s)
    (cond (eqb b quote) (onto b (tokens_from true s))
    (cond (is_digit b && is_digit (get_or s 0 0)) (onto b (tokens_from false s)) ((b ∷ []) ∷ tokens_from false s)))

abbrev pub tokens : List ℕ → List (List ℕ)
tokens s = tokens_from false s

-- tokens one after another, without blanks
unfoldable pub joined : List (List ℕ) → List ℕ
joined [] = []
joined (t ∷ ts) = t ++ joined ts

-- each token passes the test in its place, and there are as many tests as tokens
unfoldable pub fits : List (List ℕ → Bool) → List (List ℕ) → Bool
fits [] [] = true
fits [] (t ∷ ts) = false
fits (p ∷ ps) [] = false
fits (p ∷ ps) (t ∷ ts) = p t && fits ps ts

-- a token is this text
abbrev pub is : List ℕ → List ℕ → Bool
is text t = same t text

-- a token is a quoted text of a form
abbrev pub quoted_by : (List ℕ → Bool) → List ℕ → Bool
quoted_by form t = same t (quoted (inside t)) && form (inside t)
