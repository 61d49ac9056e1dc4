-- The forms of codes, categories and powers (document 01, "The ledger", "The notification file").
use Rattle.std.specs.Prelude.{Bool, cond, ◌&&◌, ◌||◌, List, [], ◌∷◌, ◌++◌, ℕ, ◌+◌, ◌/◌, ◌%◌, leb, ltb, eqb, length, get_or, take, replicate}
use Rattle.lists.specs.Searches.{every}

-- a digit, 0 to 9
abbrev pub is_digit : ℕ → Bool
is_digit b = leb 48 b && leb b 57

-- a character of an EIC code: A to Z, 0 to 9, hyphen
abbrev pub is_code_byte : ℕ → Bool
is_code_byte b = leb 65 b && leb b 90 || is_digit b || eqb b 45

-- an EIC code has 16 of them
unfoldable pub is_code : List ℕ → Bool
is_code s = eqb (length s) 16 && every is_code_byte s

-- a category is five digits, perhaps followed by C
unfoldable pub is_category : List ℕ → Bool
is_category s = every is_digit (take 5 s) && (eqb (length s) 5 || eqb (length s) 6 && eqb (get_or s 5 0) 67)

-- entries in so many places, with 0 past them
abbrev pub filled : ℕ → List ℕ → List ℕ
filled n s = take n (s ++ replicate n 0)

-- a category in six bytes, where one without C ends with a 0, and its text
abbrev pub six_bytes : List ℕ → List ℕ
six_bytes s = filled 6 s

unfoldable pub category_text : List ℕ → List ℕ
category_text c = cond (eqb (get_or c 5 0) 0) (take 5 c) c

-- the least power that is none
abbrev pub power_end : ℕ
power_end = 10000

-- a power in digits, without sign or needless zero
unfoldable pub digits : ℕ → List ℕ
digits p =
    cond (ltb p 10) ((48 + p) ∷ [])
    (cond (ltb p 100) ((48 + p / 10) ∷ (48 + p % 10) ∷ [])
    (cond (ltb p 1000) ((48 + p / 100) ∷ (48 + p / 10 % 10) ∷ (48 + p % 10) ∷ [])
    ((48 + p / 1000) ∷ (48 + p / 100 % 10) ∷ (48 + p / 10 % 10) ∷ (48 + p % 10) ∷ [])))

-- the places for powers in a notification: the steps of the longest day
abbrev pub places : ℕ
places = 50

-- powers in their places
unfoldable pub in_places : List ℕ → List ℕ
in_places ps = filled places ps

-- every power is 0
unfoldable pub all_zero : List ℕ → Bool
all_zero ps = every (λ p. eqb p 0) ps
