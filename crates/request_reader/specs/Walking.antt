-- How the reader goes through an object: token by token, by the tests that the tokens have to pass.
use Rattle.std.specs.Prelude.{◌≡◌, Bool, true, false, cond, not, ◌&&◌, ◌||◌, List, [], ◌∷◌, ◌++◌, ℕ, ◌+◌, ◌-◌, ◌*◌, ◌≤◌, ltb, eqb, length, get_or, take, drop}
use Rattle.std.specs.Prelude.{Option, Some, None, MatchOption}
use Rattle.lists.specs.Searches.{every, same}
use Rattle.notification.specs.Forms.{is_digit}
use Rattle.request.specs.Tokens.{is_blank, quote, quoted, inside, tokens, is, quoted_by}
use Rattle.calendar.specs.Texts.{pair_of}

-- the first tokens pass the tests, one each
unfoldable pub starts : List (List ℕ → Bool) → List (List ℕ) → Bool
starts [] ts = true
starts (p ∷ ps) [] = false
starts (p ∷ ps) (t ∷ ts) = p t && starts ps ts

-- no blank stands at the place, and the tokens from it on are those from the earlier place on
pub record Past (s : List ℕ) (at from : ℕ) : Type 0 where
  pub on : at ≤ from
  pub no_blank : is_blank (get_or s from 0) ≡ false
  pub same_tokens : tokens (drop from s) ≡ tokens (drop at s)

-- from a place on stand tokens that pass the tests, and the next place is after them
pub record Walked (ps : List (List ℕ → Bool)) (s : List ℕ) (at next : ℕ) : Type 0 where
  pub within : next ≤ length s
  pub passes : starts ps (tokens (drop at s)) ≡ true
  pub leaves : tokens (drop next s) ≡ drop (length ps) (tokens (drop at s))

-- none such stand there
abbrev pub Missing : List (List ℕ → Bool) → List ℕ → ℕ → Type 0
Missing ps s at = starts ps (tokens (drop at s)) ≡ false

-- what is said of a place where they are looked for: the place after them
abbrev pub WalkSays : List (List ℕ → Bool) → List ℕ → ℕ → Option ℕ → Type 0
WalkSays ps s at next = MatchOption next (Missing ps s at) (Walked ps s at)

-- so many bytes of a text from a place on
abbrev pub part : ℕ → ℕ → List ℕ → List ℕ
part at n s = take n (drop at s)

-- four bytes from a place on as one number, and eight
abbrev pub four_at : List ℕ → ℕ → ℕ
four_at s i = get_or s i 0 + 256 * (get_or s (i + 1) 0 + 256 * (get_or s (i + 2) 0 + 256 * get_or s (i + 3) 0))

abbrev pub eight_at : List ℕ → ℕ → ℕ
eight_at s i = four_at s i + 4294967296 * four_at s (i + 4)

-- between two places stand these tokens, whatever stands after them
pub record Passed (ts : List (List ℕ)) (s : List ℕ) (at next : ℕ) : Type 0 where
  pub on : at ≤ next
  pub within : next ≤ length s
  pub lays : (r : List ℕ) → tokens (part at (next - at) s ++ r) ≡ ts ++ tokens r

-- the first token from a place on
abbrev pub first_token : List ℕ → ℕ → List ℕ
first_token s at = get_or (tokens (drop at s)) 0 []

-- a byte that is a token by itself, and not the one that is read past the end
unfoldable pub is_mark : ℕ → Bool
is_mark b = not (is_blank b || eqb b quote || is_digit b || eqb b 0)

-- a quoted text, of which no byte but the first and the last is a quote
abbrev pub is_plain : ℕ → Bool
is_plain b = not (eqb b quote)

unfoldable pub is_quoted : List ℕ → Bool
is_quoted t = same t (quoted (inside t)) && every is_plain (inside t)

-- MEMBERS

-- past tokens that pass the tests and the blanks after them
pub record Opened (ps : List (List ℕ → Bool)) (s : List ℕ) (at from : ℕ) : Type 0 where
  pub mid : ℕ
  pub walked : Walked ps s at mid
  pub past : Past s mid from
  pub within : from ≤ length s

-- what is said of a place where they are looked for
abbrev pub OpenSays : List (List ℕ → Bool) → List ℕ → ℕ → Option ℕ → Type 0
OpenSays ps s at from = MatchOption from (Missing ps s at) (Opened ps s at)

-- so many bytes stand between quotes at a place
unfoldable pub framed : List ℕ → ℕ → ℕ → Bool
framed s from n = not (ltb (length s) (from + n + 2)) && (eqb (get_or s from 0) quote && eqb (get_or s (from + n + 1) 0) quote)

-- the bytes between them
abbrev pub between : List ℕ → ℕ → ℕ → List ℕ
between s from n = take n (drop (from + 1) s)

-- a member from after its name on: a quoted value of a form, with the colon before it and the comma after it
abbrev pub value_tests : (List ℕ → Bool) → List (List ℕ → Bool)
value_tests form = is (58 ∷ []) ∷ quoted_by form ∷ is (44 ∷ []) ∷ []

-- it stands at a place, and what was read is by it
pub record Valued {A : Type 0} (form : List ℕ → Bool) (value : List ℕ → A) (s : List ℕ) (at next : ℕ) (read : A) : Type 0 where
  pub walked : Walked (value_tests form) s at next
  pub its_value : read ≡ value (inside (get_or (tokens (drop at s)) 1 []))

-- a member with the comma after it
abbrev pub member_tests : List ℕ → (List ℕ → Bool) → List (List ℕ → Bool)
member_tests name value = is name ∷ is (58 ∷ []) ∷ value ∷ is (44 ∷ []) ∷ []

-- A MOMENT'S TWENTY BYTES

-- the bytes that are no digits
unfoldable pub marks_stand : List ℕ → Bool
marks_stand s =
    eqb (get_or s 4 0) 45 && eqb (get_or s 7 0) 45 && eqb (get_or s 10 0) 84 && eqb (get_or s 13 0) 58 && eqb (get_or s 16 0) 58 && eqb (get_or s 19 0) 90

-- the digits of the date
abbrev pub date_digits : List ℕ → List ℕ
date_digits s = take 4 s ++ (take 2 (drop 5 s) ++ take 2 (drop 8 s))

-- the second that the digits of the time give, where there is such a time
unfoldable pub time_in : List ℕ → Option ℕ
time_in s =
    let h = pair_of (get_or s 11 0) (get_or s 12 0) in
    let m = pair_of (get_or s 14 0) (get_or s 15 0) in
    let t = pair_of (get_or s 17 0) (get_or s 18 0) in
    cond (ltb h 24 && ltb m 60 && ltb t 60) (Some (3600 * h + 60 * m + t)) None

-- A RUN OF BYTES

-- from a place to another every byte passes a test, and the next one doesn't
pub record RunTo (p : ℕ → Bool) (s : List ℕ) (from end : ℕ) : Type 0 where
  pub on : from ≤ end
  pub within : end ≤ length s
  pub all : every p (take (end - from) (drop from s)) ≡ true
  pub stop : p (get_or s end 0) ≡ false
