-- What stands before the steps of an object, and what is read of it.
use Rattle.std.specs.Prelude.{◌≡◌, Bool, true, ◌&&◌, List, [], ◌∷◌, ◌++◌, ℕ, ◌+◌, ◌≤◌, leb, length, drop}
use Rattle.notification.specs.Forms.{is_code, is_category, six_bytes}
use Rattle.request.specs.Tokens.{quoted, tokens, is, quoted_by}
use Rattle.request.specs.Moments.{moment_in, is_moment_text, is_day_text}
use Rattle.request.specs.Objects.{ceder_name, acquirer_name, origin_name, category_name, day_name, submitted_name, status_name, created, series_name}
use Rattle.request.specs.Reading.{text_at}
use Rattle.request_reader.specs.Walking.{Walked, member_tests, part}
use Rattle.request_reader.specs.declared.head.Parties.{Parties}
use Rattle.request_reader.specs.declared.head.Terms.{Terms}

-- a moment's text whose time is at most a second of the day
unfoldable pub is_timely : ℕ → List ℕ → Bool
is_timely latest s = is_moment_text s && leb (moment_in s).second latest

-- `{` and the three codes
abbrev pub party_tests : List (List ℕ → Bool)
party_tests =
    is (123 ∷ [])
    ∷ (member_tests (quoted ceder_name) (quoted_by is_code)
    ++ (member_tests (quoted acquirer_name) (quoted_by is_code) ++ member_tests (quoted origin_name) (quoted_by is_code)))

-- the category and the two dates
abbrev pub term_tests : List (List ℕ → Bool)
term_tests =
    member_tests (quoted category_name) (quoted_by is_category)
    ++ (member_tests (quoted day_name) (quoted_by is_day_text) ++ member_tests (quoted submitted_name) (quoted_by is_moment_text))

-- the status, and what stands before the first step
abbrev pub begin_tests : List (List ℕ → Bool)
begin_tests =
    is (quoted status_name) ∷ is (58 ∷ []) ∷ is (quoted created) ∷ is (44 ∷ [])
    ∷ is (quoted series_name) ∷ is (58 ∷ []) ∷ is (91 ∷ []) ∷ []

abbrev pub head_tests : List (List ℕ → Bool)
head_tests = party_tests ++ (term_tests ++ begin_tests)

pub record PartiesAt (s : List ℕ) (p : Parties) : Type 0 where
  pub walked : Walked party_tests s 0 p.at
  pub its_ceder : p.ceder ≡ text_at 3 (tokens s)
  pub its_acquirer : p.acquirer ≡ text_at 7 (tokens s)
  pub its_origin : p.origin ≡ text_at 11 (tokens s)

pub record TermsAt (s : List ℕ) (at : ℕ) (t : Terms) : Type 0 where
  pub walked : Walked term_tests s at t.at
  pub its_category : t.category ≡ six_bytes (text_at 2 (tokens (drop at s)))
  pub its_day : t.day ≡ moment_in (text_at 6 (tokens (drop at s)))
  pub its_moment : t.submitted ≡ moment_in (text_at 10 (tokens (drop at s)))

-- WITHOUT BLANKS

-- the name of a member and the quote before its value, after the quote of a value before it
abbrev pub member_from : List ℕ → List ℕ
member_from name = 34 ∷ 44 ∷ (quoted name ++ 58 ∷ 34 ∷ [])

-- what stands around the three codes, each of sixteen bytes
pub record PlainParties (s : List ℕ) : Type 0 where
  pub within : 128 ≤ length s
  pub to_ceder : part 0 24 s ≡ 123 ∷ (quoted ceder_name ++ 58 ∷ 34 ∷ [])
  pub to_acquirer : part 40 28 s ≡ member_from acquirer_name
  pub to_origin : part 84 26 s ≡ member_from origin_name
  pub end : part 126 2 s ≡ 34 ∷ 44 ∷ []

-- the two dates from the quote after the category on, and what is read of them
pub record PlainDates (s : List ℕ) (from : ℕ) (category : List ℕ) (r : Terms) : Type 0 where
  pub within : from + 84 ≤ length s
  pub its_place : r.at ≡ from + 84
  pub its_category : r.category ≡ category
  pub to_day : part from 22 s ≡ member_from day_name
  pub a_day : is_day_text (part (from + 22) 20 s) ≡ true
  pub its_day : r.day ≡ moment_in (part (from + 22) 20 s)
  pub to_moment : part (from + 42) 20 s ≡ member_from submitted_name
  pub a_moment : is_moment_text (part (from + 62) 20 s) ≡ true
  pub its_moment : r.submitted ≡ moment_in (part (from + 62) 20 s)
  pub end : part (from + 82) 2 s ≡ 34 ∷ 44 ∷ []
