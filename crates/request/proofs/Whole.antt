-- Whole tokens, laid out with blanks between them or without, are the tokens of what they give: a quoted text ends with its second quote,
-- a mark is one byte, and a run of digits ends where what follows begins with none.
use mathlib.Core.Path.{◌≡◌, refl, ap, ◌∙◌}
use mathlib.Core.Bool.{Bool, true, false, not, ◌||◌, false≢true}
use mathlib.Core.List.{List, [], ◌∷◌, ◌++◌}
use Prim.Native.Nat.{ℕ, suc}
use lib.Dec.{ltb, eqb}
use lib.ListN.{length, get_or}
use borrow.Author.Tests.{not-true}
use Rattle.lists.specs.Searches.{every}
use Rattle.lists.proofs.Tests.{by_test, true_false, and_left, and_right, both_false}
use Rattle.notification.specs.Forms.{is_digit}
use Rattle.request.specs.Tokens.{is_blank, quote, quoted, onto, tokens_from, tokens, joined, quoted_by, inside}
use Rattle.request.specs.Reading.{is_run}
use Rattle.request.proofs.Laid.{Laid, no_token, blank, token, digit_plain}
use Rattle.request.proofs.Fits.{quoted_back}

-- a byte that is no quote, and one that stands alone
abbrev pub unquoted : ℕ → Bool
unquoted b = not (eqb b quote)

abbrev pub is_mark : ℕ → Bool
is_mark b = not (is_blank b || eqb b quote || is_digit b)

-- WHOLE TOKENS
pub data Whole : List (List ℕ) → Type 0 where
  none : Whole []
  mark : (b : ℕ) (ts : List (List ℕ)) → is_mark b ≡ true → Whole ts → Whole ((b ∷ []) ∷ ts)
  text : (t : List ℕ) (ts : List (List ℕ)) → quoted_by (every unquoted) t ≡ true → Whole ts → Whole (t ∷ ts)
  run : (t : List ℕ) (ts : List (List ℕ)) → is_run t ≡ true → is_digit (get_or (joined ts) 0 0) ≡ false → Whole ts → Whole (t ∷ ts)

-- ---- one token in front of a text

tokens_mark : (b : ℕ) (s : List ℕ) → is_mark b ≡ true → tokens (b ∷ s) ≡ (b ∷ []) ∷ tokens s
unfolding tokens_from
tokens_mark b s e =
    let n = both_false (is_blank b || eqb b quote) (is_digit b) (not-true (is_blank b || eqb b quote || is_digit b) e) in
    let m = both_false (is_blank b) (eqb b quote) n.0 in
    rw (m.0, m.1, n.1)

quoted_rest : (t s : List ℕ) → every unquoted t ≡ true → tokens_from true ((t ++ quote ∷ []) ++ s) ≡ (t ++ quote ∷ []) ∷ tokens s
unfolding tokens_from
quoted_rest [] s e = refl
quoted_rest (b ∷ t) s e =
    rw (not-true (eqb b quote) (and_left (unquoted b) (every unquoted t) e), quoted_rest t s (and_right (unquoted b) (every unquoted t) e))

tokens_quoted : (t s : List ℕ) → every unquoted t ≡ true → tokens (quoted t ++ s) ≡ quoted t ∷ tokens s
unfolding tokens_from
tokens_quoted t s e = rw (quoted_rest t s e)

-- a digit before another, and a digit before none
tokens_digit : (b : ℕ) (s : List ℕ) → is_digit b ≡ true → is_digit (get_or s 0 0) ≡ true → tokens (b ∷ s) ≡ onto b (tokens s)
unfolding tokens_from
tokens_digit b s e f = let p = digit_plain b e in rw (p.0, p.1, e, f)

last_digit : (b : ℕ) (s : List ℕ) → is_digit b ≡ true → is_digit (get_or s 0 0) ≡ false → tokens (b ∷ s) ≡ (b ∷ []) ∷ tokens s
unfolding tokens_from
last_digit b s e f = let p = digit_plain b e in rw (p.0, p.1, e, f)

tokens_run : (b : ℕ) (t s : List ℕ) → every is_digit (b ∷ t) ≡ true → is_digit (get_or s 0 0) ≡ false
    → tokens ((b ∷ t) ++ s) ≡ (b ∷ t) ∷ tokens s
tokens_run b [] s e f = last_digit b s (and_left (is_digit b) true e) f
tokens_run b (c ∷ t) s e f =
    let d = and_right (is_digit b) (every is_digit (c ∷ t)) e in
    tokens_digit b (c ∷ (t ++ s)) (and_left (is_digit b) (every is_digit (c ∷ t)) e) (and_left (is_digit c) (every is_digit t) d)
    ∙ ap (onto b) (tokens_run c t s d f)

run_first : (t s : List ℕ) → is_run t ≡ true → is_digit (get_or s 0 0) ≡ false → tokens (t ++ s) ≡ t ∷ tokens s
run_first [] s e f = absurd (false≢true e)
run_first (b ∷ t) s e f = tokens_run b t s (and_right (ltb 0 (suc (length t))) (every is_digit (b ∷ t)) e) f

text_first : (t s : List ℕ) → quoted_by (every unquoted) t ≡ true → tokens (t ++ s) ≡ t ∷ tokens s
text_first t s e =
    let q = quoted_back (every unquoted) t e in
    rw q.0 (tokens_quoted (inside t) s q.1)

tokens_none : tokens [] ≡ []
unfolding tokens_from
tokens_none = refl

blank_plain : (b : ℕ) → is_blank b ≡ true → is_digit b ≡ false
blank_plain b e = by_test (is_digit b) (λ d. true_false (is_blank b) e (digit_plain b d).0) (λ d. d)

tokens_blank : (b : ℕ) (s : List ℕ) → is_blank b ≡ true → tokens (b ∷ s) ≡ tokens s
unfolding tokens_from
tokens_blank b s e = rw e

-- ---- all tokens

whole_rest : (t : List ℕ) (ts : List (List ℕ)) → Whole (t ∷ ts) → Whole ts
whole_rest _ _ (mark b ts e w) = w
whole_rest _ _ (text t ts e w) = w
whole_rest _ _ (run t ts e f w) = w

-- what a whole token begins with, whatever follows it
run_byte : (t s u : List ℕ) → is_run t ≡ true → get_or (t ++ s) 0 0 ≡ get_or (t ++ u) 0 0
run_byte [] s u e = absurd (false≢true e)
run_byte (b ∷ t) s u e = refl

first_byte : (t : List ℕ) (ts : List (List ℕ)) (s : List ℕ) → Whole (t ∷ ts) → get_or (t ++ s) 0 0 ≡ get_or (joined (t ∷ ts)) 0 0
unfolding joined
first_byte _ _ s (mark b ts e w) = refl
first_byte _ _ s (text t ts e w) = rw (quoted_back (every unquoted) t e).0
first_byte _ _ s (run t ts e f w) = run_byte t s (joined ts) e

first_digit : (ts : List (List ℕ)) (s : List ℕ) → Laid ts s → Whole ts → is_digit (get_or (joined ts) 0 0) ≡ false → is_digit (get_or s 0 0) ≡ false
unfolding joined
first_digit _ _ no_token w e = e
first_digit _ _ (blank b ts s k l) w e = blank_plain b k
first_digit _ _ (token t ts s l) w e = rw (first_byte t ts s w) e

whole_first : (t : List ℕ) (ts : List (List ℕ)) (s : List ℕ) → Laid ts s → Whole (t ∷ ts) → tokens (t ++ s) ≡ t ∷ tokens s
whole_first _ _ s l (mark b ts e w) = tokens_mark b s e
whole_first _ _ s l (text t ts e w) = text_first t s e
whole_first _ _ s l (run t ts e f w) = run_first t s e (first_digit ts s l w f)

-- EACH LAYOUT OF WHOLE TOKENS HAS THESE TOKENS
pub laid_whole : (ts : List (List ℕ)) (s : List ℕ) → Laid ts s → Whole ts → tokens s ≡ ts
laid_whole _ _ no_token w = tokens_none
laid_whole _ _ (blank b ts s e l) w = tokens_blank b s e ∙ laid_whole ts s l w
laid_whole _ _ (token t ts s l) w = whole_first t ts s l w ∙ ap (λ r. t ∷ r) (laid_whole ts s l (whole_rest t ts w))
