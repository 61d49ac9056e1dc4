-- The tokens of a text lose nothing but blanks between them: one token after another, with blanks before, between and after them, is the
-- text again.
use mathlib.Core.Path.{◌≡◌}
use mathlib.Core.Bool.{true, false, cond, ◌&&◌}
use mathlib.Core.List.{List, [], ◌∷◌, ◌++◌}
use Prim.Native.Nat.{ℕ, ◌<◌}
use native.Mathlib.Omega.{arith}
use lib.Dec.{leb, eqb, lit<}
use lib.ListN.{get_or}
use borrow.Author.Tests.{leb-true, ne_eqb}
use Rattle.lists.proofs.Tests.{by_test, and_left, and_right}
use Rattle.notification.specs.Forms.{is_digit}
use Rattle.request.specs.Tokens.{is_blank, quote, onto, tokens_from, tokens, joined}

-- TOKENS LAID OUT AS A TEXT: no token and no byte; a blank more in front; a token in front of the rest
pub data Laid : List (List ℕ) → List ℕ → Type 0 where
  no_token : Laid [] []
  blank : (b : ℕ) (ts : List (List ℕ)) (s : List ℕ) → is_blank b ≡ true → Laid ts s → Laid ts (b ∷ s)
  token : (t : List ℕ) (ts : List (List ℕ)) (s : List ℕ) → Laid ts s → Laid (t ∷ ts) (t ++ s)

-- the same, where the text begins with its first token
data Begun : List (List ℕ) → List ℕ → Type 0 where
  nothing : Begun [] []
  begins : (t : List ℕ) (ts : List (List ℕ)) (s : List ℕ) → Laid ts s → Begun (t ∷ ts) (t ++ s)

begun_laid : (ts : List (List ℕ)) (s : List ℕ) → Begun ts s → Laid ts s
begun_laid _ _ nothing = no_token
begun_laid _ _ (begins t ts s l) = token t ts s l

onto_begun : (b : ℕ) (ts : List (List ℕ)) (s : List ℕ) → Begun ts s → Begun (onto b ts) (b ∷ s)
onto_begun b _ _ nothing = begins (b ∷ []) [] [] no_token
onto_begun b _ _ (begins t ts s l) = begins (b ∷ t) ts s l

-- a digit is neither a blank nor a quote
pub digit_plain : (b : ℕ) → is_digit b ≡ true → (is_blank b ≡ false) × (eqb b quote ≡ false)
digit_plain b e =
    (rw (above 32 (lit< tt), above 9 (lit< tt), above 13 (lit< tt), above 10 (lit< tt)), above 34 (lit< tt))
  where
    above : (n : ℕ) → n < 48 → eqb b n ≡ false
    above n h =
        let g = leb-true 48 b (and_left (leb 48 b) (leb b 57) e) in
        ne_eqb b n (λ (z : b ≡ n). omega arith)

-- what a text's tokens are inside quotes, outside, and where it begins with a digit
record Tokens (s : List ℕ) : Type 0 where
  within : Begun (tokens_from true s) s
  outside : Laid (tokens_from false s) s
  from_digit : is_digit (get_or s 0 0) ≡ true → Begun (tokens_from false s) s

-- a byte that is neither: a digit before another goes with it, any other stands alone
plain : (b : ℕ) (s : List ℕ) → Tokens s →
    Begun (cond (is_digit b && is_digit (get_or s 0 0)) (onto b (tokens_from false s)) ((b ∷ []) ∷ tokens_from false s)) (b ∷ s)
plain b s r =
    by_test (is_digit b && is_digit (get_or s 0 0))
    (λ d. rw d (onto_begun b (tokens_from false s) s (r.from_digit (and_right (is_digit b) (is_digit (get_or s 0 0)) d))))
    (λ d. rw d (begins (b ∷ []) (tokens_from false s) s r.outside))

laid_tokens : (s : List ℕ) → Tokens s
unfolding tokens_from
laid_tokens [] = record { within = nothing; outside = no_token; from_digit = λ e. nothing }
laid_tokens (b ∷ s) =
    let r = laid_tokens s in
    record {
      within =
          by_test (eqb b quote)
          (λ q. rw q (begins (b ∷ []) (tokens_from false s) s r.outside))
          (λ q. rw q (onto_begun b (tokens_from true s) s r.within));
      outside =
          by_test (is_blank b)
          (λ k. rw k (blank b (tokens_from false s) s k r.outside))
          (λ k. by_test (eqb b quote)
          (λ q. rw (k, q) (begun_laid (onto b (tokens_from true s)) (b ∷ s) (onto_begun b (tokens_from true s) s r.within)))
          (λ q. rw (k, q) (begun_laid _ (b ∷ s) (plain b s r))));
      from_digit = λ e. rw ((digit_plain b e).0, (digit_plain b e).1) (plain b s r);
    }

-- THE TOKENS OF A TEXT ARE LAID OUT AS THAT TEXT
pub tokens_laid : (s : List ℕ) → Laid (tokens s) s
tokens_laid s = (laid_tokens s).outside

-- and so are tokens joined without blanks
pub joined_laid : (ts : List (List ℕ)) → Laid ts (joined ts)
unfolding joined
joined_laid [] = no_token
joined_laid (t ∷ ts) = token t ts (joined ts) (joined_laid ts)
