-- What the first token of a text is: a blank is passed over, a byte by itself, a quoted text or a run of digits is taken as it stands, and
-- where no blank stands first a text begins with its first token.
use mathlib.Core.Path.{◌≡◌, refl, ap, ◌∙◌}
use mathlib.Core.Bool.{true, false, ◌&&◌, ◌||◌}
use mathlib.Core.List.{List, [], ◌∷◌, ◌++◌}
use Prim.Native.Nat.{ℕ}
use lib.Dec.{eqb}
use lib.ListN.{get_or}
use borrow.Author.Tests.{eq-eqb, not-true}
use Rattle.lists.specs.Searches.{every, same}
use Rattle.lists.proofs.Tests.{by_test, and_left, and_right, or_left, or_right}
use Rattle.notification.specs.Forms.{is_digit}
use Rattle.reader.specs.Walking.{starts_with}
use Rattle.request.specs.Tokens.{is_blank, quote, quoted, onto, tokens_from, tokens}
use Rattle.request.proofs.Laid.{digit_plain}
use Rattle.request_reader.specs.Walking.{is_mark, is_plain}

-- ---- what is taken as it stands

pub tokens_blank : (b : ℕ) (s : List ℕ) → is_blank b ≡ true → tokens (b ∷ s) ≡ tokens s
unfolding tokens_from
tokens_blank b s e = rw e

pub tokens_mark : (b : ℕ) (s : List ℕ) → is_mark b ≡ true → tokens (b ∷ s) ≡ (b ∷ []) ∷ tokens s
unfolding tokens_from is_mark
tokens_mark b s e =
    let h = not-true (is_blank b || eqb b quote || is_digit b || eqb b 0) e in
    let f = or_left (is_blank b || eqb b quote || is_digit b) (eqb b 0) h in
    let g = or_left (is_blank b || eqb b quote) (is_digit b) f in
    rw (or_left (is_blank b) (eqb b quote) g, or_right (is_blank b) (eqb b quote) g, or_right (is_blank b || eqb b quote) (is_digit b) f)

-- inside quotes, up to the next quote
quotes_end : (t s : List ℕ) → every is_plain t ≡ true → tokens_from true (t ++ quote ∷ s) ≡ (t ++ quote ∷ []) ∷ tokens s
unfolding tokens_from
quotes_end [] s e = refl
quotes_end (b ∷ t) s e =
    let n = not-true (eqb b quote) (and_left (is_plain b) (every is_plain t) e) in
    rw (n, quotes_end t s (and_right (is_plain b) (every is_plain t) e))

append_two : (t s : List ℕ) → (t ++ quote ∷ []) ++ s ≡ t ++ quote ∷ s
append_two [] s = refl
append_two (b ∷ t) s = ap (λ (l : List ℕ). b ∷ l) (append_two t s)

pub tokens_quoted : (t s : List ℕ) → every is_plain t ≡ true → tokens (quoted t ++ s) ≡ quoted t ∷ tokens s
unfolding tokens_from
tokens_quoted t s e = rw (append_two t s, quotes_end t s e)

pub tokens_run : (d : ℕ) (t s : List ℕ) → every is_digit (d ∷ t) ≡ true → is_digit (get_or s 0 0) ≡ false → tokens ((d ∷ t) ++ s) ≡ (d ∷ t) ∷ tokens s
unfolding tokens_from
tokens_run d [] s e f =
    let a = and_left (is_digit d) true e in
    let m = digit_plain d a in
    rw (m.0, m.1, a, f)
tokens_run d (c ∷ t) s e f =
    let a = and_left (is_digit d) (is_digit c && every is_digit t) e in
    let r = and_right (is_digit d) (is_digit c && every is_digit t) e in
    let m = digit_plain d a in
    rw (tokens_run c t s r f, m.0, m.1, a, and_left (is_digit c) (every is_digit t) r)

-- ---- where no blank stands first, a text begins with its first token

onto_first : (b : ℕ) (ts : List (List ℕ)) → get_or (onto b ts) 0 [] ≡ b ∷ get_or ts 0 []
onto_first b [] = refl
onto_first b (t ∷ ts) = refl

starts_cons : (b : ℕ) (t s : List ℕ) → starts_with (b ∷ t) (b ∷ s) ≡ starts_with t s
unfolding starts_with same
starts_cons b t s = rw (eq-eqb b b refl)

starts_none : (s : List ℕ) → starts_with [] s ≡ true
unfolding starts_with same
starts_none s = refl

starts_onto : (b : ℕ) (ts : List (List ℕ)) (s : List ℕ) → starts_with (get_or ts 0 []) s ≡ true → starts_with (get_or (onto b ts) 0 []) (b ∷ s) ≡ true
starts_onto b ts s e = rw (onto_first b ts, starts_cons b (get_or ts 0 []) s) e

quotes_first : (s : List ℕ) → starts_with (get_or (tokens_from true s) 0 []) s ≡ true
unfolding tokens_from
quotes_first [] = starts_none []
quotes_first (b ∷ s) =
    by_test (eqb b quote)
    (λ t. rw t (starts_cons b [] s ∙ starts_none s))
    (λ t. rw t (starts_onto b (tokens_from true s) s (quotes_first s)))

pub first_stands : (s : List ℕ) → is_blank (get_or s 0 0) ≡ false → starts_with (get_or (tokens s) 0 []) s ≡ true
unfolding tokens_from
first_stands [] e = starts_none []
first_stands (b ∷ s) e =
    by_test (eqb b quote)
    (λ t. rw (e, t) (starts_onto b (tokens_from true s) s (quotes_first s)))
    (λ t. by_test (is_digit b && is_digit (get_or s 0 0))
    (λ u. let d = digit_plain (get_or s 0 0) (and_right (is_digit b) (is_digit (get_or s 0 0)) u) in
    rw (e, t, u) (starts_onto b (tokens s) s (first_stands s d.0)))
    (λ u. rw (e, t, u) (starts_cons b [] s ∙ starts_none s)))
