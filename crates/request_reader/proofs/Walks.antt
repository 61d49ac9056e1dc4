-- A walk over one token: blanks are passed, and then the token stands there or it doesn't. Two walks, one after the other, are one.
use mathlib.Core.Path.{◌≡◌, refl, sym, ap, ◌∙◌}
use mathlib.Core.Bool.{Bool, true, false, ◌&&◌, ◌||◌}
use mathlib.Core.List.{List, [], ◌∷◌, ◌++◌}
use Prim.Native.Nat.{ℕ, suc, ◌+◌, ◌-◌, ◌<◌, ◌≤◌}
use native.Mathlib.Nat.{add-zero}
use native.Mathlib.Numerals.{add-one}
use native.Mathlib.Omega.{arith}
use lib.Dec.{eqb, ltb}
use lib.ListN.{length, get_or, drop, length-drop, length-append, take-append-drop, get_or-eq_default}
use lib.Seq.{drop-cons, drop-drop, get_or-drop}
use borrow.Author.Tests.{ltb-true, ltb-false, eq-eqb, not-true}
use Rattle.lists.specs.Searches.{every, same}
use Rattle.lists.proofs.Tests.{by_test, true_false, and_left, and_right, or_right}
use Rattle.lists.proofs.Searches.{same_refl, same_true}
use Rattle.notification.specs.Forms.{is_digit}
use Rattle.reader.specs.Walking.{starts_with}
use Rattle.reader.proofs.Starts.{starts_true, starts_long}
use Rattle.request.specs.Tokens.{is_blank, quote, quoted, inside, tokens, is}
use Rattle.request.proofs.Fits.{inside_quoted}
use Rattle.std.specs.Prelude.{Option, Some, None}
use Rattle.request_reader.specs.Walking.{starts, Past, Walked, WalkSays, Missing, first_token, is_mark, is_plain, is_quoted}
use Rattle.request_reader.proofs.Fronts.{tokens_mark, tokens_quoted, first_stands}

-- ---- a text at a place

pub stands_past : (s t : List ℕ) (at : ℕ) → 1 ≤ length t → length s - at < length t → false ≡ starts_with t (drop at s)
stands_past s t at h g =
    by_test (starts_with t (drop at s))
    (λ e. absurd (omega (arith, starts_long t (drop at s) e, length-drop at s)))
    (λ e. sym e)

-- what a text that stands at a place leaves of the text
pub stands_split : (s t : List ℕ) (at : ℕ) → starts_with t (drop at s) ≡ true → drop at s ≡ t ++ drop (at + length t) s
stands_split s t at e =
    sym (take-append-drop (length t) (drop at s))
    ∙ (ap (λ (x : List ℕ). x ++ drop (length t) (drop at s)) (starts_true t (drop at s) e) ∙ ap (λ (x : List ℕ). t ++ x) (drop-drop (length t) at s))

pub stands_inside : (s t : List ℕ) (at : ℕ) → 1 ≤ length t → starts_with t (drop at s) ≡ true → at + length t ≤ length s
stands_inside s t at h e = omega (arith, starts_long t (drop at s) e, length-drop at s)

-- ---- one token

pub starts_one : (p : List ℕ → Bool) (ts : List (List ℕ)) → p [] ≡ false → starts (p ∷ []) ts ≡ p (get_or ts 0 [])
unfolding starts
starts_one p [] e = sym e
starts_one p (t ∷ ts) e = and_end (p t)
  where
    and_end : (a : Bool) → (a && true) ≡ a
    and_end true = refl
    and_end false = refl

module _ (p : List ℕ → Bool) (none : p [] ≡ false) (s : List ℕ) (at from : ℕ) (b : Past s at from) where
  pub walked_found : (t : List ℕ) (next : ℕ) → tokens (drop from s) ≡ t ∷ tokens (drop next s) → p t ≡ true → next ≤ length s
      → Walked (p ∷ []) s at next
  walked_found t next e f h =
      let g = sym b.same_tokens ∙ e in
      record { within = h; passes = rw g (starts_one p (t ∷ tokens (drop next s)) none ∙ f); leaves = rw g }

  pub walked_lost : p (first_token s from) ≡ false → Missing (p ∷ []) s at
  walked_lost f = starts_one p (tokens (drop at s)) none ∙ rw (← b.same_tokens) f

  -- where the token would be, its text stands
  pub token_stands : starts_with (first_token s from) (drop from s) ≡ true
  token_stands = first_stands (drop from s) (rw (get_or-drop from s 0 0, add-zero from) b.no_blank)

-- ---- a byte by itself

mark_some : (b : ℕ) → is_mark b ≡ true → b ≡ 0 → ⊥
unfolding is_mark
mark_some b e z =
    true_false (eqb b 0) (eq-eqb b 0 z) (or_right (is_blank b || eqb b quote || is_digit b) (eqb b 0) (not-true (is_blank b || eqb b quote || is_digit b || eqb b 0) e))

pub comma : is_mark 44 ≡ true
unfolding is_mark
comma = refl

pub colon : is_mark 58 ≡ true
unfolding is_mark
colon = refl

pub bracket : is_mark 91 ≡ true
unfolding is_mark
bracket = refl

pub brace : is_mark 123 ≡ true
unfolding is_mark
brace = refl

is_none : (x : ℕ) (t : List ℕ) → is (x ∷ t) [] ≡ false
unfolding same
is_none x t = refl

module _ (s : List ℕ) (at from b : ℕ) (p : Past s at from) (m : is_mark b ≡ true) where
  pub mark_inside : get_or s from 0 ≡ b → from < length s
  mark_inside e =
      by_test (ltb from (length s))
      (λ t. ltb-true from (length s) t)
      (λ t. absurd (mark_some b m (sym e ∙ get_or-eq_default s 0 (ltb-false from (length s) t))))

  pub mark_found : get_or s from 0 ≡ b → Walked (is (b ∷ []) ∷ []) s at (from + 1)
  mark_found e =
      let h = mark_inside e in
      walked_found (is (b ∷ [])) (is_none b []) s at from p (b ∷ []) (from + 1)
      (rw (drop-cons s from 0 h, e, add-one from) (tokens_mark b (drop (suc from) s) m)) (same_refl (b ∷ [])) (omega arith)

  pub mark_lost : (get_or s from 0 ≡ b → ⊥) → Missing (is (b ∷ []) ∷ []) s at
  mark_lost f =
      walked_lost (is (b ∷ [])) (is_none b []) s at from p
      (by_test (is (b ∷ []) (first_token s from))
      (λ e. let t = same_true (first_token s from) (b ∷ []) e in
      let g = rw t at (token_stands (is (b ∷ [])) (is_none b []) s at from p) in
      absurd (f (byte_first g)))
      (λ e. e))
    where
      byte_first : starts_with (b ∷ []) (drop from s) ≡ true → get_or s from 0 ≡ b
      byte_first g =
          let w = stands_split s (b ∷ []) from g in
          sym (rw (add-zero from) at (get_or-drop from s 0 0)) ∙ ap (λ (x : List ℕ). get_or x 0 0) w

-- ---- a quoted text

quoted_some : (t : List ℕ) → is (quoted t) [] ≡ false
unfolding same
quoted_some t = refl

module _ (t : List ℕ) (q : is_quoted t ≡ true) where
  its_quotes : t ≡ quoted (inside t)
  unfolding is_quoted
  its_quotes = same_true t (quoted (inside t)) (and_left (same t (quoted (inside t))) (every is_plain (inside t)) q)

  its_bytes : every is_plain (inside t) ≡ true
  unfolding is_quoted
  its_bytes = and_right (same t (quoted (inside t))) (every is_plain (inside t)) q

  pub text_long : 1 ≤ length t
  text_long = omega (arith, ap length its_quotes)

  text_none : is t [] ≡ false
  text_none = rw its_quotes (quoted_some (inside t))

pub quoted_is : (t : List ℕ) → every is_plain t ≡ true → is_quoted (quoted t) ≡ true
unfolding is_quoted
quoted_is t e = rw (inside_quoted t, same_refl (quoted t), e)

pub quoted_first : (t r : List ℕ) → is_quoted t ≡ true → tokens (t ++ r) ≡ t ∷ tokens r
quoted_first t r q =
    let a = its_quotes t q in
    ap (λ (x : List ℕ). tokens (x ++ r)) a ∙ (tokens_quoted (inside t) r (its_bytes t q) ∙ ap (λ (x : List ℕ). x ∷ tokens r) (sym a))

module _ (s : List ℕ) (at from : ℕ) (t : List ℕ) (p : Past s at from) (q : is_quoted t ≡ true) where
  pub text_found : starts_with t (drop from s) ≡ true → Walked (is t ∷ []) s at (from + length t)
  text_found e =
      let w = stands_split s t from e in
      walked_found (is t) (text_none t q) s at from p t (from + length t) (ap tokens w ∙ quoted_first t (drop (from + length t) s) q) (same_refl t)
      (stands_inside s t from (text_long t q) e)

  pub text_lost : starts_with t (drop from s) ≡ false → Missing (is t ∷ []) s at
  text_lost e =
      walked_lost (is t) (text_none t q) s at from p
      (by_test (is t (first_token s from))
      (λ f. let g = rw (same_true (first_token s from) t f) at (token_stands (is t) (text_none t q) s at from p) in
      true_false (starts_with t (drop from s)) g e)
      (λ f. f))

-- ---- one walk after another

and_assoc : (a b c : Bool) → ((a && b) && c) ≡ (a && (b && c))
and_assoc true b c = refl
and_assoc false b c = refl

pub starts_append : (ps qs : List (List ℕ → Bool)) (ts : List (List ℕ)) → starts (ps ++ qs) ts ≡ (starts ps ts && starts qs (drop (length ps) ts))
unfolding starts
starts_append [] qs ts = refl
starts_append (p ∷ ps) [] [] = refl
starts_append (p ∷ ps) (q ∷ qs) [] = refl
starts_append (p ∷ ps) qs (t ∷ ts) = ap (λ (b : Bool). p t && b) (starts_append ps qs ts) ∙ sym (and_assoc (p t) (starts ps ts) (starts qs (drop (length ps) ts)))

module _ (ps qs : List (List ℕ → Bool)) (s : List ℕ) (at : ℕ) where
  -- where the first tests fail, so do they and more
  pub missing_first : Missing ps s at → Missing (ps ++ qs) s at
  missing_first e = starts_append ps qs (tokens (drop at s)) ∙ rw e

  module _ (mid : ℕ) (v : Walked ps s at mid) where
    pub walked_on : (next : ℕ) → Walked qs s mid next → Walked (ps ++ qs) s at next
    walked_on next w =
        let ts = tokens (drop at s) in
        record {
          within = w.within;
          passes = starts_append ps qs ts ∙ rw (v.passes, ← v.leaves) w.passes;
          leaves = w.leaves ∙ (ap (drop (length qs)) v.leaves ∙ (drop-drop (length qs) (length ps) ts ∙ ap (λ (n : ℕ). drop n ts) (sym (length-append ps qs))));
        }

    pub missing_on : Missing qs s mid → Missing (ps ++ qs) s at
    missing_on e = starts_append ps qs (tokens (drop at s)) ∙ rw (v.passes, ← v.leaves) e

    -- a token after those that were passed
    pub token_after : (i : ℕ) → get_or (tokens (drop mid s)) i [] ≡ get_or (tokens (drop at s)) (length ps + i) []
    token_after i = ap (λ (ts : List (List ℕ)). get_or ts i []) v.leaves ∙ get_or-drop (length ps) (tokens (drop at s)) i []

-- where tests in the midst of others fail
pub missing_amid : (ps qs rs : List (List ℕ → Bool)) (s : List ℕ) (at mid : ℕ) → Walked ps s at mid → Missing qs s mid
    → Missing (ps ++ (qs ++ rs)) s at
missing_amid ps qs rs s at mid w m = missing_on ps (qs ++ rs) s at mid w (missing_first qs rs s mid m)

-- what is said after more tokens
pub says_on : (ps qs : List (List ℕ → Bool)) (s : List ℕ) (at mid : ℕ) → Walked ps s at mid → (r : Option ℕ) → WalkSays qs s mid r
    → WalkSays (ps ++ qs) s at r
says_on ps qs s at mid w None m = missing_on ps qs s at mid w m
says_on ps qs s at mid w (Some next) v = walked_on ps qs s at mid w next v
