-- A quoted value at a place: where the quotes stand around bytes of the form it is the token there, and a token of the form stands so.
use mathlib.Core.Path.{◌≡◌, refl, sym, ap, ◌∙◌}
use mathlib.Core.Bool.{Bool, true, false, not, ◌&&◌}
use mathlib.Core.List.{List, [], ◌∷◌, ◌++◌, append_assoc}
use Prim.Native.Nat.{ℕ, suc, ◌+◌, ◌-◌, ◌<◌, ◌≤◌}
use native.Mathlib.Nat.{add-zero}
use native.Mathlib.Numerals.{add-one}
use native.Mathlib.Omega.{arith}
use lib.Dec.{eqb, ltb}
use lib.ListN.{length, get_or, take, drop, length-append, take-append-drop}
use lib.Seq.{drop-cons, drop-drop, get_or-drop, take_at, get_or-append_seam}
use borrow.Author.Tests.{ltb-false, lt-ltb, le-ltb, eqb-true, not-true}
use Rattle.lists.specs.Searches.{every, same}
use Rattle.std.specs.Prelude.{Option, Some, None}
use Rattle.lists.proofs.Tests.{by_test, true_false, and_left, and_right, and_true}
use Rattle.lists.proofs.Searches.{same_refl}
use Rattle.request.specs.Tokens.{quote, quoted, inside, tokens, is, quoted_by}
use Rattle.request.proofs.Fits.{inside_quoted, quoted_back}
use Rattle.request_reader.specs.Walking.{Past, Walked, Missing, Opened, OpenSays, Valued, value_tests, first_token, is_plain, framed, between}
use Rattle.request_reader.proofs.Fronts.{tokens_quoted}
use Rattle.request_reader.proofs.Walks.{stands_split, stands_inside, walked_found, walked_lost, token_stands, walked_on, missing_on, missing_first, token_after}

-- ---- between quotes

pub quoted_by_lem : (form : List ℕ → Bool) (u : List ℕ) → quoted_by form (quoted u) ≡ form u
quoted_by_lem form u = rw (inside_quoted u, same_refl (quoted u))

pub by_none : (form : List ℕ → Bool) → quoted_by form [] ≡ false
unfolding same
by_none form = refl

-- ---- quotes around so many bytes

module _ (s : List ℕ) (from n : ℕ) where
  abbrev u : List ℕ
  u = between s from n

  pub framed_parts : framed s from n ≡ true → (from + n + 2 ≤ length s) × (get_or s from 0 ≡ quote) × (get_or s (from + n + 1) 0 ≡ quote)
  unfolding framed
  framed_parts e =
      let a = not (ltb (length s) (from + n + 2)) in
      let b = eqb (get_or s from 0) quote in
      let d = eqb (get_or s (from + n + 1) 0) quote in
      let r = and_right a (b && d) e in (
        ltb-false (length s) (from + n + 2) (not-true (ltb (length s) (from + n + 2)) (and_left a (b && d) e)),
        eqb-true (get_or s from 0) quote (and_left b d r),
        eqb-true (get_or s (from + n + 1) 0) quote (and_right b d r),
      )

  pub framed_split : framed s from n ≡ true → drop from s ≡ quoted u ++ drop (from + n + 2) s
  framed_split e =
      let f = framed_parts e in
      let i : from < length s = omega (arith, f.0) in
      let j : from + n + 1 < length s = omega (arith, f.0) in
      let a : drop from s ≡ quote ∷ drop (from + 1) s = drop-cons s from 0 i ∙ rw (f.1, add-one from) in
      let b : drop (from + 1) s ≡ u ++ drop (from + n + 1) s =
      let m : from + 1 + n ≡ from + n + 1 = omega arith in
      sym (take-append-drop n (drop (from + 1) s)) ∙ ap (λ (x : List ℕ). u ++ x) (drop-drop n (from + 1) s ∙ ap (λ (k : ℕ). drop k s) m) in
      let c : drop (from + n + 1) s ≡ quote ∷ drop (from + n + 2) s =
      let m : suc (from + n + 1) ≡ from + n + 2 = omega arith in
      drop-cons s (from + n + 1) 0 j ∙ rw (f.2, m) in
      a ∙ ap (λ (x : List ℕ). quote ∷ x) (b ∙ (ap (λ (x : List ℕ). u ++ x) c ∙ sym (append_assoc u (quote ∷ []) (drop (from + n + 2) s))))

  -- what isn't framed by the reader's tests
  pub framed_short : length s - from < n + 2 → false ≡ framed s from n
  unfolding framed
  framed_short h =
      let l : length s < from + n + 2 = omega arith in
      rw (lt-ltb (length s) (from + n + 2) l)

  pub framed_rest : from ≤ length s → n + 2 ≤ length s - from → (eqb (get_or s from 0) quote && eqb (get_or s (from + n + 1) 0) quote) ≡ framed s from n
  unfolding framed
  framed_rest g h =
      let l : from + n + 2 ≤ length s = omega arith in
      rw (le-ltb (length s) (from + n + 2) l)

-- ---- the value's token

module _ (form : List ℕ → Bool) (s : List ℕ) (at from : ℕ) (p : Past s at from) where
  pub value_tokens : (n : ℕ) → framed s from n ≡ true → every is_plain (between s from n) ≡ true → tokens (drop from s) ≡ quoted (between s from n) ∷ tokens (drop (from + n + 2) s)
  value_tokens n e f = ap tokens (framed_split s from n e) ∙ tokens_quoted (between s from n) (drop (from + n + 2) s) f

  pub value_found : (n : ℕ) → framed s from n ≡ true → form (between s from n) ≡ true → every is_plain (between s from n) ≡ true
      → Walked (quoted_by form ∷ []) s at (from + n + 2)
  value_found n e g f =
      walked_found (quoted_by form) (by_none form) s at from p (quoted (between s from n)) (from + n + 2) (value_tokens n e f)
      (quoted_by_lem form (between s from n) ∙ g) (framed_parts s from n e).0

  -- where a token of the form is, its quotes stand around its bytes
  pub value_framed : quoted_by form (first_token s from) ≡ true
      → (framed s from (length (inside (first_token s from))) ≡ true) × (between s from (length (inside (first_token s from))) ≡ inside (first_token s from)) × (form (inside (first_token s from)) ≡ true)
  unfolding framed
  value_framed e =
      let t = first_token s from in
      let b = quoted_back form t e in
      let w = token_stands (quoted_by form) (by_none form) s at from p in
      let v = inside t in
      let n = length v in
      let l : length t ≡ n + 2 = omega (arith, ap length b.0, length-append v (quote ∷ [])) in
      let i = stands_inside s t from (omega arith) w in
      let d : drop from s ≡ quote ∷ (v ++ quote ∷ drop (from + length t) s) =
      stands_split s t from w ∙ (ap (λ (x : List ℕ). x ++ drop (from + length t) s) b.0 ∙ ap (λ (x : List ℕ). quote ∷ x) (append_assoc v (quote ∷ []) (drop (from + length t) s))) in
      let d1 : drop (from + 1) s ≡ v ++ quote ∷ drop (from + length t) s = sym (drop-drop 1 from s) ∙ ap (drop 1) d in
      let first : get_or s from 0 ≡ quote = sym (rw (add-zero from) at (get_or-drop from s 0 0)) ∙ ap (λ (x : List ℕ). get_or x 0 0) d in
      let last : get_or s (from + n + 1) 0 ≡ quote =
      let m : from + n + 1 ≡ from + 1 + n = omega arith in
      rw m (sym (get_or-drop (from + 1) s n 0) ∙ (ap (λ (x : List ℕ). get_or x n 0) d1 ∙ get_or-append_seam v quote (drop (from + length t) s) 0)) in
      let room : from + n + 2 ≤ length s = omega arith in (
        rw (le-ltb (length s) (from + n + 2) room, first, last),
        ap (take n) d1 ∙ take_at v (quote ∷ drop (from + length t) s) n refl,
        b.1,
      )

  pub value_lost : (n : ℕ) → (quoted_by form (first_token s from) ≡ true → length (inside (first_token s from)) ≡ n)
      → (framed s from n && form (between s from n)) ≡ false → Missing (quoted_by form ∷ []) s at
  value_lost n k e =
      walked_lost (quoted_by form) (by_none form) s at from p
      (by_test (quoted_by form (first_token s from))
      (λ f. let v = value_framed f in
      let m = k f in
      let x = rw m at v.0 in
      let y = rw m at v.1 in
      true_false (framed s from n && form (between s from n)) (and_true (framed s from n) (form (between s from n)) x (ap form y ∙ v.2)) e)
      (λ f. f))

-- ---- a value after other tokens

-- the token after those that were passed is the first one from the value's place on
pub opened_token : (ps : List (List ℕ → Bool)) (s : List ℕ) (at from : ℕ) → Opened ps s at from
    → get_or (tokens (drop at s)) (length ps) [] ≡ first_token s from
opened_token ps s at from o =
    sym (ap (λ (ts : List (List ℕ)). get_or ts 0 []) o.past.same_tokens
    ∙ (token_after ps [] s at o.mid o.walked 0 ∙ ap (λ (i : ℕ). get_or (tokens (drop at s)) i []) (add-zero (length ps))))

-- a value's place after more tokens
pub opened_on : (ps qs : List (List ℕ → Bool)) (s : List ℕ) (at mid : ℕ) → Walked ps s at mid → (r : Option ℕ) → OpenSays qs s mid r
    → OpenSays (ps ++ qs) s at r
opened_on ps qs s at mid w None m = missing_on ps qs s at mid w m
opened_on ps qs s at mid w (Some from) o = record { mid = o.mid; walked = walked_on ps qs s at mid w o.mid o.walked; past = o.past; within = o.within }

-- ---- a member from after its name on

module _ (form : List ℕ → Bool) (s : List ℕ) (at from : ℕ) (o : Opened (is (58 ∷ []) ∷ []) s at from) (n : ℕ) where
  pub valued_lost : (quoted_by form (first_token s from) ≡ true → length (inside (first_token s from)) ≡ n)
      → (framed s from n && form (between s from n)) ≡ false → Missing (value_tests form) s at
  valued_lost k e =
      missing_on (is (58 ∷ []) ∷ []) (quoted_by form ∷ is (44 ∷ []) ∷ []) s at o.mid o.walked
      (missing_first (quoted_by form ∷ []) (is (44 ∷ []) ∷ []) s o.mid (value_lost form s o.mid from o.past n k e))

  module _ (e : framed s from n ≡ true) (g : form (between s from n) ≡ true) (f : every is_plain (between s from n) ≡ true) where
    passed_value : Walked (is (58 ∷ []) ∷ quoted_by form ∷ []) s at (from + n + 2)
    passed_value =
        walked_on (is (58 ∷ []) ∷ []) (quoted_by form ∷ []) s at o.mid o.walked (from + n + 2) (value_found form s o.mid from o.past n e g f)

    pub comma_lost : Missing (is (44 ∷ []) ∷ []) s (from + n + 2) → Missing (value_tests form) s at
    comma_lost m = missing_on (is (58 ∷ []) ∷ quoted_by form ∷ []) (is (44 ∷ []) ∷ []) s at (from + n + 2) passed_value m

    pub valued_found : {A : Type 0} (value : List ℕ → A) (next : ℕ) (read : A) → Walked (is (44 ∷ []) ∷ []) s (from + n + 2) next
        → read ≡ value (between s from n) → Valued form value s at next read
    valued_found value next read w r =
        record {
          walked = walked_on (is (58 ∷ []) ∷ quoted_by form ∷ []) (is (44 ∷ []) ∷ []) s at (from + n + 2) passed_value next w;
          its_value = r ∙ ap value (sym (ap inside its_token ∙ inside_quoted (between s from n)));
        }
      where
        its_token : get_or (tokens (drop at s)) 1 [] ≡ quoted (between s from n)
        its_token =
            opened_token (is (58 ∷ []) ∷ []) s at from o
            ∙ ap (λ (ts : List (List ℕ)). get_or ts 0 []) (value_tokens form s o.mid from o.past n e f)
