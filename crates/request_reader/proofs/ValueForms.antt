-- How long the values of an object are, and that no quote stands in them.
use mathlib.Core.Path.{◌≡◌, refl, sym, ap, subst, ◌∙◌}
use mathlib.Core.Bool.{Bool, true, false, cond, ◌&&◌, ◌||◌}
use mathlib.Core.List.{List, [], ◌∷◌}
use Prim.Native.Nat.{ℕ, ◌+◌, ◌-◌}
use native.Mathlib.Omega.{arith}
use lib.Dec.{eqb}
use lib.ListN.{length, get_or, take, drop, replicate}
use lib.Seq.{take_at, get_or-take, get_or-drop}
use borrow.Author.Tests.{eqb-true, eqb-false}
use Rattle.lists.specs.Searches.{every}
use Rattle.lists.proofs.Tests.{by_test, and_left, and_right, or_cases}
use Rattle.notification.specs.Forms.{is_digit, is_code_byte, is_code, is_category, filled}
use Rattle.request.specs.Tokens.{inside, is, quoted_by}
use Rattle.request.specs.Moments.{is_moment_text, moment_in}
use Rattle.request.proofs.MomentTexts.{moment_back, moment_length}
use Rattle.request_reader.specs.Walking.{Past, Walked, Missing, Opened, Valued, value_tests, first_token, is_plain, framed, between}
use Rattle.request.proofs.Fits.{quoted_back}
use Rattle.request_reader.proofs.Values.{framed_parts, value_framed, valued_found, valued_lost, comma_lost}

and_none : (a : Bool) → (a && false) ≡ false
and_none true = refl
and_none false = refl

-- ---- codes

-- a text in as many places as it has bytes is itself
pub filled_all : (u : List ℕ) (n : ℕ) → length u ≡ n → filled n u ≡ u
filled_all u n e = take_at u (replicate n 0) n e

pub code_sixteen : (u : List ℕ) → is_code u ≡ true → length u ≡ 16
unfolding is_code
code_sixteen u e = eqb-true (length u) 16 (and_left (eqb (length u) 16) (every is_code_byte u) e)

-- and so it is in sixteen places
pub code_filled : (u : List ℕ) (read : List ℕ) → is_code u ≡ true → read ≡ filled 16 u → read ≡ u
code_filled u read c e = e ∙ filled_all u 16 (code_sixteen u c)

-- ---- a category

category_form : (u : List ℕ) → is_category u ≡ true → (length u ≡ 5 → ⊥) → (length u ≡ 6) × (get_or u 5 0 ≡ 67)
unfolding is_category
category_form u e f =
    let a = every is_digit (take 5 u) in
    let b = eqb (length u) 5 in
    let c = eqb (length u) 6 in
    let d = eqb (get_or u 5 0) 67 in
    or_cases b (c && d) (and_right a (b || c && d) e)
    (λ q. absurd (f (eqb-true (length u) 5 q)))
    (λ q. (eqb-true (length u) 6 (and_left c d q), eqb-true (get_or u 5 0) 67 (and_right c d q)))

-- where a category stands, it has the length that the quote after its fifth byte tells
pub category_long : (s : List ℕ) (at from : ℕ) → Past s at from → quoted_by is_category (first_token s from) ≡ true
    → length (inside (first_token s from)) ≡ cond (framed s from 5) 5 6
category_long s at from p e =
    let u = inside (first_token s from) in
    let v = value_framed is_category s at from p e in
    by_test (eqb (length u) 5)
    (λ q. let n = eqb-true (length u) 5 q in
    let f = rw n at v.0 in
    rw f n)
    (λ q. let g = category_form u v.2 (eqb-false (length u) 5 q) in
    let w = rw g.0 at v.1 in
    by_test (framed s from 5)
    (λ f. let x : get_or u 5 0 ≡ get_or s (from + 5 + 1) 0 =
    let m : from + 1 + 5 ≡ from + 5 + 1 = omega arith in
    ap (λ (l : List ℕ). get_or l 5 0) (sym w) ∙ (get_or-take 6 (drop (from + 1) s) 5 0 (omega arith) ∙ (get_or-drop (from + 1) s 5 0 ∙ ap (λ (k : ℕ). get_or s k 0) m)) in
    absurd (omega (arith, g.1, x, (framed_parts s from 5 f).2)))
    (λ f. rw f g.0))

-- ---- a member's value as the reader cuts it out

module _ (form : List ℕ → Bool) (plain : (u : List ℕ) → form u ≡ true → every is_plain u ≡ true)
    (s : List ℕ) (at from : ℕ) (o : Opened (is (58 ∷ []) ∷ []) s at from) (n : ℕ)
    (long : quoted_by form (first_token s from) ≡ true → length (inside (first_token s from)) ≡ n) where
  pub part_unframed : framed s from n ≡ false → Missing (value_tests form) s at
  part_unframed f = valued_lost form s at from o n long (rw f)

  module _ (part : List ℕ) (its-part : part ≡ between s from n) where
    pub part_other : form part ≡ false → Missing (value_tests form) s at
    part_other g =
        let c : form (between s from n) ≡ false = ap form (sym its-part) ∙ g in
        valued_lost form s at from o n long (rw c (and_none (framed s from n)))

    module _ (f : framed s from n ≡ true) (g : form part ≡ true) (after : ℕ) (ea : after ≡ from + n + 2) where
      good : form (between s from n) ≡ true
      good = ap form (sym its-part) ∙ g

      pub part_unended : Missing (is (44 ∷ []) ∷ []) s after → Missing (value_tests form) s at
      part_unended m = comma_lost form s at from o n f good (plain (between s from n) good) (rw ea at m)

      pub part_found : {A : Type 0} (value : List ℕ → A) (next : ℕ) (read : A) → Walked (is (44 ∷ []) ∷ []) s after next
          → read ≡ value part → Valued form value s at next read
      part_found value next read w r =
          valued_found form s at from o n f good (plain (between s from n) good) value next read
          (subst (λ (k : ℕ). Walked (is (44 ∷ []) ∷ []) s k next) ea w) (r ∙ ap value its-part)

-- a part from the byte after a place on, as the reader cuts it
pub part_cut : (s : List ℕ) (from n end : ℕ) → end ≡ from + n + 1 → take (end - (from + 1)) (drop (from + 1) s) ≡ between s from n
part_cut s from n end e = let m : end - (from + 1) ≡ n = omega arith in rw m

pub code_long : (s : List ℕ) (from : ℕ) → quoted_by is_code (first_token s from) ≡ true → length (inside (first_token s from)) ≡ 16
code_long s from e = code_sixteen (inside (first_token s from)) (quoted_back is_code (first_token s from) e).1

pub moment_twenty : (u : List ℕ) → is_moment_text u ≡ true → length u ≡ 20
moment_twenty u e = ap length (moment_back u e).1 ∙ moment_length (moment_in u)
