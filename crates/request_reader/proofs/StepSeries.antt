-- The steps of an object, told one after another, are the series that its tokens have to be: after a step stands a comma and another step,
-- or what closes the object.
use mathlib.Core.Path.{◌≡◌, refl, sym, ap, ◌∙◌}
use mathlib.Core.Bool.{Bool, true, false, false≢true, ◌&&◌}
use mathlib.Core.List.{List, [], ◌∷◌, ◌++◌, append_assoc, map}
use Prim.Native.Nat.{ℕ, zero, suc, ◌≤◌}
use native.Mathlib.Omega.{arith}
use lib.Dec.{ltb}
use lib.ListN.{length, get_or, drop, replicate, length-drop, length-append}
use lib.Seq.{drop-drop}
use borrow.Author.Tests.{ltb-true, ltb-false}
use Rattle.lists.specs.Searches.{same}
use Rattle.lists.proofs.Tests.{by_test, true_false, and_left, and_right, left_false}
use Rattle.lists.proofs.Searches.{same_true}
use Rattle.request.specs.Tokens.{fits, is}
use Rattle.request.specs.Objects.{further, parted, step_of}
use Rattle.request.specs.Reading.{step_test, steps_in}
use Rattle.request_reader.specs.Walking.{starts}
use Rattle.request_reader.specs.Steps.{front_tests, step_in}
use Rattle.request_reader.specs.Series.{closing, series_tests, count_of, is_series, rest_tests, more_of, is_rest, steps_rest}

-- ---- tests of tokens, part by part

and_assoc : (a b c : Bool) → ((a && b) && c) ≡ (a && (b && c))
and_assoc true b c = refl
and_assoc false b c = refl

pub fits_append : (ps qs : List (List ℕ → Bool)) (ts : List (List ℕ)) → fits (ps ++ qs) ts ≡ (starts ps ts && fits qs (drop (length ps) ts))
unfolding fits starts
fits_append [] qs ts = refl
fits_append (p ∷ ps) qs [] = refl
fits_append (p ∷ ps) qs (t ∷ ts) =
    ap (λ (b : Bool). p t && b) (fits_append ps qs ts) ∙ sym (and_assoc (p t) (starts ps ts) (fits qs (drop (length ps) ts)))

fits_length : (ps : List (List ℕ → Bool)) (ts : List (List ℕ)) → fits ps ts ≡ true → length ps ≡ length ts
unfolding fits
fits_length [] [] e = refl
fits_length [] (t ∷ ts) e = absurd (false≢true e)
fits_length (p ∷ ps) [] e = absurd (false≢true e)
fits_length (p ∷ ps) (t ∷ ts) e = ap suc (fits_length ps ts (and_right (p t) (fits ps ts) e))

starts_length : (ps : List (List ℕ → Bool)) (ts : List (List ℕ)) → starts ps ts ≡ true → length ps ≤ length ts
unfolding starts
starts_length [] ts e = omega arith
starts_length (p ∷ ps) [] e = absurd (false≢true e)
starts_length (p ∷ ps) (t ∷ ts) e = let h = starts_length ps ts (and_right (p t) (starts ps ts) e) in omega arith

-- what isn't as long doesn't fit
short_none : (ps : List (List ℕ → Bool)) (ts : List (List ℕ)) → (length ps ≡ length ts → ⊥) → fits ps ts ≡ false
short_none ps ts h = by_test (fits ps ts) (λ e. absurd (h (fits_length ps ts e))) (λ e. e)

-- ---- a series by its first step

-- so many steps more, each with the comma before it, and what closes the object
abbrev others : ℕ → List (List ℕ → Bool)
others n = further is (map (step_of is) (replicate n step_test)) ++ closing

-- a step is its front and the `}` after it
front_rest : (n : ℕ) → step_of is step_test ++ others n ≡ front_tests ++ rest_tests n
unfolding step_of parted further
front_rest n = refl

-- a step and so many more
steps_fit : (n : ℕ) (ts : List (List ℕ)) → fits (series_tests (suc n)) ts ≡ (starts front_tests ts && fits (rest_tests n) (drop 12 ts))
unfolding parted
steps_fit n ts =
    let assoc = append_assoc (step_of is step_test) (further is (map (step_of is) (replicate n step_test))) closing in
    ap (λ (ps : List (List ℕ → Bool)). fits ps ts) (assoc ∙ front_rest n) ∙ fits_append front_tests (rest_tests n) ts

series_none : (ts : List (List ℕ)) → fits (series_tests 0) ts ≡ fits closing ts
unfolding parted
series_none ts = refl

-- ---- after a step's power

rest_one : (n : ℕ) (t : List ℕ) (ts : List (List ℕ)) → fits (rest_tests n) (t ∷ ts) ≡ (is (125 ∷ []) t && fits (others n) ts)
unfolding fits
rest_one n t ts = refl

rest_empty : (n : ℕ) → fits (rest_tests n) [] ≡ false
unfolding fits
rest_empty n = refl

others_none : (ts : List (List ℕ)) → fits (others 0) ts ≡ fits closing ts
unfolding further
others_none ts = refl

others_more : (n : ℕ) (t : List ℕ) (ts : List (List ℕ)) → fits (others (suc n)) (t ∷ ts) ≡ (is (44 ∷ []) t && fits (series_tests (suc n)) ts)
unfolding further fits parted
others_more n t ts = refl

others_empty : (n : ℕ) → fits (others (suc n)) [] ≡ false
unfolding further fits
others_empty n = refl

rest_length : (n : ℕ) → 3 ≤ length (rest_tests n)
rest_length n = let e = length-append (further is (map (step_of is) (replicate n step_test))) closing in omega arith

pub no_rest : is_rest [] ≡ false
unfolding is_rest
no_rest = rest_empty (more_of [])

closing_first : (ts : List (List ℕ)) → is (93 ∷ []) (get_or ts 0 []) ≡ false → fits closing ts ≡ false
unfolding fits
closing_first [] f = refl
closing_first (t ∷ ts) f = rw f

module _ (vs : List (List ℕ)) where
  abbrev after : List (List ℕ)
  after = (125 ∷ []) ∷ (44 ∷ []) ∷ vs

  more_count : more_of after ≡ count_of vs
  more_count = omega arith

  after_more : (n : ℕ) → fits (rest_tests (suc n)) after ≡ fits (series_tests (suc n)) vs
  unfolding same
  after_more n = rest_one (suc n) (125 ∷ []) ((44 ∷ []) ∷ vs) ∙ others_more n (44 ∷ []) vs

  after_none : fits (rest_tests 0) after ≡ false
  unfolding fits further same
  after_none = refl

  -- the steps after a comma are a series
  after_series : fits closing vs ≡ false → is_rest after ≡ is_series vs
  unfolding is_rest is_series
  after_series f = ap (λ (n : ℕ). fits (rest_tests n) after) more_count ∙ by_count (count_of vs)
    where
      by_count : (n : ℕ) → fits (rest_tests n) after ≡ fits (series_tests n) vs
      by_count zero = after_none ∙ sym (series_none vs ∙ f)
      by_count (suc n) = after_more n

  module _ (s : starts front_tests vs ≡ true) where
    room : 12 ≤ length vs
    room = starts_length front_tests vs s

    not_closing : fits closing vs ≡ false
    not_closing = short_none closing vs (λ (e : 2 ≡ length vs). let r = room in omega arith)

    pub first-front :
        (is_series vs ≡ is_rest (drop 12 vs)) × (is_series vs ≡ true → steps_in (count_of vs) vs ≡ step_in vs ∷ steps_rest (drop 12 vs))
    unfolding is_series is_rest steps_in
    first-front =
        by_test (ltb (length vs) 15)
        (λ h. let l = ltb-true (length vs) 15 h in
        let m : count_of vs ≡ 0 = omega arith in
        let e : is_series vs ≡ false = rw m (series_none vs ∙ not_closing) in
        let d : is_rest (drop 12 vs) ≡ false = short_none (rest_tests (more_of (drop 12 vs))) (drop 12 vs)
        (λ i. let k = rest_length (more_of (drop 12 vs)) in let r = room in omega (arith, length-drop 12 vs)) in
        (e ∙ sym d, λ q. true_false (is_series vs) q e))
        (λ h. let l = ltb-false (length vs) 15 h in
        let m : count_of vs ≡ suc (more_of (drop 12 vs)) = omega (arith, length-drop 12 vs) in (
          rw m (steps_fit (more_of (drop 12 vs)) vs ∙ rw s),
          λ q. rw m (ap (λ (us : List (List ℕ)). step_in vs ∷ steps_in (more_of (drop 12 vs)) us) (sym (drop-drop 2 12 vs))),
        ))

    pub rest_front : (is_rest after ≡ is_rest (drop 12 vs)) × (is_rest after ≡ true → steps_rest after ≡ step_in vs ∷ steps_rest (drop 12 vs))
    rest_front =
        let e = after_series not_closing in
        (e ∙ first-front.0, λ q. ap (λ (n : ℕ). steps_in n vs) more_count ∙ first-front.1 (sym e ∙ q))

  -- ---- no step

  module _ (s : starts front_tests vs ≡ false) where
    series_fails : (n : ℕ) → fits (series_tests (suc n)) vs ≡ false
    series_fails n = steps_fit n vs ∙ rw s

    pub no_front : is_rest after ≡ false
    unfolding is_rest
    no_front = by_count (more_of after)
      where
        by_count : (n : ℕ) → fits (rest_tests n) after ≡ false
        by_count zero = after_none
        by_count (suc n) = after_more n ∙ series_fails n

    pub no_first : is (93 ∷ []) (get_or vs 0 []) ≡ false → is_series vs ≡ false
    unfolding is_series
    no_first f = by_count (count_of vs)
      where
        by_count : (n : ℕ) → fits (series_tests n) vs ≡ false
        by_count zero = series_none vs ∙ closing_first vs f
        by_count (suc n) = series_fails n

-- ---- the last step

-- without `}` the step has no end
pub no_end : (ts : List (List ℕ)) → starts (is (125 ∷ []) ∷ []) ts ≡ false → is_rest ts ≡ false
unfolding is_rest starts
no_end [] e = rest_empty (more_of [])
no_end (t ∷ ts) e = rest_one (more_of (t ∷ ts)) t ts ∙ rw (left_false (is (125 ∷ []) t) true e refl)

-- where no comma follows, the object is closed after it
no_others : (n : ℕ) (ws : List (List ℕ)) → is (44 ∷ []) (get_or ws 0 []) ≡ false → fits (others (suc n)) ws ≡ false
no_others n [] f = others_empty n
no_others n (w ∷ ws) f = others_more n w ws ∙ rw f

closes_two : (t : List ℕ) (ts : List (List ℕ)) → fits closing ts ≡ true → more_of (t ∷ ts) ≡ 0
closes_two t ts f = let l = fits_length closing ts f in omega arith

pub last_rest : (ts : List (List ℕ)) → starts (is (125 ∷ []) ∷ []) ts ≡ true → is (44 ∷ []) (get_or (drop 1 ts) 0 []) ≡ false
    → (is_rest ts ≡ fits closing (drop 1 ts)) × (is_rest ts ≡ true → steps_rest ts ≡ [])
unfolding is_rest starts steps_in
last_rest [] s c = absurd (false≢true s)
last_rest (t ∷ ts) s c = (form, λ q. rw (closes_two t ts (sym form ∙ q)))
  where
    by_count : (n : ℕ) → more_of (t ∷ ts) ≡ n → fits (others n) ts ≡ fits closing ts
    by_count zero m = others_none ts
    by_count (suc n) m =
        by_test (fits closing ts)
        (λ f. let z = closes_two t ts f in absurd (omega arith))
        (λ f. no_others n ts c ∙ sym f)

    form : fits (rest_tests (more_of (t ∷ ts))) (t ∷ ts) ≡ fits closing ts
    form =
        rest_one (more_of (t ∷ ts)) t ts
        ∙ (ap (λ (b : Bool). b && fits (others (more_of (t ∷ ts))) ts) (and_left (is (125 ∷ []) t) true s) ∙ by_count (more_of (t ∷ ts)) refl)

-- ---- no step at all

module _ (us : List (List ℕ)) where
  pub begins_end : is (93 ∷ []) (get_or us 0 []) ≡ true → is_series us ≡ fits closing us
  unfolding is_series parted fits starts same
  begins_end f = by_count (count_of us) refl
    where
      no_step_first : (ws : List (List ℕ)) → is (93 ∷ []) (get_or ws 0 []) ≡ true → starts front_tests ws ≡ false
      no_step_first [] g = refl
      no_step_first (w ∷ ws) g = let z = same_true w (93 ∷ []) g in rw z

      by_count : (n : ℕ) → count_of us ≡ n → fits (series_tests (count_of us)) us ≡ fits closing us
      by_count zero m = rw m
      by_count (suc n) m =
          by_test (fits closing us)
          (λ g. let l = fits_length closing us g in absurd (omega arith))
          (λ g. rw m (steps_fit n us ∙ rw (no_step_first us f)) ∙ sym g)

  pub left_end : fits closing us ≡ true → steps_in (count_of us) us ≡ []
  unfolding steps_in
  left_end g =
      let l = fits_length closing us g in
      let m : count_of us ≡ 0 = omega arith in
      rw m
