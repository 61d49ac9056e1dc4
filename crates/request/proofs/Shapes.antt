-- The tokens that are such an object are those of its values and its steps, each of which passes its test; and the tokens of values and
-- steps that pass are such an object.
use mathlib.Core.Path.{◌≡◌, refl, ap, ◌∙◌}
use mathlib.Core.Bool.{Bool, true}
use mathlib.Core.List.{List, [], ◌∷◌, ◌++◌, map, append_assoc, append-nil}
use Prim.Native.Nat.{ℕ, suc, ◌+◌, ◌-◌, ◌/◌}
use native.Mathlib.Omega.{arith}
use lib.ListN.{length, take, drop, replicate, length-append}
use Rattle.lists.specs.Searches.{every, same}
use Rattle.request.specs.Tokens.{quoted, fits, is}
use Rattle.request.specs.Objects.{ceder_name, acquirer_name, origin_name, category_name, day_name, submitted_name, status_name, created, series_name, Values, Step, further, parted, series_of, object_of}
use Rattle.request.specs.Reading.{value_tests, step_test, head_tokens, step_tokens, step_count, is_object, steps_in, steps_read}
use Rattle.request.proofs.Fits.{asked_after, asked_between, asked_all}
use Rattle.request.proofs.Series.{colon, comma, token, step_fits, between, series_back, series_fit, series_length, steps_read_lem}

-- each value passes its test
pub record Fitted (v : Values (List ℕ)) : Type 0 where
  pub ceder : value_tests.ceder v.ceder ≡ true
  pub acquirer : value_tests.acquirer v.acquirer ≡ true
  pub origin : value_tests.origin v.origin ≡ true
  pub category : value_tests.category v.category ≡ true
  pub day : value_tests.day v.day ≡ true
  pub submitted : value_tests.submitted v.submitted ≡ true

-- ---- the object

-- the tokens between the last value and the first step, and the two that close the object
abbrev before_steps : List (List ℕ)
before_steps = comma ∷ quoted status_name ∷ colon ∷ quoted created ∷ comma ∷ quoted series_name ∷ colon ∷ (91 ∷ []) ∷ []

abbrev ends : List (List ℕ)
ends = (93 ∷ []) ∷ (125 ∷ []) ∷ []

module _ {A : Type 0} (text : List ℕ → A) where
  -- the tokens before the first step, those of the steps, and the two that close the object
  pub object_tokens_lem : (v : Values A) (ss : List (Step A)) →
      object_of text v ss ≡ take head_tokens (object_of text v []) ++ (between text ss ++ text (93 ∷ []) ∷ text (125 ∷ []) ∷ [])
  unfolding object_of series_of parted further
  object_tokens_lem v ss = rw (append-nil (between text ss ++ text (93 ∷ []) ∷ []), append_assoc)

-- ---- from tokens to values and steps

-- the tokens before the first step, part by part
head_all : (v : Values (List ℕ)) (ts a b c d e f g : List (List ℕ)) → ts ≡ (123 ∷ []) ∷ quoted ceder_name ∷ colon ∷ v.ceder ∷ a
    → a ≡ comma ∷ quoted acquirer_name ∷ colon ∷ v.acquirer ∷ b → b ≡ comma ∷ quoted origin_name ∷ colon ∷ v.origin ∷ c
    → c ≡ comma ∷ quoted category_name ∷ colon ∷ v.category ∷ d → d ≡ comma ∷ quoted day_name ∷ colon ∷ v.day ∷ e
    → e ≡ comma ∷ quoted submitted_name ∷ colon ∷ v.submitted ∷ f → f ≡ before_steps ++ g → ts ≡ take head_tokens (object_of token v []) ++ g
unfolding object_of series_of parted further
head_all v ts a b c d e f g ea eb ec ed ee ef eg = rw (ea, eb, ec, ed, ee, ef, eg)

record Head (qs : List (List ℕ → Bool)) (ts : List (List ℕ)) : Type 0 where
  values : Values (List ℕ)
  rest : List (List ℕ)
  all : ts ≡ take head_tokens (object_of token values []) ++ rest
  fitted : Fitted values
  fit : fits qs rest ≡ true

head_back : (qs : List (List ℕ → Bool)) (ts : List (List ℕ)) → fits (take head_tokens (object_of is value_tests []) ++ qs) ts ≡ true → Head qs ts
unfolding object_of series_of parted further
head_back qs ts e =
    let ps = take head_tokens (object_of is value_tests []) ++ qs in
    let a = asked_between ((123 ∷ []) ∷ quoted ceder_name ∷ colon ∷ []) value_tests.ceder (drop 4 ps) ts e in
    let b = asked_between (comma ∷ quoted acquirer_name ∷ colon ∷ []) value_tests.acquirer (drop 8 ps) a.rest a.fit in
    let c = asked_between (comma ∷ quoted origin_name ∷ colon ∷ []) value_tests.origin (drop 12 ps) b.rest b.fit in
    let d = asked_between (comma ∷ quoted category_name ∷ colon ∷ []) value_tests.category (drop 16 ps) c.rest c.fit in
    let f = asked_between (comma ∷ quoted day_name ∷ colon ∷ []) value_tests.day (drop 20 ps) d.rest d.fit in
    let g = asked_between (comma ∷ quoted submitted_name ∷ colon ∷ []) value_tests.submitted (drop 24 ps) f.rest f.fit in
    let h = asked_after before_steps qs g.rest g.fit in
    let v : Values (List ℕ) =
    record { ceder = a.token; acquirer = b.token; origin = c.token; category = d.token; day = f.token; submitted = g.token } in
    record {
      values = v;
      rest = h.rest;
      all =
          head_all v ts a.rest b.rest c.rest d.rest f.rest g.rest h.rest
          a.all b.all c.all d.all f.all g.all h.all;
      fitted =
          record {
            ceder = a.passes;
            acquirer = b.passes;
            origin = c.passes;
            category = d.passes;
            day = f.passes;
            submitted = g.passes;
          };
      fit = h.fit;
    }

pub record Parts (n : ℕ) (ts : List (List ℕ)) : Type 0 where
  pub values : Values (List ℕ)
  pub steps : List (Step (List ℕ))
  pub all : ts ≡ object_of token values steps
  pub count : length steps ≡ n
  pub fitted : Fitted values
  pub passes : every step_fits steps ≡ true

parts_all : (v : Values (List ℕ)) (ss : List (Step (List ℕ))) (ts a b : List (List ℕ)) → ts ≡ take head_tokens (object_of token v []) ++ a
    → a ≡ between token ss ++ b → b ≡ ends → ts ≡ object_of token v ss
parts_all v ss ts a b ea eb ez = rw (ea, eb, ez, object_tokens_lem token v ss)

pub parts_back : (n : ℕ) (ts : List (List ℕ)) → fits (object_of is value_tests (replicate n step_test)) ts ≡ true → Parts n ts
parts_back n ts e =
    let h = head_back _ ts (rw (object_tokens_lem is value_tests (replicate n step_test)) at e) in
    let s = series_back n (map is ends) h.rest h.fit in
    record {
      values = h.values;
      steps = s.steps;
      all = parts_all h.values s.steps ts h.rest s.rest h.all s.all (asked_all ends s.rest s.fit);
      count = s.count;
      fitted = h.fitted;
      passes = s.passes;
    }

-- ---- from values and steps to their tokens

ends_fit : fits (map is ends) ends ≡ true
unfolding fits same
ends_fit = refl

counted : (ss : List (Step (List ℕ))) → (head_tokens + (length (between token ss) + 2) - suc head_tokens) / step_tokens ≡ length ss
unfolding parted
counted [] = refl
counted (s ∷ ss) = let h = series_length s ss in omega arith

module _ (v : Values (List ℕ)) where
  head_fit : Fitted v → (qs : List (List ℕ → Bool)) (ts : List (List ℕ))
      → fits (take head_tokens (object_of is value_tests []) ++ qs) (take head_tokens (object_of token v []) ++ ts) ≡ fits qs ts
  unfolding object_of series_of parted further fits same
  head_fit f qs ts = rw (f.ceder, f.acquirer, f.origin, f.category, f.day, f.submitted)

  module _ (ss : List (Step (List ℕ))) where
    abbrev pub the_tokens : List (List ℕ)
    the_tokens = object_of token v ss

    object_length : length the_tokens ≡ head_tokens + (length (between token ss) + 2)
    unfolding object_of series_of parted further
    object_length = ap length (object_tokens_lem token v ss) ∙ simp length-append (omega arith)

    pub step_count_lem : step_count the_tokens ≡ length ss
    step_count_lem = rw object_length (counted ss)

    pub steps_of_lem : steps_read the_tokens ≡ ss
    unfolding steps_read object_of series_of parted further
    steps_of_lem =
        rw step_count_lem (ap (λ (t : List (List ℕ)). steps_in (length ss) (drop head_tokens t)) (object_tokens_lem token v ss) ∙ steps_read_lem ss ends)

    pub parts_made : Fitted v → every step_fits ss ≡ true → is_object the_tokens ≡ true
    unfolding is_object
    parts_made f e =
        rw (step_count_lem, object_tokens_lem is value_tests (replicate (length ss) step_test), object_tokens_lem token v ss)
        (head_fit f _ _ ∙ (series_fit ss (map is ends) ends e ∙ ends_fit))
