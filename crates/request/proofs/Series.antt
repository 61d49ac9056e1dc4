-- The tokens of a series: where tokens fit the tests of so many steps, they are those of so many steps that pass; and steps are read from
-- their tokens again.
use mathlib.Core.Path.{◌≡◌, refl, ap, ◌∙◌}
use mathlib.Core.Bool.{Bool, true, ◌&&◌}
use mathlib.Core.List.{List, [], ◌∷◌, ◌++◌, map, append_assoc}
use Prim.Native.Nat.{ℕ, zero, suc, ◌+◌, ◌*◌}
use native.Mathlib.Omega.{arith}
use lib.ListN.{length, replicate}
use Rattle.lists.specs.Searches.{every, same}
use Rattle.lists.proofs.Tests.{and_left, and_right, and_true}
use Rattle.request.specs.Tokens.{quoted, fits, is}
use Rattle.request.specs.Objects.{from_name, until_name, power_name, Step, further, parted, step_of}
use Rattle.request.specs.Reading.{step_test, step_tokens, steps_in}
use Rattle.request.proofs.Fits.{asked_after, asked_between}

abbrev pub colon : List ℕ
colon = 58 ∷ []

abbrev pub comma : List ℕ
comma = 44 ∷ []

-- the tokens themselves
abbrev pub token : List ℕ → List ℕ
token t = t

-- each value of a step passes its test
abbrev pub step_fits : Step (List ℕ) → Bool
step_fits s = step_test.from s.from && step_test.until s.until && step_test.power s.power

-- steps, each with a comma before it
module _ {A : Type 0} (text : List ℕ → A) where
  abbrev pub more : List (Step A) → List A
  more ss = further text (map (step_of text) ss)

record More (n : ℕ) (qs : List (List ℕ → Bool)) (ts : List (List ℕ)) : Type 0 where
  pub steps : List (Step (List ℕ))
  pub rest : List (List ℕ)
  pub all : ts ≡ more token steps ++ rest
  pub count : length steps ≡ n
  pub passes : every step_fits steps ≡ true
  pub fit : fits qs rest ≡ true

record OneStep (qs : List (List ℕ → Bool)) (ts : List (List ℕ)) : Type 0 where
  step : Step (List ℕ)
  rest : List (List ℕ)
  all : ts ≡ step_of token step ++ rest
  passes : step_fits step ≡ true
  fit : fits qs rest ≡ true

-- the tokens of a step, part by part
step_all : (s : Step (List ℕ)) (ts a b c d : List (List ℕ)) → ts ≡ (123 ∷ []) ∷ quoted from_name ∷ colon ∷ s.from ∷ a
    → a ≡ comma ∷ quoted until_name ∷ colon ∷ s.until ∷ b → b ≡ comma ∷ quoted power_name ∷ colon ∷ s.power ∷ c → c ≡ (125 ∷ []) ∷ d
    → ts ≡ step_of token s ++ d
unfolding step_of parted further
step_all s ts a b c d e f g h = rw (e, f, g, h)

one_step : (qs : List (List ℕ → Bool)) (ts : List (List ℕ)) → fits (step_of is step_test ++ qs) ts ≡ true → OneStep qs ts
unfolding step_of parted further
one_step qs ts e =
    let a = asked_between ((123 ∷ []) ∷ quoted from_name ∷ colon ∷ []) _ _ ts e in
    let b = asked_between (comma ∷ quoted until_name ∷ colon ∷ []) _ _ a.rest a.fit in
    let c = asked_between (comma ∷ quoted power_name ∷ colon ∷ []) _ _ b.rest b.fit in
    let d = asked_after ((125 ∷ []) ∷ []) _ c.rest c.fit in
    let s : Step (List ℕ) = record { from = a.token; until = b.token; power = c.token } in
    record {
      step = s;
      rest = d.rest;
      all = step_all s ts a.rest b.rest c.rest d.rest a.all b.all c.all d.all;
      passes = rw (a.passes, b.passes, c.passes);
      fit = d.fit;
    }

more_all : (s : Step (List ℕ)) (ss : List (Step (List ℕ))) (ts a b c : List (List ℕ)) → ts ≡ comma ∷ a → a ≡ step_of token s ++ b
    → b ≡ more token ss ++ c → ts ≡ more token (s ∷ ss) ++ c
unfolding further
more_all s ss ts a b c e f g = rw (e, f, g, append_assoc (step_of token s))

more_steps : (n : ℕ) (qs : List (List ℕ → Bool)) (ts : List (List ℕ)) → fits (more is (replicate n step_test) ++ qs) ts ≡ true → More n qs ts
unfolding step_of parted further
more_steps zero qs ts e = record { steps = []; rest = ts; all = refl; count = refl; passes = refl; fit = e }
more_steps (suc n) qs ts e =
    let a = asked_after (comma ∷ []) (step_of is step_test ++ (more is (replicate n step_test) ++ qs)) ts e in
    let b = one_step (more is (replicate n step_test) ++ qs) a.rest a.fit in
    let c = more_steps n qs b.rest b.fit in
    record {
      steps = b.step ∷ c.steps;
      rest = c.rest;
      all = more_all b.step c.steps ts a.rest b.rest c.rest a.all b.all c.all;
      count = ap suc c.count;
      passes = and_true (step_fits b.step) (every step_fits c.steps) b.passes c.passes;
      fit = c.fit;
    }

-- ---- steps with a comma between each two

module _ {A : Type 0} (text : List ℕ → A) where
  abbrev pub between : List (Step A) → List A
  between ss = parted text (map (step_of text) ss)

pub record Series (n : ℕ) (qs : List (List ℕ → Bool)) (ts : List (List ℕ)) : Type 0 where
  pub steps : List (Step (List ℕ))
  pub rest : List (List ℕ)
  pub all : ts ≡ between token steps ++ rest
  pub count : length steps ≡ n
  pub passes : every step_fits steps ≡ true
  pub fit : fits qs rest ≡ true

pub series_back : (n : ℕ) (qs : List (List ℕ → Bool)) (ts : List (List ℕ)) → fits (between is (replicate n step_test) ++ qs) ts ≡ true
    → Series n qs ts
unfolding parted
series_back zero qs ts e = record { steps = []; rest = ts; all = refl; count = refl; passes = refl; fit = e }
series_back (suc n) qs ts e =
    let b = one_step (more is (replicate n step_test) ++ qs) ts (rw append_assoc at e) in
    let c = more_steps n qs b.rest b.fit in
    record {
      steps = b.step ∷ c.steps;
      rest = c.rest;
      all = rw append_assoc (b.all ∙ ap (λ r. step_of token b.step ++ r) c.all);
      count = ap suc c.count;
      passes = and_true (step_fits b.step) (every step_fits c.steps) b.passes c.passes;
      fit = c.fit;
    }

-- ---- from steps to their tokens

step_fit : (s : Step (List ℕ)) (qs : List (List ℕ → Bool)) (ts : List (List ℕ)) → step_fits s ≡ true
    → fits (step_of is step_test ++ qs) (step_of token s ++ ts) ≡ fits qs ts
unfolding step_of parted further fits same
step_fit s qs ts e =
    let f = step_test.from s.from in
    let u = step_test.until s.until in
    let p = step_test.power s.power in
    rw (and_left f u (and_left (f && u) p e), and_right f u (and_left (f && u) p e), and_right (f && u) p e)

more_fit : (ss : List (Step (List ℕ))) (qs : List (List ℕ → Bool)) (ts : List (List ℕ)) → every step_fits ss ≡ true
    → fits (more is (replicate (length ss) step_test) ++ qs) (more token ss ++ ts) ≡ fits qs ts
unfolding further fits same
more_fit [] qs ts e = refl
more_fit (s ∷ ss) qs ts e =
    let g = and_left (step_fits s) (every step_fits ss) e in
    let h = and_right (step_fits s) (every step_fits ss) e in
    rw (append_assoc (step_of is step_test), append_assoc (step_of token s))
    (step_fit s (more is (replicate (length ss) step_test) ++ qs) (more token ss ++ ts) g ∙ more_fit ss qs ts h)

pub series_fit : (ss : List (Step (List ℕ))) (qs : List (List ℕ → Bool)) (ts : List (List ℕ)) → every step_fits ss ≡ true
    → fits (between is (replicate (length ss) step_test) ++ qs) (between token ss ++ ts) ≡ fits qs ts
unfolding parted
series_fit [] qs ts e = refl
series_fit (s ∷ ss) qs ts e =
    let g = and_left (step_fits s) (every step_fits ss) e in
    let h = and_right (step_fits s) (every step_fits ss) e in
    rw (append_assoc (step_of is step_test), append_assoc (step_of token s))
    (step_fit s (more is (replicate (length ss) step_test) ++ qs) (more token ss ++ ts) g ∙ more_fit ss qs ts h)

more_length : (ss : List (Step (List ℕ))) → length (more token ss) ≡ step_tokens * length ss
unfolding step_of parted further
more_length [] = refl
more_length (s ∷ ss) = let h = more_length ss in omega arith

-- a step and its comma are so many tokens; the last has none
pub series_length : (s : Step (List ℕ)) (ss : List (Step (List ℕ))) → length (between token (s ∷ ss)) + 1 ≡ step_tokens * length (s ∷ ss)
unfolding step_of parted further
series_length s ss = let h = more_length ss in omega arith

pub steps_read_lem : (ss : List (Step (List ℕ))) (ts : List (List ℕ)) → steps_in (length ss) (between token ss ++ ts) ≡ ss
unfolding steps_in step_of parted further
steps_read_lem [] ts = refl
steps_read_lem (s ∷ []) ts = refl
steps_read_lem (s ∷ (t ∷ ss)) ts = ap (λ r. s ∷ r) (steps_read_lem (t ∷ ss) ts)
