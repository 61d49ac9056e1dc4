-- The steps of an object, one after another, and what ends them.
use Rattle.std.specs.Prelude.{Option, Some, None}
use Rattle.std.specs.Prelude.{◌≡◌, Bool, true, List, [], ◌∷◌, ◌++◌, map, ℕ, ◌+◌, ◌-◌, ◌/◌, ◌≤◌, length, take, drop, replicate}
use Rattle.reader.specs.Folding.{Taken, step_taken, take_all}
use Rattle.request.specs.Tokens.{tokens, fits, is}
use Rattle.request.specs.Objects.{Step, further, parted, step_of}
use Rattle.request.specs.Reading.{step_test, steps_in, step_tokens}
use Rattle.request_reader.specs.Walking.{Walked, part}
use Rattle.request_reader.specs.Steps.{front_tests, step_in, said_at, FrontAt, LabelEntry}

-- `]` and `}`
abbrev pub closing : List (List ℕ → Bool)
closing = is (93 ∷ []) ∷ is (125 ∷ []) ∷ []

-- so many steps, and what closes the object
abbrev pub series_tests : ℕ → List (List ℕ → Bool)
series_tests n = parted is (map (step_of is) (replicate n step_test)) ++ closing

-- how many steps so many tokens are
abbrev pub count_of : List (List ℕ) → ℕ
count_of us = (length us - 1) / step_tokens

unfoldable pub is_series : List (List ℕ) → Bool
is_series us = fits (series_tests (count_of us)) us

-- the place of the first step, as document 02 counts it
abbrev pub first_step : ℕ
first_step = 1

abbrev pub tell_all : ℕ → Taken → List (Step (List ℕ)) → Taken
tell_all steps x ss = take_all (said_at steps) first_step steps x ss

-- AFTER A STEP'S POWER

-- `}`, so many steps more, each with the comma before it, and what closes the object
abbrev pub rest_tests : ℕ → List (List ℕ → Bool)
rest_tests n = is (125 ∷ []) ∷ (further is (map (step_of is) (replicate n step_test)) ++ closing)

-- how many steps more so many tokens are
abbrev pub more_of : List (List ℕ) → ℕ
more_of ts = (length ts - 3) / step_tokens

unfoldable pub is_rest : List (List ℕ) → Bool
is_rest ts = fits (rest_tests (more_of ts)) ts

abbrev pub steps_rest : List (List ℕ) → List (Step (List ℕ))
steps_rest ts = steps_in (more_of ts) (drop 2 ts)

-- `}` and the comma between two steps
abbrev pub between_steps : List (List ℕ)
between_steps = (125 ∷ []) ∷ (44 ∷ []) ∷ []

-- what is kept after a step's power and the tokens from there on say together what the series from a place on says
pub record Told (steps : ℕ) (s : List ℕ) (from : ℕ) (x : Taken) (at : ℕ) (y : Taken) : Type 0 where
  pub its_form : is_series (tokens (drop from s)) ≡ is_rest (tokens (drop at s))
  pub its_steps :
      is_series (tokens (drop from s)) ≡ true
      → tell_all steps x (steps_in (count_of (tokens (drop from s))) (tokens (drop from s))) ≡ tell_all steps y (steps_rest (tokens (drop at s)))

-- what is kept after a step's power and the tokens from there on say what is said so after a later one
pub record Onward (steps : ℕ) (s : List ℕ) (at : ℕ) (x : Taken) (next : ℕ) (y : Taken) : Type 0 where
  pub its_form : is_rest (tokens (drop at s)) ≡ is_rest (tokens (drop next s))
  pub its_steps :
      is_rest (tokens (drop at s)) ≡ true
      → tell_all steps x (steps_rest (tokens (drop at s))) ≡ tell_all steps y (steps_rest (tokens (drop next s)))
  pub fewer : length (tokens (drop next s)) ≤ length (tokens (drop at s))

-- the next step stands at a place, and what is kept after its power
pub record NextStep (steps : ℕ) (s : List ℕ) (at next : ℕ) (x y : Taken) : Type 0 where
  pub walked : Walked front_tests s at next
  pub its_tally : y ≡ step_taken first_step steps x (said_at steps x.tally.lines (step_in (tokens (drop at s))))

-- the steps and what closes the object stand from a place on, and what is kept after them
pub record SeriesAt (steps : ℕ) (s : List ℕ) (at : ℕ) (x y : Taken) : Type 0 where
  pub its_form : is_series (tokens (drop at s)) ≡ true
  pub its_steps : y ≡ tell_all steps x (steps_in (count_of (tokens (drop at s))) (tokens (drop at s)))

-- A STEP AT ONCE

-- what is said of a place where a step without blanks is looked for, after two bytes of its lead
abbrev pub PlainSays : List ℕ → List ℕ → List ℕ → List ℕ → ℕ → Option (ℕ × ℕ) → Type 0
PlainSays lead from until s at (Some (v, n)) = (part at 2 s ≡ take 2 lead) × FrontAt [] from until s (at + 2) (at + n) v
PlainSays lead from until s at None = Unit {0}

-- and where one laid out as another is, after a step's power
abbrev pub LaidSays : List ℕ → List ℕ → List ℕ → ℕ → Option (ℕ × ℕ) → Type 0
LaidSays from until s at (Some (v, n)) = FrontAt between_steps from until s at (at + n) v
LaidSays from until s at None = Unit {0}

-- what a front has to say of each place and each two labels of a list that it is asked of
abbrev pub Fronts : (ℕ → ℕ → Type 0) → (ℕ → ℕ → Option (ℕ × ℕ) → Type 0) → List ℕ → List ℕ → Type 0
Fronts pre post t s =
    (at i : ℕ) → at ≤ length s → LabelEntry t i → LabelEntry t (i + 10)
    → pre at i × ((r : Option (ℕ × ℕ)) → post at i r → LaidSays (part (i + 4) 5 t) (part (i + 14) 5 t) s at r)
