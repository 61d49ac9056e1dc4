-- DEMAND 3 OF THE LEDGER: what holds after every list of calls.
use Rattle.std.specs.Prelude.{◌≡◌, true, false, List, [], ◌∷◌, ℕ, ◌+◌, ◌≤◌, ◌<◌, Ok}
use Rattle.lists.specs.Sums.{sum_over}
use Rattle.calendar.specs.Steps.{steps_of}
use Rattle.calendar.specs.Clocks.{counts}
use Rattle.ledger.specs.Ledger.{Ledger, Key, actor_at, category_at, power}
use Rattle.ledger.specs.Call.{Answered, Call}
use Rattle.ledger.specs.Calls.{step}
use Rattle.ledger.specs.Asking.{engaged_at, ask_engagement}
use Rattle.ledger.specs.Reading.{Event, events, actors_of, categories_of, is_among, clock_of, loaded_of, approved_of, power_of, acquired_of, ceded_of}

-- the ledger that a list of calls leaves, each call given the ledger as the one before left it, and the answers
abbrev pub after : Ledger → List Call → Ledger
after l [] = l
after l (c ∷ cs) = after (step l c).ledger cs

abbrev pub answers_to : Ledger → List Call → List Answered
answers_to l [] = []
answers_to l (c ∷ cs) = (step l c).answer ∷ answers_to (step l c).ledger cs

-- a step of a day, for an actor and a category that the list enrolled
pub record Asked (h : List Event) (a z : List ℕ) (d s : ℕ) : Type 0 where
  pub actor : is_among a (actors_of h) ≡ true
  pub category : is_among z (categories_of h) ≡ true
  pub in_day_lem : s < steps_of d

-- the key by codes and category
abbrev pub key_by : Ledger → List ℕ → List ℕ → List ℕ → ℕ → Key
key_by l c a z d =
    record { ceder = actor_at l.actors c; acquirer = actor_at l.actors a; category = category_at l.categories z; day = d }

-- what holds of a ledger and the events that led to it
pub record Holds (l : Ledger) (h : List Event) : Type 0 where
  -- the engagement call answers
  pub answered : (a z : List ℕ) (d s : ℕ) → Asked h a z d s → ask_engagement l a z d s ≡ Ok (engaged_at l a z d s)
  -- loaded + acquired - ceded by the exchanges that survive
  pub engaged : (a z : List ℕ) (d s : ℕ) → Asked h a z d s →
      engaged_at l a z d s + ceded_of h a z d s ≡ loaded_of h a z d s + acquired_of h a z d s
  -- per category and step they add up to the loaded powers
  pub conserved : (z : List ℕ) (d s : ℕ) → is_among z (categories_of h) ≡ true → s < steps_of d →
      sum_over (actors_of h) (λ a. engaged_at l a z d s) ≡ sum_over (actors_of h) (λ a. loaded_of h a z d s)
  -- none is above the approved power
  pub bounded : (a z : List ℕ) (d s : ℕ) → Asked h a z d s → engaged_at l a z d s ≤ approved_of h a z d
  -- the next call, whichever, changes none at a step that the clock, as it stands after that call, no longer lets count
  pub frozen : (c : Call) (a z : List ℕ) (d s : ℕ) → Asked h a z d s →
      counts (clock_of (record { call = c; answer = (step l c).answer } ∷ h)) d s ≡ false →
      engaged_at (step l c).ledger a z d s ≡ engaged_at l a z d s
  -- the records now V or P whose span holds the step give, key by key, exactly the surviving exchange
  pub explained : (c a z : List ℕ) (d s : ℕ) → is_among c (actors_of h) ≡ true → Asked h a z d s →
      power l.records (key_by l c a z d) s ≡ power_of h c a z d s

-- WHAT IS CLAIMED OF EVERY LIST: proofs/Whole.antt shows it
abbrev pub Demand3 : Ledger → List Call → Type 0
Demand3 start cs = Holds (after start cs) (events cs (answers_to start cs) [])
