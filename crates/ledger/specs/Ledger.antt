-- The ledger (document 01, "The ledger"): what it holds, and an actor's engagement by its records. Loads and records stand
-- with the newest first. Actors and categories are known by their places of enrolment, from 0.
use Rattle.std.specs.Prelude.{Bool, cond, ◌&&◌, ◌||◌, List, [], ◌∷◌, ℕ, ◌+◌, ◌-◌, leb, ltb, eqb, get_or}
use Rattle.lists.specs.Searches.{same, some, place_of}
use Rattle.lists.specs.Sums.{sum_over}
use Rattle.calendar.specs.Clocks.{fresh_clock}
use Rattle.calendar.specs.declared.clock.Clock.{Clock}
use Rattle.ledger.specs.declared.Actor.{Actor}
use Rattle.ledger.specs.Statuses.{validated, updated}

-- a load gives one actor, category and day an approved power and one loaded power per step
pub record Load : Type 0 where
  pub actor : ℕ
  pub category : ℕ
  pub day : ℕ
  pub approved : ℕ
  pub powers : List ℕ

-- a key is ceder, acquirer, category and day, here by their places
pub record Key : Type 0 where
  pub ceder : ℕ
  pub acquirer : ℕ
  pub category : ℕ
  pub day : ℕ

-- a record: submitter, key, all powers, status, from-step and until-step (not included)
pub record Rec : Type 0 where
  pub id : ℕ
  pub submitter : ℕ
  pub key : Key
  pub status : ℕ
  pub from : ℕ
  pub until : ℕ
  pub powers : List ℕ

pub record Ledger : Type 0 where
  pub clock : Clock
  pub actors : List Actor
  pub categories : List (List ℕ)
  pub loads : List Load
  pub records : List Rec

-- a fresh register holds none of these, with its clock at day 0, minute 0
abbrev pub fresh : Ledger
fresh = record { clock = fresh_clock; actors = []; categories = []; loads = []; records = [] }

-- the places: 8 actors, 4 categories, 64 loads, 256 records
abbrev pub actor_places : ℕ
actor_places = 8

abbrev pub category_places : ℕ
category_places = 4

abbrev pub load_places : ℕ
load_places = 64

abbrev pub record_places : ℕ
record_places = 256

-- the place of the actor with a code, of a category; past the last where there is none
unfoldable pub actor_at : List Actor → List ℕ → ℕ
actor_at xs code = place_of (λ a. same a.code code) xs

unfoldable pub category_at : List (List ℕ) → List ℕ → ℕ
category_at xs text = place_of (λ z. same z text) xs

-- LOADED AND APPROVED POWER: of the load for the actor, category and day; without one both are 0

abbrev pub load_is : ℕ → ℕ → ℕ → Load → Bool
load_is a z d x = eqb x.actor a && eqb x.category z && eqb x.day d

unfoldable pub has_load : List Load → ℕ → ℕ → ℕ → Bool
has_load ls a z d = some (load_is a z d) ls

unfoldable pub loaded : List Load → ℕ → ℕ → ℕ → ℕ → ℕ
loaded [] a z d s = 0
loaded (x ∷ ls) a z d s = cond (load_is a z d x) (get_or x.powers s 0) (loaded ls a z d s)

unfoldable pub approved : List Load → ℕ → ℕ → ℕ → ℕ
approved [] a z d = 0
approved (x ∷ ls) a z d = cond (load_is a z d x) x.approved (approved ls a z d)

-- WHAT THE RECORDS MOVE

-- a record moves its power at a step: it is validated, perhaps updated, and the step is in its span
abbrev pub moves : ℕ → Rec → Bool
moves s r = (eqb r.status validated || eqb r.status updated) && (leb r.from s && ltb s r.until)

-- the power that a record moves at a step
abbrev pub moved_by : ℕ → Rec → ℕ
moved_by s r = cond (moves s r) (get_or r.powers s 0) 0

-- the power that the records of a kind move at a step
unfoldable pub moved : (Rec → Bool) → List Rec → ℕ → ℕ
moved kind rs s = sum_over rs (λ r. cond (kind r) (moved_by s r) 0)

abbrev pub under_key : Key → Rec → Bool
under_key k r =
    eqb r.key.ceder k.ceder && eqb r.key.acquirer k.acquirer && eqb r.key.category k.category
    && eqb r.key.day k.day

-- where an actor acquires, and where it cedes, in a category and on a day
abbrev pub acquires : ℕ → ℕ → ℕ → Rec → Bool
acquires a z d r = eqb r.key.acquirer a && eqb r.key.category z && eqb r.key.day d

abbrev pub cedes : ℕ → ℕ → ℕ → Rec → Bool
cedes a z d r = eqb r.key.ceder a && eqb r.key.category z && eqb r.key.day d

-- the key's power now
unfoldable pub power : List Rec → Key → ℕ → ℕ
power rs k s = moved (under_key k) rs s

unfoldable pub acquired : List Rec → ℕ → ℕ → ℕ → ℕ → ℕ
acquired rs a z d s = moved (acquires a z d) rs s

unfoldable pub ceded : List Rec → ℕ → ℕ → ℕ → ℕ → ℕ
ceded rs a z d s = moved (cedes a z d) rs s

-- what an actor has before what it cedes is taken away
unfoldable pub gained : Ledger → ℕ → ℕ → ℕ → ℕ → ℕ
gained l a z d s = loaded l.loads a z d s + acquired l.records a z d s

-- AN ACTOR'S ENGAGEMENT: loaded power, plus what it acquires, less what it cedes
unfoldable pub engagement : Ledger → ℕ → ℕ → ℕ → ℕ → ℕ
engagement l a z d s = gained l a z d s - ceded l.records a z d s
