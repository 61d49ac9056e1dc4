-- What the tables hold: the entries below their counts, loads and records with the newest first. A count past the
-- places counts as full. Actors and categories stand with their counts; loads and records stand in columns, one for
-- each of their parts.
use Rattle.std.specs.Prelude.{List, [], ◌∷◌, map, ℕ, zero, suc, ◌+◌, ◌*◌, ◌/◌, ◌%◌, min, get_or, take}
use Rattle.notification.specs.Forms.{category_text}
use Rattle.ledger.specs.declared.Actor.{Actor}
use Rattle.ledger.specs.Ledger.{Load, Key, Rec, actor_places, category_places, load_places, record_places}
use Rattle.tables.specs.declared.actors.Actors.{Actors}
use Rattle.tables.specs.declared.categories.Categories.{Categories}

-- what stands at the numbers below n, the last first
abbrev pub down_from : {A : Type 0} → (ℕ → A) → ℕ → List A
down_from f zero = []
down_from f (suc n) = f n ∷ down_from f n

-- ACTORS AND CATEGORIES

unfoldable pub actors_in : Actors → List Actor
actors_in x = take (min x.count actor_places) x.entries

unfoldable pub categories_in : Categories → List (List ℕ)
categories_in x = map (λ z. category_text z.text) (take (min x.count category_places) x.entries)

-- LOADS

-- actor, category and day of a load as one number
abbrev pub load_number : ℕ → ℕ → ℕ → ℕ
load_number actor category day = day * 32 + category * 8 + actor

-- the load of such a number, an approved power and a row of powers
abbrev pub load_from : ℕ → ℕ → List ℕ → Load
load_from number most row =
    record { actor = number % 8; category = number / 8 % 4; day = number / 32; approved = most; powers = row }

-- the loads' columns, which the caller lends: numbers, approved powers, rows of powers
pub record LoadColumns : Type 0 where
  pub keys : List ℕ
  pub approved : List ℕ
  pub rows : List (List ℕ)

abbrev pub load_columns : List ℕ → List ℕ → List (List ℕ) → LoadColumns
load_columns keys approved rows = record { keys = keys; approved = approved; rows = rows }

abbrev pub load_in : LoadColumns → ℕ → Load
load_in cols i = load_from (get_or cols.keys i 0) (get_or cols.approved i 0) (get_or cols.rows i [])

unfoldable pub loads_in : ℕ → LoadColumns → List Load
loads_in n cols = down_from (load_in cols) (min n load_places)

-- RECORDS

-- ceder, acquirer, category and day of a record as one number
abbrev pub key_number : ℕ → ℕ → ℕ → ℕ → ℕ
key_number ceder acquirer category day = day * 256 + category * 64 + ceder * 8 + acquirer

abbrev pub key_from : ℕ → Key
key_from n = record { ceder = n / 8 % 8; acquirer = n % 8; category = n / 64 % 4; day = n / 256 }

-- the record of an id, a status, a key's number, a mark (submitter, from-step, until-step) and a row of powers
abbrev pub rec_of : ℕ → ℕ → ℕ → List ℕ → List ℕ → Rec
rec_of id status key mark row =
    record {
      id = id;
      submitter = get_or mark 0 0;
      key = key_from key;
      status = status;
      from = get_or mark 1 0;
      until = get_or mark 2 0;
      powers = row;
    }

-- the records' columns, which the caller lends
pub record Columns : Type 0 where
  pub statuses : List ℕ
  pub ids : List ℕ
  pub keys : List ℕ
  pub marks : List (List ℕ)
  pub rows : List (List ℕ)

abbrev pub columns : List ℕ → List ℕ → List ℕ → List (List ℕ) → List (List ℕ) → Columns
columns statuses ids keys marks rows =
    record { statuses = statuses; ids = ids; keys = keys; marks = marks; rows = rows }

abbrev pub record_in : Columns → ℕ → Rec
record_in cols i =
    rec_of (get_or cols.ids i 0) (get_or cols.statuses i 0) (get_or cols.keys i 0) (get_or cols.marks i [])
    (get_or cols.rows i [])

unfoldable pub records_in : ℕ → Columns → List Rec
records_in n cols = down_from (record_in cols) (min n record_places)
