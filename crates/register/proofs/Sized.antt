-- A register whose arrays have their places, and what it is that a call can be made on it: there are an answer and a register that meet
-- what the called function ensures.
use denote.Ref.{Bor, MutBor}
use mathlib.Core.Path.{◌≡◌}
use mathlib.Core.List.{[]}
use Prim.Native.Nat.{ℕ, ◌<◌}
use lib.ListN.{length, get_or}
use Rattle.ledger.specs.Call.{Answered, Call}
use Rattle.tables.specs.Tables.{Columns, LoadColumns}
use Rattle.register.specs.View.{Register}
use Rattle.register.proofs.Runs.{Did}

-- EACH ARRAY HAS THE PLACES THAT ITS TYPE SAYS, in the head and in what is lent
pub record LoadsSized (cols : LoadColumns) : Type 0 where
  pub keys : length cols.keys ≡ 64
  pub approved : length cols.approved ≡ 64
  pub rows : length cols.rows ≡ 64

pub record RecordsSized (cols : Columns) : Type 0 where
  pub statuses : length cols.statuses ≡ 256
  pub ids : length cols.ids ≡ 256
  pub keys : length cols.keys ≡ 256
  pub marks : length cols.marks ≡ 256
  pub rows : length cols.rows ≡ 256
  -- a mark has four bytes
  pub marked : (i : ℕ) → i < 256 → length (get_or cols.marks i []) ≡ 4

pub record Sized (r : Register) : Type 0 where
  pub actors : length r.head.actors.entries ≡ 8
  pub categories : length r.head.categories.entries ≡ 4
  pub loads : LoadsSized r.loads
  pub records : RecordsSized r.columns

-- a reference to a value
abbrev pub ref : {X : Type 0} → X → Bor X
ref x = record { ref_ptr = (0, 0); now = x }

-- a reference to a value that may be written
abbrev pub ref_mut : {X : Type 0} → X → MutBor X
ref_mut x = record { ref_ptr = (0, 0); ghost_name = 0; now = x }

-- a call that can be made, and what comes of it
pub record Next (r : Register) (c : Call) : Type 1 where
  pub answer : Answered
  pub register : Register
  pub did : Did r c answer register
  pub sized : Sized register
