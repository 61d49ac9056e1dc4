-- `changing::change_all` meets its contract: the records below the place reached are changed, and the others are what they were.
use mathlib.Core.Path.{◌≡◌}
use mathlib.Core.List.{List}
use Prim.Native.Nat.{ℕ}
use lib.ListN.{length}
use Rattle.tables.specs.Tables.{columns}
use Rattle.tables.specs.Passing.{is_under, reached, PlacesOf}
use Rattle.recording.specs.Recording.{Changed}
use Rattle.recording.proofs.changing.change_all.Given as goal

abbrev pub invariant-loop-place : goal.invariant-loop-place
invariant-loop-place l =
    (length l.initial.statuses ≡ 256) × (length l.initial.marks ≡ 256)
    × ((ids : List ℕ) (n : ℕ) → PlacesOf (is_under l.keys l.own) n l.count l.places →
    Changed l.paired l.clock l.by l.own l.ps (reached l.places l.place-index) (columns l.initial.statuses ids l.keys l.initial.marks l.rows) l.statuses l.marks)
