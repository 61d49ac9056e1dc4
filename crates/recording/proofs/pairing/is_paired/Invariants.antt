-- `pairing::is_paired` meets its contract: what is known of the records passed, from one listed place to the next, is whether
-- one of them is answered.
use mathlib.Core.Path.{◌≡◌}
use mathlib.Core.List.{List}
use Prim.Native.Nat.{ℕ}
use Rattle.tables.specs.Lent.{columns_of}
use Rattle.tables.specs.Passing.{is_under, reached, PlacesOf}
use Rattle.recording.specs.Recording.{pairs_below}
use Rattle.recording.proofs.pairing.is_paired.Given as goal

abbrev pub invariant-loop-place : goal.invariant-loop-place
invariant-loop-place l =
    (ids : List ℕ) (n : ℕ) → PlacesOf (is_under l.records.keys.now l.own) n l.count l.places →
    l.found ≡ pairs_below (columns_of l.records ids) (reached l.places l.place-index) l.by l.own l.ps
