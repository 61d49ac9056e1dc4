-- Powers put into their places one at a time.
use mathlib.Core.Path.{◌≡◌, sym}
use mathlib.Core.List.{List, ◌++◌}
use Prim.Native.Nat.{ℕ, ◌-◌, ◌≤◌}
use lib.ListN.{length, take, replicate}
use lib.Seq.{take-length}
use Rattle.lists.proofs.Parts.{take_filled}
use Rattle.notification.specs.Forms.{in_places}

-- the first i powers in their places
abbrev pub placed_to : List ℕ → ℕ → List ℕ
placed_to ps i = take i ps ++ replicate (50 - i) 0

pub placed_all : (ps row : List ℕ) (i : ℕ) → length ps ≤ 50 → i ≡ length ps → row ≡ placed_to ps i → row ≡ in_places ps
unfolding in_places
placed_all ps row i h k e = rw (e, k, take-length ps) (sym (take_filled 0 ps 50 h))
