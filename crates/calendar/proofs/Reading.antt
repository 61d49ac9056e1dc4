-- A date's text reads back as the date, and no other text does.
use Rattle.std.specs.Prelude.{None}
use mathlib.Core.Path.{◌≡◌}
use mathlib.Core.Bool.{true, ◌&&◌}
use mathlib.Core.List.{List}
use Prim.Native.Nat.{ℕ, ◌≤◌}
use lib.Dec.{leb}
use lib.ListN.{length, get_or}
use borrow.Author.Tests.{leb-true, eq-eqb, ne_eqb}
use Rattle.calendar.specs.Texts.{digit, pair_of, read_date, day_at, day_of}
use Rattle.lists.proofs.Tests.{both_true}

pub digits_from : (a b : ℕ) → (digit a && digit b) ≡ true → (48 ≤ a) × (48 ≤ b)
digits_from a b e =
    let p = both_true (digit a) (digit b) e in
    (leb-true 48 a (both_true (leb 48 a) (leb a 57) p.0).0, leb-true 48 b (both_true (leb 48 b) (leb b 57) p.1).0)

-- a text stands for the day that its four pairs give, or it has not eight bytes
pub not_eight : (s : List ℕ) → (length s ≡ 8 → ⊥) → None ≡ day_of s
unfolding day_of
not_eight s h = rw (ne_eqb (length s) 8 h)

pub eight_read : (s : List ℕ) → length s ≡ 8 → day_at (pair_of (get_or s 0 0) (get_or s 1 0)) (read_date s) ≡ day_of s
unfolding day_of
eight_read s e = rw (eq-eqb (length s) 8 e)
