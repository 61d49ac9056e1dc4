-- Powers in their places: they stand first, and 0 past them.
use mathlib.Core.Path.{◌≡◌, refl, sym, ap, ◌∙◌}
use mathlib.Core.Bool.{Bool, true, false}
use mathlib.Core.List.{List, ◌++◌}
use Prim.Native.Nat.{ℕ, ◌-◌, ◌≤◌}
use native.Mathlib.Omega.{arith}
use lib.Dec.{eqb}
use lib.ListN.{length, take, drop, replicate, length-append, length-take, length-drop, length-replicate, take-append-drop}
use lib.Seq.{take_at, drop_at}
use Rattle.lists.specs.Searches.{every}
use Rattle.lists.proofs.Tests.{by_test, true_false}
use Rattle.lists.proofs.Searches.{every_append, every_first, every_replicate, every_equal}
use Rattle.lists.proofs.Parts.{take_filled}
use Rattle.notification.specs.Forms.{places, in_places, all_zero}

-- a power that is 0
abbrev is_zero : ℕ → Bool
is_zero p = eqb p 0

module _ (ps : List ℕ) (h : length ps ≤ places) where
  abbrev rest : List ℕ
  rest = replicate (places - length ps) 0

  pub places_filled : in_places ps ≡ ps ++ rest
  unfolding in_places
  places_filled = take_filled 0 ps places h

  pub places_length : length (in_places ps) ≡ places
  places_length = rw places_filled (simp (length-append, length-replicate) (omega arith))

  pub places_take : take (length ps) (in_places ps) ≡ ps
  places_take = rw places_filled (take_at ps rest (length ps) refl)

  pub places_past : all_zero (drop (length ps) (in_places ps)) ≡ true
  unfolding all_zero
  places_past = rw (places_filled, drop_at ps rest (length ps) refl) (every_replicate is_zero (places - length ps) 0 refl)

  pub places_every : (p : ℕ → Bool) → p 0 ≡ true → every p ps ≡ true → every p (in_places ps) ≡ true
  places_every p z e = rw places_filled (every_append p ps rest e (every_replicate p (places - length ps) 0 z))

  pub places_zero : all_zero ps ≡ false → all_zero (in_places ps) ≡ false
  unfolding all_zero
  places_zero e =
      by_test (every is_zero (in_places ps))
      (λ t. true_false (every is_zero ps) (every_first is_zero ps rest (rw places_filled at t)) e)
      (λ t. t)

-- ---- back from the places

module _ (n : ℕ) (qs : List ℕ) (h : n ≤ places) (l : length qs ≡ places) (z : all_zero (drop n qs) ≡ true) where
  pub take_places : in_places (take n qs) ≡ qs
  unfolding all_zero
  take_places =
      let t : length (take n qs) ≡ n = rw length-take (omega arith) in
      let d : length (drop n qs) ≡ places - length (take n qs) = rw length-drop (omega arith) in
      let r : drop n qs ≡ replicate (places - length (take n qs)) 0 = rw d at (every_equal 0 (drop n qs) z) in
      places_filled (take n qs) (omega arith) ∙ (ap (λ (s : List ℕ). take n qs ++ s) (sym r) ∙ take-append-drop n qs)

  pub take_zero : all_zero qs ≡ false → all_zero (take n qs) ≡ false
  unfolding all_zero
  take_zero e =
      by_test (every is_zero (take n qs))
      (λ t. true_false (every is_zero qs) (rw (take-append-drop n qs) at (every_append is_zero (take n qs) (drop n qs) t z)) e)
      (λ t. t)
