-- What a text begins with, part by part.
use mathlib.Core.Path.{◌≡◌, refl, sym, ap, ◌∙◌}
use mathlib.Core.Bool.{Bool, true, false, ◌&&◌}
use mathlib.Core.List.{List, [], ◌∷◌, ◌++◌}
use Prim.Native.Nat.{ℕ, suc, ◌+◌, ◌-◌, ◌<◌, ◌≤◌}
use native.Mathlib.Omega.{arith}
use lib.Dec.{eqb}
use lib.ListN.{length, get_or, take, drop, length-append, length-take, length-drop}
use lib.Seq.{length-take-le, drop-cons, drop-drop}
use Rattle.lists.specs.Searches.{same}
use Rattle.lists.proofs.Tests.{by_test}
use Rattle.lists.proofs.Searches.{same_true}
use Rattle.notification.proofs.Tested.{and_assoc}
use Rattle.reader.specs.Walking.{starts_with}

-- ---- two parts

pub starts_append : (t u s : List ℕ) → starts_with (t ++ u) s ≡ (starts_with t s && starts_with u (drop (length t) s))
unfolding starts_with same
starts_append [] u s = refl
starts_append (x ∷ t) u [] = refl
starts_append (x ∷ t) u (y ∷ s) =
    ap (λ (b : Bool). eqb y x && b) (starts_append t u s) ∙ sym (and_assoc (eqb y x) (starts_with t s) (starts_with u (drop (length t) s)))

-- ---- what it says of the text

pub starts_true : (t s : List ℕ) → starts_with t s ≡ true → take (length t) s ≡ t
unfolding starts_with
starts_true t s e = same_true (take (length t) s) t e

pub starts_long : (t s : List ℕ) → starts_with t s ≡ true → length t ≤ length s
starts_long t s e = omega (arith, simp length-take at (ap length (starts_true t s e)))

-- ---- a part of a text and `;`, at a place

module _ (line text : List ℕ) (at n : ℕ) (fit : n ≤ length text) where
  abbrev wanted : List ℕ
  wanted = take n text ++ 59 ∷ []

  pub stands_short : length line ≤ at + n → false ≡ starts_with wanted (drop at line)
  stands_short h =
      by_test (starts_with wanted (drop at line))
      (λ t. absurd (omega (arith, starts_long wanted (drop at line) t, length-append (take n text) (59 ∷ []), length-take-le n text fit, length-drop at line)))
      (λ t. sym t)

  and_end : (b : Bool) → b ≡ (b && true)
  and_end true = refl
  and_end false = refl

  pub stands_whole : (b : Bool) → at + n < length line → b ≡ same (take (at + n - at) (drop at line)) (take n text)
      → (b && eqb (get_or line (at + n) 0) 59) ≡ starts_with wanted (drop at line)
  unfolding starts_with same
  stands_whole b h e =
      let l = length-take-le n text fit in
      let m : at + n - at ≡ n = omega arith in
      let d : drop n (drop at line) ≡ get_or line (at + n) 0 ∷ drop (suc (at + n)) line = drop-drop n at line ∙ drop-cons line (at + n) 0 h in
      rw (starts_append (take n text) (59 ∷ []) (drop at line), l, d, e, m) (ap (λ (x : Bool). same (take n (drop at line)) (take n text) && x) (and_end (eqb (get_or line (at + n) 0) 59)))
