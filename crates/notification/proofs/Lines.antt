-- A text that ends with LF is its lines, each ended by LF; lines without LF that are so joined are the lines of what they give.
use mathlib.Core.Path.{◌≡◌, refl, ap}
use mathlib.Core.Bool.{Bool, true, false, not}
use mathlib.Core.List.{List, [], ◌∷◌, ◌++◌}
use Prim.Native.Nat.{ℕ, suc, ◌+◌, ◌-◌}
use native.Mathlib.Omega.{arith}
use lib.Dec.{eqb}
use lib.ListN.{length, get_or, length-append}
use lib.Seq.{get_or-append-add}
use borrow.Author.Tests.{eqb-true, not-true}
use Rattle.lists.specs.Searches.{every}
use Rattle.lists.proofs.Tests.{by_test, and_left, and_right}
use Rattle.notification.specs.Reading.{onto, lines_in}

-- a byte that is no LF
abbrev pub in_line : ℕ → Bool
in_line b = not (eqb b 10)

-- lines, each ended by LF
unfoldable pub joined : List (List ℕ) → List ℕ
joined [] = []
joined (l ∷ ls) = l ++ 10 ∷ joined ls

-- ---- from lines to their text and back

pub lines_first : (l s : List ℕ) → every in_line l ≡ true → lines_in (l ++ 10 ∷ s) ≡ l ∷ lines_in s
unfolding lines_in
lines_first [] s e = refl
lines_first (b ∷ l) s e =
    rw (not-true (eqb b 10) (and_left (in_line b) (every in_line l) e), lines_first l s (and_right (in_line b) (every in_line l) e))

pub lines_joined : (ls : List (List ℕ)) → every (every in_line) ls ≡ true → lines_in (joined ls) ≡ ls
unfolding joined lines_in
lines_joined [] e = refl
lines_joined (l ∷ ls) e =
    rw (lines_first l (joined ls) (and_left (every in_line l) (every (every in_line) ls) e), lines_joined ls (and_right (every in_line l) (every (every in_line) ls) e))

pub joined_last : (l : List ℕ) (ls : List (List ℕ)) → get_or (joined (l ∷ ls)) (length (joined (l ∷ ls)) - 1) 0 ≡ 10
unfolding joined
joined_last l [] =
    let e : length (l ++ 10 ∷ []) - 1 ≡ length l + 0 = simp length-append (omega arith) in
    rw (e, get_or-append-add l (10 ∷ []) 0 0)
joined_last l (m ∷ ls) =
    let t = joined (m ∷ ls) in
    let h : length t ≡ suc (length t - 1) = simp length-append (omega arith) in
    let e : length (l ++ 10 ∷ t) - 1 ≡ length l + suc (length t - 1) = omega (arith, length-append l (10 ∷ t)) in
    rw (e, get_or-append-add l (10 ∷ t) (suc (length t - 1)) 0) (joined_last m ls)

-- ---- from a text to its lines and back

joined_onto : (b c : ℕ) (s : List ℕ) (ls : List (List ℕ)) → joined ls ≡ c ∷ s → joined (onto false b ls) ≡ b ∷ (c ∷ s)
unfolding joined
joined_onto b c s [] e = let z : ◌≡◌ {A = ℕ} 0 1 = cc in absurd (omega arith)
joined_onto b c s (l ∷ ls) e = ap (λ (t : List ℕ). b ∷ t) e

pub joined_lines : (s : List ℕ) → get_or s (length s - 1) 0 ≡ 10 → joined (lines_in s) ≡ s
unfolding joined lines_in
joined_lines [] e = absurd (omega arith)
joined_lines (b ∷ []) e = rw e
joined_lines (b ∷ (c ∷ s)) e =
    let h : suc (suc (length s)) - 1 ≡ suc (length s) = omega arith in
    let k : length s ≡ suc (length s) - 1 = omega arith in
    let f : get_or (c ∷ s) (length s) 0 ≡ 10 = rw h at e in
    let i = joined_lines (c ∷ s) (rw k at f) in
    by_test (eqb b 10)
    (λ t. rw t (cc (eqb-true b 10 t, i)))
    (λ t. rw t (joined_onto b c s (lines_in (c ∷ s)) i))
