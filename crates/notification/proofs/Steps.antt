-- The lines of a day's steps read back as their powers, and lines that are read are the lines of the powers read.
use mathlib.Core.Path.{◌≡◌, refl, sym, ap, ◌∙◌}
use mathlib.Core.Bool.{Bool, true, false, ◌&&◌}
use mathlib.Core.List.{List, [], ◌∷◌, ◌++◌}
use Prim.Native.Nat.{ℕ, zero, suc, ◌+◌, ◌<◌}
use native.Mathlib.Nat.{add-zero, zero-add}
use native.Mathlib.Omega.{arith}
use lib.Dec.{ltb}
use lib.ListN.{length, get_or, take, take-append-drop}
use lib.Seq.{take-append_seam, drop-append_seam}
use borrow.Author.Tests.{ltb-true, ltb-false, lt-ltb, not-false}
use Rattle.lists.specs.Searches.{every, first_from}
use Rattle.lists.proofs.Tests.{and_left, and_right, and_true}
use Rattle.lists.proofs.Searches.{same_refl, same_true, first_before, first_none}
use Rattle.notification.specs.Forms.{power_end}
use Rattle.notification.specs.Writing.{labels_text, power_text, lines_of}
use Rattle.notification.specs.Reading.{has_labels, rest_of, power_value, is_power, bad_line, first_bad, powers_in}
use Rattle.notification.proofs.Lines.{in_line, joined}
use Rattle.notification.proofs.Powers.{value_power, power_made, power_back}
use Rattle.notification.proofs.Breaks.{line_in}

-- ---- one line

abbrev pub line_of : ℕ → ℕ → ℕ → List ℕ
line_of steps k p = labels_text steps k ++ power_text p

abbrev pub good_line : ℕ → ℕ → List ℕ → Bool
good_line steps k l = has_labels steps k l && is_power (rest_of steps k l)

-- a power in its range
abbrev pub in_range : ℕ → Bool
in_range p = ltb p power_end

pub line_rest : (steps k p : ℕ) → rest_of steps k (line_of steps k p) ≡ power_text p
unfolding rest_of
line_rest steps k p = drop-append_seam (labels_text steps k) (power_text p)

pub line_made : (steps k p : ℕ) → p < power_end → good_line steps k (line_of steps k p) ≡ true
unfolding has_labels
line_made steps k p h =
    rw (take-append_seam (labels_text steps k) (power_text p), same_refl (labels_text steps k), line_rest steps k p) (power_made p h)

pub line_value : (steps k p : ℕ) → p < power_end → power_value (rest_of steps k (line_of steps k p)) ≡ p
line_value steps k p h = ap power_value (line_rest steps k p) ∙ value_power p h

pub line_back : (steps k : ℕ) (l : List ℕ) → good_line steps k l ≡ true
    → (power_value (rest_of steps k l) < power_end) × (l ≡ line_of steps k (power_value (rest_of steps k l)))
unfolding has_labels rest_of
line_back steps k l e =
    let t = labels_text steps k in
    let a = has_labels steps k l in
    let b = is_power (rest_of steps k l) in
    let f = same_true (take (length t) l) t (and_left a b e) in
    let g = power_back (rest_of steps k l) (and_right a b e) in
    (g.0, sym (take-append-drop (length t) l) ∙ (ap (λ (s : List ℕ). s ++ rest_of steps k l) f ∙ ap (λ (s : List ℕ). t ++ s) g.1))

-- ---- all lines

unfoldable pub rows : ℕ → ℕ → List ℕ → List (List ℕ)
rows steps k [] = []
rows steps k (p ∷ ps) = line_of steps k p ∷ rows steps (suc k) ps

pub rows_joined : (steps k : ℕ) (ps : List ℕ) → joined (rows steps k ps) ≡ lines_of steps k ps
unfolding rows joined lines_of
rows_joined steps k [] = refl
rows_joined steps k (p ∷ ps) = rw (rows_joined steps (suc k) ps)

pub rows_in : (steps k : ℕ) (ps : List ℕ) → every (every in_line) (rows steps k ps) ≡ true
unfolding rows
rows_in steps k [] = refl
rows_in steps k (p ∷ ps) =
    and_true (every in_line (line_of steps k p)) (every (every in_line) (rows steps (suc k) ps)) (line_in steps k p) (rows_in steps (suc k) ps)

pub rows_length : (steps k : ℕ) (ps : List ℕ) → length (rows steps k ps) ≡ length ps
unfolding rows
rows_length steps k [] = refl
rows_length steps k (p ∷ ps) = ap suc (rows_length steps (suc k) ps)

pub rows_powers : (steps k : ℕ) (ps : List ℕ) → every in_range ps ≡ true → powers_in steps k (rows steps k ps) ≡ ps
unfolding rows powers_in
rows_powers steps k [] e = refl
rows_powers steps k (p ∷ ps) e =
    let h = ltb-true p power_end (and_left (in_range p) (every in_range ps) e) in
    cc (line_value steps k p h, rows_powers steps (suc k) ps (and_right (in_range p) (every in_range ps) e))

pub rows_good : (steps k : ℕ) (ps : List ℕ) → every in_range ps ≡ true
    → (i : ℕ) → i < length ps → good_line steps (k + i) (get_or (rows steps k ps) i []) ≡ true
unfolding rows
rows_good steps k [] e i h = absurd (omega arith)
rows_good steps k (p ∷ ps) e zero h =
    rw add-zero (line_made steps k p (ltb-true p power_end (and_left (in_range p) (every in_range ps) e)))
rows_good steps k (p ∷ ps) e (suc i) h =
    let n : k + suc i ≡ suc k + i = omega arith in
    rw n (rows_good steps (suc k) ps (and_right (in_range p) (every in_range ps) e) i (omega arith))

-- every line from step k on is good
abbrev pub Good : ℕ → ℕ → List (List ℕ) → Type 0
Good steps k ls = (i : ℕ) → i < length ls → good_line steps (k + i) (get_or ls i []) ≡ true

good_rest : (steps k : ℕ) (l : List ℕ) (ls : List (List ℕ)) → Good steps k (l ∷ ls) → Good steps (suc k) ls
good_rest steps k l ls g i h =
    let n : k + suc i ≡ suc k + i = omega arith in
    rw n at (g (suc i) (omega arith))

good_line_lem : (steps k : ℕ) (l : List ℕ) (ls : List (List ℕ)) → Good steps k (l ∷ ls) → good_line steps k l ≡ true
good_line_lem steps k l ls g = rw add-zero at (g 0 (omega arith))

pub powers_range : (steps k : ℕ) (ls : List (List ℕ)) → Good steps k ls → every in_range (powers_in steps k ls) ≡ true
unfolding powers_in
powers_range steps k [] g = refl
powers_range steps k (l ∷ ls) g =
    let v = power_value (rest_of steps k l) in
    and_true (in_range v) (every in_range (powers_in steps (suc k) ls))
    (lt-ltb v power_end (line_back steps k l (good_line_lem steps k l ls g)).0) (powers_range steps (suc k) ls (good_rest steps k l ls g))

pub powers_rows : (steps k : ℕ) (ls : List (List ℕ)) → Good steps k ls → ls ≡ rows steps k (powers_in steps k ls)
unfolding powers_in rows
powers_rows steps k [] g = refl
powers_rows steps k (l ∷ ls) g =
    cc ((line_back steps k l (good_line_lem steps k l ls g)).1, powers_rows steps (suc k) ls (good_rest steps k l ls g))

pub powers_length : (steps k : ℕ) (ls : List (List ℕ)) → length (powers_in steps k ls) ≡ length ls
unfolding powers_in
powers_length steps k [] = refl
powers_length steps k (l ∷ ls) = ap suc (powers_length steps (suc k) ls)

-- ---- the first bad line

pub bad_none : (steps : ℕ) (ls : List (List ℕ)) → Good steps 0 ls → first_bad steps ls ≡ length ls
unfolding first_bad
bad_none steps ls g =
    first_none (bad_line steps ls) 0 (length ls) (λ k a b. good k (omega arith)) ∙ zero-add (length ls)
  where
    good : (k : ℕ) → k < length ls → bad_line steps ls k ≡ false
    good k h = let e = rw (zero-add k) at (g k h) in rw e

pub none_bad : (steps : ℕ) (ls : List (List ℕ)) → ltb (first_bad steps ls) (length ls) ≡ false → Good steps 0 ls
unfolding first_bad
none_bad steps ls e i h =
    let n = ltb-false (first_from (bad_line steps ls) 0 (length ls)) (length ls) e in
    rw (zero-add i) (not-false (good_line steps i (get_or ls i [])) (first_before (bad_line steps ls) 0 (length ls) i (omega arith) (omega arith)))
