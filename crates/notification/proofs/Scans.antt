-- A power and `;` can be told byte by byte: a digit is taken while the value so far is neither 0 nor above 999, and `;` ends it.
use mathlib.Core.Path.{◌≡◌, refl, sym, ap, ◌∙◌}
use mathlib.Core.Bool.{Bool, true, false, cond, ◌&&◌, false≢true}
use mathlib.Core.List.{List, [], ◌∷◌, ◌++◌, append_assoc}
use Prim.Native.Nat.{ℕ, zero, suc, ◌+◌, ◌-◌, ◌*◌, ◌/◌, ◌%◌, ◌<◌, ◌≤◌}
use native.Mathlib.Omega.{arith}
use lib.Dec.{ltb, leb, eqb}
use borrow.Author.Tests.{eqb-true, leb-true, ltb-true, ltb-false, lt-ltb, le-ltb, le-leb}
use Rattle.lists.proofs.Tests.{by_test, true_false, and_left, and_right}
use Rattle.notification.specs.Forms.{is_digit, digits, power_end}
use Rattle.notification.specs.Reading.{power_value, is_power}
use Rattle.notification.proofs.Powers.{power_made, power_back}

-- ---- digits, one more at a time

pub digits_one : (v : ℕ) → v < 10 → digits v ≡ (48 + v) ∷ []
unfolding digits
digits_one v h = rw (lt-ltb v 10 h)

pub digits_more : (v d : ℕ) → 1 ≤ v → v < 1000 → d < 10 → digits (v * 10 + d) ≡ digits v ++ ((48 + d) ∷ [])
unfolding digits
digits_more v d lo hi hd =
    let p = v * 10 + d in
    let q : (v * 10 + d) / 10 ≡ v = omega arith in
    let r : (v * 10 + d) % 10 ≡ d = omega arith in
    let n : 10 ≤ v * 10 + d = omega arith in
    by_test (ltb v 10)
    (λ t. let h = ltb-true v 10 t in
    let m : v * 10 + d < 100 = omega arith in
    rw (le-ltb p 10 n, lt-ltb p 100 m, t, q, r))
    (λ t. let h = ltb-false v 10 t in
    let m : 100 ≤ v * 10 + d = omega arith in
    let q₂ : (v * 10 + d) / 100 ≡ v / 10 = omega arith in
    by_test (ltb v 100)
    (λ u. let k = ltb-true v 100 u in
    let l : v * 10 + d < 1000 = omega arith in
    rw (le-ltb p 10 n, le-ltb p 100 m, lt-ltb p 1000 l, t, u, q, r, q₂))
    (λ u. let k = ltb-false v 100 u in
    let l : 1000 ≤ v * 10 + d = omega arith in
    let q₃ : (v * 10 + d) / 1000 ≡ v / 100 = omega arith in
    rw (le-ltb p 10 n, le-ltb p 100 m, le-ltb p 1000 l, t, u, lt-ltb v 1000 hi, q, r, q₂, q₃)))

-- ---- the scan

-- another digit may follow
abbrev pub goes_on : ℕ → Bool
goes_on v = leb 1 v && ltb v 1000

abbrev pub is_end : List ℕ → Bool
is_end [] = true
is_end (b ∷ s) = false

unfoldable pub scan_from : ℕ → List ℕ → Bool
scan_from v [] = false
scan_from v (b ∷ s) = cond (is_digit b) (goes_on v && scan_from (v * 10 + (b - 48)) s) (eqb b 59 && is_end s)

unfoldable pub scan : List ℕ → Bool
scan [] = false
scan (b ∷ s) = is_digit b && scan_from (b - 48) s

-- ---- what it passes is a power

digit_between : (b : ℕ) → is_digit b ≡ true → (48 ≤ b) × (b ≤ 57)
digit_between b e = (leb-true 48 b (and_left (leb 48 b) (leb b 57) e), leb-true b 57 (and_right (leb 48 b) (leb b 57) e))

end_empty : (s : List ℕ) → is_end s ≡ true → s ≡ []
end_empty [] e = refl
end_empty (b ∷ s) e = absurd (false≢true e)

from_power : (v : ℕ) (s : List ℕ) → v < power_end → scan_from v s ≡ true → is_power (digits v ++ s) ≡ true
unfolding scan_from
from_power v [] h e = absurd (false≢true e)
from_power v (b ∷ s) h e =
    by_test (is_digit b)
    (λ t. let f : (goes_on v && scan_from (v * 10 + (b - 48)) s) ≡ true = rw t at e in
    let g = and_left (goes_on v) (scan_from (v * 10 + (b - 48)) s) f in
    let lo = leb-true 1 v (and_left (leb 1 v) (ltb v 1000) g) in
    let hi = ltb-true v 1000 (and_right (leb 1 v) (ltb v 1000) g) in
    let w = digit_between b t in
    let z : 48 + (b - 48) ≡ b = omega arith in
    let i = from_power (v * 10 + (b - 48)) s (omega arith) (and_right (goes_on v) (scan_from (v * 10 + (b - 48)) s) f) in
    rw (digits_more v (b - 48) lo hi (omega arith), append_assoc, z) at i)
    (λ t. let f : (eqb b 59 && is_end s) ≡ true = rw t at e in
    rw (eqb-true b 59 (and_left (eqb b 59) (is_end s) f), end_empty s (and_right (eqb b 59) (is_end s) f)) (power_made v h))

scan_power : (s : List ℕ) → scan s ≡ true → is_power s ≡ true
unfolding scan
scan_power [] e = absurd (false≢true e)
scan_power (b ∷ s) e =
    let w = digit_between b (and_left (is_digit b) (scan_from (b - 48) s) e) in
    let z : 48 + (b - 48) ≡ b = omega arith in
    let i = from_power (b - 48) s (omega arith) (and_right (is_digit b) (scan_from (b - 48) s) e) in
    rw (digits_one (b - 48) (omega arith), z) at i

-- ---- every power passes it

digit_yes : (d : ℕ) → d < 10 → is_digit (48 + d) ≡ true
digit_yes d h =
    let a : 48 ≤ 48 + d = omega arith in
    let b : 48 + d ≤ 57 = omega arith in
    rw (le-leb 48 (48 + d) a, le-leb (48 + d) 57 b)

-- the least number of more than so many digits
abbrev bound : ℕ → ℕ
bound zero = 1
bound (suc f) = 10 * bound f

scan_digits : (f p : ℕ) (s : List ℕ) → p < bound (suc f) → p < power_end → scan (digits p ++ s) ≡ scan_from p s
unfolding scan scan_from
scan_digits zero p s h m =
    let e : 48 + p - 48 ≡ p = omega arith in
    rw (digits_one p h, digit_yes p h, e)
scan_digits (suc f) p s h m =
    by_test (ltb p 10)
    (λ t. let u = ltb-true p 10 t in
    let e : 48 + p - 48 ≡ p = omega arith in
    rw (digits_one p u, digit_yes p u, e))
    (λ t. let u = ltb-false p 10 t in
    let r : p % 10 < 10 = omega arith in
    let lo : 1 ≤ p / 10 = omega arith in
    let hi : p / 10 < 1000 = omega arith in
    let b : p / 10 < bound (suc f) = omega arith in
    let w : p ≡ p / 10 * 10 + p % 10 = omega arith in
    let v : p / 10 * 10 + (48 + p % 10 - 48) ≡ p = omega arith in
    let g : digits p ≡ digits (p / 10) ++ ((48 + p % 10) ∷ []) = ap digits w ∙ digits_more (p / 10) (p % 10) lo hi r in
    rw (g, append_assoc) (scan_digits f (p / 10) ((48 + p % 10) ∷ s) b (omega arith) ∙ rw (digit_yes (p % 10) r, le-leb 1 (p / 10) lo, lt-ltb (p / 10) 1000 hi, v)))

power_scan : (s : List ℕ) → is_power s ≡ true → scan s ≡ true
unfolding scan_from
power_scan s e =
    let p = power_back s e in
    rw p.1 (scan_digits 3 (power_value s) (59 ∷ []) p.0 p.0)

-- so the scan is the test
pub scan_is_power : (s : List ℕ) → scan s ≡ is_power s
scan_is_power s =
    by_test (scan s)
    (λ t. t ∙ sym (scan_power s t))
    (λ t. by_test (is_power s) (λ u. true_false (scan s) (power_scan s u) t) (λ u. t ∙ sym u))
