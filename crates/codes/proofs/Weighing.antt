-- The characters of a code weighed one after another (document 02, K5), and how large their sum can be.
use mathlib.Core.Path.{◌≡◌}
use mathlib.Core.Bool.{true, false, not, ◌&&◌}
use mathlib.Core.List.{List}
use Prim.Native.Nat.{ℕ, zero, suc, ◌+◌, ◌-◌, ◌*◌, ◌≤◌, ◌<◌}
use native.Mathlib.Nat.{mul-le-mul}
use native.Mathlib.Numerals.{add-one}
use native.Mathlib.Omega.{arith}
use lib.Dec.{leb, eqb}
use lib.ListN.{get_or}
use borrow.Author.Tests.{leb-true}
use Rattle.lists.specs.Sums.{sum_to}
use Rattle.lists.proofs.Tests.{by_test, both_true}
use Rattle.notification.specs.Forms.{is_digit}
use Rattle.codes.specs.Codes.{is_letter}
use Rattle.codes.specs.Codes.{value_of, weighed_at, weighed, check_value, has_check}

-- ---- the value of a character

pub digit_value_lem : (b : ℕ) → is_digit b ≡ true → (48 ≤ b) × (b - 48 ≡ value_of b) × (value_of b < 37)
digit_value_lem b d =
    let h = both_true (leb 48 b) (leb b 57) d in
    let l = leb-true 48 b h.0 in
    let m = leb-true b 57 h.1 in
    (l, rw d, rw d (omega arith))

pub letter_value : (b : ℕ) → is_digit b ≡ false → is_letter b ≡ true → (65 ≤ b) × (10 + (b - 65) ≡ value_of b) × (value_of b < 37)
letter_value b d u =
    let h = both_true (leb 65 b) (leb b 90) u in
    let l = leb-true 65 b h.0 in
    let m = leb-true b 90 h.1 in
    (l, rw (d, u), rw (d, u) (omega arith))

pub hyphen_value : (b : ℕ) → is_digit b ≡ false → is_letter b ≡ false → 36 ≡ value_of b
hyphen_value b d u = rw (d, u)

pub value_below : (b : ℕ) → value_of b < 37
value_below b =
    by_test (is_digit b) (λ d. (digit_value_lem b d).2)
    (λ d. by_test (is_letter b) (λ u. (letter_value b d u).2) (λ u. omega (arith, hyphen_value b d u)))

-- ---- the sum

pub weighed_small : (i v : ℕ) → v < 37 → (16 - i) * v ≤ 576
weighed_small i v h = mul-le-mul {n₁ = 16 - i} {m₁ = v} {n₂ = 16} {m₂ = 36} (omega arith) (omega arith)

pub sum_small : (s : List ℕ) (i : ℕ) → sum_to i (weighed_at s) ≤ i * 576
sum_small s zero = omega arith
sum_small s (suc i) = omega (arith, sum_small s i, weighed_small i (value_of (get_or s i 0)) (value_below (get_or s i 0)))

pub weighed_more : (s : List ℕ) (i sum v : ℕ) → sum ≡ sum_to i (weighed_at s) → v ≡ value_of (get_or s i 0) →
    sum + (16 - i) * v ≡ sum_to (i + 1) (weighed_at s)
weighed_more s i sum v e f = rw (add-one i, e, f)

-- ---- the value that the sixteenth must have

-- ---- the test

pub check_is : (s : List ℕ) (i sum value v : ℕ) → 15 ≤ i → i ≤ 15 → sum ≡ sum_to i (weighed_at s) → value ≡ check_value sum →
    v ≡ value_of (get_or s 15 0) → (not (eqb value 36) && eqb v value) ≡ has_check s
unfolding weighed has_check
check_is s i sum value v low high e ev ew =
    let n : i ≡ 15 = omega arith in
    rw (ev, ew, e, n)
