-- Keys as numbers: two are equal where their ceder, acquirer, category and day are, and a number is unpacked into these parts.
use mathlib.Core.Path.{◌≡◌, refl, sym, ◌∙◌, ap, ap₂}
use mathlib.Core.Bool.{Bool, true, ◌&&◌}
use Prim.Native.Nat.{ℕ, ◌+◌, ◌*◌, ◌/◌, ◌%◌, ◌<◌}
use native.Mathlib.Omega.{arith}
use lib.Dec.{eqb}
use borrow.Author.Tests.{eqb-true, eqb-false, eq-eqb}
use Rattle.lists.proofs.Tests.{by_test, and_left, and_right}
use Rattle.tables.specs.Tables.{key_number, key_from}

-- a number by its last parts
by_four : (n : ℕ) → n / 256 * 4 + n / 64 % 4 ≡ n / 64
by_four n = omega arith

by_eight : (n : ℕ) → n / 64 * 8 + n / 8 % 8 ≡ n / 8
by_eight n = omega arith

by_last : (n : ℕ) → n / 8 * 8 + n % 8 ≡ n
by_last n = omega arith

abbrev pub same_parts : ℕ → ℕ → Bool
same_parts key own =
    eqb (key / 8 % 8) (own / 8 % 8) && eqb (key % 8) (own % 8) && eqb (key / 64 % 4) (own / 64 % 4) && eqb (key / 256) (own / 256)

pub parts_equal : (key own : ℕ) → same_parts key own ≡ true → key ≡ own
parts_equal key own t =
    let a = eqb (key / 8 % 8) (own / 8 % 8) in
    let b = eqb (key % 8) (own % 8) in
    let c = eqb (key / 64 % 4) (own / 64 % 4) in
    let d = eqb (key / 256) (own / 256) in
    let abc = and_left (a && b && c) d t in
    let ab = and_left (a && b) c abc in
    let ceder : key / 8 % 8 ≡ own / 8 % 8 = eqb-true (key / 8 % 8) (own / 8 % 8) (and_left a b ab) in
    let acquirer : key % 8 ≡ own % 8 = eqb-true (key % 8) (own % 8) (and_right a b ab) in
    let category : key / 64 % 4 ≡ own / 64 % 4 = eqb-true (key / 64 % 4) (own / 64 % 4) (and_right (a && b) c abc) in
    let day : key / 256 ≡ own / 256 = eqb-true (key / 256) (own / 256) (and_right (a && b && c) d t) in
    let market : key / 64 ≡ own / 64 = sym (by_four key) ∙ ap₂ (λ x y. x * 4 + y) day category ∙ by_four own in
    let parties : key / 8 ≡ own / 8 = sym (by_eight key) ∙ ap₂ (λ x y. x * 8 + y) market ceder ∙ by_eight own in
    sym (by_last key) ∙ ap₂ (λ x y. x * 8 + y) parties acquirer ∙ by_last own

pub parts_own : (own : ℕ) → same_parts own own ≡ true
parts_own own =
    rw (
      eq-eqb (own / 8 % 8) (own / 8 % 8) refl,
      eq-eqb (own % 8) (own % 8) refl,
      eq-eqb (own / 64 % 4) (own / 64 % 4) refl,
      eq-eqb (own / 256) (own / 256) refl,
    )

pub key_same : (key own : ℕ) → same_parts key own ≡ eqb key own
key_same key own =
    by_test (eqb key own)
    (λ t. rw (eqb-true key own t) (parts_own own ∙ sym (eq-eqb own own refl)))
    (λ t. by_test (same_parts key own)
    (λ u. absurd (eqb-false key own t (parts_equal key own u)))
    (λ u. u ∙ sym t))

-- ---- a number by its parts

last_digit : (n a : ℕ) → a < 8 → (n * 8 + a) % 8 ≡ a
last_digit n a h = omega arith

other_digits : (n a : ℕ) → a < 8 → (n * 8 + a) / 8 ≡ n
other_digits n a h = omega arith

last_of_four : (n z : ℕ) → z < 4 → (n * 4 + z) % 4 ≡ z
last_of_four n z h = omega arith

other_fours : (n r : ℕ) → r < 64 → (n * 64 + r) / 64 ≡ n
other_fours n r h = omega arith

days : (d r : ℕ) → r < 256 → (d * 256 + r) / 256 ≡ d
days d r h = omega arith

-- a number of a key is unpacked into its parts
pub key_unpacked : (c a z d : ℕ) → c < 8 → a < 8 → z < 4 →
    key_from (key_number c a z d) ≡ record { ceder = c; acquirer = a; category = z; day = d }
key_unpacked c a z d h i j =
    let n = d * 32 + z * 8 + c in
    let whole : key_number c a z d ≡ n * 8 + a = omega arith in
    let w₁ : n ≡ (d * 4 + z) * 8 + c = omega arith in
    let e₁ : key_number c a z d / 8 % 8 ≡ c = rw (whole, other_digits n a i) (ap (λ t. t % 8) w₁ ∙ last_digit (d * 4 + z) c h) in
    let e₂ : key_number c a z d % 8 ≡ a = rw whole (last_digit n a i) in
    let w₃ : key_number c a z d ≡ (d * 4 + z) * 64 + (c * 8 + a) = omega arith in
    let e₃ : key_number c a z d / 64 % 4 ≡ z = rw (w₃, other_fours (d * 4 + z) (c * 8 + a) (omega arith)) (last_of_four d z j) in
    let w₄ : key_number c a z d ≡ d * 256 + (z * 64 + c * 8 + a) = omega arith in
    let e₄ : key_number c a z d / 256 ≡ d = rw w₄ (days d (z * 64 + c * 8 + a) (omega arith)) in
    cc
