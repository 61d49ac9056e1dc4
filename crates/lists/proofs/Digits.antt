-- What a digit's byte stands for, and the byte by it.
use mathlib.Core.Path.{◌≡◌}
use Prim.Native.Nat.{ℕ, ◌+◌, ◌-◌, ◌%◌, ◌<◌, ◌≤◌}
use native.Mathlib.Omega.{arith}
use lib.Dec.{ltb}
use borrow.Author.Tests.{ltb-true, ltb-false, lt-ltb, le-ltb}
use Rattle.lists.specs.Digits.{digit_value}
use Rattle.lists.proofs.Tests.{by_test}

pub value_below : (b : ℕ) → b < 48 → b + 4294967248 ≡ digit_value b
unfolding digit_value
value_below b h = rw (lt-ltb b 48 h)

pub value_from_lem : (b : ℕ) → 48 ≤ b → b - 48 ≡ digit_value b
unfolding digit_value
value_from_lem b h = rw (le-ltb b 48 h)

-- a byte below the digits wraps
pub value_wraps : (b : ℕ) → b < 256 → (b + (4294967296 - 48)) % 4294967296 ≡ digit_value b
value_wraps b h =
    by_test (ltb b 48)
    (λ t. omega (arith, value_below b (ltb-true b 48 t), ltb-true b 48 t))
    (λ t. omega (arith, value_from_lem b (ltb-false b 48 t), ltb-false b 48 t))

-- a value of a digit comes from its byte
pub value_byte : (b : ℕ) → digit_value b ≤ 9 → b ≡ 48 + digit_value b
value_byte b h =
    by_test (ltb b 48)
    (λ t. absurd (omega (arith, value_below b (ltb-true b 48 t))))
    (λ t. omega (arith, value_from_lem b (ltb-false b 48 t), ltb-false b 48 t))

pub value_stands : {x b : ℕ} → x ≡ digit_value b → x ≤ 9 → x + 48 ≡ b
value_stands {x} {b} e h = omega (arith, e, value_byte b (omega (arith, e)))

pub digit_value_lem : (d : ℕ) → d < 10 → digit_value (48 + d) ≡ d
digit_value_lem d h = let e = value_from_lem (48 + d) (omega arith) in omega arith
