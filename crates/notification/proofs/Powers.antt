-- The digits of a power read back as that power.
use mathlib.Core.Path.{◌≡◌, refl}
use mathlib.Core.Bool.{true}
use mathlib.Core.List.{List, ◌∷◌}
use Prim.Native.Nat.{ℕ, ◌+◌, ◌-◌, ◌*◌, ◌/◌, ◌%◌, ◌<◌}
use native.Mathlib.Omega.{arith}
use lib.Dec.{ltb}
use borrow.Author.Tests.{ltb-true, lt-ltb, ne_eqb}
use Rattle.lists.specs.Searches.{same}
use Rattle.lists.proofs.Tests.{by_test, and_left, and_right}
use Rattle.lists.proofs.Searches.{same_refl, same_true}
use Rattle.notification.specs.Forms.{digits, power_end}
use Rattle.notification.specs.Writing.{power_text}
use Rattle.notification.specs.Reading.{power_value_from, power_value, is_power}

-- one digit more
pub value_digit : (v d : ℕ) (s : List ℕ) → d < 10 → power_value_from v ((48 + d) ∷ s) ≡ power_value_from (v * 10 + d) s
unfolding power_value_from
value_digit v d s h =
    let e : 48 + d - 48 ≡ d = omega arith in
    rw (ne_eqb (48 + d) 59 (λ (z : 48 + d ≡ 59). omega arith), e)

pub value_end : (v : ℕ) (s : List ℕ) → power_value_from v (59 ∷ s) ≡ v
unfolding power_value_from
value_end v s = refl

pub value_power : (p : ℕ) → p < power_end → power_value (power_text p) ≡ p
unfolding digits
value_power p h =
    let ones : p % 10 < 10 = omega arith in
    let tens : p / 10 % 10 < 10 = omega arith in
    let hundreds : p / 100 % 10 < 10 = omega arith in
    by_test (ltb p 10)
    (λ t. let a = ltb-true p 10 t in rw (t, value_digit, value_end) (omega arith))
    (λ t. by_test (ltb p 100)
    (λ u. let a = ltb-true p 100 u in
    let b : p / 10 < 10 = omega arith in
    rw (t, u, value_digit, value_digit, value_end) (omega arith))
    (λ u. by_test (ltb p 1000)
    (λ v. let a = ltb-true p 1000 v in
    let b : p / 100 < 10 = omega arith in
    rw (t, u, v, value_digit, value_digit, value_digit, value_end) (omega arith))
    (λ v. let b : p / 1000 < 10 = omega arith in
    rw (t, u, v, value_digit, value_digit, value_digit, value_digit, value_end) (omega arith))))

-- what is a power and `;`: the text of a power below 10,000
pub power_made : (p : ℕ) → p < power_end → is_power (power_text p) ≡ true
unfolding is_power
power_made p h = let e = value_power p h in rw (e, lt-ltb p power_end h) (same_refl (power_text p))

pub power_back : (s : List ℕ) → is_power s ≡ true → (power_value s < power_end) × (s ≡ power_text (power_value s))
unfolding is_power
power_back s e =
    let a = ltb (power_value s) power_end in
    let b = same s (power_text (power_value s)) in
    (ltb-true (power_value s) power_end (and_left a b e), same_true s (power_text (power_value s)) (and_right a b e))
