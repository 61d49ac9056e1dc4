-- A number of up to five digits, written and read back, is that number.
use mathlib.Core.Path.{◌≡◌, refl}
use mathlib.Core.Bool.{true}
use mathlib.Core.List.{[], ◌∷◌}
use Prim.Native.Nat.{ℕ, zero, suc, ◌+◌, ◌/◌, ◌%◌, ◌^◌, ◌<◌, ◌≤◌}
use native.Mathlib.Omega.{arith}
use lib.Dec.{eqb, ltb}
use lib.ListN.{length, get_or, length-append, get_or-append}
use borrow.Author.Tests.{ltb-true, ltb-false, lt-ltb, le-leb, eq-eqb, ne_eqb}
use Rattle.lists.specs.Searches.{every}
use Rattle.lists.proofs.Tests.{by_test}
use Rattle.calendar.specs.Texts.{digit, digit_of}
use Rattle.script.specs.Numbers.{number_end, most_digits, longest, needed, is_number, value_from, value_of, decimal_in, decimal}
use Rattle.script.proofs.Numerals.{or_right, value_end, every_end}
use Rattle.script.proofs.Decimals.{few, decimal_some, length_one}

value_decimal : (k n : ℕ) → n < 10 ^ suc k → value_of (decimal_in (suc k) n) ≡ n
unfolding decimal_in value_from
value_decimal zero n h = let l : n < 10 = omega arith in rw (lt-ltb n 10 l) (omega arith)
value_decimal (suc k) n h =
    by_test (ltb n 10)
    (λ t. let l = ltb-true n 10 t in rw t (omega arith))
    (λ t.
    let l : n / 10 < 10 ^ suc k = omega arith in
    rw (t, value_end 0 (decimal_in (suc k) (n / 10)) (digit_of n), value_decimal k (n / 10) l) (omega arith))

digit_of_lem : (n : ℕ) → digit (digit_of n) ≡ true
digit_of_lem n = rw (le-leb 48 (48 + n % 10) (omega arith), le-leb (48 + n % 10) 57 (omega arith))

every_decimal : (k n : ℕ) → every digit (decimal_in k n) ≡ true
unfolding decimal_in
every_decimal zero n = refl
every_decimal (suc k) n =
    by_test (ltb n 10)
    (λ t. rw t (rw (digit_of_lem n)))
    (λ t. rw t (every_end (decimal_in k (n / 10)) (digit_of n) (every_decimal k (n / 10)) (digit_of_lem n)))

some_decimal : (k n : ℕ) → 0 < length (decimal_in (suc k) n)
unfolding decimal_in
some_decimal k n = by_test (ltb n 10) (λ t. rw t (omega arith)) (λ t. rw t (omega (arith, length-append (decimal_in k (n / 10)) (digit_of n ∷ []))))

-- the first digit of a number above 0 isn't 0
first_digit : (k n : ℕ) → n < 10 ^ suc k → 1 ≤ n → get_or (decimal_in (suc k) n) 0 0 ≡ 48 → ⊥
unfolding decimal_in
first_digit zero n h l e =
    let a : n < 10 = omega arith in
    let f = rw (lt-ltb n 10 a) at e in
    omega arith
first_digit (suc k) n h l e =
    by_test (ltb n 10)
    (λ t. let a = ltb-true n 10 t in let f = rw t at e in omega arith)
    (λ t.
    let a = ltb-false n 10 t in
    let b : n / 10 < 10 ^ suc k = omega arith in
    let f = rw (t, get_or-append (decimal_in (suc k) (n / 10)) (digit_of n ∷ []) 0 0 (some_decimal k (n / 10))) at e in
    first_digit k (n / 10) b (omega arith) f)

pub read_back : (n : ℕ) → n < number_end → (is_number (decimal n) ≡ true) × (value_of (decimal n) ≡ n)
unfolding is_number
read_back n h =
    (rw (le-leb 1 (length (decimal n)) (decimal_some n), le-leb (length (decimal n)) most_digits (few longest 4 n (omega arith)), needs_none, every_decimal longest n), value_decimal 19 n (omega arith))
  where
    needs_none : needed (decimal n) ≡ true
    needs_none =
        by_test (ltb n 10)
        (λ t. rw (eq-eqb (length (decimal n)) 1 (length_one n (ltb-true n 10 t))))
        (λ t. let a = ltb-false n 10 t in
        rw (ne_eqb (get_or (decimal n) 0 0) 48 (first_digit 19 n (omega arith) (omega arith))) (or_right (eqb (length (decimal n)) 1)))
