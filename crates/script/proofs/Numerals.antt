-- A text is a number where its length is right, no zero is needless, and each byte is a digit; its value is taken digit by digit.
use mathlib.Core.Path.{◌≡◌, refl, sym, ap, ◌∙◌}
use mathlib.Core.Bool.{Bool, true, false, not, ◌&&◌, ◌||◌}
use mathlib.Core.List.{List, [], ◌∷◌, ◌++◌}
use Prim.Native.Nat.{ℕ, suc, ◌+◌, ◌-◌, ◌*◌, ◌^◌, ◌<◌, ◌≤◌}
use native.Mathlib.Nat.{add-zero, pow-le-pow_right}
use native.Mathlib.Numerals.{add-one}
use native.Mathlib.Omega.{arith}
use lib.Dec.{eqb, ltb, leb}
use lib.ListN.{length, get_or, drop, length-append, get_or-append}
use lib.Seq.{drop-cons, drop-length}
use borrow.Author.Tests.{ltb-true, ltb-false, leb-true, lt-ltb, le-leb, lt-leb, ne_eqb}
use Rattle.std.specs.Prelude.{Option, Some, None, unwrap_or}
use Rattle.lists.specs.Digits.{digit_value}
use Rattle.lists.specs.Searches.{every}
use Rattle.lists.proofs.Digits.{value_from_lem}
use Rattle.lists.proofs.Tests.{by_test, and_left, and_right}
use Rattle.calendar.specs.Texts.{digit}
use Rattle.script.specs.Numbers.{most_digits, number_end, needed, is_number, value_from, value_of}
use Rattle.script.specs.Fields.{number_in}
use Rattle.script.specs.Walking.{IsValue, ValueRead}

-- ---- no number

pub is_none : (s : List ℕ) → is_number s ≡ false → number_end ≡ number_in s
unfolding number_in
is_none s e = rw e

pub empty_none : (s : List ℕ) → length s ≡ 0 → is_number s ≡ false
unfolding is_number
empty_none s e = rw (lt-leb 1 (length s) (omega arith))

pub long_none : (s : List ℕ) → most_digits < length s → is_number s ≡ false
unfolding is_number
long_none s h = rw (le-leb 1 (length s) (omega arith), lt-leb (length s) most_digits h)

no_third : (a b c : Bool) → (a && b && false && c) ≡ false
no_third true true c = refl
no_third true false c = refl
no_third false b c = refl

no_fourth : (a b c : Bool) → (a && b && c && false) ≡ false
no_fourth true true true = refl
no_fourth true true false = refl
no_fourth true false c = refl
no_fourth false b c = refl

-- the test of a needless zero, turned around
needless : (a b : Bool) → (not a && b) ≡ true → (a || not b) ≡ false
needless true b e = sym e
needless false b e = rw e

needful : (a b : Bool) → (not a && b) ≡ false → (a || not b) ≡ true
needful true b e = refl
needful false b e = rw e

abbrev zero_first : List ℕ → Bool
zero_first s = not (eqb (length s) 1) && eqb (get_or s 0 0) 48

pub needless_none : (s : List ℕ) → zero_first s ≡ true → is_number s ≡ false
unfolding is_number
needless_none s t =
    let e = needless (eqb (length s) 1) (eqb (get_or s 0 0) 48) t in
    rw e (no_third (leb 1 (length s)) (leb (length s) most_digits) (every digit s))

other_none : (s : List ℕ) → every digit s ≡ false → is_number s ≡ false
unfolding is_number
other_none s e = rw e (no_fourth (leb 1 (length s)) (leb (length s) most_digits) (needed s))

-- ---- a number, digit by digit: what is left of the text decides, and the digits so far are the value so far

pub record Sofar (s : List ℕ) (i v : ℕ) : Type 0 where
  pub few : i ≤ length s
  pub small : v < 10 ^ i
  pub decides : every digit (drop i s) ≡ every digit s
  pub value : value_from v (drop i s) ≡ value_of s

module _ (s : List ℕ) (i v : ℕ) (h : i < length s) (p : Sofar s i v) where
  pub sofar_other : digit (get_or s i 0) ≡ false → is_number s ≡ false
  sofar_other l = other_none s (sym p.decides ∙ rw (drop-cons s i 0 h, l))

  pub sofar_more : {x : ℕ} → x ≤ 9 → x + 48 ≡ get_or s i 0 → Sofar s (i + 1) (v * 10 + x)
  unfolding value_from
  sofar_more {x} k q =
      let e = drop-cons s i 0 h in
      let z : get_or s i 0 - 48 ≡ x = omega arith in
      record {
        few = omega arith;
        small = rw (add-one i) (omega (arith, p.small));
        decides = rw (add-one i) ((rw (e, le-leb 48 (get_or s i 0) (omega arith), le-leb (get_or s i 0) 57 (omega arith)) at p.decides));
        value = rw (add-one i) (ap (λ (k : ℕ). value_from (v * 10 + k) (drop (suc i) s)) (sym z) ∙ (rw e at p.value));
      }

-- a byte that stands for more than 9 is no digit
pub no_digit : {x : ℕ} (b : ℕ) → x ≡ digit_value b → 9 < x → digit b ≡ false
unfolding digit_value
no_digit b e h =
    by_test (ltb b 48)
    (λ t. rw (lt-leb 48 b (ltb-true b 48 t)))
    (λ t.
    let l = ltb-false b 48 t in
    let k : 57 < b = omega (arith, e, value_from_lem b l) in
    rw (le-leb 48 b l, lt-leb b 57 k))

pub sofar_all : (s : List ℕ) (i v : ℕ) → (length s ≡ 0 → ⊥) → length s ≤ most_digits → zero_first s ≡ false → length s ≤ i → Sofar s i v → IsValue s v
unfolding is_number value_from
sofar_all s i v some most t all p =
    let good = needful (eqb (length s) 1) (eqb (get_or s 0 0) 48) t in
    let few = p.few in
    let n : i ≡ length s = omega arith in
    let d = rw (n, drop-length s) at p.decides in
    let e = rw (n, drop-length s) at p.value in
    (rw (le-leb 1 (length s) (omega arith), le-leb (length s) most_digits most, good, ← d) refl, e)

-- ---- what stands for a text

pub number_value : (s : List ℕ) → is_number s ≡ true → number_in s ≡ value_of s
unfolding number_in
number_value s e = rw e

-- the value of a number, and one past the largest where a text is none
pub value_or_end : (s : List ℕ) (found : Option ℕ) → ValueRead s found → unwrap_or found number_end ≡ number_in s
unfolding number_in
value_or_end s None e = rw e
value_or_end s (Some v) p = p.1 ∙ sym (number_value s p.0)

pub number_parts : (s : List ℕ) → is_number s ≡ true → (1 ≤ length s) × (length s ≤ most_digits) × (every digit s ≡ true)
unfolding is_number
number_parts s e =
    let a = leb 1 (length s) in
    let b = leb (length s) most_digits in
    let f = and_left (a && b) (needed s) (and_left (a && b && needed s) (every digit s) e) in
    (leb-true 1 (length s) (and_left a b f), leb-true (length s) most_digits (and_right a b f), and_right (a && b && needed s) (every digit s) e)

value_few : (s : List ℕ) (v k : ℕ) → every digit s ≡ true → v < 10 ^ k → value_from v s < 10 ^ (k + length s)
unfolding value_from
value_few [] v k e h = rw add-zero h
value_few (b ∷ s) v k e h =
    let d = and_left (digit b) (every digit s) e in
    let l : b ≤ 57 = leb-true b 57 (and_right (leb 48 b) (leb b 57) d) in
    let m : v * 10 + (b - 48) < 10 ^ suc k = omega arith in
    let n : suc k + length s ≡ k + suc (length s) = omega arith in
    rw (← n) (value_few s (v * 10 + (b - 48)) (suc k) (and_right (digit b) (every digit s) e) m)

pub number_small : (s : List ℕ) → is_number s ≡ true → number_in s < number_end
number_small s e =
    let p = number_parts s e in
    let few = p.1 in
    let v : value_of s < 10 ^ (0 + length s) = value_few s 0 0 p.2 (omega arith) in
    let l : 10 ^ (0 + length s) ≤ 10 ^ most_digits = pow-le-pow_right {n = 10} (omega arith) {i = 0 + length s} {j = most_digits} (omega arith) in
    omega (arith, number_value s e)

none_end : (s : List ℕ) → is_number s ≡ false → number_in s ≡ number_end
none_end s e = sym (is_none s e)

-- a text is a number where what it stands for is below the end
pub number_test : (s : List ℕ) → ltb (number_in s) number_end ≡ is_number s
number_test s =
    by_test (is_number s)
    (λ t. lt-ltb (number_in s) number_end (number_small s t) ∙ sym t)
    (λ t. rw (t, none_end s t))

-- ---- one digit more

pub or_right : (t : Bool) → (t || true) ≡ true
or_right true = refl
or_right false = refl

pub value_end : (v : ℕ) (s : List ℕ) (b : ℕ) → value_from v (s ++ b ∷ []) ≡ value_from v s * 10 + (b - 48)
unfolding value_from
value_end v [] b = refl
value_end v (x ∷ s) b = value_end (v * 10 + (x - 48)) s b

pub every_end : (s : List ℕ) (b : ℕ) → every digit s ≡ true → digit b ≡ true → every digit (s ++ b ∷ []) ≡ true
every_end [] b e d = rw d
every_end (x ∷ s) b e d = go (digit x) e (every_end s b)
  where
    go : (t : Bool) → (t && every digit s) ≡ true → (every digit s ≡ true → digit b ≡ true → every digit (s ++ b ∷ []) ≡ true)
        → (t && every digit (s ++ b ∷ [])) ≡ true
    go true e ih = ih e d
    go false e ih = e

pub number_more : (s : List ℕ) (b : ℕ) → is_number s ≡ true → length s < most_digits → (get_or s 0 0 ≡ 48 → ⊥) → digit b ≡ true → is_number (s ++ b ∷ []) ≡ true
unfolding is_number
number_more s b e h ne d =
    let p = number_parts s e in
    let l = length-append s (b ∷ []) in
    let f : get_or (s ++ b ∷ []) 0 0 ≡ get_or s 0 0 = get_or-append s (b ∷ []) 0 0 p.0 in
    let z : eqb (get_or (s ++ b ∷ []) 0 0) 48 ≡ false = rw f (ne_eqb (get_or s 0 0) 48 ne) in
    let n : needed (s ++ b ∷ []) ≡ true = rw z (or_right (eqb (length (s ++ b ∷ [])) 1)) in
    rw (le-leb 1 (length (s ++ b ∷ [])) (omega arith), le-leb (length (s ++ b ∷ [])) most_digits (omega arith), n) (every_end s b p.2 d)
