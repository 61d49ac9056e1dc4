-- The digits of a number: those of its tenth, and its last one. They are put from the last to the first.
use mathlib.Core.Path.{◌≡◌, refl, sym, ap, subst, ◌∙◌}
use mathlib.Core.List.{List, [], ◌∷◌, ◌++◌}
use Prim.Native.Nat.{ℕ, zero, suc, ◌+◌, ◌-◌, ◌/◌, ◌%◌, ◌^◌, ◌<◌, ◌≤◌}
use native.Mathlib.Omega.{arith}
use lib.Dec.{ltb}
use lib.ListN.{length, get_or, set, take, drop, length-append}
use lib.Seq.{sets, set_comm, drop-cons, get_or-take, get_or_at, take-take, take_at, drop-length, take-length, length-take-le}
use borrow.Author.Tests.{ltb-true, ltb-false, lt-ltb, le-ltb}
use Rattle.lists.proofs.Tests.{by_test}
use Rattle.calendar.specs.Texts.{digit_of}
use Rattle.writer.specs.Placing.{Placed}
use Rattle.script.specs.Numbers.{decimal_in, decimal, longest}

-- ---- the digits do not hang on how many there may be

enough : (k n : ℕ) → n < 10 ^ suc k → decimal_in (suc k) n ≡ decimal_in (suc (suc k)) n
unfolding decimal_in
enough zero n h = let l : n < 10 = omega arith in rw (lt-ltb n 10 l)
enough (suc k) n h =
    by_test (ltb n 10) (λ t. rw (t)) (λ t. let l : n / 10 < 10 ^ suc k = omega arith in rw (t, enough k (n / 10) l))

-- the largest number of 64 bits, and the next
abbrev pub word_end : ℕ
word_end = 18446744073709551616

pub decimal_more : (n : ℕ) → 10 ≤ n → n < word_end → decimal n ≡ decimal (n / 10) ++ digit_of n ∷ []
unfolding decimal_in
decimal_more n h l =
    let k : n / 10 < 10 ^ 19 = omega arith in
    rw (le-ltb n 10 h) (ap (λ s. s ++ digit_of n ∷ []) (enough 18 (n / 10) k))

pub decimal_one : (n : ℕ) → n < 10 → decimal n ≡ (48 + n) ∷ []
unfolding decimal_in
decimal_one n h = let e : n % 10 ≡ n = omega arith in rw (lt-ltb n 10 h, e)

pub length_more : (n : ℕ) → 10 ≤ n → n < word_end → length (decimal n) ≡ length (decimal (n / 10)) + 1
length_more n h l = ap length (decimal_more n h l) ∙ length-append (decimal (n / 10)) (digit_of n ∷ [])

pub length_one : (n : ℕ) → n < 10 → length (decimal n) ≡ 1
length_one n h = ap length (decimal_one n h)

pub length_two : (n : ℕ) → 10 ≤ n → n < 100 → length (decimal n) ≡ 2
length_two n h l = length_more n h (omega arith) ∙ ap (λ k. k + 1) (length_one (n / 10) (omega arith))

pub length_three : (n : ℕ) → 100 ≤ n → n < 1000 → length (decimal n) ≡ 3
length_three n h l = length_more n (omega arith) (omega arith) ∙ ap (λ k. k + 1) (length_two (n / 10) (omega arith) (omega arith))

pub length_four : (n : ℕ) → 1000 ≤ n → n < 10000 → length (decimal n) ≡ 4
length_four n h l = length_more n (omega arith) (omega arith) ∙ ap (λ k. k + 1) (length_three (n / 10) (omega arith) (omega arith))

pub length_later : (n : ℕ) → 10000 ≤ n → n < word_end → length (decimal n) ≡ length (decimal (n / 10000)) + 4
length_later n h l =
    let a = length_more n (omega arith) l in
    let b = length_more (n / 10) (omega arith) (omega arith) in
    let c = length_more (n / 10 / 10) (omega arith) (omega arith) in
    let d = length_more (n / 10 / 10 / 10) (omega arith) (omega arith) in
    let e : n / 10 / 10 / 10 / 10 ≡ n / 10000 = omega arith in
    let f = ap (λ k. length (decimal k)) e in
    omega arith

-- ---- how many they are

pub few : (j k n : ℕ) → n < 10 ^ suc k → length (decimal_in j n) ≤ suc k
unfolding decimal_in
few zero k n h = omega arith
few (suc j) zero n h = let l : n < 10 = omega arith in rw (lt-ltb n 10 l) (omega arith)
few (suc j) (suc k) n h =
    let m : n / 10 < 10 ^ suc k = omega arith in
    let l = few j k (n / 10) m in
    by_test (ltb n 10) (λ t. rw t (omega arith)) (λ t. rw t (omega (arith, length-append (decimal_in j (n / 10)) (digit_of n ∷ []))))

pub decimal_few : (n : ℕ) → n < 4294967296 → length (decimal n) ≤ 10
decimal_few n h = few longest 9 n (omega arith)

pub decimal_most : (n : ℕ) → n < word_end → length (decimal n) ≤ 20
decimal_most n h = few longest 19 n (omega arith)

pub decimal_some : (n : ℕ) → 1 ≤ length (decimal n)
unfolding decimal_in
decimal_some n =
    by_test (ltb n 10) (λ t. rw t (omega arith)) (λ t. rw t (omega (arith, length-append (decimal_in 19 (n / 10)) (digit_of n ∷ []))))

-- ---- the last digit first

set_sets : (vs l : List ℕ) (i j d : ℕ) → j < i → set (sets l i vs) j d ≡ sets (set l j d) i vs
set_sets [] l i j d h = refl
set_sets (v ∷ vs) l i j d h =
    set_sets vs (set l i v) (suc i) j d (omega arith) ∙ ap (λ x. sets x (suc i) vs) (set_comm l i j v d (λ (e : i ≡ j). omega arith))

-- the last digit of a number
last_digit : (n : ℕ) → n < word_end → get_or (decimal n) (length (decimal n) - 1) 0 ≡ digit_of n
last_digit n h =
    by_test (ltb n 10)
    (λ t. let l = ltb-true n 10 t in let e : n % 10 ≡ n = omega arith in rw (decimal_one n l, e) refl)
    (λ t.
    let l = ltb-false n 10 t in
    let k : length (decimal (n / 10)) ≡ length (decimal n) - 1 = omega (arith, length_more n l h) in
    ap (λ s. get_or s (length (decimal n) - 1) 0) (decimal_more n l h) ∙ get_or_at (decimal (n / 10)) (digit_of n) [] 0 (length (decimal n) - 1) k)

-- the digits of a number from the i-th on are put, from a place on; those before it are the digits of what is left
pub record Spelt (before : List ℕ) (n i rest place : ℕ) (now : List ℕ) : Type 0 where
  pub left : 1 ≤ i → decimal rest ≡ take i (decimal n)
  pub most : i ≤ length (decimal n)
  pub small : rest < word_end
  pub holds : now ≡ sets before place (drop i (decimal n))

-- one digit more in front of those that are put
in_front : (before : List ℕ) (n place j d : ℕ) (now : List ℕ) → suc j ≤ length (decimal n) → get_or (decimal n) j 0 ≡ d
    → now ≡ sets before (suc place) (drop (suc j) (decimal n)) → set now place d ≡ sets before place (drop j (decimal n))
in_front before n place j d now h e k =
    rw (drop-cons (decimal n) j 0 h, e, k) (set_sets (drop (suc j) (decimal n)) before (suc place) place d (omega arith))

module _ {before : List ℕ} {n rest : ℕ} {now : List ℕ} where
  one_more : (j place : ℕ) → Spelt before n (suc j) rest (suc place) now → Spelt before n j (rest / 10) place (set now place (48 + rest % 10))
  one_more j place p =
      let small = p.small in
      let most = p.most in
      let left = p.left (omega arith) in
      let many : length (decimal rest) ≡ suc j = ap length left ∙ length-take-le (suc j) (decimal n) most in
      let m : length (decimal rest) - 1 ≡ j = omega (arith, many) in
      let last : get_or (decimal n) j 0 ≡ 48 + rest % 10 =
      sym (get_or-take (suc j) (decimal n) j 0 (omega arith)) ∙ ap (λ s. get_or s j 0) (sym left) ∙ ap (λ k. get_or (decimal rest) k 0) (sym m) ∙ last_digit rest small in
      record {
        left = λ k. fewer j p.most many small k left;
        most = omega arith;
        small = omega arith;
        holds = in_front before n place j (48 + rest % 10) now most last p.holds;
      }
    where
      fewer : (j : ℕ) → suc j ≤ length (decimal n) → length (decimal rest) ≡ suc j → rest < word_end → 1 ≤ j → decimal rest ≡ take (suc j) (decimal n)
          → decimal (rest / 10) ≡ take j (decimal n)
      fewer j most many small k left =
          by_test (ltb rest 10)
          (λ t. absurd (omega (arith, many, length_one rest (ltb-true rest 10 t))))
          (λ t.
          let l = ltb-false rest 10 t in
          let m : length (decimal (rest / 10)) ≡ j = omega (arith, length_more rest l small) in
          let e = sym left ∙ decimal_more rest l small in
          sym (sym (take-take j (suc j) (decimal n) (omega arith)) ∙ ap (take j) e ∙ take_at (decimal (rest / 10)) (digit_of rest ∷ []) j m))

  pub spelt_more : {at place : ℕ} → at < place → Spelt before n (place - at) rest place now
      → Spelt before n (place - 1 - at) (rest / 10) (place - 1) (set now (place - 1) (48 + rest % 10))
  spelt_more {at} {place} h p =
      let i : place - at ≡ suc (place - 1 - at) = omega arith in
      let q : place ≡ suc (place - 1) = omega arith in
      let spelt : Spelt before n (suc (place - 1 - at)) rest (suc (place - 1)) now = subst (λ k. Spelt before n k rest (suc (place - 1)) now) i (subst (λ k. Spelt before n (place - at) rest k now) q p) in
      one_more (place - 1 - at) (place - 1) spelt
