-- What the check character is for (document 02, K5): with the sixteenth character weighed 1, the sum of a code that passes is a multiple
-- of 37. One mistyped character changes that sum by a product of two numbers from 1 to 36, and two neighbours exchanged by one such
-- number; 37 is prime, so neither is a multiple of it.
use mathlib.Core.Path.{◌≡◌, refl, sym, ◌∙◌, ap}
use mathlib.Core.Logic.{inl, inr}
use mathlib.Core.Bool.{Bool, true, cond, not, ◌||◌}
use mathlib.Core.List.{List}
use Prim.Native.Nat.{ℕ, suc, ◌+◌, ◌-◌, ◌*◌, ◌%◌, ◌<◌, ◌≤◌}
use native.Mathlib.Nat.{mul-add, suc-mul, one-mul}
use native.Mathlib.Omega.{arith}
use lib.Dec.{T, leb, ltb, eqb}
use lib.ListN.{length, get_or, get_or-eq_default}
use borrow.Author.Tests.{eq-eqb, eqb-true, eqb-false, ltb-true, ltb-false, leb-true, lt-ltb, le-ltb, ne_eqb, not-true}
use Rattle.lists.specs.Tests.{grid}
use Rattle.lists.specs.Searches.{every}
use Rattle.lists.specs.Sums.{sum_to}
use Rattle.lists.proofs.Below.{within}
use Rattle.lists.proofs.Tests.{by_test, and_right, both_true, true_of}
use Rattle.lists.proofs.Searches.{every_at}
use Rattle.lists.proofs.Sums.{sum_update}
use Rattle.notification.specs.Forms.{is_digit, is_code_byte, is_code}
use Rattle.codes.specs.Codes.{is_letter}
use Rattle.codes.specs.Codes.{value_of, weighed_at, weighed, check_value, has_check, OneOther, Exchanged, Mistyped}
use Rattle.notification.proofs.Lengths.{code_length}
use Rattle.codes.proofs.Weighing.{value_below}

-- ---- sums

-- terms that agree except at j and k
sum_two : (n j k : ℕ) (f g : ℕ → ℕ) → ((b : ℕ) → (b ≡ j → ⊥) → (b ≡ k → ⊥) → f b ≡ g b) → (k ≡ j → ⊥) → j < n → k < n →
    sum_to n f + g j + g k ≡ sum_to n g + f j + f k
sum_two n j k f g h apart hj hk =
    let first = sum_update n j f between (λ b ne. rw (ne_eqb b j ne)) hj in
    let second = sum_update n k between g other hk in
    let at_j : between j ≡ g j = rw (eq-eqb j j refl) in
    let at-k : between k ≡ f k = rw (ne_eqb k j apart) in
    omega (arith, first, second, at_j, at-k)
  where
    -- g at j, f elsewhere
    between : ℕ → ℕ
    between b = cond (eqb b j) (g b) (f b)

    other : (b : ℕ) → (b ≡ k → ⊥) → between b ≡ g b
    other b ne = by_test (eqb b j) (λ t. rw t) (λ t. rw t (h b (eqb-false b j t) ne))

-- ---- the values of characters

-- the character of a value
abbrev character_of : ℕ → ℕ
character_of v = cond (ltb v 10) (48 + v) (cond (ltb v 36) (55 + v) 45)

character_back : (b : ℕ) → is_code_byte b ≡ true → character_of (value_of b) ≡ b
character_back b e =
    by_test (is_digit b)
    (λ d. let h = both_true (leb 48 b) (leb b 57) d in
    let l = leb-true 48 b h.0 in
    let m = leb-true b 57 h.1 in
    rw (d, lt-ltb (b - 48) 10 (omega arith)) (omega arith))
    (λ d. by_test (is_letter b)
    (λ u. let h = both_true (leb 65 b) (leb b 90) u in
    let l = leb-true 65 b h.0 in
    let m = leb-true b 90 h.1 in
    rw (d, u, le-ltb (10 + (b - 65)) 10 (omega arith), lt-ltb (10 + (b - 65)) 36 (omega arith)) (omega arith))
    (λ u. rw (d, u) (sym (eqb-true b 45 (rw (d, u) at e)))))

-- characters of one value are the same
value_apart : (a b : ℕ) → is_code_byte a ≡ true → is_code_byte b ≡ true → value_of a ≡ value_of b → a ≡ b
value_apart a b ea eb e = sym (character_back a ea) ∙ ap character_of e ∙ character_back b eb

-- ---- the sum of all sixteen

abbrev whole : List ℕ → ℕ
whole code = sum_to 16 (weighed_at code)

-- a sum and its check value
check_adds : (sum : ℕ) → (sum + check_value sum) % 37 ≡ 0
check_adds sum =
    by_test (eqb sum 0)
    (λ t. let e = eqb-true sum 0 t in rw t (omega arith))
    (λ t. let e = eqb-false sum 0 t in rw t (omega arith))

pub whole_multiple : (code : List ℕ) → has_check code ≡ true → whole code % 37 ≡ 0
unfolding has_check weighed
whole_multiple code e =
    let v = eqb-true (value_of (get_or code 15 0)) (check_value (weighed code)) (and_right (not (eqb (check_value (weighed code)) 36)) _ e) in
    omega (arith, check_adds (weighed code), v, one-mul (value_of (get_or code 15 0)))

-- ---- 37 is prime

abbrev apart : ℕ → ℕ → Bool
apart w d = eqb w 0 || eqb d 0 || not (eqb (w * d % 37) 0)

computed : T (grid apart 37 37)
computed = tt

-- no product of two numbers from 1 to 36 is a multiple of it
pub no_multiple : (w d : ℕ) → w < 37 → d < 37 → 0 < w → 0 < d → w * d % 37 ≡ 0 → ⊥
no_multiple w d hw hd pw pd e =
    let t = true_of (apart w d) (within apart 37 37 computed w d hw hd) in
    eqb-false (w * d % 37) 0 (not-true _ (rw (ne_eqb w 0 (λ z. omega arith), ne_eqb d 0 (λ z. omega arith)) at t)) e

-- two multiples of 37 that differ by so many times the difference of two values: the values are the same
less_apart : (x y w a b : ℕ) → x % 37 ≡ 0 → y % 37 ≡ 0 → 0 < w → w < 37 → b < 37 → a < b → x + w * b ≡ y + w * a → ⊥
less_apart x y w a b ex ey pw hw hb h e =
    let d = b - a in
    let s : b ≡ a + d = omega arith in
    let m = ap (λ z. w * z) s ∙ mul-add w a d in
    no_multiple w d hw (omega arith) pw (omega arith) (omega (arith, e, m))

values_same : (x y w a b : ℕ) → x % 37 ≡ 0 → y % 37 ≡ 0 → 0 < w → w < 37 → a < 37 → b < 37 → x + w * b ≡ y + w * a → a ≡ b
values_same x y w a b ex ey pw hw ha hb e =
    by_test (ltb a b)
    (λ t. absurd (less_apart x y w a b ex ey pw hw hb (ltb-true a b t) e))
    (λ t. by_test (ltb b a)
    (λ u. absurd (less_apart y x w b a ey ex pw hw ha (ltb-true b a u) (sym e)))
    (λ u. let k = ltb-false a b t in let l = ltb-false b a u in omega arith))

-- ---- at most one passes

module _ (s t : List ℕ) (ms : is_code s ≡ true) (mt : is_code t ≡ true) (ps : has_check s ≡ true) (pt : has_check t ≡ true) where
  -- a place past the sixteen holds nothing
  past : (code : List ℕ) → is_code code ≡ true → (i : ℕ) → 16 ≤ i → get_or code i 0 ≡ 0
  past code m i h = get_or-eq_default code 0 (omega (arith, code_length code m))

  character : (code : List ℕ) → is_code code ≡ true → (i : ℕ) → i < 16 → is_code_byte (get_or code i 0) ≡ true
  unfolding is_code
  character code m i h =
      let e = both_true (eqb (length code) 16) (every is_code_byte code) m in
      every_at is_code_byte code i 0 e.1 (omega (arith, eqb-true (length code) 16 e.0))

  not_other : OneOther s t → ⊥
  not_other o =
      let i = o.place in
      by_test (ltb i 16)
      (λ b. let h = ltb-true i 16 b in
      let u = sum_update 16 i (weighed_at s) (weighed_at t) (λ j ne. ap (λ c. (16 - j) * value_of c) (o.elsewhere j ne)) h in
      o.differs (value_apart _ _ (character s ms i h) (character t mt i h)
      (values_same (whole s) (whole t) (16 - i) _ _ (whole_multiple s ps) (whole_multiple t pt) (omega arith) (omega arith)
      (value_below (get_or s i 0)) (value_below (get_or t i 0)) u)))
      (λ b. let h = ltb-false i 16 b in o.differs (past s ms i h ∙ sym (past t mt i h)))

  not_exchanged : Exchanged s t → ⊥
  not_exchanged o =
      let i = o.place in
      by_test (ltb i 15)
      (λ b. let h = ltb-true i 15 b in
      let a = value_of (get_or s i 0) in
      let c = value_of (get_or s (suc i) 0) in
      let w = 15 - i in
      let u = sum_two 16 i (suc i) (weighed_at s) (weighed_at t) (λ j n m. ap (λ x. (16 - j) * value_of x) (o.elsewhere j n m)) (λ z. omega arith) (omega arith) (omega arith) in
      let e : 16 - i ≡ suc w = omega arith in
      let f : 16 - suc i ≡ w = omega arith in
      let first : weighed_at t i ≡ w * c + c = ap (λ x. (16 - i) * value_of x) o.first ∙ ap (λ n. n * c) e ∙ suc-mul w c in
      let second : weighed_at t (suc i) ≡ w * a = ap (λ x. (16 - suc i) * value_of x) o.second ∙ ap (λ n. n * a) f in
      let third : weighed_at s i ≡ w * a + a = ap (λ n. n * a) e ∙ suc-mul w a in
      let fourth : weighed_at s (suc i) ≡ w * c = ap (λ n. n * c) f in
      o.differs (value_apart _ _ (character s ms i (omega arith)) (character s ms (suc i) (omega arith))
      (values_same (whole s) (whole t) 1 a c (whole_multiple s ps) (whole_multiple t pt) (omega arith) (omega arith)
      (value_below (get_or s i 0)) (value_below (get_or s (suc i) 0)) (omega (arith, u, first, second, third, fourth, one-mul a, one-mul c)))))
      (λ b. let h = ltb-false i 15 b in
      o.differs (sym o.second ∙ past t mt (suc i) (omega arith) ∙ sym (past s ms (suc i) (omega arith))))

  -- "of two codes that differ in exactly one place, or by two neighbouring characters exchanged, at most one passes"
  pub at_most_one : Mistyped s t → ⊥
  at_most_one (inl o) = not_other o
  at_most_one (inr x) = not_exchanged x
