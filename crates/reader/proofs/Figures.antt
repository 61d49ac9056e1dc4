-- A power by its bytes: what five bytes begin with is the text of a power, and the text of a power is found so.
use mathlib.Core.Path.{◌≡◌, refl, sym, ◌∙◌}
use mathlib.Core.Bool.{cond}
use mathlib.Core.List.{List, [], ◌∷◌, ◌++◌}
use Prim.Native.Nat.{ℕ, zero, suc, ◌+◌, ◌-◌, ◌*◌, ◌/◌, ◌%◌, ◌<◌, ◌≤◌}
use native.Mathlib.Omega.{arith}
use lib.Dec.{ltb, eqb}
use lib.ListN.{length, get_or, take, length-take, get_or-eq_default}
use lib.Seq.{ext_get_or, get_or-take}
use borrow.Author.Tests.{eqb-true, eqb-false, eq-eqb, ne_eqb, ltb-true, ltb-false, lt-ltb, le-ltb}
use Rattle.lists.specs.Digits.{digit_value}
use Rattle.lists.proofs.Tests.{by_test}
use Rattle.lists.proofs.Digits.{value_byte, digit_value_lem}
use Rattle.notification.specs.Forms.{digits, power_end}
use Rattle.notification.specs.Writing.{power_text}
use Rattle.reader.specs.Walking.{leading_power, TailSays}
use Rattle.std.specs.Prelude.{Option, Some, None}

-- ---- the ways through five bytes, as a reader goes them

module _ (a b c d e : ℕ) where
  pub no_first : (x : ℕ) → x ≡ digit_value a → 9 < x → None ≡ leading_power a b c d e
  unfolding leading_power
  no_first x p h = rw (← p, lt-ltb 9 x h)

  pub one_digit : (x : ℕ) → x ≡ digit_value a → x ≤ 9 → b ≡ 59 → Some (x, 2) ≡ leading_power a b c d e
  unfolding leading_power
  one_digit x p h q = rw (← p, le-ltb 9 x h, eq-eqb b 59 q)

  module _ (x y : ℕ) (p : x ≡ digit_value a) (h : x ≤ 9) (q : b ≡ 59 → ⊥) (r : y ≡ digit_value b) where
    pub no_second : 9 < y → None ≡ leading_power a b c d e
    unfolding leading_power
    no_second k = rw (← p, ← r, le-ltb 9 x h, ne_eqb b 59 q, lt-ltb 9 y k)

    pub needless : y ≤ 9 → x ≡ 0 → None ≡ leading_power a b c d e
    unfolding leading_power
    needless k z = rw (← p, ← r, le-ltb 9 x h, ne_eqb b 59 q, le-ltb 9 y k, eq-eqb x 0 z)

    module _ (k : y ≤ 9) (z : x ≡ 0 → ⊥) where
      pub two_digits : c ≡ 59 → Some (x * 10 + y, 3) ≡ leading_power a b c d e
      unfolding leading_power
      two_digits g = rw (← p, ← r, le-ltb 9 x h, ne_eqb b 59 q, le-ltb 9 y k, ne_eqb x 0 z, eq-eqb c 59 g)

      module _ (g : c ≡ 59 → ⊥) (u : ℕ) (m : u ≡ digit_value c) where
        pub no_third : 9 < u → None ≡ leading_power a b c d e
        unfolding leading_power
        no_third l = rw (← p, ← r, ← m, le-ltb 9 x h, ne_eqb b 59 q, le-ltb 9 y k, ne_eqb x 0 z, ne_eqb c 59 g, lt-ltb 9 u l)

        module _ (l : u ≤ 9) where
          pub three_digits : d ≡ 59 → Some ((x * 10 + y) * 10 + u, 4) ≡ leading_power a b c d e
          unfolding leading_power
          three_digits f = rw (← p, ← r, ← m, le-ltb 9 x h, ne_eqb b 59 q, le-ltb 9 y k, ne_eqb x 0 z, ne_eqb c 59 g, le-ltb 9 u l, eq-eqb d 59 f)

          module _ (f : d ≡ 59 → ⊥) (w : ℕ) (n : w ≡ digit_value d) where
            pub no_fourth : 9 < w → None ≡ leading_power a b c d e
            unfolding leading_power
            no_fourth o = rw (← p, ← r, ← m, ← n, le-ltb 9 x h, ne_eqb b 59 q, le-ltb 9 y k, ne_eqb x 0 z, ne_eqb c 59 g, le-ltb 9 u l, ne_eqb d 59 f, lt-ltb 9 w o)

            pub four_digits : w ≤ 9 → e ≡ 59 → Some (((x * 10 + y) * 10 + u) * 10 + w, 5) ≡ leading_power a b c d e
            unfolding leading_power
            four_digits o i = rw (← p, ← r, ← m, ← n, le-ltb 9 x h, ne_eqb b 59 q, le-ltb 9 y k, ne_eqb x 0 z, ne_eqb c 59 g, le-ltb 9 u l, ne_eqb d 59 f, le-ltb 9 w o, eq-eqb e 59 i)

            pub no_end : w ≤ 9 → (e ≡ 59 → ⊥) → None ≡ leading_power a b c d e
            unfolding leading_power
            no_end o i = rw (← p, ← r, ← m, ← n, le-ltb 9 x h, ne_eqb b 59 q, le-ltb 9 y k, ne_eqb x 0 z, ne_eqb c 59 g, le-ltb 9 u l, ne_eqb d 59 f, le-ltb 9 w o, ne_eqb e 59 i)

-- ---- the digits of a power by how many there are

module _ (p : ℕ) where
  digits_one : p < 10 → digits p ≡ (48 + p) ∷ []
  unfolding digits
  digits_one h = rw (lt-ltb p 10 h)

  digits_two : 10 ≤ p → p < 100 → digits p ≡ (48 + p / 10) ∷ (48 + p % 10) ∷ []
  unfolding digits
  digits_two h k = rw (le-ltb p 10 h, lt-ltb p 100 k)

  digits_three : 100 ≤ p → p < 1000 → digits p ≡ (48 + p / 100) ∷ (48 + p / 10 % 10) ∷ (48 + p % 10) ∷ []
  unfolding digits
  digits_three h k = let g : 10 ≤ p = omega arith in rw (le-ltb p 10 g, le-ltb p 100 h, lt-ltb p 1000 k)

  digits_four : 1000 ≤ p → digits p ≡ (48 + p / 1000) ∷ (48 + p / 100 % 10) ∷ (48 + p / 10 % 10) ∷ (48 + p % 10) ∷ []
  unfolding digits
  digits_four h =
      let g : 10 ≤ p = omega arith in
      let f : 100 ≤ p = omega arith in
      rw (le-ltb p 10 g, le-ltb p 100 f, le-ltb p 1000 h)

-- ---- what five bytes begin with is the text of a power

-- the first n of the bytes are the text of v
pub record Text (s : List ℕ) (v n : ℕ) : Type 0 where
  pub small : v < power_end
  pub least : 2 ≤ n
  pub most : n ≤ 5
  pub end : get_or s (n - 1) 0 ≡ 59
  pub text : take n s ≡ power_text v

abbrev Says : List ℕ → Option (ℕ × ℕ) → Type 0
Says s (Some (v, n)) = Text s v n
Says s None = Unit {0}

module _ (a b c d e : ℕ) where
  abbrev five : List ℕ
  five = a ∷ b ∷ c ∷ d ∷ e ∷ []

  abbrev x : ℕ
  x = digit_value a

  abbrev xy : ℕ
  xy = digit_value a * 10 + digit_value b

  abbrev xyz : ℕ
  xyz = (digit_value a * 10 + digit_value b) * 10 + digit_value c

  abbrev xyzw : ℕ
  xyzw = ((digit_value a * 10 + digit_value b) * 10 + digit_value c) * 10 + digit_value d

  text_one : digit_value a ≤ 9 → b ≡ 59 → Text five x 2
  text_one h q =
      let i : x < 10 = omega arith in
      let u : a ≡ 48 + x = value_byte a h in
      record { small = omega arith; least = omega arith; most = omega arith; end = q; text = rw (digits_one x i) (cc) }

  text_two : digit_value a ≤ 9 → (digit_value a ≡ 0 → ⊥) → digit_value b ≤ 9 → c ≡ 59 → Text five xy 3
  text_two h z k q =
      let i : 10 ≤ xy = omega arith in
      let j : xy < 100 = omega arith in
      let u : a ≡ 48 + xy / 10 = omega (arith, value_byte a h) in
      let v : b ≡ 48 + xy % 10 = omega (arith, value_byte b k) in
      record { small = omega arith; least = omega arith; most = omega arith; end = q; text = rw (digits_two xy i j) (cc) }

  text_three : digit_value a ≤ 9 → (digit_value a ≡ 0 → ⊥) → digit_value b ≤ 9 → digit_value c ≤ 9 → d ≡ 59 → Text five xyz 4
  text_three h z k l q =
      let i : 100 ≤ xyz = omega arith in
      let j : xyz < 1000 = omega arith in
      let u : a ≡ 48 + xyz / 100 = omega (arith, value_byte a h) in
      let v : b ≡ 48 + xyz / 10 % 10 = omega (arith, value_byte b k) in
      let w : c ≡ 48 + xyz % 10 = omega (arith, value_byte c l) in
      record { small = omega arith; least = omega arith; most = omega arith; end = q; text = rw (digits_three xyz i j) (cc) }

  text_four : digit_value a ≤ 9 → (digit_value a ≡ 0 → ⊥) → digit_value b ≤ 9 → digit_value c ≤ 9 → digit_value d ≤ 9 → e ≡ 59 → Text five xyzw 5
  text_four h z k l m q =
      let i : 1000 ≤ xyzw = omega arith in
      let u : a ≡ 48 + xyzw / 1000 = omega (arith, value_byte a h) in
      let v : b ≡ 48 + xyzw / 100 % 10 = omega (arith, value_byte b k) in
      let w : c ≡ 48 + xyzw / 10 % 10 = omega (arith, value_byte c l) in
      let o : d ≡ 48 + xyzw % 10 = omega (arith, value_byte d m) in
      record { small = omega arith; least = omega arith; most = omega arith; end = q; text = rw (digits_four xyzw i) (cc) }

  says : Says five (leading_power a b c d e)
  unfolding leading_power
  says =
      by_test (ltb 9 (digit_value a)) (λ t. rw t tt)
      (λ t. by_test (eqb b 59) (λ u. rw (t, u) (text_one (ltb-false 9 (digit_value a) t) (eqb-true b 59 u)))
      (λ u. by_test (ltb 9 (digit_value b)) (λ v. rw (t, u, v) tt)
      (λ v. by_test (eqb (digit_value a) 0) (λ w. rw (t, u, v, w) tt)
      (λ w. by_test (eqb c 59)
      (λ f. rw (t, u, v, w, f) (text_two (ltb-false 9 (digit_value a) t) (eqb-false (digit_value a) 0 w) (ltb-false 9 (digit_value b) v) (eqb-true c 59 f)))
      (λ f. by_test (ltb 9 (digit_value c)) (λ g. rw (t, u, v, w, f, g) tt)
      (λ g. by_test (eqb d 59)
      (λ h. rw (t, u, v, w, f, g, h) (text_three (ltb-false 9 (digit_value a) t) (eqb-false (digit_value a) 0 w) (ltb-false 9 (digit_value b) v) (ltb-false 9 (digit_value c) g) (eqb-true d 59 h)))
      (λ h. by_test (ltb 9 (digit_value d)) (λ i. rw (t, u, v, w, f, g, h, i) tt)
      (λ i. by_test (eqb e 59)
      (λ j. rw (t, u, v, w, f, g, h, i, j) (text_four (ltb-false 9 (digit_value a) t) (eqb-false (digit_value a) 0 w) (ltb-false 9 (digit_value b) v) (ltb-false 9 (digit_value c) g) (ltb-false 9 (digit_value d) i) (eqb-true e 59 j)))
      (λ j. rw (t, u, v, w, f, g, h, i, j) tt)))))))))

-- ---- a text, by its first five bytes

abbrev pub firsts : List ℕ → List ℕ
firsts s = get_or s 0 0 ∷ get_or s 1 0 ∷ get_or s 2 0 ∷ get_or s 3 0 ∷ get_or s 4 0 ∷ []

abbrev pub power_in : List ℕ → Option (ℕ × ℕ)
power_in s = leading_power (get_or s 0 0) (get_or s 1 0) (get_or s 2 0) (get_or s 3 0) (get_or s 4 0)

same_byte : (s : List ℕ) (i : ℕ) → i < 5 → get_or (firsts s) i 0 ≡ get_or s i 0
same_byte s zero h = refl
same_byte s (suc zero) h = refl
same_byte s (suc (suc zero)) h = refl
same_byte s (suc (suc (suc zero))) h = refl
same_byte s (suc (suc (suc (suc zero)))) h = refl
same_byte s (suc (suc (suc (suc (suc i))))) h = absurd (omega arith)

same_first : (s : List ℕ) (n : ℕ) → n ≤ 5 → n ≤ length s → take n s ≡ take n (firsts s)
same_first s n h k =
    let p : length (take n s) ≡ n = rw length-take (omega arith) in
    let q : length (take n (firsts s)) ≡ n = rw length-take (omega arith) in
    ext_get_or 0 (take n s) (take n (firsts s)) (p ∙ sym q) (λ i l. byte i (omega (arith, p)))
  where
    byte : (i : ℕ) → i < n → get_or (take n s) i 0 ≡ get_or (take n (firsts s)) i 0
    byte i l = get_or-take n s i 0 l ∙ (sym (same_byte s i (omega arith)) ∙ sym (get_or-take n (firsts s) i 0 l))

-- a byte that is not 0 stands before the end
there : (s : List ℕ) (i : ℕ) → get_or s i 0 ≡ 59 → i < length s
there s i e =
    by_test (ltb i (length s)) (λ t. ltb-true i (length s) t)
    (λ t. absurd (omega (arith, get_or-eq_default s 0 (ltb-false i (length s) t))))

pub power_sound : (s : List ℕ) (v n : ℕ) → power_in s ≡ Some (v, n) → (v < power_end) × (n ≤ length s) × (take n s ≡ power_text v)
power_sound s v n e =
    let t : Text (firsts s) v n = rw e at (says (get_or s 0 0) (get_or s 1 0) (get_or s 2 0) (get_or s 3 0) (get_or s 4 0)) in
    let l = t.least in
    let m = t.most in
    let b : get_or s (n - 1) 0 ≡ 59 = sym (same_byte s (n - 1) (omega arith)) ∙ t.end in
    let k : n ≤ length s = omega (arith, there s (n - 1) b) in
    (t.small, k, same_first s n m k ∙ t.text)

-- ---- the text of a power is found

pub power_found : (v : ℕ) (rest : List ℕ) → v < power_end → power_in (power_text v ++ rest) ≡ Some (v, length (power_text v))
power_found v rest h =
    by_test (ltb v 10) (λ t. one (ltb-true v 10 t))
    (λ t. by_test (ltb v 100) (λ u. two (ltb-false v 10 t) (ltb-true v 100 u))
    (λ u. by_test (ltb v 1000) (λ w. three (ltb-false v 100 u) (ltb-true v 1000 w)) (λ w. four (ltb-false v 1000 w))))
  where
    one : v < 10 → power_in (power_text v ++ rest) ≡ Some (v, length (power_text v))
    one l = rw (digits_one v l) (sym (one_digit (48 + v) 59 (get_or rest 0 0) (get_or rest 1 0) (get_or rest 2 0) v (sym (digit_value_lem v l)) (omega arith) refl))

    two : 10 ≤ v → v < 100 → power_in (power_text v ++ rest) ≡ Some (v, length (power_text v))
    two k l =
        let p : v / 10 < 10 = omega arith in
        let q : v % 10 < 10 = omega arith in
        let e : v / 10 * 10 + v % 10 ≡ v = omega arith in
        let r = two_digits (48 + v / 10) (48 + v % 10) 59 (get_or rest 0 0) (get_or rest 1 0) (v / 10) (v % 10) (sym (digit_value_lem (v / 10) p)) (omega arith) (λ (z : 48 + v % 10 ≡ 59). omega arith) (sym (digit_value_lem (v % 10) q)) (omega arith) (λ (z : v / 10 ≡ 0). omega arith) refl in
        rw (digits_two v k l) (sym (rw e at r))

    three : 100 ≤ v → v < 1000 → power_in (power_text v ++ rest) ≡ Some (v, length (power_text v))
    three k l =
        let p : v / 100 < 10 = omega arith in
        let q : v / 10 % 10 < 10 = omega arith in
        let o : v % 10 < 10 = omega arith in
        let e : (v / 100 * 10 + v / 10 % 10) * 10 + v % 10 ≡ v = omega arith in
        let r = three_digits (48 + v / 100) (48 + v / 10 % 10) (48 + v % 10) 59 (get_or rest 0 0) (v / 100) (v / 10 % 10) (sym (digit_value_lem (v / 100) p)) (omega arith) (λ (z : 48 + v / 10 % 10 ≡ 59). omega arith) (sym (digit_value_lem (v / 10 % 10) q)) (omega arith) (λ (z : v / 100 ≡ 0). omega arith) (λ (z : 48 + v % 10 ≡ 59). omega arith) (v % 10) (sym (digit_value_lem (v % 10) o)) (omega arith) refl in
        rw (digits_three v k l) (sym (rw e at r))

    four : 1000 ≤ v → power_in (power_text v ++ rest) ≡ Some (v, length (power_text v))
    four k =
        let p : v / 1000 < 10 = omega arith in
        let q : v / 100 % 10 < 10 = omega arith in
        let o : v / 10 % 10 < 10 = omega arith in
        let m : v % 10 < 10 = omega arith in
        let e : ((v / 1000 * 10 + v / 100 % 10) * 10 + v / 10 % 10) * 10 + v % 10 ≡ v = omega arith in
        let r = four_digits (48 + v / 1000) (48 + v / 100 % 10) (48 + v / 10 % 10) (48 + v % 10) 59 (v / 1000) (v / 100 % 10) (sym (digit_value_lem (v / 1000) p)) (omega arith) (λ (z : 48 + v / 100 % 10 ≡ 59). omega arith) (sym (digit_value_lem (v / 100 % 10) q)) (omega arith) (λ (z : v / 1000 ≡ 0). omega arith) (λ (z : 48 + v / 10 % 10 ≡ 59). omega arith) (v / 10 % 10) (sym (digit_value_lem (v / 10 % 10) o)) (omega arith) (λ (z : 48 + v % 10 ≡ 59). omega arith) (v % 10) (sym (digit_value_lem (v % 10) m)) (omega arith) refl in
        rw (digits_four v k) (sym (rw e at r))

-- ---- a power, `;` and LF in six bytes

pub tail_says : (a b c d e f v n g : ℕ) (r : Option (ℕ × ℕ)) → r ≡ cond (eqb g 10) (Some (v, n)) None → Some (v, n - 13) ≡ leading_power a b c d e
    → get_or (a ∷ b ∷ c ∷ d ∷ e ∷ f ∷ []) (n - 13) 0 ≡ g → 15 ≤ n → n ≤ 18 → TailSays a b c d e f r
tail_says a b c d e f v n g r p q w m l =
    by_test (eqb g 10)
    (λ t. let i : r ≡ Some (v, n) = p ∙ rw t in rw i (record { power = q; break = w ∙ eqb-true g 10 t; more = m; few = l }))
    (λ t. let i : r ≡ None = p ∙ rw t in rw i tt)
