-- Numbers in a row that are tested at once, as bits: a search passes them where no bit is set, and else ends at the lowest that is;
-- what is known of the next number that passes a test.
use mathlib.Core.Path.{◌≡◌, refl, sym, ap, ◌∙◌}
use mathlib.Core.Bool.{Bool, true, false, cond, not, ◌||◌, false≢true}
use Prim.Native.Nat.{ℕ, zero, suc, ◌+◌, ◌-◌, ◌*◌, ◌/◌, ◌%◌, ◌<◌, ◌≤◌, min}
use native.Mathlib.Omega.{arith}
use native.Mathlib.Numerals.{add-one}
use lib.Count.{count_trailing_zeros}
use Rattle.lists.specs.Searches.{first_from}
use Rattle.lists.proofs.Searches.{first_here, first_past, first_from_lem, first_until, first_before, first_passes}
use Rattle.lists.proofs.Tests.{by_test, or_left, or_right}
use Rattle.tables.specs.Passing.{bits_from, last_below}
use Rattle.tables.proofs.Down.{last_skip}

odd : (n : ℕ) → (1 + 2 * n) % 2 ≡ 1
odd n = omega arith

even : (n : ℕ) → 2 * n % 2 ≡ 0
even n = omega arith

half : (n : ℕ) → 2 * n / 2 ≡ n
half n = omega arith

not_true : (b : Bool) → not b ≡ true → b ≡ false
not_true true e = absurd (false≢true e)
not_true false e = refl

few : (n : ℕ) → n ≤ 256 → min n 256 ≡ n
few n m = omega arith

module _ (p : ℕ → Bool) where
  pub four_bits : (i : ℕ) →
      cond (p i) 1 0 + 2 * (cond (p (i + 1)) 1 0 + 2 * (cond (p (i + 2)) 1 0 + 2 * cond (p (i + 3)) 1 0)) ≡ bits_from p i 4
  unfolding bits_from
  four_bits i =
      let a : i + 1 ≡ suc i = omega arith in
      let b : i + 2 ≡ suc (suc i) = omega arith in
      let c : i + 3 ≡ suc (suc (suc i)) = omega arith in
      rw (a, b, c) (omega arith)

  pub four_none : (i : ℕ) → not (p i || p (i + 1) || (p (i + 2) || p (i + 3))) ≡ true → bits_from p i 4 ≡ 0
  four_none i e =
      let t = not_true (p i || p (i + 1) || (p (i + 2) || p (i + 3))) e in
      let l = or_left (p i || p (i + 1)) (p (i + 2) || p (i + 3)) t in
      let r = or_right (p i || p (i + 1)) (p (i + 2) || p (i + 3)) t in
      sym (four_bits i)
      ∙ rw (or_left (p i) (p (i + 1)) l, or_right (p i) (p (i + 1)) l, or_left (p (i + 2)) (p (i + 3)) r, or_right (p (i + 2)) (p (i + 3)) r)

  bits_nothing : (i : ℕ) → bits_from p i 0 ≡ 0
  unfolding bits_from
  bits_nothing i = refl

  -- the lowest bit and those above it
  bits_true : (i n : ℕ) → p i ≡ true → bits_from p i (suc n) ≡ 1 + 2 * bits_from p (suc i) n
  unfolding bits_from
  bits_true i n e = rw e

  bits_false : (i n : ℕ) → p i ≡ false → bits_from p i (suc n) ≡ 2 * bits_from p (suc i) n
  unfolding bits_from
  bits_false i n e = rw e (omega arith)

  bits_past : (i n : ℕ) → bits_from p i (suc n) ≡ 0 → (p i ≡ false) × (bits_from p (suc i) n ≡ 0)
  bits_past i n z =
      by_test (p i)
      (λ t. absurd (omega (arith, bits_true i n t)))
      (λ t. (t, omega (arith, bits_false i n t)))

  -- ---- the first from here on

  pub first_past_bits : (i w n : ℕ) → i + w ≤ n → bits_from p i w ≡ 0 → first_from p i (n - i) ≡ first_from p (i + w) (n - (i + w))
  first_past_bits i zero n h z = let e : i ≡ i + 0 = omega arith in ap (λ k. first_from p k (n - k)) e
  first_past_bits i (suc w) n h z =
      let b = bits_past i w z in
      let e : suc i + w ≡ i + suc w = omega arith in
      first_past p i n (omega arith) b.0
      ∙ (rw (add-one i) (first_past_bits (suc i) w n (omega arith) b.1)
      ∙ ap (λ k. first_from p k (n - k)) e)

  pub first_at_bit : (d i w n : ℕ) → w ≤ d → i + w ≤ n → (bits_from p i w ≡ 0 → ⊥) →
      i + count_trailing_zeros d (bits_from p i w) ≡ first_from p i (n - i)
  unfolding count_trailing_zeros
  first_at_bit d i zero n f h z = absurd (z (bits_nothing i))
  first_at_bit zero i (suc w) n f h z = absurd (omega arith)
  first_at_bit (suc d) i (suc w) n f h z =
      by_test (p i)
      (λ t. rw (bits_true i w t, odd (bits_from p (suc i) w)) (omega (arith, first_here p i n (omega arith) t)))
      (λ t. let r : bits_from p (suc i) w ≡ 0 → ⊥ = λ e. z (bits_false i w t ∙ omega arith) in
      let ih = first_at_bit d (suc i) w n (omega arith) (omega arith) r in
      rw (bits_false i w t, even (bits_from p (suc i) w), half (bits_from p (suc i) w), first_past p i n (omega arith) t, add-one i)
      (omega arith))

  -- ---- the last below here

  pub last_past_bits : (i w : ℕ) → bits_from p i w ≡ 0 → last_below p (i + w) ≡ last_below p i
  last_past_bits i zero z = let e : i + 0 ≡ i = omega arith in ap (last_below p) e
  last_past_bits i (suc w) z =
      let b = bits_past i w z in
      let e : i + suc w ≡ suc i + w = omega arith in
      let f : suc i - 1 ≡ i = omega arith in
      ap (last_below p) e
      ∙ (last_past_bits (suc i) w b.1
      ∙ (last_skip p (suc i) (omega arith) (ap p f ∙ b.0)
      ∙ ap (last_below p) f))

  -- the next number below n, from i on, that passes the test: none between passes it
  pub record Next (i n k : ℕ) : Type 0 where
    pub from : i ≤ k
    pub until : k ≤ n
    pub before : (j : ℕ) → i ≤ j → j < k → p j ≡ false
    pub passes : k < n → p k ≡ true

  pub next_is : (i n k : ℕ) → i ≤ n → n ≤ 256 → k ≡ first_from p i (min n 256 - i) → Next i n k
  next_is i n k h m f =
      let e : k ≡ first_from p i (n - i) = rw (few n m) at f in
      record {
        from = omega (arith, first_from_lem p i (n - i));
        until = omega (arith, first_until p i (n - i));
        before = λ j a b. first_before p i (n - i) j a (omega arith);
        passes = λ l. ap p e ∙ first_passes p i (n - i) (omega arith);
      }
