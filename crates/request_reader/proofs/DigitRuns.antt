-- A power by its digits where they stand: up to four bytes that are digits, and the next one is none.
use mathlib.Core.Path.{◌≡◌, refl, sym, ap, ◌∙◌}
use mathlib.Core.Bool.{true, false}
use mathlib.Core.List.{List, [], ◌∷◌}
use Prim.Native.Nat.{ℕ, suc, ◌+◌, ◌*◌, ◌<◌, ◌≤◌}
use native.Mathlib.Nat.{add-zero}
use native.Mathlib.Omega.{arith}
use lib.Dec.{leb}
use lib.ListN.{length, get_or}
use lib.Seq.{drop-cons}
use borrow.Author.Tests.{le-leb, leb-true}
use Rattle.lists.specs.Digits.{digit_value}
use Rattle.lists.proofs.Digits.{value_byte, value_from_lem}
use Rattle.lists.proofs.Tests.{by_test, and_left, and_right}
use Rattle.notification.specs.Forms.{is_digit}
use Rattle.reader.proofs.Figures.{one_digit, two_digits, three_digits, four_digits}
use Rattle.request_reader.specs.Walking.{part}
use Rattle.request_reader.specs.Steps.{power_of, RunAt}

-- ---- a byte is a digit by its value

module _ (x b : ℕ) (e : x ≡ digit_value b) where
  digit_by : x ≤ 9 → is_digit b ≡ true
  digit_by h =
      let k = value_byte b (omega arith) in
      rw (le-leb 48 b (omega arith), le-leb b 57 (omega arith))

  pub other_by : 9 < x → is_digit b ≡ false
  other_by h =
      by_test (is_digit b)
      (λ t. let l = leb-true 48 b (and_left (leb 48 b) (leb b 57) t) in
      let u = leb-true b 57 (and_right (leb 48 b) (leb b 57) t) in
      absurd (omega (arith, value_from_lem b l)))
      (λ t. t)

  no_end : x ≤ 9 → b ≡ 59 → ⊥
  no_end h k = omega (arith, value_byte b (omega arith))

-- ---- one byte after another

module _ (s : List ℕ) (at : ℕ) (h : at + 4 ≤ length s) where
  from_byte : (i n : ℕ) → at + i < length s → part (at + i) (suc n) s ≡ get_or s (at + i) 0 ∷ part (at + (i + 1)) n s
  from_byte i n l =
      let e : suc (at + i) ≡ at + (i + 1) = omega arith in
      rw (drop-cons s (at + i) 0 l, e)

  from_first : (n : ℕ) → part at (suc n) s ≡ get_or s at 0 ∷ part (at + 1) n s
  from_first n = rw (add-zero at) at (from_byte 0 n (omega arith))

  one_byte : part at 1 s ≡ get_or s at 0 ∷ []
  one_byte = from_first 0

  two_bytes : part at 2 s ≡ get_or s at 0 ∷ get_or s (at + 1) 0 ∷ []
  two_bytes = from_first 1 ∙ ap (λ (l : List ℕ). get_or s at 0 ∷ l) (from_byte 1 0 (omega arith))

  three_bytes : part at 3 s ≡ get_or s at 0 ∷ get_or s (at + 1) 0 ∷ get_or s (at + 2) 0 ∷ []
  three_bytes =
      from_first 2
      ∙ ap (λ (l : List ℕ). get_or s at 0 ∷ l)
      (from_byte 1 1 (omega arith) ∙ ap (λ (l : List ℕ). get_or s (at + 1) 0 ∷ l) (from_byte 2 0 (omega arith)))

  four_bytes : part at 4 s ≡ get_or s at 0 ∷ get_or s (at + 1) 0 ∷ get_or s (at + 2) 0 ∷ get_or s (at + 3) 0 ∷ []
  four_bytes =
      from_first 3
      ∙ ap (λ (l : List ℕ). get_or s at 0 ∷ l)
      (from_byte 1 2 (omega arith)
      ∙ ap (λ (l : List ℕ). get_or s (at + 1) 0 ∷ l)
      (from_byte 2 1 (omega arith) ∙ ap (λ (l : List ℕ). get_or s (at + 2) 0 ∷ l) (from_byte 3 0 (omega arith))))

  -- ---- a power of one digit, two, three and four

  module _ (x y : ℕ) (p : x ≡ digit_value (get_or s at 0)) (a : x ≤ 9) (q : y ≡ digit_value (get_or s (at + 1) 0)) where
    pub run_of_one : 9 < y → RunAt s at x 1
    unfolding power_of
    run_of_one b =
        record {
          some = omega arith;
          within = omega arith;
          all = rw (one_byte, digit_by x (get_or s at 0) p a);
          stop = other_by y (get_or s (at + 1) 0) q b;
          its_power = rw one_byte (sym (one_digit (get_or s at 0) 59 0 0 0 x p a refl));
        }

    module _ (b : y ≤ 9) (f : x ≡ 0 → ⊥) (z : ℕ) (r : z ≡ digit_value (get_or s (at + 2) 0)) where
      pub run_of_two : 9 < z → RunAt s at (x * 10 + y) 2
      unfolding power_of
      run_of_two c =
          record {
            some = omega arith;
            within = omega arith;
            all = rw (two_bytes, digit_by x (get_or s at 0) p a, digit_by y (get_or s (at + 1) 0) q b);
            stop = other_by z (get_or s (at + 2) 0) r c;
            its_power = rw two_bytes
                (sym (two_digits (get_or s at 0) (get_or s (at + 1) 0) 59 0 0 x y p a (no_end y (get_or s (at + 1) 0) q b) q b f refl));
          }

      module _ (c : z ≤ 9) (w : ℕ) (t : w ≡ digit_value (get_or s (at + 3) 0)) where
        pub run_of_three : 9 < w → RunAt s at ((x * 10 + y) * 10 + z) 3
        unfolding power_of
        run_of_three d =
            record {
              some = omega arith;
              within = omega arith;
              all = rw (three_bytes, digit_by x (get_or s at 0) p a, digit_by y (get_or s (at + 1) 0) q b, digit_by z (get_or s (at + 2) 0) r c);
              stop = other_by w (get_or s (at + 3) 0) t d;
              its_power = rw three_bytes
                  (sym (three_digits (get_or s at 0) (get_or s (at + 1) 0) (get_or s (at + 2) 0) 59 0 x y p a
                  (no_end y (get_or s (at + 1) 0) q b) q b f (no_end z (get_or s (at + 2) 0) r c) z r c refl));
            }

        pub run_of_four : w ≤ 9 → (v : ℕ) → v ≡ digit_value (get_or s (at + 4) 0) → 9 < v → RunAt s at (((x * 10 + y) * 10 + z) * 10 + w) 4
        unfolding power_of
        run_of_four d v u g =
            record {
              some = omega arith;
              within = h;
              all = rw (
                four_bytes,
                digit_by x (get_or s at 0) p a,
                digit_by y (get_or s (at + 1) 0) q b,
                digit_by z (get_or s (at + 2) 0) r c,
                digit_by w (get_or s (at + 3) 0) t d,
              );
              stop = other_by v (get_or s (at + 4) 0) u g;
              its_power = rw four_bytes
                  (sym (four_digits (get_or s at 0) (get_or s (at + 1) 0) (get_or s (at + 2) 0) (get_or s (at + 3) 0) 59 x y p a
                  (no_end y (get_or s (at + 1) 0) q b) q b f (no_end z (get_or s (at + 2) 0) r c) z r c
                  (no_end w (get_or s (at + 3) 0) t d) w t d refl));
            }
