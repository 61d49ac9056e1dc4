-- A text is a key's exactly where each of its parts is valid and stands in its place.
use mathlib.Core.Path.{◌≡◌, refl, sym, ap, ◌∙◌}
use mathlib.Core.Bool.{Bool, true, false, not, ◌&&◌}
use mathlib.Core.List.{List, ◌∷◌, ◌++◌}
use Prim.Native.Nat.{ℕ, ◌<◌, ◌≤◌}
use native.Mathlib.Omega.{arith}
use lib.Dec.{ltb, eqb}
use lib.ListN.{length, get_or, take, drop, length-drop}
use lib.Seq.{split_at, drop-drop, get_or-drop, get_or_at, length-take-le}
use borrow.Author.Tests.{eqb-true, eq-eqb, ltb-true, lt-ltb, not-true, not-false}
use Rattle.lists.specs.Searches.{same}
use Rattle.lists.proofs.Tests.{by_test, true_false, and_left, and_right, and_true}
use Rattle.lists.proofs.Searches.{same_refl, same_true}
use Rattle.lists.proofs.Parts.{drop_past}
use Rattle.calendar.specs.Texts.{text_of, day_of}
use Rattle.std.specs.Prelude.{Option, Some, None}
use Rattle.calendar.proofs.TwoWays.{read_text}
use Rattle.notification.specs.Forms.{is_code, is_category, filled, six_bytes, category_text}
use Rattle.notification.specs.Writing.{key_text, formed}
use Rattle.notification.specs.Reading.{day_number, key_in, valid_key}
use Rattle.reader.specs.Parts.{is_key, key_read}
use Rattle.notification.proofs.Lengths.{date_length, formed_parts, key_length}
use Rattle.notification.proofs.Stored.{filled_all, six_back}

-- ---- a date that was read

day_text : (t : List ℕ) (d : Option ℕ) → day_of t ≡ d → day_number d < 36525 → text_of (day_number d) ≡ t
day_text t (Some n) e h = sym (read_text t n e).1
day_text t None e h = absurd (omega arith)

-- ---- the parts

pub record Parts (by : ℕ) (s : List ℕ) : Type 0 where
  pub least : 48 ≤ length s
  pub most : length s ≤ 49
  pub first_parted : get_or s 16 0 ≡ by
  pub second_parted : get_or s 33 0 ≡ by
  pub third_parted : get_or s 42 0 ≡ by
  pub a_ceder : is_code (take 16 s) ≡ true
  pub an_acquirer : is_code (take 16 (drop 17 s)) ≡ true
  pub a_category : is_category (drop 43 s) ≡ true
  pub a_day : day_number (day_of (take 8 (drop 34 s))) < 36525

module _ (by : ℕ) (s : List ℕ) where
  parts_text : Parts by s → s ≡ key_text by (key_in s)
  unfolding key_in
  parts_text p =
      let l = p.least in
      let a = drop 17 s in
      let d = drop 34 s in
      let t = day_text (take 8 d) (day_of (take 8 d)) refl p.a_day in
      let c = six_back (drop 43 s) p.a_category in
      let la : 16 < length a = rw length-drop (omega arith) in
      let ld : 8 < length d = rw length-drop (omega arith) in
      let e1 : s ≡ take 16 s ++ by ∷ a = rw p.first_parted at (split_at s 16 0 (omega arith)) in
      let b2 : get_or a 16 0 ≡ by = get_or-drop 17 s 16 0 ∙ p.second_parted in
      let e2 : a ≡ take 16 a ++ by ∷ d = rw (b2, drop-drop 17 17 s) at (split_at a 16 0 la) in
      let b3 : get_or d 8 0 ≡ by = get_or-drop 34 s 8 0 ∙ p.third_parted in
      let e3 : d ≡ take 8 d ++ by ∷ drop 43 s = rw (b3, drop-drop 9 34 s) at (split_at d 8 0 ld) in
      let f3 : d ≡ text_of (day_number (day_of (take 8 d))) ++ by ∷ category_text (six_bytes (drop 43 s)) = rw (t, c) e3 in
      e1 ∙ ap (λ (u : List ℕ). take 16 s ++ by ∷ u) (e2 ∙ ap (λ (u : List ℕ). take 16 a ++ by ∷ u) f3)

  parts_formed : Parts by s → formed (key_in s) ≡ true
  unfolding key_in formed
  parts_formed p = rw (p.a_ceder, p.an_acquirer, six_back (drop 43 s) p.a_category) p.a_category

  pub parts_key : Parts by s → is_key by s ≡ true
  unfolding is_key key_in
  parts_key p =
      let k = key_in s in
      and_true (valid_key k) (same s (key_text by k))
      (and_true (formed k) (ltb k.day 36525) (parts_formed p) (lt-ltb k.day 36525 p.a_day))
      (rw (← parts_text p) (same_refl s))

  pub key_parts : is_key by s ≡ true → Parts by s
  unfolding is_key key_in
  key_parts e =
      let k = key_in s in
      let v = and_left (valid_key k) (same s (key_text by k)) e in
      let t = same_true s (key_text by k) (and_right (valid_key k) (same s (key_text by k)) e) in
      let h = and_left (formed k) (ltb k.day 36525) v in
      let f = formed_parts k h in
      let c = category_text k.category in
      let d = text_of k.day ++ by ∷ c in
      let a = k.acquirer ++ by ∷ d in
      let d17 : drop 17 s ≡ a = ap (drop 17) t ∙ drop_past k.ceder by a 17 (omega arith) in
      let d34 : drop 34 s ≡ d = sym (drop-drop 17 17 s) ∙ (ap (drop 17) d17 ∙ drop_past k.acquirer by d 17 (omega arith)) in
      let d43 : drop 43 s ≡ c = sym (drop-drop 9 34 s) ∙ (ap (drop 9) d34 ∙ drop_past (text_of k.day) by c 9 (omega (arith, date_length k.day))) in
      let n = key_length by k h in
      let m = ap length t in
      record {
        least = omega arith;
        most = omega arith;
        first_parted = ap (λ (u : List ℕ). get_or u 16 0) t ∙ get_or_at k.ceder by a 0 16 f.ceder_length;
        second_parted = sym (get_or-drop 17 s 16 0) ∙ (ap (λ (u : List ℕ). get_or u 16 0) d17 ∙ get_or_at k.acquirer by d 0 16 f.acquirer_length);
        third_parted = sym (get_or-drop 34 s 8 0) ∙ (ap (λ (u : List ℕ). get_or u 8 0) d34 ∙ get_or_at (text_of k.day) by c 0 8 (date_length k.day));
        a_ceder = f.ceder_code;
        an_acquirer = f.acquirer_code;
        a_category = ap is_category d43 ∙ f.right_category;
        a_day = ltb-true k.day 36525 (and_right (formed k) (ltb k.day 36525) v);
      }

  -- ---- the ways through a text, as a reader goes them

  pub read_none : (Parts by s → ⊥) → None ≡ key_read by s
  unfolding key_read
  read_none f = by_test (is_key by s) (λ t. absurd (f (key_parts t))) (λ t. rw t)

  pub read_short : length s < 48 → None ≡ key_read by s
  read_short h = read_none (λ p. omega (arith, p.least))

  pub read_long : 49 < length s → None ≡ key_read by s
  read_long h = read_none (λ p. omega (arith, p.most))

  abbrev parted : Bool
  parted = eqb (get_or s 16 0) by && eqb (get_or s 33 0) by && eqb (get_or s 42 0) by

  abbrev right : Bool → Bool → Bool → Bool
  right a b c = parted && a && b && c

  module _ (a b c : Bool) (p : a ≡ is_code (take 16 s)) (q : b ≡ is_code (take 16 (drop 17 s))) (r : c ≡ is_category (drop 43 s)) where
    pub read_wrong : not (right a b c) ≡ true → None ≡ key_read by s
    read_wrong e =
        read_none
        (λ x. let t : right a b c ≡ true = rw (p, q, r, eq-eqb (get_or s 16 0) by x.first_parted, eq-eqb (get_or s 33 0) by x.second_parted, eq-eqb (get_or s 42 0) by x.third_parted, x.a_ceder, x.an_acquirer, x.a_category) in
        true_false (right a b c) t (not-true (right a b c) e))

    module _ (h : 48 ≤ length s) (k : length s ≤ 49) (e : not (right a b c) ≡ false) where
      pub read_no_day : day_of (take 8 (drop 34 s)) ≡ None → None ≡ key_read by s
      read_no_day d = read_none (λ x. let l : day_number None < 36525 = rw d at x.a_day in omega arith)

      key_found : (n : ℕ) → day_of (take 8 (drop 34 s)) ≡ Some n
          → Some (record { ceder = take 16 s; acquirer = take 16 (drop 17 s); category = six_bytes (drop 43 s); day = n }) ≡ key_read by s
      unfolding key_read key_in
      key_found n d =
          let g = not-false (right a b c) e in
          let pab = and_left (parted && a && b) c g in
          let pa = and_left (parted && a) b pab in
          let pp = and_left parted a pa in
          let i = eqb (get_or s 16 0) by in
          let j = eqb (get_or s 33 0) by in
          let l = eqb (get_or s 42 0) by in
          let m = read_text (take 8 (drop 34 s)) n d in
          let x : Parts by s = record {
            least = h;
            most = k;
            first_parted = eqb-true (get_or s 16 0) by (and_left i j (and_left (i && j) l pp));
            second_parted = eqb-true (get_or s 33 0) by (and_right i j (and_left (i && j) l pp));
            third_parted = eqb-true (get_or s 42 0) by (and_right (i && j) l pp);
            a_ceder = sym p ∙ and_right parted a pa;
            an_acquirer = sym q ∙ and_right (parted && a) b pab;
            a_category = sym r ∙ and_right (parted && a && b) c g;
            a_day = rw d m.0;
          } in
          rw (parts_key x, d)

      pub read_key : (n : ℕ) → day_of (take 8 (drop 34 s)) ≡ Some n → (x y z : List ℕ) → x ≡ filled 16 (take 16 s) →
          y ≡ filled 16 (take 16 (drop 17 s)) → z ≡ six_bytes (drop 43 s) →
          Some (record { ceder = x; acquirer = y; category = z; day = n }) ≡ key_read by s
      read_key n d x y z ex ey ez =
          let m = length-drop 17 s in
          let ceder : x ≡ take 16 s = ex ∙ filled_all 16 (take 16 s) (length-take-le 16 s (omega arith)) in
          let acquirer : y ≡ take 16 (drop 17 s) = ey ∙ filled_all 16 (take 16 (drop 17 s)) (length-take-le 16 (drop 17 s) (omega arith)) in
          (λ i. Some (record { ceder = ceder i; acquirer = acquirer i; category = ez i; day = n })) ∙ key_found n d
