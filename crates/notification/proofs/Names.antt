-- A key stands in its name and in its header: from either it is read back, and what is read as a key's name or header is that key's.
use mathlib.Core.Path.{◌≡◌, sym, ap, ◌∙◌}
use mathlib.Core.Bool.{true}
use mathlib.Core.List.{List, [], ◌∷◌, ◌++◌}
use Prim.Native.Nat.{ℕ, suc, ◌-◌, ◌<◌}
use native.Mathlib.Omega.{arith}
use lib.Dec.{ltb, eqb}
use lib.ListN.{length, get_or, take, drop, length-append}
use lib.Seq.{take_at, take_all, take-suc, drop-drop, length-take-le}
use borrow.Author.Tests.{eqb-true, ltb-true, lt-ltb}
use Rattle.lists.specs.Searches.{same}
use Rattle.lists.proofs.Tests.{by_test, and_left, and_right, and_true}
use Rattle.lists.proofs.Searches.{same_refl, same_true}
use Rattle.lists.proofs.Parts.{drop_past}
use Rattle.calendar.specs.Texts.{text_of, day_of}
use Rattle.calendar.proofs.TwoWays.{text_read}
use Rattle.notification.specs.Forms.{six_bytes, category_text}
use Rattle.notification.specs.Writing.{key_text, name_of, header_of, formed}
use Rattle.notification.specs.Reading.{day_number, key_in, name_key, header_key, valid_key, is_name, is_header}
use Rattle.notification.specs.declared.Key.{Key}
use Rattle.notification.proofs.Lengths.{date_length, formed_parts}
use Rattle.notification.proofs.Stored.{filled_all, filled_length, six_five}

-- ---- a category's six bytes

pub category_read : (c : List ℕ) → length c ≡ 6 → six_bytes (category_text c) ≡ c
unfolding category_text
category_read c n =
    let h : 5 < length c = omega arith in
    by_test (eqb (get_or c 5 0) 0)
    (λ t. let z = eqb-true (get_or c 5 0) 0 t in
    let s : take 6 c ≡ take 5 c ++ (get_or c 5 0 ∷ []) = take-suc c 5 0 h in
    let u : take 6 c ≡ take 5 c ++ (0 ∷ []) = rw z at s in
    rw t (six_five (take 5 c) (length-take-le 5 c (omega arith)) ∙ sym (sym (take_all 6 c (omega arith)) ∙ u)))
    (λ t. rw t (filled_all 6 c n))

-- ---- a key in its text, whatever byte parts it

pub key_read_lem : (by : ℕ) (k : Key) → formed k ≡ true → k.day < 36525 → length k.category ≡ 6 → key_in (key_text by k) ≡ k
unfolding key_in
key_read_lem by k e h n =
    let f = formed_parts k e in
    let s = key_text by k in
    let c = category_text k.category in
    let d = text_of k.day ++ by ∷ c in
    let a = k.acquirer ++ by ∷ d in
    let d17 : drop 17 s ≡ a = drop_past k.ceder by a 17 (omega arith) in
    let d34 : drop 34 s ≡ d = sym (drop-drop 17 17 s) ∙ (ap (drop 17) d17 ∙ drop_past k.acquirer by d 17 (omega arith)) in
    let d43 : drop 43 s ≡ c = sym (drop-drop 9 34 s) ∙ (ap (drop 9) d34 ∙ drop_past (text_of k.day) by c 9 (omega (arith, date_length k.day))) in
    let p1 : take 16 s ≡ k.ceder = take_at k.ceder (by ∷ a) 16 f.ceder_length in
    let p2 : take 16 (drop 17 s) ≡ k.acquirer = ap (take 16) d17 ∙ take_at k.acquirer (by ∷ d) 16 f.acquirer_length in
    let p3 : six_bytes (drop 43 s) ≡ k.category = ap six_bytes d43 ∙ category_read k.category n in
    let p4 : take 8 (drop 34 s) ≡ text_of k.day = ap (take 8) d34 ∙ take_at (text_of k.day) (by ∷ c) 8 (date_length k.day) in
    let p5 : day_number (day_of (take 8 (drop 34 s))) ≡ k.day = ap (λ (t : List ℕ). day_number (day_of t)) p4 ∙ ap day_number (text_read k.day h) in
    λ i. record { ceder = p1 i; acquirer = p2 i; category = p3 i; day = p5 i }

-- ---- names and headers made from a key

module _ (k : Key) (e : formed k ≡ true) (h : k.day < 36525) (n : length k.category ≡ 6) where
  valid : valid_key k ≡ true
  valid = and_true (formed k) (ltb k.day 36525) e (lt-ltb k.day 36525 h)

  pub name_key_lem : name_key (name_of k) ≡ k
  unfolding name_key name_of
  name_key_lem =
      let s = key_text 95 k in
      let t : List ℕ = 46 ∷ 99 ∷ 115 ∷ 118 ∷ [] in
      let l : length s ≡ suc (suc (suc (suc (length (s ++ t))))) - 8 = simp length-append (omega arith) in
      rw (take_at s t (suc (suc (suc (suc (length (s ++ t))))) - 8) l) (key_read_lem 95 k e h n)

  pub header_key_lem : header_key (header_of k) ≡ k
  unfolding header_key header_of
  header_key_lem =
      let s = key_text 59 k in
      let l : length s ≡ length (s ++ 59 ∷ []) - 1 = simp length-append (omega arith) in
      rw (take_at s (59 ∷ []) (length (s ++ 59 ∷ []) - 1) l) (key_read_lem 59 k e h n)

  pub name_made : is_name (name_of k) ≡ true
  unfolding is_name
  name_made = rw (name_key_lem, valid) (same_refl (name_of k))

  pub header_made : is_header (header_of k) ≡ true
  unfolding is_header
  header_made = rw (header_key_lem, valid) (same_refl (header_of k))

-- ---- what is read as a name

pub record Named (name : List ℕ) : Type 0 where
  pub its_form : formed (name_key name) ≡ true
  pub its_day : (name_key name).day < 36525
  pub its_six : length (name_key name).category ≡ 6
  pub its_name : name ≡ name_of (name_key name)

six_long : (name : List ℕ) → length (name_key name).category ≡ 6
unfolding name_key key_in
six_long name = filled_length 6 (drop 43 (take (length name - 8) (drop 4 name)))

pub name_back : (name : List ℕ) → is_name name ≡ true → Named name
unfolding is_name
name_back name e =
    let k = name_key name in
    let v = valid_key k in
    let w = same name (name_of k) in
    let f = and_left (formed k) (ltb k.day 36525) (and_left v w e) in
    let t = same_true name (name_of k) (and_right v w e) in
    record {
      its_form = f;
      its_day = ltb-true k.day 36525 (and_right (formed k) (ltb k.day 36525) (and_left v w e));
      its_six = six_long name;
      its_name = t;
    }
