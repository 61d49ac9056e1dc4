-- No line of a notification's file has an LF in it.
use mathlib.Core.Path.{◌≡◌, refl}
use mathlib.Core.Bool.{true, ◌&&◌, ◌||◌}
use mathlib.Core.List.{List, [], ◌∷◌, ◌++◌}
use Prim.Native.Nat.{ℕ, suc, ◌+◌, ◌<◌, ◌≤◌}
use native.Mathlib.Omega.{arith}
use lib.Dec.{ltb, leb, eqb}
use lib.ListN.{length, get_or, take, drop, take-append-drop, drop_of_length-le}
use lib.Seq.{drop-cons}
use borrow.Author.Tests.{eqb-true, leb-true, lt-ltb, ne_eqb}
use Rattle.lists.specs.Searches.{every}
use Rattle.lists.proofs.Tests.{by_test, and_left, and_right, or_cases}
use Rattle.lists.proofs.Searches.{every_append, every_other}
use Rattle.calendar.specs.Texts.{text_of}
use Rattle.calendar.specs.Labels.{again_at, label_of}
use Rattle.notification.specs.Forms.{is_code, is_category, is_digit, is_code_byte, category_text, digits}
use Rattle.notification.specs.Writing.{key_text, header_of, label_text, labels_text, power_text, formed}
use Rattle.notification.specs.declared.Key.{Key}
use Rattle.notification.proofs.Lines.{in_line}
use Rattle.notification.proofs.Lengths.{formed_parts}

-- a byte above LF
pub byte_in : (b : ℕ) → 10 < b → in_line b ≡ true
byte_in b h = rw (ne_eqb b 10 (λ (e : b ≡ 10). omega arith))

pub digit_in : (d : ℕ) → in_line (48 + d) ≡ true
digit_in d = byte_in (48 + d) (omega arith)

-- ---- what the calendar gives

pub date_in : (day : ℕ) → day < 36525 → every in_line (text_of day) ≡ true
unfolding text_of
date_in day h = rw (lt-ltb day 36525 h) (simp digit_in)

pub label_in : (steps at : ℕ) → every in_line (label_text steps at) ≡ true
unfolding label_of
label_in steps at = by_test (again_at steps at) (λ t. rw t (simp digit_in)) (λ t. rw t (simp digit_in))

-- ---- a step's line

pub digits_in : (p : ℕ) → every in_line (digits p) ≡ true
unfolding digits
digits_in p =
    by_test (ltb p 10) (λ t. rw t (simp digit_in))
    (λ t. by_test (ltb p 100) (λ u. rw (t, u) (simp digit_in))
    (λ u. by_test (ltb p 1000) (λ v. rw (t, u, v) (simp digit_in)) (λ v. rw (t, u, v) (simp digit_in))))

pub labels_in : (steps k : ℕ) → every in_line (labels_text steps k) ≡ true
unfolding labels_text
labels_in steps k =
    every_append in_line (label_text steps k) (59 ∷ (label_text steps (suc k) ++ 59 ∷ [])) (label_in steps k)
    (every_append in_line (label_text steps (suc k)) (59 ∷ []) (label_in steps (suc k)) refl)

pub line_in : (steps k p : ℕ) → every in_line (labels_text steps k ++ power_text p) ≡ true
line_in steps k p =
    every_append in_line (labels_text steps k) (power_text p) (labels_in steps k) (every_append in_line (digits p) (59 ∷ []) (digits_in p) refl)

-- ---- a header

digit_byte : (b : ℕ) → is_digit b ≡ true → in_line b ≡ true
digit_byte b e = byte_in b (omega (arith, leb-true 48 b (and_left (leb 48 b) (leb b 57) e)))

code_byte : (b : ℕ) → is_code_byte b ≡ true → in_line b ≡ true
code_byte b e =
    or_cases (leb 65 b && leb b 90 || is_digit b) (eqb b 45) e
    (λ f. or_cases (leb 65 b && leb b 90) (is_digit b) f
    (λ g. byte_in b (omega (arith, leb-true 65 b (and_left (leb 65 b) (leb b 90) g))))
    (λ g. digit_byte b g))
    (λ f. byte_in b (omega (arith, eqb-true b 45 f)))

code_in : (s : List ℕ) → is_code s ≡ true → every in_line s ≡ true
unfolding is_code
code_in s e = every_other is_code_byte in_line code_byte s (and_right (eqb (length s) 16) (every is_code_byte s) e)

-- what follows the five digits
tail_in : (s : List ℕ) → (eqb (length s) 5 || eqb (length s) 6 && eqb (get_or s 5 0) 67) ≡ true → every in_line (drop 5 s) ≡ true
tail_in s e =
    or_cases (eqb (length s) 5) (eqb (length s) 6 && eqb (get_or s 5 0) 67) e
    (λ a. let n = eqb-true (length s) 5 a in
    let h : length s ≤ 5 = omega arith in
    rw (drop_of_length-le s h))
    (λ a. let n = eqb-true (length s) 6 (and_left (eqb (length s) 6) (eqb (get_or s 5 0) 67) a) in
    let c = eqb-true (get_or s 5 0) 67 (and_right (eqb (length s) 6) (eqb (get_or s 5 0) 67) a) in
    let h : 5 < length s = omega arith in
    let k : length s ≤ 6 = omega arith in
    rw (drop-cons s 5 0 h, c, drop_of_length-le s k))

category_in : (s : List ℕ) → is_category s ≡ true → every in_line s ≡ true
unfolding is_category
category_in s e =
    let d = every is_digit (take 5 s) in
    let t = eqb (length s) 5 || eqb (length s) 6 && eqb (get_or s 5 0) 67 in
    rw (take-append-drop 5 s) at
    (every_append in_line (take 5 s) (drop 5 s) (every_other is_digit in_line digit_byte (take 5 s) (and_left d t e)) (tail_in s (and_right d t e)))

pub header_in : (k : Key) → formed k ≡ true → k.day < 36525 → every in_line (header_of k) ≡ true
unfolding header_of
header_in k e h =
    let f = formed_parts k e in
    let c = category_text k.category in
    let d = text_of k.day ++ 59 ∷ c in
    let a = k.acquirer ++ 59 ∷ d in
    every_append in_line (key_text 59 k) (59 ∷ [])
    (every_append in_line k.ceder (59 ∷ a) (code_in k.ceder f.ceder_code)
    (every_append in_line k.acquirer (59 ∷ d) (code_in k.acquirer f.acquirer_code)
    (every_append in_line (text_of k.day) (59 ∷ c) (date_in k.day h) (category_in c f.right_category))))
    refl
