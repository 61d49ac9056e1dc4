-- How long the parts of a notification's texts are.
use mathlib.Core.Path.{◌≡◌}
use mathlib.Core.Bool.{true, ◌&&◌, ◌||◌}
use mathlib.Core.List.{List, [], ◌∷◌, ◌++◌}
use Prim.Native.Nat.{ℕ, suc, ◌+◌, ◌*◌, ◌≤◌}
use native.Mathlib.Omega.{arith}
use lib.Dec.{ltb, eqb}
use lib.ListN.{length, get_or, take, length-append, length-take}
use borrow.Author.Tests.{eqb-true}
use Rattle.lists.specs.Searches.{every}
use Rattle.lists.proofs.Tests.{by_test, and_left, and_right, or_cases}
use Rattle.calendar.specs.Texts.{text_of}
use Rattle.calendar.specs.Labels.{again_at, label_of}
use Rattle.notification.specs.Forms.{is_code, is_category, is_digit, is_code_byte, category_text, digits, places}
use Rattle.notification.specs.Writing.{key_text, name_of, header_of, label_text, labels_text, power_text, lines_of, body_of, formed}
use Rattle.notification.specs.declared.Key.{Key}
use Rattle.notification.specs.declared.Notification.{Notification}

-- ---- what the calendar gives

pub date_length : (day : ℕ) → length (text_of day) ≡ 8
unfolding text_of
date_length day = by_test (ltb day 36525) (λ t. rw t) (λ t. rw t)

-- a label has its length, and that is five bytes, or nine
pub label_len : (steps at : ℕ) → length (label_text steps at) ≡ (label_of steps at).len
unfolding label_of
label_len steps at = by_test (again_at steps at) (λ t. rw t) (λ t. rw t)

pub label_length : (steps at : ℕ) → (5 ≤ length (label_text steps at)) × (length (label_text steps at) ≤ 9)
unfolding label_of
label_length steps at =
    by_test (again_at steps at) (λ t. rw t (omega arith, omega arith)) (λ t. rw t (omega arith, omega arith))

-- ---- a step's line

pub labels_length : (steps k : ℕ) → (12 ≤ length (labels_text steps k)) × (length (labels_text steps k) ≤ 20)
unfolding labels_text
labels_length steps k =
    let a = label_length steps k in
    let b = label_length steps (suc k) in
    simp length-append (omega arith, omega arith)

pub digits_length : (p : ℕ) → (1 ≤ length (digits p)) × (length (digits p) ≤ 4)
unfolding digits
digits_length p =
    by_test (ltb p 10) (λ t. rw t (omega arith, omega arith))
    (λ t. by_test (ltb p 100) (λ u. rw (t, u) (omega arith, omega arith))
    (λ u. by_test (ltb p 1000) (λ v. rw (t, u, v) (omega arith, omega arith)) (λ v. rw (t, u, v) (omega arith, omega arith))))

pub line_length : (steps k p : ℕ) → length (labels_text steps k ++ power_text p) ≤ 25
line_length steps k p = simp length-append (omega (arith, labels_length steps k, digits_length p))

-- ---- names and headers

pub code_length : (s : List ℕ) → is_code s ≡ true → length s ≡ 16
unfolding is_code
code_length s e = eqb-true (length s) 16 (and_left (eqb (length s) 16) (every is_code_byte s) e)

pub category_length : (s : List ℕ) → is_category s ≡ true → (5 ≤ length s) × (length s ≤ 6)
unfolding is_category
category_length s e =
    or_cases (eqb (length s) 5) (eqb (length s) 6 && eqb (get_or s 5 0) 67)
    (and_right (every is_digit (take 5 s)) (eqb (length s) 5 || eqb (length s) 6 && eqb (get_or s 5 0) 67) e)
    (λ a. let n = eqb-true (length s) 5 a in (omega arith, omega arith))
    (λ a. let n = eqb-true (length s) 6 (and_left (eqb (length s) 6) (eqb (get_or s 5 0) 67) a) in (omega arith, omega arith))

-- the parts of a key of a right form
pub record Formed (k : Key) : Type 0 where
  pub ceder_code : is_code k.ceder ≡ true
  pub acquirer_code : is_code k.acquirer ≡ true
  pub right_category : is_category (category_text k.category) ≡ true
  pub ceder_length : length k.ceder ≡ 16
  pub acquirer_length : length k.acquirer ≡ 16
  pub category_least : 5 ≤ length (category_text k.category)
  pub category_most : length (category_text k.category) ≤ 6

pub formed_parts : (k : Key) → formed k ≡ true → Formed k
unfolding formed
formed_parts k e =
    let a = is_code k.ceder in
    let b = is_code k.acquirer in
    let c = is_category (category_text k.category) in
    let ea = and_left a b (and_left (a && b) c e) in
    let eb = and_right a b (and_left (a && b) c e) in
    let ec = and_right (a && b) c e in
    let n = category_length (category_text k.category) ec in
    record {
      ceder_code = ea;
      acquirer_code = eb;
      right_category = ec;
      ceder_length = code_length k.ceder ea;
      acquirer_length = code_length k.acquirer eb;
      category_least = n.0;
      category_most = n.1;
    }

pub key_length : (by : ℕ) (k : Key) → formed k ≡ true → length (key_text by k) ≡ 43 + length (category_text k.category)
key_length by k e = let f = formed_parts k e in simp length-append (omega (arith, date_length k.day))

pub name_length : (k : Key) → formed k ≡ true → length (name_of k) ≡ 51 + length (category_text k.category)
unfolding name_of
name_length k e = omega (arith, key_length 95 k e, length-append (key_text 95 k) (46 ∷ 99 ∷ 115 ∷ 118 ∷ []))

pub header_length : (k : Key) → formed k ≡ true → length (header_of k) ≡ 44 + length (category_text k.category)
unfolding header_of
header_length k e = omega (arith, key_length 59 k e, length-append (key_text 59 k) (59 ∷ []))

-- 56 or 57, 49 or 50: by whether the category ends with C
pub name_between : (k : Key) → formed k ≡ true → (56 ≤ length (name_of k)) × (length (name_of k) ≤ 57)
name_between k e =
    let f = formed_parts k e in
    let n = name_length k e in
    (omega arith, omega arith)

pub header_between : (k : Key) → formed k ≡ true → (49 ≤ length (header_of k)) × (length (header_of k) ≤ 50)
header_between k e =
    let f = formed_parts k e in
    let n = header_length k e in
    (omega arith, omega arith)

-- ---- bodies

pub lines_length : (steps k : ℕ) (ps : List ℕ) → length (lines_of steps k ps) ≤ 26 * length ps
unfolding lines_of
lines_length steps k [] = omega arith
lines_length steps k (p ∷ ps) =
    rw (length-append (labels_text steps k ++ power_text p)) (omega (arith, lines_length steps (suc k) ps, line_length steps k p))

-- a day has at most 50 steps, so that a body is below the bound for one
pub body_length : (n : Notification) → formed n.key ≡ true → n.steps ≤ places → length (body_of n) ≤ 1351
unfolding body_of
body_length n e h =
    let l = lines_length n.steps 0 (take n.steps n.powers) in
    let t = length-take n.steps n.powers in
    simp length-append (omega (arith, header_between n.key e))
