-- No code, category, moment or label of an object has a quote in it, so that each is a whole token between its two quotes.
use mathlib.Core.Path.{◌≡◌}
use mathlib.Core.Bool.{true, not, ◌&&◌, ◌||◌}
use mathlib.Core.List.{List, ◌∷◌, ◌++◌}
use Prim.Native.Nat.{ℕ, ◌+◌, ◌%◌, ◌<◌, ◌≤◌}
use native.Mathlib.Omega.{arith}
use lib.Dec.{leb, eqb}
use lib.ListN.{length, get_or, take, drop, take-append-drop, drop_of_length-le}
use lib.Seq.{drop-cons}
use borrow.Author.Tests.{eqb-true, leb-true, le-leb, ne_eqb}
use Rattle.lists.specs.Searches.{every}
use Rattle.lists.proofs.Tests.{by_test, and_left, and_right, or_cases}
use Rattle.lists.proofs.Searches.{every_append, every_other}
use Rattle.calendar.specs.Labels.{again_at, label_of}
use Rattle.notification.specs.Forms.{is_digit, is_code_byte, is_code, is_category}
use Rattle.notification.specs.Writing.{label_text}
use Rattle.request.specs.Tokens.{quote}
use Rattle.request.specs.Moments.{is_moment_text, is_day_text, moment_in}
use Rattle.request.specs.Writing.{hour_label}
use Rattle.request.specs.Reading.{is_label_byte}
use Rattle.request.proofs.Whole.{unquoted}
use Rattle.request.proofs.MomentTexts.{moment_back, moment_unquoted}

above_quote : (b : ℕ) → quote < b → unquoted b ≡ true
above_quote b h = rw (ne_eqb b quote (λ (e : b ≡ quote). omega arith))

-- ---- codes

digit_unquoted : (b : ℕ) → is_digit b ≡ true → unquoted b ≡ true
digit_unquoted b e = above_quote b (omega (arith, leb-true 48 b (and_left (leb 48 b) (leb b 57) e)))

code_byte : (b : ℕ) → is_code_byte b ≡ true → unquoted b ≡ true
code_byte b e =
    or_cases (leb 65 b && leb b 90 || is_digit b) (eqb b 45) e
    (λ f. or_cases (leb 65 b && leb b 90) (is_digit b) f
    (λ g. above_quote b (omega (arith, leb-true 65 b (and_left (leb 65 b) (leb b 90) g))))
    (λ g. digit_unquoted b g))
    (λ f. above_quote b (omega (arith, eqb-true b 45 f)))

pub code_unquoted : (s : List ℕ) → is_code s ≡ true → every unquoted s ≡ true
unfolding is_code
code_unquoted s e = every_other is_code_byte unquoted code_byte s (and_right (eqb (length s) 16) (every is_code_byte s) e)

-- ---- categories

-- what follows the five digits
tail_unquoted : (s : List ℕ) → (eqb (length s) 5 || eqb (length s) 6 && eqb (get_or s 5 0) 67) ≡ true → every unquoted (drop 5 s) ≡ true
tail_unquoted s e =
    or_cases (eqb (length s) 5) (eqb (length s) 6 && eqb (get_or s 5 0) 67) e
    (λ a. let n = eqb-true (length s) 5 a in
    let h : length s ≤ 5 = omega arith in
    rw (drop_of_length-le s h))
    (λ a. let n = eqb-true (length s) 6 (and_left (eqb (length s) 6) (eqb (get_or s 5 0) 67) a) in
    let c = eqb-true (get_or s 5 0) 67 (and_right (eqb (length s) 6) (eqb (get_or s 5 0) 67) a) in
    let h : 5 < length s = omega arith in
    let k : length s ≤ 6 = omega arith in
    rw (drop-cons s 5 0 h, c, drop_of_length-le s k))

pub category_unquoted : (s : List ℕ) → is_category s ≡ true → every unquoted s ≡ true
unfolding is_category
category_unquoted s e =
    let d = every is_digit (take 5 s) in
    let t = eqb (length s) 5 || eqb (length s) 6 && eqb (get_or s 5 0) 67 in
    rw (take-append-drop 5 s) at
    (every_append unquoted (take 5 s) (drop 5 s) (every_other is_digit unquoted digit_unquoted (take 5 s) (and_left d t e))
    (tail_unquoted s (and_right d t e)))

-- ---- moments

pub moment_text_unquoted : (s : List ℕ) → is_moment_text s ≡ true → every unquoted s ≡ true
moment_text_unquoted s e = rw (moment_back s e).1 (moment_unquoted (moment_in s))

pub day_text_unquoted : (s : List ℕ) → is_day_text s ≡ true → every unquoted s ≡ true
unfolding is_day_text
day_text_unquoted s e = moment_text_unquoted s (and_left (is_moment_text s) (eqb (moment_in s).second 0) e)

-- ---- labels

label_byte : (b : ℕ) → is_label_byte b ≡ true → unquoted b ≡ true
label_byte b e = and_right (leb 32 b) (unquoted b) (and_left (leb 32 b && unquoted b) (not (eqb b 92)) e)

pub label_unquoted : (s : List ℕ) → every is_label_byte s ≡ true → every unquoted s ≡ true
label_unquoted s e = every_other is_label_byte unquoted label_byte s e

-- the labels that are written are such labels, and have five bytes or nine
label_digit : (n : ℕ) → is_label_byte (48 + n % 10) ≡ true
label_digit n =
    let b = 48 + n % 10 in
    let h : 32 ≤ b = omega arith in
    rw (le-leb 32 b h, ne_eqb b 34 (λ (e : b ≡ 34). omega arith), ne_eqb b 92 (λ (e : b ≡ 92). omega arith))

-- the file's label of a boundary, with an h for its colon
abbrev marked : ℕ → ℕ → List ℕ
marked steps at = take 2 (label_text steps at) ++ 104 ∷ drop 3 (label_text steps at)

marked_label : (steps at : ℕ) → every is_label_byte (marked steps at) ≡ true
unfolding label_of
marked_label steps at = by_test (again_at steps at) (λ t. rw t (simp label_digit)) (λ t. rw t (simp label_digit))

marked_length : (steps at : ℕ) → length (marked steps at) ≤ 9
unfolding label_of
marked_length steps at = by_test (again_at steps at) (λ t. rw t (omega arith)) (λ t. rw t (omega arith))

pub hour_label_lem : (steps at : ℕ) → every is_label_byte (hour_label steps at) ≡ true
unfolding hour_label
hour_label_lem steps at = marked_label steps _

pub hour_length : (steps at : ℕ) → length (hour_label steps at) ≤ 9
unfolding hour_label
hour_length steps at = marked_length steps _
