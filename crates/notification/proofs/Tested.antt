-- What the tests of codes, categories, keys and powers come to, one after another.
use mathlib.Core.Path.{◌≡◌, refl, sym, ap, ◌∙◌}
use mathlib.Core.Bool.{Bool, true, false, ◌&&◌}
use mathlib.Core.List.{List, [], ◌∷◌, ◌++◌}
use Prim.Native.Nat.{ℕ, ◌+◌, ◌<◌, ◌≤◌}
use native.Mathlib.Numerals.{add-one}
use native.Mathlib.Omega.{arith}
use lib.Dec.{ltb, eqb}
use lib.ListN.{length, get_or, take, drop}
use lib.Seq.{take-suc, take_all, length-take-le}
use borrow.Author.Tests.{eq-eqb, ne_eqb}
use Rattle.lists.specs.Searches.{every}
use Rattle.calendar.specs.Steps.{steps_of}
use Rattle.notification.specs.Forms.{is_digit, is_code_byte, is_code, is_category, category_text, power_end, all_zero}
use Rattle.notification.specs.Writing.{formed, ranged}
use Rattle.notification.specs.declared.Key.{Key}
use Rattle.notification.specs.declared.Notification.{Notification}

-- ---- and

pub and_assoc : (a b c : Bool) → (a && b && c) ≡ (a && (b && c))
and_assoc true b c = refl
and_assoc false b c = refl

pub and_end : (a : Bool) → (a && true) ≡ a
and_end true = refl
and_end false = refl

pub and_none : (a : Bool) → (a && false) ≡ false
and_none true = refl
and_none false = refl

-- ---- every, with one entry more

module _ {A : Type 0} (p : A → Bool) where
  pub every_last : (s : List A) (x : A) → every p (s ++ x ∷ []) ≡ (every p s && p x)
  every_last [] x = and_end (p x)
  every_last (y ∷ s) x = rw (every_last s x, and_assoc)

  pub every_more : (s : List A) (i : ℕ) (d : A) → i < length s → every p (take (i + 1) s) ≡ (every p (take i s) && p (get_or s i d))
  every_more s i d h = rw (add-one i, take-suc s i d h) (every_last (take i s) (get_or s i d))

-- ---- codes

pub code_none : (s : List ℕ) → (length s ≡ 16 → ⊥) → false ≡ is_code s
unfolding is_code
code_none s h = rw (ne_eqb (length s) 16 h)

pub code_all : (s : List ℕ) (i : ℕ) (good : Bool) → length s ≡ 16 → 16 ≤ i → good ≡ every is_code_byte (take i s) → good ≡ is_code s
unfolding is_code
code_all s i good n h e =
    let t = take_all i s (omega arith) in
    rw (eq-eqb (length s) 16 n) (e ∙ ap (every is_code_byte) t)

-- ---- categories

pub category_five : (s : List ℕ) (d : Bool) → length s ≡ 5 → d ≡ every is_digit (take 5 s) → d ≡ is_category s
unfolding is_category
category_five s d n e = rw (eq-eqb (length s) 5 n, and_end (every is_digit (take 5 s))) e

pub category_six : (s : List ℕ) (d : Bool) → length s ≡ 6 → d ≡ every is_digit (take 5 s) → (d && eqb (get_or s 5 0) 67) ≡ is_category s
unfolding is_category
category_six s d n e = rw (n, e)

pub category_none : (s : List ℕ) → (length s ≡ 5 → ⊥) → (length s ≡ 6 → ⊥) → false ≡ is_category s
unfolding is_category
category_none s h k = rw (ne_eqb (length s) 5 h, ne_eqb (length s) 6 k) (sym (and_none (every is_digit (take 5 s))))

-- ---- a category's text

pub category_short : (c : List ℕ) → length c ≡ 6 → get_or c 5 0 ≡ 0
    → (take 5 c ≡ category_text c) × (5 ≡ length (category_text c)) × (5 ≤ length c)
unfolding category_text
category_short c n e =
    let h : 5 ≤ length c = omega arith in
    rw e (refl, sym (length-take-le 5 c h), h)

pub category_long : (c : List ℕ) → length c ≡ 6 → (get_or c 5 0 ≡ 0 → ⊥)
    → (take 6 c ≡ category_text c) × (6 ≡ length (category_text c)) × (6 ≤ length c)
unfolding category_text
category_long c n e =
    let h : length c ≤ 6 = omega arith in
    rw (ne_eqb (get_or c 5 0) 0 e) (take_all 6 c h, sym n, omega arith)

-- ---- forms and ranges, from their parts

pub formed_tests : (k : Key) (a b d : Bool) (n : ℕ) → a ≡ is_code k.ceder → b ≡ is_code k.acquirer
    → d ≡ is_category (take n k.category) → take n k.category ≡ category_text k.category → (a && b && d) ≡ formed k
unfolding formed
formed_tests k a b d n ea eb ed e = rw (ea, eb, ed, e)

pub ranged_tests : (n : Notification) (s : ℕ) (a z : Bool) → s ≡ steps_of n.key.day → a ≡ every (λ p. ltb p power_end) n.powers
    → z ≡ all_zero (drop n.steps n.powers) → (ltb n.key.day 36525 && eqb n.steps s && a && z) ≡ ranged n
unfolding ranged
ranged_tests n s a z es ea ez = rw (es, ea, ez)
