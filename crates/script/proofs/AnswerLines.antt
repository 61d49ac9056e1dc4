-- The pieces of an answer's line, put one after another.
use mathlib.Core.Path.{◌≡◌, refl, sym, ap, ◌∙◌}
use mathlib.Core.Bool.{Bool, true, false}
use mathlib.Core.List.{List, [], ◌∷◌, ◌++◌, append_assoc}
use Prim.Native.Nat.{ℕ, suc, min, ◌+◌, ◌*◌, ◌%◌, ◌<◌, ◌≤◌}
use native.Mathlib.Nat.{add-zero}
use native.Mathlib.Numerals.{add-one}
use native.Mathlib.Omega.{arith}
use lib.Dec.{eqb, ltb}
use lib.ListN.{length, get_or, set, take}
use lib.Seq.{take-suc, take_all, length-take-le}
use borrow.Author.Tests.{ltb-true, ltb-false, eq-eqb, ne_eqb, le-leb, lt-leb}
use Rattle.lists.proofs.Tests.{by_test}
use Rattle.writer.specs.Placing.{Placed}
use Rattle.writer.proofs.Placed.{placed_none, placed_length, placed_end, placed_join}
use Rattle.answers.specs.declared.Said.{Said}
use Rattle.script.specs.Numbers.{decimal}
use Rattle.script.specs.Lines.{comma}
use Rattle.script.specs.Answers.{value_text, values_text, said_text, answer_line, line_room, answer_put, answer_end}
use Rattle.script.proofs.Decimals.{word_end, decimal_few, decimal_most}

-- ---- a value

pub letter_placed : (l : List ℕ) (at v : ℕ) (t : Bool) → t ≡ true → Placed l at (comma ∷ value_text t v) (set (set l at comma) (at + 1) (v % 256)) (at + 2)
unfolding value_text
letter_placed l at v t k = let e : at + 1 ≡ suc at = omega arith in record { holds = rw (k, e); follows = rw k }

pub number_placed : (l : List ℕ) (at v : ℕ) (t : Bool) (after : List ℕ) (next : ℕ) → t ≡ false → v < 4294967296
    → Placed (set l at comma) (at + 1) (decimal v) after next → Placed l at (comma ∷ value_text t v) after next × (next ≤ at + 11)
unfolding value_text
number_placed l at v t after next k h p =
    let e : at + 1 ≡ suc at = omega arith in
    let f = p.follows in
    (record { holds = p.holds ∙ rw (k, e); follows = rw k (omega arith) }, omega (arith, decimal_few v h))

-- ---- the values

values_end : (letter j : ℕ) (xs : List ℕ) (x : ℕ)
    → values_text letter j (xs ++ x ∷ []) ≡ values_text letter j xs ++ comma ∷ value_text (eqb (j + length xs) letter) x
unfolding values_text
values_end letter j [] x = rw add-zero (ap (λ s. comma ∷ s) (append_none (value_text (eqb j letter) x)))
  where
    append_none : (s : List ℕ) → s ++ [] ≡ s
    append_none [] = refl
    append_none (y ∷ s) = ap (λ t. y ∷ t) (append_none s)
values_end letter j (y ∷ xs) x =
    let e : suc j + length xs ≡ j + suc (length xs) = omega arith in
    ap (λ s. comma ∷ s)
    (ap (λ s. value_text (eqb j letter) y ++ s) (values_end letter (suc j) xs x ∙ rw e) ∙ sym (append_assoc (value_text (eqb j letter) y) (values_text letter (suc j) xs) _))

pub record Valued (before : List ℕ) (at letter : ℕ) (items now : List ℕ) (next i : ℕ) : Type 0 where
  pub room : next ≤ at + 11 * i
  pub put : Placed before at (values_text letter 0 (take i items)) now next

pub valued_none : (before : List ℕ) (at letter : ℕ) (items : List ℕ) → Valued before at letter items before at 0
unfolding values_text
valued_none before at letter items = record { room = omega arith; put = placed_none before at }

module _ {before : List ℕ} {at letter : ℕ} {items now : List ℕ} {next i : ℕ} (v : Valued before at letter items now next i) (few : length items ≤ 3) where
  pub valued_more : {now' : List ℕ} {next' : ℕ} → i < length items → Placed now next (comma ∷ value_text (eqb i letter) (get_or items i 0)) now' next' × (next' ≤ next + 11)
      → Valued before at letter items now' next' (i + 1)
  valued_more h p =
      let r = v.room in
      let q = p.1 in
      let n = length-take-le i items (omega arith) in
      let z : 0 + i ≡ i = omega arith in
      let e : values_text letter 0 (take (i + 1) items) ≡ values_text letter 0 (take i items) ++ comma ∷ value_text (eqb i letter) (get_or items i 0) = rw (add-one i, take-suc items i 0 h) (rw (n, z) at (values_end letter 0 (take i items) (get_or items i 0))) in
      record { room = omega arith; put = rw e (placed_join v.put p.0) }

-- ---- the rest of the line

module _ (l : List ℕ) (at : ℕ) (said : Said) (b : List ℕ) (second : ℕ) where
  pub ok_placed : (c : List ℕ) (end : ℕ) → said.number ≡ 0 → Placed l at (comma ∷ 111 ∷ 107 ∷ []) b second
      → Placed b second (values_text said.letter 0 (take said.count said.values)) c end × (end ≤ second + 33)
      → Placed l at (said_text said) (set c end 10) (end + 1) × (end + 1 ≤ at + 37)
  unfolding said_text
  ok_placed c end e p q =
      let t = eq-eqb said.number 0 e in
      let f = p.follows in
      let r = q.1 in
      (rw t (placed_end l at _ c end 10 (placed_join p q.0)), omega arith)

  pub no_placed : (c : List ℕ) (third : ℕ) (d : List ℕ) (end : ℕ) → (said.number ≡ 0 → ⊥) → Placed l at (comma ∷ 110 ∷ 111 ∷ []) b second
      → Placed b second (comma ∷ value_text false said.number) c third × (third ≤ second + 11)
      → Placed c third (comma ∷ value_text false said.place) d end × (end ≤ third + 11)
      → Placed l at (said_text said) (set d end 10) (end + 1) × (end + 1 ≤ at + 37)
  unfolding said_text value_text
  no_placed c third d end ne p q r =
      let t = ne_eqb said.number 0 ne in
      let f = p.follows in
      let u = q.1 in
      let v = r.1 in
      (rw t (placed_end l at _ d end 10 (placed_join p (placed_join q.0 r.0))), omega arith)

pub answer_placed : (l : List ℕ) (at number : ℕ) (said : Said) (b : List ℕ) (second : ℕ) (c : List ℕ) (end : ℕ) → number < word_end
    → Placed l at (decimal number) b second → Placed b second (said_text said) c end × (end ≤ second + 37)
    → Placed l at (answer_line number said) c end × (end ≤ at + 64)
unfolding answer_line
answer_placed l at number said b second c end h p q =
    let f = p.follows in
    let r = q.1 in
    (placed_join p q.0, omega (arith, decimal_most number h))

-- ---- the whole line, where there is room for the longest

module _ (out : List ℕ) (at number : ℕ) (said : Said) where
  pub answer_put_lem : (after : List ℕ) (next : ℕ) → at + line_room ≤ length out → Placed out at (answer_line number said) after next →
      (after ≡ answer_put out at number said) × (next ≡ answer_end out at number said)
  unfolding answer_put answer_end
  answer_put_lem after next h p = let t = le-leb (at + line_room) (length out) h in (rw t p.holds, rw t p.follows)

  pub answer_none : length out < at + line_room → (out ≡ answer_put out at number said) × (at ≡ answer_end out at number said)
  unfolding answer_put answer_end
  answer_none h = let t = lt-leb (at + line_room) (length out) h in (rw t, rw t)
