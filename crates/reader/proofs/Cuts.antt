-- A TEXT IN PIECES: the lines of two texts together are the lines of the first, and those of its unfinished line with the second. Of a long
-- line only the first 64 bytes count.
use mathlib.Core.Path.{◌≡◌, refl, sym, ap, ◌∙◌}
use mathlib.Core.Bool.{Bool, true, false, ◌||◌}
use mathlib.Core.List.{List, [], ◌∷◌, ◌++◌}
use Prim.Native.Nat.{ℕ, zero, suc, ◌+◌, ◌-◌, ◌<◌, ◌≤◌, min}
use native.Mathlib.Nat.{zero-add}
use native.Mathlib.Numerals.{add-one}
use native.Mathlib.Omega.{arith}
use lib.Dec.{ltb, eqb}
use lib.ListN.{length, get_or, take, drop, length-append, length-take, length-drop}
use lib.Seq.{drop-drop, drop-append-le, split_at, take-take}
use borrow.Author.Tests.{ltb-true, ltb-false, lt-ltb, eqb-true, eqb-false, eq-eqb, ne_eqb}
use Rattle.lists.specs.Searches.{every, same, byte_from}
use Rattle.lists.proofs.Tests.{by_test, and_left, and_right, and_true, or_left, or_right, or_cases}
use Rattle.lists.proofs.Searches.{same_true}
use Rattle.lists.proofs.Parts.{drop_past}
use Rattle.notification.specs.Forms.{digits}
use Rattle.notification.specs.Writing.{header_of, labels_text, formed}
use Rattle.notification.specs.Reading.{onto, lines_in, header_key, valid_key, is_header, has_labels, rest_of, power_value, is_power}
use Rattle.reader.specs.Walking.{line_power, whole_to, rest_in}
use Rattle.notification.proofs.Lines.{in_line}
use Rattle.notification.proofs.Lengths.{labels_length, digits_length, header_between}
use Rattle.notification.proofs.Powers.{power_back}
use Rattle.reader.proofs.Ends.{lines_none, line_ends, whole_break}

onto_some : (b : ℕ) (ls : List (List ℕ)) → 0 < length ls → 0 < length (onto false b ls)
onto_some b [] h = absurd (omega arith)
onto_some b (l ∷ ls) h = omega arith

onto_append : (b : ℕ) (ls ms : List (List ℕ)) → 0 < length ls → onto false b (ls ++ ms) ≡ onto false b ls ++ ms
onto_append b [] ms h = absurd (omega arith)
onto_append b (l ∷ ls) ms h = refl

-- a text with a whole line has a line
some_lines : (s : List ℕ) → ltb 0 (whole_to s) ≡ true → 0 < length (lines_in s)
unfolding whole_to lines_in
some_lines [] e = absurd (omega (arith, ltb-true 0 0 e))
some_lines (b ∷ s) e =
    by_test (eqb b 10)
    (λ t. rw t (omega arith))
    (λ t. by_test (ltb 0 (whole_to s))
    (λ u. rw t (onto_some b (lines_in s) (some_lines s u)))
    (λ u. absurd (omega (arith, ltb-true 0 0 (rw (t, u) at e)))))

-- a byte more in front: it is in a whole line where it is LF or one follows, else in the unfinished one
abbrev in_whole : ℕ → List ℕ → Bool
in_whole b s = eqb b 10 || ltb 0 (whole_to s)

or_some : (a : Bool) (n : ℕ) → 0 < n → (a || ltb 0 n) ≡ true
or_some true n h = refl
or_some false n h = lt-ltb 0 n h

module _ (b : ℕ) (s : List ℕ) where
  whole_more : in_whole b s ≡ true → whole_to (b ∷ s) ≡ whole_to s + 1
  unfolding whole_to
  whole_more e = rw e

  rest_more : in_whole b s ≡ true → rest_in (b ∷ s) ≡ rest_in s
  rest_more e = rw (whole_more e, add-one (whole_to s))

  whole_same : in_whole b s ≡ false → whole_to (b ∷ s) ≡ 0
  unfolding whole_to
  whole_same e = rw e

-- ---- the lines of two texts

pub lines_append : (s t : List ℕ) → lines_in (s ++ t) ≡ lines_in s ++ lines_in (rest_in s ++ t)
unfolding lines_in
lines_append [] t = unfold whole_to in refl
lines_append (b ∷ s) t =
    let i = lines_append s t in
    by_test (eqb b 10)
    (λ e. rw (rest_more b s (rw e), e, i))
    (λ e. by_test (ltb 0 (whole_to s))
    (λ u. rw (rest_more b s (rw (e, u)), e, i) (onto_append b (lines_in s) (lines_in (rest_in s ++ t)) (some_lines s u)))
    (λ u. rw (whole_same b s (rw (e, u)), e, lines_none s (omega (arith, ltb-false 0 (whole_to s) u)))))

whole_append : (s t : List ℕ) → whole_to (s ++ t) ≡ whole_to s + whole_to (rest_in s ++ t)
whole_append [] t = unfold whole_to in sym (zero-add (whole_to t))
whole_append (b ∷ s) t =
    let i = whole_append s t in
    by_test (in_whole b s)
    (λ e. let m = whole_more b s e in
    let w = whole_to (s ++ t) in
    let more : ltb 0 (whole_to s) ≡ true → in_whole b (s ++ t) ≡ true = λ a. or_some (eqb b 10) w (omega (arith, i, ltb-true 0 (whole_to s) a)) in
    let h : in_whole b (s ++ t) ≡ true = or_cases (eqb b 10) (ltb 0 (whole_to s)) e (λ a. rw a) more in
    let r = ap (λ (u : List ℕ). whole_to (u ++ t)) (rest_more b s e) in
    omega (arith, i, m, whole_more b (s ++ t) h, r))
    (λ e. rw (whole_same b s e) (sym (zero-add (whole_to (b ∷ (s ++ t))))))

whole_within : (s : List ℕ) → whole_to s ≤ length s
whole_within [] = unfold whole_to in omega arith
whole_within (b ∷ s) =
    let i = whole_within s in
    by_test (in_whole b s) (λ e. omega (arith, whole_more b s e)) (λ e. omega (arith, whole_same b s e))

-- WHAT A LATER PIECE ADDS: the unfinished line of both is that of the unfinished line and the later piece
pub rest_append : (s t : List ℕ) → rest_in (s ++ t) ≡ rest_in (rest_in s ++ t)
rest_append s t =
    let w = whole_to s in
    let r = whole_to (rest_in s ++ t) in
    ap (λ (n : ℕ). drop n (s ++ t)) (whole_append s t) ∙ (sym (drop-drop r w (s ++ t)) ∙ ap (drop r) (drop-append-le w s t (whole_within s)))

-- what is unfinished after a whole line is what is after it
pub rest_break : (l t : List ℕ) → rest_in (l ++ 10 ∷ t) ≡ rest_in t
rest_break l t =
    ap (λ (n : ℕ). drop n (l ++ 10 ∷ t)) (whole_break l t)
    ∙ (sym (drop-drop (whole_to t) (length l + 1) (l ++ 10 ∷ t)) ∙ ap (drop (whole_to t)) (drop_past l 10 t (length l + 1) refl))

-- ---- the unfinished line

-- it has no LF
pub rest_in_lem : (s : List ℕ) → every in_line (rest_in s) ≡ true
rest_in_lem [] = unfold whole_to in refl
rest_in_lem (b ∷ s) =
    let i = rest_in_lem s in
    by_test (in_whole b s)
    (λ e. rw (rest_more b s e) i)
    (λ e. let w = ltb-false 0 (whole_to s) (or_right (eqb b 10) (ltb 0 (whole_to s)) e) in
    let z : whole_to s ≡ 0 = omega arith in
    rw (whole_same b s e) (and_true (in_line b) (every in_line s) (rw (or_left (eqb b 10) (ltb 0 (whole_to s)) e)) (rw z at i)))

-- it is empty where the text ends with LF
last_whole : (b : ℕ) (s : List ℕ) → eqb (whole_to (b ∷ s)) (suc (length s)) ≡ eqb (get_or (b ∷ s) (length s) 0) 10
last_whole b [] = unfold whole_to in by_test (eqb b 10) (λ t. rw t) (λ t. rw t)
last_whole b (c ∷ s) =
    let i = last_whole c s in
    let w = whole_to (c ∷ s) in
    let v = whole_to (b ∷ c ∷ s) in
    let n = suc (length s) in
    by_test (eqb (get_or (c ∷ s) (length s) 0) 10)
    (λ t. let m = eqb-true w n (i ∙ t) in
    eq-eqb v (suc n) (omega (arith, whole_more b (c ∷ s) (or_some (eqb b 10) w (omega arith)))) ∙ sym t)
    (λ t. let m = eqb-false w n (i ∙ t) in
    ne_eqb v (suc n)
    (λ (z : v ≡ suc n). by_test (in_whole b (c ∷ s))
    (λ u. m (omega (arith, whole_more b (c ∷ s) u)))
    (λ u. omega (arith, whole_same b (c ∷ s) u)))
    ∙ sym t)

rest_length : (s : List ℕ) → length (take 64 (rest_in s)) ≡ min 64 (length s - whole_to s)
rest_length s = length-take 64 (rest_in s) ∙ ap (min 64) (length-drop (whole_to s) s)

pub rest_ended : (s : List ℕ) → 0 < length s → eqb (length (take 64 (rest_in s))) 0 ≡ eqb (get_or s (length s - 1) 0) 10
rest_ended [] h = absurd (omega arith)
rest_ended (b ∷ s) h =
    let t = b ∷ s in
    let n : suc (length s) - 1 ≡ length s = omega arith in
    let l = rest_length t in
    let w = whole_within t in
    let i = last_whole b s ∙ ap (λ (k : ℕ). eqb (get_or t k 0) 10) (sym n) in
    let m = length (take 64 (rest_in t)) in
    by_test (eqb (whole_to t) (suc (length s)))
    (λ e. let z = eqb-true (whole_to t) (suc (length s)) e in eq-eqb m 0 (omega arith) ∙ (sym e ∙ i))
    (λ e. let z = eqb-false (whole_to t) (suc (length s)) e in ne_eqb m 0 (λ (o : m ≡ 0). z (omega arith)) ∙ (sym e ∙ i))

pub rest_empty : (s : List ℕ) → length (take 64 (rest_in s)) ≡ 0 → rest_in s ≡ []
rest_empty s e = empty (rest_in s) (omega (arith, rest_length s, length-drop (whole_to s) s))
  where
    empty : (l : List ℕ) → length l ≡ 0 → l ≡ []
    empty [] z = refl
    empty (x ∷ l) z = absurd (omega arith)

-- ---- the first LF of a piece

module _ (p : List ℕ) (e : ℕ) (q : e ≡ byte_from 10 p 0) where
  pub first_in : every in_line (take e p) ≡ true
  first_in = let n : e - 0 ≡ e = omega arith in rw n at (line_ends p {from = 0} {r = e} (omega arith) q).no_break

  pub first_split : e < length p → p ≡ take e p ++ 10 ∷ drop (e + 1) p
  first_split h =
      let b = (line_ends p {from = 0} {r = e} (omega arith) q).a_break h in
      rw (add-one e) (split_at p e 0 h ∙ ap (λ (x : ℕ). take e p ++ x ∷ drop (suc e) p) b)

-- ---- of a long line the first 64 bytes count

pub take_both : (n : ℕ) (r q : List ℕ) → take n (take n r ++ q) ≡ take n (r ++ q)
take_both zero r q = refl
take_both (suc n) [] q = refl
take_both (suc n) (x ∷ r) q = ap (λ (t : List ℕ). x ∷ t) (take_both n r q)

-- a header has at most 50 bytes, and a power five with its `;`
pub long_header : (l : List ℕ) → 50 < length l → is_header l ≡ false
unfolding is_header
long_header l h =
    let k = header_key l in
    let v = valid_key k in
    let w = same l (header_of k) in
    by_test (is_header l)
    (λ t. let f = and_left (formed k) (ltb k.day 36525) (and_left v w t) in
    absurd (omega (arith, ap length (same_true l (header_of k) (and_right v w t)), header_between k f)))
    (λ t. t)

long_power : (s : List ℕ) → 5 < length s → is_power s ≡ false
long_power s h =
    let v = power_value s in
    by_test (is_power s)
    (λ t. absurd (omega (arith, ap length (power_back s t).1, length-append (digits v) (59 ∷ []), digits_length v)))
    (λ t. t)

module _ (steps k : ℕ) where
  long_rest : (l : List ℕ) → 64 ≤ length l → 5 < length (rest_of steps k l)
  unfolding rest_of
  long_rest l h = rw length-drop (omega (arith, labels_length steps k))

  cut_labels : (l : List ℕ) → has_labels steps k (take 64 l) ≡ has_labels steps k l
  unfolding has_labels
  cut_labels l = let n = labels_length steps k in rw (take-take (length (labels_text steps k)) 64 l (omega arith))

  pub cut_power : (l : List ℕ) → 64 < length l → line_power steps k (take 64 l) ≡ line_power steps k l
  unfolding line_power
  cut_power l h =
      let n = length-take 64 l in
      let a = long_power (rest_of steps k (take 64 l)) (long_rest (take 64 l) (omega arith)) in
      let b = long_power (rest_of steps k l) (long_rest l (omega arith)) in
      rw (cut_labels l, a, b)
