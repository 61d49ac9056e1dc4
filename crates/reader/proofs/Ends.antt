-- The lines of a text from a place on, by where the first of them ends.
use mathlib.Core.Path.{◌≡◌, refl, sym, ap, ◌∙◌}
use mathlib.Core.Bool.{Bool, true, false, cond, ◌||◌}
use mathlib.Core.List.{List, [], ◌∷◌, ◌++◌, reverse}
use Prim.Native.Nat.{ℕ, suc, ◌+◌, ◌-◌, ◌<◌, ◌≤◌}
use native.Mathlib.Numerals.{add-one}
use native.Mathlib.Omega.{arith}
use lib.Dec.{ltb, eqb}
use lib.ListN.{length, get_or, take, drop, length-take, length-drop, take-append-drop}
use lib.Seq.{drop-cons, drop-drop, get_or-drop, take_all}
use borrow.Author.Tests.{not-true, eqb-true, lt-ltb, le-ltb, ltb-true, ltb-false}
use Rattle.std.specs.Prelude.{Option, Some, None}
use Rattle.std.specs.List.{position_or_len}
use Rattle.std.proofs.lemmas.List.{reverse-append, reverse-reverse, length-reverse}
use Rattle.lists.specs.Searches.{every, place_of, is_byte, byte_from}
use Rattle.lists.proofs.Tests.{by_test, and_left, and_right, and_true}
use Rattle.lists.proofs.Places.{place_passes}
use Rattle.lists.proofs.ByteSearch.{byte_inside}
use Rattle.notification.specs.Reading.{lines_in}
use Rattle.reader.specs.Walking.{LineEnd, whole_to}
use Rattle.reader.specs.Folding.{Taken, take_step, take_steps}
use Rattle.notification.proofs.Lines.{in_line, lines_first}

-- ---- a text without LF, and one with LF at a place

-- a text without a whole line has no line
pub lines_none : (s : List ℕ) → whole_to s ≡ 0 → lines_in s ≡ []
unfolding whole_to lines_in
lines_none [] e = refl
lines_none (b ∷ s) e =
    by_test (eqb b 10)
    (λ t. absurd (omega (arith, rw t at e)))
    (λ t. by_test (ltb 0 (whole_to s))
    (λ u. absurd (omega (arith, rw (t, u) at e)))
    (λ u. rw (t, lines_none s (omega (arith, ltb-false 0 (whole_to s) u)))))

pub none_whole : (s : List ℕ) → every in_line s ≡ true → whole_to s ≡ 0
unfolding whole_to
none_whole [] e = refl
none_whole (b ∷ s) e =
    rw (not-true (eqb b 10) (and_left (in_line b) (every in_line s) e), none_whole s (and_right (in_line b) (every in_line s) e))

pub whole_break : (l s : List ℕ) → whole_to (l ++ 10 ∷ s) ≡ length l + 1 + whole_to s
unfolding whole_to
whole_break [] s = omega arith
whole_break (b ∷ l) s =
    let e = whole_break l s in
    let w = whole_to (l ++ 10 ∷ s) in
    let h : 0 < w = omega arith in
    let o : (eqb b 10 || ltb 0 w) ≡ true = rw (lt-ltb 0 w h) (or_true (eqb b 10)) in
    rw o (omega (arith, e))
  where
    or_true : (a : Bool) → (a || true) ≡ true
    or_true true = refl
    or_true false = refl

module _ (s : List ℕ) (from r : ℕ) (a : from ≤ r) (h : r < length s) (b : get_or s r 0 ≡ 10) where
  split_here : drop from s ≡ take (r - from) (drop from s) ++ (10 ∷ drop (r + 1) s)
  split_here =
      let n : from + (r - from) ≡ r = omega arith in
      let d : drop (r - from) (drop from s) ≡ 10 ∷ drop (suc r) s = drop-drop (r - from) from s ∙ (ap (λ (i : ℕ). drop i s) n ∙ (drop-cons s r 0 h ∙ ap (λ (x : ℕ). x ∷ drop (suc r) s) b)) in
      rw add-one (sym (take-append-drop (r - from) (drop from s)) ∙ ap (λ (l : List ℕ). take (r - from) (drop from s) ++ l) d)

  pub whole_past : from + whole_to (drop from s) ≡ r + 1 + whole_to (drop (r + 1) s)
  whole_past =
      let l : length (take (r - from) (drop from s)) ≡ r - from = rw (length-take, length-drop) (omega arith) in
      let e = ap whole_to split_here ∙ whole_break (take (r - from) (drop from s)) (drop (r + 1) s) in
      omega (arith, e, l)

module _ (s : List ℕ) (from r : ℕ) (e : LineEnd s from r) where
  pub lines_here : r < length s → lines_in (drop from s) ≡ take (r - from) (drop from s) ∷ lines_in (drop (r + 1) s)
  lines_here h =
      ap lines_in (split_here s from r e.after h (e.a_break h)) ∙ lines_first (take (r - from) (drop from s)) (drop (r + 1) s) e.no_break

  pub whole_here : r < length s → from + whole_to (drop from s) ≡ r + 1 + whole_to (drop (r + 1) s)
  whole_here h = whole_past s from r e.after h (e.a_break h)

  none_here : length s ≤ r → every in_line (drop from s) ≡ true
  none_here h =
      let w = e.within in
      let m : length (drop from s) ≤ r - from = rw length-drop (omega arith) in
      rw (take_all (r - from) (drop from s) m) at e.no_break

  pub whole_over : length s ≤ r → whole_to (drop from s) ≡ 0
  whole_over h = none_whole (drop from s) (none_here h)

  pub lines_over : length s ≤ r → lines_in (drop from s) ≡ []
  lines_over h = lines_none (drop from s) (whole_over h)

-- the line that begins at a place ends at the first LF from there on
before_break : (s : List ℕ) → every in_line (take (place_of (is_byte 10) s) s) ≡ true
unfolding place_of
before_break [] = refl
before_break (b ∷ s) = by_test (eqb b 10) (λ t. rw t) (λ t. rw t (and_true (in_line b) (every in_line (take (place_of (is_byte 10) s) s)) (rw t) (before_break s)))

pub line_ends : (s : List ℕ) {from r : ℕ} → from ≤ length s → r ≡ byte_from 10 s from → LineEnd s from r
unfolding byte_from
line_ends s {from} {r} h e =
    let n = place_of (is_byte 10) (drop from s) in
    let m : r - from ≡ n = omega (arith, e) in
    record {
      after = omega (arith, e);
      within = rw e (byte_inside 10 s from h);
      no_break = rw m (before_break (drop from s));
      a_break =
          λ l.
          let k : n < length (drop from s) = rw length-drop (omega (arith, e)) in
          let b = eqb-true (get_or (drop from s) n 0) 10 (place_passes (is_byte 10) (drop from s) 0 k) in
          ap (λ (i : ℕ). get_or s i 0) e ∙ (sym (get_or-drop from s n 0) ∙ b);
    }

-- ---- the last LF of a text, searched from the end

abbrev pub is_break : ℕ → Bool
is_break b = eqb b 10

whole_one_more : (s : List ℕ) (b : ℕ) → whole_to (s ++ b ∷ []) ≡ cond (is_break b) (length s + 1) (whole_to s)
unfolding whole_to
whole_one_more [] b = by_test (eqb b 10) (λ t. rw t) (λ t. rw t)
whole_one_more (a ∷ s) b =
    by_test (eqb b 10)
    (λ t. let w : whole_to (s ++ b ∷ []) ≡ length s + 1 = whole_one_more s b ∙ rw t in
    let h : 0 < length s + 1 = omega arith in
    rw (w, t, lt-ltb 0 (length s + 1) h, or_true (eqb a 10)) (omega arith))
    (λ t. let w : whole_to (s ++ b ∷ []) ≡ whole_to s = whole_one_more s b ∙ rw t in rw (w, t))
  where
    or_true : (a : Bool) → (a || true) ≡ true
    or_true true = refl
    or_true false = refl

-- in a text read backwards it stands at the place that the search gives
module _ (s : List ℕ) where
  abbrev pub back : ℕ
  back = position_or_len is_break (reverse s)

  abbrev pub search_back : Option ℕ
  search_back = cond (ltb back (length (reverse s))) (Some back) None

whole_backwards : (s : List ℕ) → whole_to (reverse s) ≡ cond (ltb (position_or_len is_break s) (length s)) (length s - position_or_len is_break s) 0
unfolding whole_to
whole_backwards [] = refl
whole_backwards (b ∷ s) =
    let w : whole_to (reverse (b ∷ s)) ≡ cond (is_break b) (length (reverse s) + 1) (whole_to (reverse s)) = ap whole_to (reverse-append (b ∷ []) s) ∙ whole_one_more (reverse s) b in
    let p = position_or_len is_break s in
    by_test (is_break b)
    (λ t. let h : 0 < suc (length s) = omega arith in
    w ∙ rw (t, length-reverse s, lt-ltb 0 (suc (length s)) h) (omega arith))
    (λ t. by_test (ltb p (length s))
    (λ u. let h : 1 + p < suc (length s) = omega (arith, ltb-true p (length s) u) in
    w ∙ rw (t, whole_backwards s, u, lt-ltb (1 + p) (suc (length s)) h) (omega arith))
    (λ u. let h : suc (length s) ≤ 1 + p = omega (arith, ltb-false p (length s) u) in
    w ∙ rw (t, whole_backwards s, u, le-ltb (1 + p) (suc (length s)) h)))

whole_back : (s : List ℕ) → whole_to s ≡ cond (ltb (back s) (length (reverse s))) (length (reverse s) - back s) 0
whole_back s = rw reverse-reverse at (whole_backwards (reverse s))

pub break_found : (s : List ℕ) (i : ℕ) → Some i ≡ search_back s → (i < length s) × (whole_to s ≡ length s - i)
break_found s i e =
    by_test (ltb (back s) (length (reverse s)))
    (λ t. let n : i ≡ back s = (let f : Some i ≡ Some (back s) = e ∙ rw t in cc) in
    let h = ltb-true (back s) (length (reverse s)) t in
    let l = length-reverse s in
    let w : whole_to s ≡ length (reverse s) - back s = whole_back s ∙ rw t in
    (omega arith, omega arith))
    (λ t. let f : Some i ≡ None = e ∙ rw t in cc)

pub break_lost : (s : List ℕ) → None ≡ search_back s → whole_to s ≡ 0
break_lost s e =
    by_test (ltb (back s) (length (reverse s)))
    (λ t. let f : None ≡ Some (back s) = e ∙ rw t in cc)
    (λ t. whole_back s ∙ rw t)

-- ---- the lines of steps, taken one after another

module _ (steps : ℕ) (s : List ℕ) (from r : ℕ) (e : LineEnd s from r) (x : Taken) where
  pub take_first : (y : Taken) → r < length s → y ≡ take_step steps x (take (r - from) (drop from s))
      → take_steps steps x (lines_in (drop from s)) ≡ take_steps steps y (lines_in (drop (r + 1) s))
  unfolding take_steps
  take_first y h p = rw (lines_here s from r e h, p)

  pub take_none : length s ≤ r → take_steps steps x (lines_in (drop from s)) ≡ x
  unfolding take_steps
  take_none h = rw (lines_over s from r e h)
