-- The fold over a file's lines: line 1 is the name's header or another, and after the name's header the steps are taken as they are alone.
use mathlib.Core.Path.{◌≡◌, refl, sym, ap, ◌∙◌}
use mathlib.Core.Bool.{true, false, cond, ◌&&◌}
use mathlib.Core.List.{List, [], ◌∷◌, ◌++◌, append_assoc}
use Prim.Native.Nat.{ℕ, ◌+◌, ◌<◌, ◌≤◌}
use native.Mathlib.Omega.{arith}
use lib.Dec.{ltb, leb, eqb}
use lib.ListN.{length, take, drop, length-take, take-append-drop}
use lib.Seq.{take_all, take-append_seam}
use borrow.Author.Tests.{ltb-true, ltb-false, leb-true, leb-false}
use Rattle.lists.specs.Searches.{every, same, byte_from}
use Rattle.lists.proofs.Tests.{by_test, true_false, right_false, and_left, and_right}
use Rattle.lists.proofs.Searches.{same_refl, same_true}
use Rattle.refusals.specs.declared.Refusal.{Refusal}
use Rattle.std.specs.Prelude.{Err}
use Rattle.notification.specs.Reading.{is_header, lines_in}
use Rattle.notification.specs.declared.Key.{Key}
use Rattle.reader.specs.Walking.{starts_with, rest_in}
use Rattle.reader.specs.Folding.{
  Taken,
  take_step,
  take_steps,
  judgement,
  FileTaken,
  other_header,
  take_line,
  take_lines,
  is_headed,
  take_text,
  rest_of_text,
  header_said,
  concluded,
}
use Rattle.notification.proofs.Lines.{in_line, lines_first}
use Rattle.reader.proofs.Ends.{lines_none, none_whole}
use Rattle.reader.proofs.Starts.{starts_true}
use Rattle.reader.proofs.SameTexts.{same_length}
use Rattle.reader.proofs.Cuts.{rest_break, first_in, first_split, long_header, cut_power}

-- THE NEXT LINE UNDER A NAME'S HEADER: line 1 is that header, or else it is judged as another
unfoldable pub line_under : List ℕ → ℕ → FileTaken → List ℕ → FileTaken
line_under head steps x l =
    cond (eqb x.header 0 && same l head) (record { header = 1; steps = x.steps }) (take_line steps x l)

unfoldable pub lines_under : List ℕ → ℕ → FileTaken → List (List ℕ) → FileTaken
lines_under head steps x [] = x
lines_under head steps x (l ∷ ls) = lines_under head steps (line_under head steps x l) ls

pub under_append : (head : List ℕ) (steps : ℕ) (x : FileTaken) (ls ms : List (List ℕ))
    → lines_under head steps x (ls ++ ms) ≡ lines_under head steps (lines_under head steps x ls) ms
unfolding lines_under
under_append head steps x [] ms = refl
under_append head steps x (l ∷ ls) ms = under_append head steps (line_under head steps x l) ls ms

-- one line more
pub under_cons : (head : List ℕ) (steps : ℕ) (x y : FileTaken) (l : List ℕ) (ls : List (List ℕ)) → line_under head steps x l ≡ y
    → lines_under head steps x (l ∷ ls) ≡ lines_under head steps y ls
unfolding lines_under
under_cons head steps x y l ls e = ap (λ (z : FileTaken). lines_under head steps z ls) e

-- line 1: the name's header, or another
pub under_named : (head : List ℕ) (steps : ℕ) (x : FileTaken) (l : List ℕ) → eqb x.header 0 ≡ true → same l head ≡ true
    → line_under head steps x l ≡ record { header = 1; steps = x.steps }
unfolding line_under
under_named head steps x l e t = rw (e, t)

pub under_other : (head : List ℕ) (steps : ℕ) (x : FileTaken) (l : List ℕ) → eqb x.header 0 ≡ true → same l head ≡ false
    → line_under head steps x l ≡ record { header = other_header l; steps = x.steps }
unfolding line_under take_line
under_other head steps x l e t = rw (e, t)

-- ---- the lines after line 1

module _ (steps : ℕ) where
  -- what was found of the header stays
  header_stays : (x : FileTaken) (l : List ℕ) → eqb x.header 0 ≡ false → (take_line steps x l).header ≡ x.header
  unfolding take_line
  header_stays x l e = by_test (eqb x.header 1) (λ t. rw (e, t)) (λ t. rw (e, t))

  one_line : (head : List ℕ) (x : FileTaken) (l : List ℕ) → eqb x.header 0 ≡ false → line_under head steps x l ≡ take_line steps x l
  unfolding line_under
  one_line head x l e = rw e

  pub other_late : (l : List ℕ) → eqb (other_header l) 0 ≡ false
  other_late l = by_test (is_header l) (λ t. rw t) (λ t. rw t)

  other_first : (x : FileTaken) (l : List ℕ) (ls : List (List ℕ)) → eqb x.header 0 ≡ true
      → take_lines steps x (l ∷ ls) ≡ take_lines steps (record { header = other_header l; steps = x.steps }) ls
  unfolding take_lines take_line
  other_first x l ls e = ap (λ (z : FileTaken). take_lines steps z ls) (rw e)

  pub later_lines : (head : List ℕ) (x : FileTaken) (ls : List (List ℕ)) → eqb x.header 0 ≡ false
      → lines_under head steps x ls ≡ take_lines steps x ls
  unfolding lines_under take_lines
  later_lines head x [] e = refl
  later_lines head x (l ∷ ls) e =
      ap (λ (y : FileTaken). lines_under head steps y ls) (one_line head x l e)
      ∙ later_lines head (take_line steps x l) ls (ap (λ (n : ℕ). eqb n 0) (header_stays x l e) ∙ e)

  refused_stays : (x : FileTaken) (ls : List (List ℕ)) → eqb x.header 0 ≡ false → eqb x.header 1 ≡ false → take_lines steps x ls ≡ x
  unfolding take_lines take_line
  refused_stays x [] e f = refl
  refused_stays x (l ∷ ls) e f = rw (e, f) (refused_stays x ls e f)

  steps_taken : (x : Taken) (ls : List (List ℕ))
      → take_lines steps (record { header = 1; steps = x }) ls ≡ record { header = 1; steps = take_steps steps x ls }
  unfolding take_lines take_line take_steps
  steps_taken x [] = refl
  steps_taken x (l ∷ ls) = steps_taken (take_step steps x l) ls

  -- ---- what a file's lines come to

  module _ (key : Key) where
    pub concluded_no : (x : FileTaken) (r : Refusal) (ls : List (List ℕ)) → eqb x.header 0 ≡ false → eqb x.header 1 ≡ false
        → header_said x.header ≡ Err r → concluded key steps (take_lines steps x ls) ≡ Err r
    unfolding concluded
    concluded_no x r ls e f s = rw (refused_stays x ls e f, s)

    pub concluded_pass : (x : Taken) (ls : List (List ℕ))
        → concluded key steps (take_lines steps (record { header = 1; steps = x }) ls)
        ≡ judgement key steps (take_steps steps x ls).tally (take_steps steps x ls).powers
    unfolding concluded header_said
    concluded_pass x ls = rw (steps_taken x ls)

-- ---- a text's lines, by what it begins with

module _ (head s : List ℕ) where
  abbrev whole : List ℕ
  whole = head ++ 10 ∷ []

  starts_text : starts_with whole s ≡ true → s ≡ head ++ 10 ∷ drop (length whole) s
  starts_text e =
      let d = drop (length whole) s in
      sym (take-append-drop (length whole) s) ∙ (ap (λ (t : List ℕ). t ++ d) (starts_true whole s e) ∙ append_assoc head (10 ∷ []) d)

  pub rest_text : (found : ℕ) → rest_of_text whole found s ≡ rest_in s
  unfolding rest_of_text
  rest_text found =
      by_test (is_headed whole found s)
      (λ t. let e = starts_text (and_right (eqb found 0) (starts_with whole s) t) in
      rw t (sym (ap rest_in e ∙ rest_break head (drop (length whole) s))))
      (λ t. rw t)

  module _ (steps : ℕ) (plain : every in_line head ≡ true) (x : FileTaken) where
    abbrev first : ℕ
    first = byte_from 10 s 0

    -- a line 1 that is not the name's header
    other_line : starts_with whole s ≡ false → first < length s → same (take first s) head ≡ false
    unfolding starts_with
    other_line f h =
        by_test (same (take first s) head)
        (λ t. let d = drop (first + 1) s in
        let q = ap (λ (l : List ℕ). l ++ 10 ∷ d) (same_true (take first s) head t) in
        let e = first_split s first refl h ∙ (q ∙ sym (append_assoc head (10 ∷ []) d)) in
        let g : take (length whole) s ≡ whole = ap (take (length whole)) e ∙ take-append_seam whole d in
        true_false (starts_with whole s) (ap (λ (l : List ℕ). same l whole) g ∙ same_refl whole) f)
        (λ t. t)

    other_lines : is_headed whole x.header s ≡ false → lines_under head steps x (lines_in s) ≡ take_lines steps x (lines_in s)
    unfolding lines_under take_lines
    other_lines o =
        by_test (eqb x.header 0)
        (λ t. by_test (ltb first (length s))
        (λ u. let h = ltb-true first (length s) u in
        let d = drop (first + 1) s in
        let e = ap lines_in (first_split s first refl h) ∙ lines_first (take first s) d (first_in s first refl) in
        let l = take first s in
        let y : FileTaken = record { header = other_header l; steps = x.steps } in
        let n = other_line (right_false (eqb x.header 0) (starts_with whole s) o t) h in
        rw e
        (under_cons head steps x y l (lines_in d) (under_other head steps x l t n)
        ∙ (later_lines steps head y (lines_in d) (other_late steps l) ∙ sym (other_first steps x l (lines_in d) t))))
        (λ u. let h = ltb-false first (length s) u in
        let i : every in_line s ≡ true = rw (take_all first s h) at (first_in s first refl) in
        rw (lines_none s (none_whole s i))))
        (λ t. later_lines steps head x (lines_in s) t)

    -- THE WHOLE LINES OF A TEXT, however its beginning was looked at
    pub text_lines : take_text whole steps x s ≡ lines_under head steps x (lines_in s)
    unfolding take_text
    text_lines =
        by_test (is_headed whole x.header s)
        (λ t. let a = and_left (eqb x.header 0) (starts_with whole s) t in
        let d = drop (length whole) s in
        let e = ap lines_in (starts_text (and_right (eqb x.header 0) (starts_with whole s) t)) ∙ lines_first head d plain in
        let y : FileTaken = record { header = 1; steps = x.steps } in
        let u = under_named head steps x head a (same_refl head) in
        rw (t, e) (sym (under_cons head steps x y head (lines_in d) u ∙ later_lines steps head y (lines_in d) refl)))
        (λ t. rw t (sym (other_lines t)))

-- ---- a line longer than any that is good is judged by its first 64 bytes

pub cut_line : (head : List ℕ) (steps : ℕ) (x : FileTaken) (l : List ℕ) → length head ≤ 50
    → line_under head steps x (take 64 l) ≡ line_under head steps x l
unfolding line_under take_line take_step
cut_line head steps x l few =
    by_test (leb (length l) 64)
    (λ t. rw (take_all 64 l (leb-true (length l) 64 t)))
    (λ t. let h = leb-false (length l) 64 t in
    let n = length-take 64 l in
    let a = same_length (take 64 l) head (λ (e : length (take 64 l) ≡ length head). omega arith) in
    let b = same_length l head (λ (e : length l ≡ length head). omega arith) in
    rw (← a, ← b, long_header (take 64 l) (omega arith), long_header l (omega arith), cut_power steps x.steps.tally.lines l (omega arith)))
