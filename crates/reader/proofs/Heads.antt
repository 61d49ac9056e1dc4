-- The name's header at the beginning of a text, and the lines after it.
use mathlib.Core.Path.{◌≡◌, refl, sym, ap, ◌∙◌}
use mathlib.Core.Bool.{Bool, true, false, ◌||◌}
use mathlib.Core.List.{List, [], ◌∷◌}
use Prim.Native.Nat.{ℕ, ◌+◌, ◌-◌, ◌<◌, ◌≤◌}
use native.Mathlib.Omega.{arith}
use lib.Dec.{ltb, eqb}
use lib.Pointwise.{pointwise}
use lib.ListN.{length, take, drop, length-drop}
use lib.Seq.{drop-drop}
use borrow.Author.Tests.{eq-eqb, ne_eqb}
use Rattle.lists.specs.Searches.{same}
use Rattle.lists.proofs.Tests.{by_test, true_false}
use Rattle.lists.proofs.Parts.{rest_all}
use Rattle.lists.proofs.Searches.{same_refl, same_true}
use Rattle.notification.specs.Reading.{is_header, lines_in}
use Rattle.reader.specs.Walking.{starts_with, whole_to, LineEnd}
use Rattle.reader.specs.Folding.{Taken, take_step, take_steps, FileTaken, with_powers, other_header, take_line, take_lines}
use Rattle.reader.specs.Folding.{is_headed, headed_by, past_header, take_text, rest_of_text}
use Rattle.reader.specs.declared.lines.FileTally.{FileTally}
use Rattle.reader.specs.declared.tally.Tally.{Tally}
use Rattle.reader.proofs.SameTexts.{same_slices}
use Rattle.reader.proofs.Starts.{starts_long}
use Rattle.reader.proofs.Ends.{lines_here}

-- ---- a text that begins with the name's header

same_sym : (s t : List ℕ) → same s t ≡ same t s
same_sym s t =
    by_test (same s t)
    (λ e. let i = same_true s t e in e ∙ sym (rw i (same_refl t)))
    (λ e. by_test (same t s)
    (λ f. let i = same_true t s f in true_false (same s t) (rw i (same_refl s)) e)
    (λ f. e ∙ sym f))

-- as the library says it
pub headed_is : (h s : List ℕ) (from : ℕ) {r : Bool} → r ≡ pointwise eqb h (take (length h) (take (length s - from) (drop from s))) → r ≡ starts_with h (drop from s)
unfolding starts_with
headed_is h s from e =
    let t = take (length h) (drop from s) in
    same_slices h t (rw rest_all at e) ∙ same_sym h t

-- ---- the name's header, where it comes first

module _ (h s : List ℕ) (from : ℕ) (t : FileTally) where
  abbrev pub Past : FileTally → ℕ → Type 0
  Past r at =
      (r ≡ record { header = headed_by h t.header (drop from s); steps = t.steps })
      × ((drop at s ≡ past_header h t.header (drop from s)) × (at ≤ length s))

  pub header_kept : from ≤ length s → is_headed h t.header (drop from s) ≡ false → Past t from
  header_kept l e = rw e (refl, (refl, l))

  pub header_passed : is_headed h t.header (drop from s) ≡ true → from + length h ≤ length s
      → Past (record { header = 1; steps = t.steps }) (from + length h)
  header_passed e l = rw e (refl, (sym (drop-drop (length h) from s), l))

pub headed_long : (h s : List ℕ) (from : ℕ) → from ≤ length s → starts_with h (drop from s) ≡ true → from + length h ≤ length s
headed_long h s from l e = omega (arith, starts_long h (drop from s) e, length-drop from s)

pub not_first : (h text : List ℕ) (found : ℕ) → (found ≡ 0 → ⊥) → is_headed h found text ≡ false
not_first h text found f = rw (ne_eqb found 0 f)

pub first_said : (h text : List ℕ) (found : ℕ) (b : Bool) → found ≡ 0 → starts_with h text ≡ b → is_headed h found text ≡ b
first_said h text found b z e = rw (eq-eqb found 0 z) e

-- ---- the lines after it

other_refused : (l : List ℕ) → 3 ≤ other_header l
other_refused l = by_test (is_header l) (λ b. rw b (omega arith)) (λ b. rw b (omega arith))

module _ (steps : ℕ) where
  line_stays : (x : FileTaken) (l : List ℕ) → (x.header ≡ 0 → ⊥) → (x.header ≡ 1 → ⊥) → take_line steps x l ≡ x
  unfolding take_line
  line_stays x l f g = rw (ne_eqb x.header 0 f, ne_eqb x.header 1 g)

  -- after a header that is refused no line is looked at
  pub lines_stay : (x : FileTaken) (ls : List (List ℕ)) → (x.header ≡ 0 → ⊥) → (x.header ≡ 1 → ⊥) → take_lines steps x ls ≡ x
  unfolding take_lines
  lines_stay x [] f g = refl
  lines_stay x (l ∷ ls) f g = ap (λ (y : FileTaken). take_lines steps y ls) (line_stays x l f g) ∙ lines_stay x ls f g

  first_line_lem : (x : FileTaken) (l : List ℕ) → x.header ≡ 0 → take_line steps x l ≡ record { header = other_header l; steps = x.steps }
  unfolding take_line
  first_line_lem x l z = rw (eq-eqb x.header 0 z)

  -- a first line that is not the name's header
  other_first : (x : FileTaken) (l : List ℕ) (ls : List (List ℕ)) → x.header ≡ 0
      → take_lines steps x (l ∷ ls) ≡ record { header = other_header l; steps = x.steps }
  unfolding take_lines
  other_first x l ls z =
      let n = other_refused l in
      ap (λ (y : FileTaken). take_lines steps y ls) (first_line_lem x l z)
      ∙ lines_stay (record { header = other_header l; steps = x.steps }) ls (λ e. omega (arith, n)) (λ e. omega (arith, n))

  -- after the name's header the lines are the steps'
  lines_steps : (x : Taken) (ls : List (List ℕ))
      → take_lines steps (record { header = 1; steps = x }) ls ≡ record { header = 1; steps = take_steps steps x ls }
  unfolding take_lines take_line take_steps
  lines_steps x [] = refl
  lines_steps x (l ∷ ls) = lines_steps (take_step steps x l) ls

  pub none_taken : (x : FileTaken) (ls : List (List ℕ)) → ls ≡ [] → x ≡ take_lines steps x ls
  unfolding take_lines
  none_taken x ls e = rw e

-- the first line, by its end, where it is not the name's header
pub other_taken : (s : List ℕ) (from r : ℕ) → LineEnd s from r → r < length s → (t : FileTally) (v : ℕ) → t.header ≡ 0
    → v ≡ other_header (take (r - from) (drop from s)) → (steps : ℕ) (ps : List ℕ)
    → with_powers (record { header = v; steps = t.steps }) ps ≡ take_lines steps (with_powers t ps) (lines_in (drop from s))
other_taken s from r e h t v z p steps ps =
    let l = take (r - from) (drop from s) in
    ap (λ (n : ℕ). with_powers (record { header = n; steps = t.steps }) ps) p
    ∙ sym (ap (take_lines steps (with_powers t ps)) (lines_here s from r e h) ∙ other_first steps (with_powers t ps) l (lines_in (drop (r + 1) s)) z)

whole_within : (s : List ℕ) → whole_to s ≤ length s
unfolding whole_to
whole_within [] = omega arith
whole_within (b ∷ s) = by_test (eqb b 10 || ltb 0 (whole_to s)) (λ e. rw e (omega (arith, whole_within s))) (λ e. rw e (omega arith))

-- ---- the whole lines of a text, the name's header passed

module _ (h s : List ℕ) (from : ℕ) (t u : FileTally) (at : ℕ) (p : Past h s from t u at) where
  pub text_taken : (steps : ℕ) (ps : List ℕ)
      → take_lines steps (with_powers u ps) (lines_in (drop at s)) ≡ take_text h steps (with_powers t ps) (drop from s)
  unfolding take_text
  text_taken steps ps = rw (p.0, p.1.0)

  pub steps_taken : (steps : ℕ) (ps qs : List ℕ) (v : Tally) → u.header ≡ 1
      → record { tally = v; powers = qs } ≡ take_steps steps (record { tally = u.steps; powers = ps }) (lines_in (drop at s))
      → with_powers (record { header = 1; steps = v }) qs ≡ take_text h steps (with_powers t ps) (drop from s)
  steps_taken steps ps qs v z e =
      let x : Taken = record { tally = u.steps; powers = ps } in
      let w : with_powers u ps ≡ record { header = 1; steps = x } = rw z in
      ap (λ (y : Taken). record { header = 1; steps = y }) e
      ∙ (sym (lines_steps steps x (lines_in (drop at s)))
      ∙ (ap (λ (y : FileTaken). take_lines steps y (lines_in (drop at s))) (sym w) ∙ text_taken steps ps))

  pub rest_taken : (r : ℕ) → r ≡ at + whole_to (drop at s) → drop r s ≡ rest_of_text h t.header (drop from s)
  unfolding rest_of_text
  rest_taken r e = ap (λ (i : ℕ). drop i s) e ∙ (sym (drop-drop (whole_to (drop at s)) at s) ∙ ap (λ (v : List ℕ). drop (whole_to v) v) p.1.0)

  pub rest_within : (r : ℕ) → r ≡ at + whole_to (drop at s) → r ≤ length s
  rest_within r e = omega (arith, p.1.1, e, whole_within (drop at s), length-drop at s)
