-- The table of refusals, row by row, as the reader goes through it.
use mathlib.Core.Path.{◌≡◌, refl, ap, ◌∙◌}
use mathlib.Core.Bool.{true, false, ◌&&◌}
use mathlib.Core.List.{List, [], ◌∷◌}
use Prim.Native.Nat.{ℕ, ◌-◌, ◌<◌}
use native.Mathlib.Omega.{arith}
use lib.Dec.{ltb, leb, eqb}
use lib.ListN.{length, get_or, drop}
use borrow.Author.Tests.{eqb-true, ltb-true}
use Rattle.lists.specs.Searches.{same}
use Rattle.lists.proofs.Tests.{by_test, and_left, and_right}
use Rattle.lists.proofs.Searches.{same_true}
use Rattle.calendar.specs.Steps.{steps_of}
use Rattle.calendar.proofs.StepCounts.{steps_small}
use Rattle.std.specs.Prelude.{Err}
use Rattle.refusals.specs.Tests.{input}
use Rattle.refusals.specs.declared.Refusal.TheVariants.{Input}
use Rattle.refusals.specs.declared.InputRefusal.TheVariants.{Name, Body, Header, Differs}
use Rattle.notification.specs.Writing.{header_of}
use Rattle.notification.specs.Reading.{
  name_key,
  is_name,
  is_header,
  lines_in,
  is_body,
  body_most,
  head_line,
  step_lines,
  file_tests,
  note_in,
  read_file,
}
use Rattle.notification.specs.declared.Key.{Key}
use Rattle.reader.specs.Folding.{FileTaken, no_lines, other_header, header_said, concluded}
use Rattle.notification.proofs.Lines.{joined, joined_lines}
use Rattle.notification.proofs.Names.{name_back, header_made}
use Rattle.reader.proofs.Heading.{lines_under, under_cons, under_named, under_other, other_late, later_lines, concluded_no, concluded_pass}
use Rattle.reader.proofs.Tallies.{judged_all}

-- ---- a body has a first line, and the lines after it

parted_lines : (body : List ℕ) (ls : List (List ℕ)) → joined ls ≡ body → 0 < length body → ls ≡ get_or ls 0 [] ∷ drop 1 ls
unfolding joined
parted_lines body [] e h = absurd (omega (arith, ap length e))
parted_lines body (l ∷ ls) e h = refl

body_lines : (body : List ℕ) → is_body body ≡ true → lines_in body ≡ head_line body ∷ step_lines body
unfolding is_body head_line step_lines
body_lines body b =
    let a = ltb 0 (length body) in
    let c = leb (length body) body_most in
    let d = eqb (get_or body (length body - 1) 0) 10 in
    let h = ltb-true 0 (length body) (and_left a c (and_left (a && c) d b)) in
    parted_lines body (lines_in body) (joined_lines body (eqb-true (get_or body (length body - 1) 0) 10 (and_right (a && c) d b))) h

-- ---- the rows of the table

module _ (name body : List ℕ) where
  pub row_name : is_name name ≡ false → Err (input Name) ≡ read_file name body
  unfolding read_file file_tests
  row_name a = rw a

  pub row_body : is_name name ≡ true → is_body body ≡ false → Err (input Body) ≡ read_file name body
  unfolding read_file file_tests
  row_body a b = rw (a, b)

  module _ (a : is_name name ≡ true) (b : is_body body ≡ true) where
    abbrev k : Key
    k = name_key name

    abbrev first : List ℕ
    first = head_line body

    -- after the name's header
    abbrev headed : FileTaken
    headed = record { header = 1; steps = no_lines.steps }

    -- the name's header is one
    named_header : same first (header_of k) ≡ true → is_header first ≡ true
    named_header t =
        let n = name_back name a in
        ap is_header (same_true first (header_of k) t) ∙ header_made k n.its_form n.its_day n.its_six

    -- the rest of the table, after each of the three line 1 that there are
    row_other : is_header first ≡ false → Err (Input Header 1) ≡ read_file name body
    unfolding read_file file_tests
    row_other t = rw (a, b, t)

    row_differs : is_header first ≡ true → same first (header_of k) ≡ false → Err (Input Differs 1) ≡ read_file name body
    unfolding read_file file_tests
    row_differs t u = rw (a, b, t, u)

    row_steps : same first (header_of k) ≡ true
        → concluded k (steps_of k.day) (lines_under (header_of k) (steps_of k.day) headed (step_lines body)) ≡ read_file name body
    unfolding read_file file_tests note_in
    row_steps u =
        let s = steps_of k.day in
        let ls = step_lines body in
        ap (concluded k s) (later_lines s (header_of k) headed ls refl)
        ∙ (concluded_pass s k no_lines.steps ls ∙ (judged_all k s (steps_small k.day) ls ∙ rw (a, b, named_header u, u)))

    pub row_lines : concluded k (steps_of k.day) (lines_under (header_of k) (steps_of k.day) no_lines (lines_in body)) ≡ read_file name body
    unfolding header_said
    row_lines =
        let s = steps_of k.day in
        let h = header_of k in
        let ls = step_lines body in
        let x : FileTaken = record { header = other_header first; steps = no_lines.steps } in
        ap (λ (ms : List (List ℕ)). concluded k s (lines_under h s no_lines ms)) (body_lines body b)
        ∙ by_test (same first h)
        (λ u. ap (concluded k s) (under_cons h s no_lines headed first ls (under_named h s no_lines first refl u)) ∙ row_steps u)
        (λ u. let v = under_cons h s no_lines x first ls (under_other h s no_lines first refl u) in
        ap (concluded k s) (v ∙ later_lines s h x ls (other_late s first))
        ∙ by_test (is_header first)
        (λ t. concluded_no s k x (Input Differs 1) ls (rw t) (rw t) (rw t) ∙ row_differs t u)
        (λ t. concluded_no s k x (Input Header 1) ls (rw t) (rw t) (rw t) ∙ row_other t))
