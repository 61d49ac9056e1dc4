-- A body is its header and the lines of its steps, each ended by LF.
use mathlib.Core.Path.{◌≡◌, sym, ap}
use mathlib.Core.Bool.{true, ◌&&◌}
use mathlib.Core.List.{List, [], ◌∷◌}
use Prim.Native.Nat.{ℕ, ◌-◌, ◌<◌, ◌≤◌}
use native.Mathlib.Omega.{arith}
use lib.Dec.{ltb, leb, eqb}
use lib.ListN.{length, get_or, take, drop, length-append}
use borrow.Author.Tests.{eqb-true, ltb-true, lt-ltb, le-leb}
use Rattle.lists.specs.Searches.{every}
use Rattle.lists.proofs.Tests.{and_left, and_right, and_true}
use Rattle.notification.specs.Forms.{places}
use Rattle.notification.specs.Writing.{header_of, body_of, formed}
use Rattle.notification.specs.Reading.{lines_in, is_body, body_most, head_line, step_lines}
use Rattle.notification.specs.declared.Notification.{Notification}
use Rattle.notification.proofs.Lines.{in_line, joined, lines_joined, joined_last, joined_lines}
use Rattle.notification.proofs.Lengths.{body_length}
use Rattle.notification.proofs.Breaks.{header_in}
use Rattle.notification.proofs.Steps.{rows, rows_joined, rows_in}

-- ---- a body that is read

split : (body : List ℕ) (ms : List (List ℕ)) → joined ms ≡ body → 0 < length body → body ≡ joined (get_or ms 0 [] ∷ drop 1 ms)
unfolding joined
split body [] e h = absurd (omega (arith, ap length e))
split body (m ∷ ms) e h = sym e

pub body_back : (body : List ℕ) → is_body body ≡ true → body ≡ joined (head_line body ∷ step_lines body)
unfolding is_body head_line step_lines
body_back body e =
    let a = ltb 0 (length body) in
    let b = leb (length body) body_most in
    let c = eqb (get_or body (length body - 1) 0) 10 in
    let h = ltb-true 0 (length body) (and_left a b (and_left (a && b) c e)) in
    let l = eqb-true (get_or body (length body - 1) 0) 10 (and_right (a && b) c e) in
    split body (lines_in body) (joined_lines body l) h

-- ---- a body that is written

module _ (n : Notification) where
  abbrev its_rows : List (List ℕ)
  its_rows = rows n.steps 0 (take n.steps n.powers)

  pub body_joined : body_of n ≡ joined (header_of n.key ∷ its_rows)
  unfolding body_of joined
  body_joined = rw (rows_joined n.steps 0 (take n.steps n.powers))

  module _ (e : formed n.key ≡ true) (h : n.key.day < 36525) where
    body_lines : lines_in (body_of n) ≡ header_of n.key ∷ its_rows
    body_lines =
        rw body_joined
        (lines_joined (header_of n.key ∷ its_rows)
        (and_true (every in_line (header_of n.key)) (every (every in_line) its_rows) (header_in n.key e h) (rows_in n.steps 0 (take n.steps n.powers))))

    pub body_header : head_line (body_of n) ≡ header_of n.key
    unfolding head_line
    body_header = rw body_lines

    pub body_steps : step_lines (body_of n) ≡ its_rows
    unfolding step_lines
    body_steps = rw body_lines

    pub body_made : n.steps ≤ places → is_body (body_of n) ≡ true
    unfolding is_body
    body_made s =
        let b = body_of n in
        let last : get_or b (length b - 1) 0 ≡ 10 = rw body_joined (joined_last (header_of n.key) its_rows) in
        let least : 0 < length b = some_byte in
        let most : length b ≤ body_most = omega (arith, body_length n e s) in
        rw (lt-ltb 0 (length b) least, le-leb (length b) body_most most, last)
      where
        some_byte : 0 < length (body_of n)
        some_byte = unfold body_of in simp length-append (omega arith)
