-- A file in pieces, as the code keeps it: begun with a name, fed a piece, ended.
use mathlib.Core.Path.{◌≡◌, refl, sym, ap, ◌∙◌}
use mathlib.Core.Bool.{Bool, true, false, not, ◌&&◌, ◌||◌}
use mathlib.Core.List.{List, [], ◌∷◌, ◌++◌}
use Prim.Native.Nat.{ℕ, ◌+◌, ◌-◌, ◌<◌, ◌≤◌, min}
use native.Mathlib.Omega.{arith}
use lib.Dec.{leb, ltb, eqb}
use lib.ListN.{length, take, drop, length-append, length-take}
use lib.Seq.{take_at, take-take, length-take-le}
use mir.Val.{Val}
use denote.Laws.{Is}
use borrow.Author.Tests.{not-true, not-false, eqb-true, eqb-false, leb-true, leb-false, ltb-true, ltb-false, le-leb, lt-leb, ne_eqb}
use Rattle.lists.specs.Searches.{byte_from}
use Rattle.lists.proofs.Tests.{by_test, or_left, or_right, or_cases}
use Rattle.calendar.specs.Steps.{steps_of}
use Rattle.calendar.proofs.StepCounts.{steps_small}
use Rattle.std.specs.Prelude.{⊤, cond, Result, Ok, Err, Some, None}
use Rattle.refusals.specs.Tests.{input}
use Rattle.refusals.specs.declared.InputRefusal.TheVariants.{Name, Body}
use Rattle.refusals.specs.declared.Refusal.{Refusal}
use Rattle.notification.specs.Forms.{places}
use Rattle.notification.specs.Writing.{header_of}
use Rattle.notification.specs.Reading.{name_key, is_name}
use Rattle.notification.specs.declared.Key.{Key}
use Rattle.notification.specs.declared.Notification.{Notification}
use Rattle.notification.proofs.Tested.{and_none}
use Rattle.reader.specs.Parts.{name_read}
use Rattle.reader.specs.Folding.{FileTaken, with_powers, no_lines, take_text, rest_of_text, concluded}
use Rattle.reader.specs.InHand.{InHand, in_hand, fresh_with, begun, length_with, has_name, counts, walked, gone_on, continued, fed, key_of, ended}
use Rattle.reader.specs.declared.pieces.FileReader.{FileReader}
use Rattle.reader.specs.contracts.pieces.FileReader as reader
use Rattle.reader.proofs.Copies.{take_least}

-- ---- the arrays of a reader

pub header_long : (r : FileReader) (vs : List Val) → Is reader.the_row r vs → length r.header ≡ 51
header_long r vs p = p.1.1.1.1.1.1.1.1.1.1.0.1.0.1

pub line_long : (r : FileReader) (vs : List Val) → Is reader.the_row r vs → length r.line ≡ 64
line_long r vs p = p.1.1.1.1.1.1.1.1.1.0.1.0.1

-- ---- a file begun

pub fresh_made : (header : List ℕ) (day steps : ℕ) → steps ≡ steps_of day
    → record { day = day; steps = min steps places; header = header; length = 0; taken = no_lines; line = [] } ≡ fresh_with header day
fresh_made header day steps e =
    let n : min steps places ≡ steps_of day = omega (arith, e, steps_small day) in
    rw n

module _ (name : List ℕ) where
  pub named : (k : Key) → Some k ≡ name_read name → (is_name name ≡ true) × (k ≡ name_key name)
  unfolding name_read
  named k e =
      by_test (is_name name)
      (λ t. let f : Some k ≡ Some (name_key name) = e ∙ rw t in (t, cc))
      (λ t. let f : Some k ≡ None = e ∙ rw t in cc)

  unnamed : None ≡ name_read name → is_name name ≡ false
  unfolding name_read
  unnamed e =
      by_test (is_name name)
      (λ t. let f : None ≡ Some (name_key name) = e ∙ rw t in cc)
      (λ t. t)

  pub begun_unnamed : (r : InHand) → None ≡ name_read name → r ≡ fresh_with [] 0 → r ≡ begun name
  unfolding begun
  begun_unnamed r e p = rw (unnamed e) p

  pub begun_named : (r : InHand) (header : List ℕ) (k : Key) → Some k ≡ name_read name → header ≡ header_of (name_key name) ++ 10 ∷ []
      → r ≡ fresh_with header k.day → r ≡ begun name
  unfolding begun
  begun_named r header k e p q =
      let a = named k e in rw a.0 (q ∙ rw (p, a.1))

-- ---- a reader's name

module _ (header : List ℕ) (named : ℕ) (l : length header ≡ 51) where
  has_name_lem : 50 ≤ named → has_name (take named header) ≡ true
  has_name_lem h = le-leb 50 (length (take named header)) (rw (length-take, l) (omega arith))

  no_name : named < 50 → has_name (take named header) ≡ false
  no_name h = lt-leb 50 (length (take named header)) (rw (length-take, l) (omega arith))

-- as many of its bytes as are lent
module _ (header : List ℕ) (named n : ℕ) (l : length header ≡ 51) (a : n ≡ min named 51) where
  pub name_inside : n ≤ length header
  name_inside = omega arith

  pub name_count : n ≡ length (take n header)
  name_count = sym (length-take-le n header name_inside)

  pub name_between : 50 ≤ named → (50 ≤ length (take n header)) × (length (take n header) ≤ 51)
  name_between h = let c = name_count in (omega arith, omega arith)

-- a line with its LF, lent
module _ (text line : List ℕ) (k : ℕ) (e : take (k + 1) text ≡ line ++ 10 ∷ []) (z : k ≡ length line) where
  pub text_count : k + 1 ≡ length (take (k + 1) text)
  text_count = let h = ap length e in omega (arith, length-append line (10 ∷ []))

  pub text_inside : k + 1 ≤ length text
  text_inside = omega (arith, text_count, length-take (k + 1) text)

-- ---- a piece more

module _ (self : FileReader) (l : length self.header ≡ 51) (n s : ℕ) (a : n ≡ min self.named 51) (b : s ≡ min self.steps 50) where
  its_header : take n self.header ≡ take self.named self.header
  its_header = rw a (take_least self.header self.named 51 l)

  -- what is kept of a text that begins where a line does
  pub walk_made : (total : ℕ) (x : FileTaken) (text : List ℕ) (t : FileTaken) (rest line : List ℕ) (held m : ℕ)
      → t ≡ take_text (take n self.header) s x text → rest ≡ rest_of_text (take n self.header) x.header text
      → held ≡ min m 64 → m ≡ length rest → take m line ≡ take 64 rest
      → record { day = self.day; steps = min s places; header = take n self.header; length = total; taken = t; line = take held line }
      ≡ walked (in_hand self) total x text
  unfolding walked
  walk_made total x text t rest line held m p q h e f =
      let z : min s places ≡ min self.steps places = omega arith in
      let v : take held line ≡ take 64 rest = held_first h e f in
      rw (z, v, p, q, b, its_header)
    where
      held_first : held ≡ min m 64 → m ≡ length rest → take m line ≡ take 64 rest → take held line ≡ take 64 rest
      held_first h e f =
          by_test (leb m 64)
          (λ t. let o = leb-true m 64 t in
          let u : held ≡ m = omega arith in
          ap (λ (i : ℕ). take i line) u ∙ f)
          (λ t. let o = leb-false m 64 t in
          let u : held ≡ 64 = omega arith in
          ap (λ (i : ℕ). take i line) u ∙ (sym (take-take 64 m line (omega arith)) ∙ (ap (take 64) f ∙ take-take 64 64 rest (omega arith))))

  module _ (total : ℕ) (piece text : List ℕ) (end k : ℕ) (w : end ≡ byte_from 10 piece 0)
      (e : take (k + 1) text ≡ gone_on (take self.held self.line) piece end ++ 10 ∷ []) where
    -- a line in hand that ends, and the rest of the piece
    pub line_ended : (r : InHand) (t : FileTaken) → end < length piece
        → t ≡ take_text (take n self.header) s (with_powers self.tally self.powers) (take (k + 1) text)
        → r ≡ walked (in_hand self) total t (drop (end + 1) piece) → r ≡ continued (in_hand self) total piece (byte_from 10 piece 0)
    unfolding continued
    line_ended r t h p q = rw (← w, lt-leb (length piece) end h) (q ∙ rw (p, e, its_header, b))

-- a line in hand that only grows
pub line_grown : (self : FileReader) (total : ℕ) (piece text line : List ℕ) (end k : ℕ) → end ≡ byte_from 10 piece 0 → length piece ≤ end
    → take (k + 1) text ≡ gone_on (take self.held self.line) piece end ++ 10 ∷ []
    → (k ≡ length (gone_on (take self.held self.line) piece end)) × (k ≤ 64) → take (length text - 0) line ≡ take 64 text
    → record {
      day = self.day;
      steps = min self.steps places;
      header = take self.named self.header;
      length = total;
      taken = with_powers self.tally self.powers;
      line = take k line;
    }
    ≡ continued (in_hand self) total piece (byte_from 10 piece 0)
unfolding continued
line_grown self total piece text line end k w h e o f =
    let g = gone_on (take self.held self.line) piece end in
    let m : k ≤ length text - 0 = omega (arith, ap length e, length-take (k + 1) text, length-append g (10 ∷ []), o.0) in
    let p : take k line ≡ g =
    sym (take-take k (length text - 0) line m)
    ∙ (ap (take k) f
    ∙ (take-take k 64 text o.1 ∙ (sym (take-take k (k + 1) text (omega arith)) ∙ (ap (take k) e ∙ take_at g (10 ∷ []) k (sym o.0)))))
    in
    rw (← w, le-leb (length piece) end h, p)

-- nothing in hand
line_empty : (line : List ℕ) (held : ℕ) → length line ≡ 64 → eqb (length (take held line)) 0 ≡ eqb held 0
line_empty line held l =
    by_test (eqb held 0)
    (λ t. let e = eqb-true held 0 t in rw e)
    (λ t. let f = eqb-false held 0 t in
    let g : 0 < length (take held line) = rw (length-take, l) (omega arith) in
    ne_eqb (length (take held line)) 0 (λ e. omega arith) ∙ sym t)

module _ (self : FileReader) (piece : List ℕ) (total : ℕ) (l : length self.header ≡ 51) (w : total ≡ length_with self.length piece) where
  pub fed_not : (ltb self.named 50 || ltb 4096 total) ≡ true
      → record {
        day = self.day;
        steps = min self.steps places;
        header = take self.named self.header;
        length = total;
        taken = with_powers self.tally self.powers;
        line = take self.held self.line;
      }
      ≡ fed (in_hand self) piece
  unfolding fed counts
  fed_not t =
      or_cases (ltb self.named 50) (ltb 4096 total) t
      (λ a. rw (← w, no_name self.header self.named l (ltb-true self.named 50 a)))
      (λ b. rw (← w, lt-leb total 4096 (ltb-true 4096 total b), and_none (has_name (take self.named self.header))))

  module _ (f : (ltb self.named 50 || ltb 4096 total) ≡ false) where
    pub fed_name : 50 ≤ self.named
    fed_name = ltb-false self.named 50 (or_left (ltb self.named 50) (ltb 4096 total) f)

    fed_few : leb total 4096 ≡ true
    fed_few = le-leb total 4096 (ltb-false 4096 total (or_right (ltb self.named 50) (ltb 4096 total) f))

    pub fed_first : (r : InHand) → self.held ≡ 0 → r ≡ walked (in_hand self) total (with_powers self.tally self.powers) piece
        → r ≡ fed (in_hand self) piece
    unfolding fed
    fed_first r h e = rw (← w, has_name_lem self.header self.named l fed_name, fed_few) (e ∙ rw h)

    pub fed_next : (r : InHand) → length self.line ≡ 64 → (self.held ≡ 0 → ⊥) → r ≡ continued (in_hand self) total piece (byte_from 10 piece 0)
        → r ≡ fed (in_hand self) piece
    unfolding fed
    fed_next r m h e =
        rw (← w, has_name_lem self.header self.named l fed_name, fed_few, line_empty self.line self.held m, ne_eqb self.held 0 h) e

-- ---- the end

-- what is known of a test after it was tried
pub is_met : {E : Type 0} (t : Bool) (e d : E) → ◌≡◌ {A = Result ⊤ E} (Err d) (cond t (Err e) (Ok tt)) → (t ≡ true) × (d ≡ e)
is_met true e d f = (refl, cc)
is_met false e d f = cc

pub is_unmet : {E : Type 0} (t : Bool) (e : E) (u : ⊤) → ◌≡◌ {A = Result ⊤ E} (Ok u) (cond t (Err e) (Ok tt)) → t ≡ false
is_unmet true e u f = cc
is_unmet false e u f = refl

abbrev pub whole : FileReader → Bool
whole self = leb 1 self.length && leb self.length 4096 && eqb self.held 0

module _ (self : FileReader) (l : length self.header ≡ 51) where
  pub ended_unnamed : ltb self.named 50 ≡ true → Err (input Name) ≡ ended (in_hand self)
  unfolding ended
  ended_unnamed t = rw (no_name self.header self.named l (ltb-true self.named 50 t))

  module _ (m : length self.line ≡ 64) (h : ltb self.named 50 ≡ false) where
    its_name : has_name (take self.named self.header) ≡ true
    its_name = has_name_lem self.header self.named l (ltb-false self.named 50 h)

    pub ended_body : not (whole self) ≡ true → Err (input Body) ≡ ended (in_hand self)
    unfolding ended
    ended_body t = rw (its_name, line_empty self.line self.held m, not-true (whole self) t)

    pub ended_lines : (r : Result Notification Refusal) (key : Key) (n s : ℕ) → not (whole self) ≡ false
        → n ≡ min self.named 51 → s ≡ min self.steps 50 → key ≡ key_of (take n self.header) self.day
        → r ≡ concluded key s (with_powers self.tally self.powers) → r ≡ ended (in_hand self)
    unfolding ended
    ended_lines r key n s t a b k e =
        rw (its_name, line_empty self.line self.held m, not-false (whole self) t) (e ∙ rw (k, b, its_header self l n s a b))
