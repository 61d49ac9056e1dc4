-- The lines of an input, by its first LF; and that of a line that is too long the first 513 bytes say as much as all of it.
use Rattle.std.proofs.Common.{◌≡◌, ℕ, suc, ◌<◌, Bool, true, false, eqb, leb, List, [], ◌∷◌, ◌++◌, length, take, sym, refl, ap, ◌∙◌, append_assoc, append-nil, arith, length-append, length-take, take_all, eqb-true, leb-false, leb-true}
use borrow.Author.Tests.{not-true}
use Rattle.lists.specs.Searches.{every}
use Rattle.lists.proofs.Tests.{by_test, and_left, and_right, and_true}
use Rattle.lists.proofs.Searches.{every_append, every_take}
use Rattle.notification.specs.Reading.{onto, lines_in}
use Rattle.notification.proofs.Lines.{in_line, lines_first}
use Rattle.ledger.specs.Ledger.{Ledger}
use Rattle.script.specs.Lines.{Asked, line_of}
use Rattle.script.specs.Answers.{answer_line}
use Rattle.script.proofs.Letters.{line_long}
use Rattle.lines.specs.Scripts.{last_line, lines_after, lines_of, Files, line_says, name_of, printed}

-- ---- from an input to its lines

after_first : (begun l s : List ℕ) → every in_line l ≡ true → lines_after begun (l ++ 10 ∷ s) ≡ (begun ++ l) ∷ lines_of s
unfolding lines_after
after_first begun [] s e = ap (λ (x : List ℕ). x ∷ lines_of s) (sym (append-nil begun))
after_first begun (b ∷ l) s e =
    rw (not-true (eqb b 10) (and_left (in_line b) (every in_line l) e))
    (after_first (begun ++ b ∷ []) l s (and_right (in_line b) (every in_line l) e) ∙ ap (λ (x : List ℕ). x ∷ lines_of s) (append_assoc begun (b ∷ []) l))

pub of_first : (l s : List ℕ) → every in_line l ≡ true → lines_of (l ++ 10 ∷ s) ≡ l ∷ lines_of s
of_first l s e = after_first [] l s e

after_last : (begun l : List ℕ) → every in_line l ≡ true → lines_after begun l ≡ last_line (begun ++ l)
unfolding lines_after
after_last begun [] e = ap last_line (sym (append-nil begun))
after_last begun (b ∷ l) e =
    rw (not-true (eqb b 10) (and_left (in_line b) (every in_line l) e))
    (after_last (begun ++ b ∷ []) l (and_right (in_line b) (every in_line l) e) ∙ ap last_line (append_assoc begun (b ∷ []) l))

pub of_last : (l : List ℕ) → every in_line l ≡ true → lines_of l ≡ last_line l
of_last l e = after_last [] l e

pub last_some : (l : List ℕ) → 0 < length l → last_line l ≡ l ∷ []
last_some [] h = absurd (omega (arith, h))
last_some (b ∷ l) h = refl

-- ---- from the lines that have their LF back to the input

-- a first line, its LF, and the other lines
pub record First (text line : List ℕ) (ls : List (List ℕ)) : Type 0 where
  pub rest : List ℕ
  pub parts : text ≡ line ++ 10 ∷ rest
  pub others : lines_in rest ≡ ls
  pub unbroken : every in_line line ≡ true

first_more : (b : ℕ) (s line : List ℕ) (ls ms : List (List ℕ)) → in_line b ≡ true → ((l : List ℕ) (ks : List (List ℕ)) → ms ≡ l ∷ ks → First s l ks) →
    onto false b ms ≡ line ∷ ls → First (b ∷ s) line ls
first_more b s line ls [] e f k = let z : ◌≡◌ {A = ℕ} 0 1 = cc in absurd (omega arith)
first_more b s line ls (l ∷ ms) e f k =
    let x = f l ms refl in
    let p : b ∷ l ≡ line = cc in
    let q : ms ≡ ls = cc in
    record {
      rest = x.rest;
      parts = ap (λ (t : List ℕ). b ∷ t) x.parts ∙ ap (λ (t : List ℕ). t ++ 10 ∷ x.rest) p;
      others = x.others ∙ q;
      unbroken = rw (← p) (and_true (in_line b) (every in_line l) e x.unbroken);
    }

pub first_line_lem : (text line : List ℕ) (ls : List (List ℕ)) → lines_in text ≡ line ∷ ls → First text line ls
unfolding lines_in
first_line_lem [] line ls e = let z : ◌≡◌ {A = ℕ} 0 1 = cc in absurd (omega arith)
first_line_lem (b ∷ s) line ls e =
    by_test (eqb b 10)
    (λ t.
    let k : [] ∷ lines_in s ≡ line ∷ ls = rw t at e in
    let p : ◌≡◌ {A = List ℕ} [] line = cc in
    let q : lines_in s ≡ ls = cc in
    record {
      rest = s;
      parts = ap (λ (c : ℕ). c ∷ s) (eqb-true b 10 t) ∙ ap (λ (l : List ℕ). l ++ 10 ∷ s) p;
      others = q;
      unbroken = rw (← p) refl;
    })
    (λ t. first_more b s line ls (lines_in s) (rw t refl) (λ l ks m. first_line_lem s l ks m) (rw t at e))

no_more : (b : ℕ) (ms : List (List ℕ)) → onto false b ms ≡ [] → ms ≡ []
no_more b [] e = refl
no_more b (l ∷ ms) e = let z : ◌≡◌ {A = ℕ} 0 1 = cc in absurd (omega arith)

-- no line has its LF: there is none
pub no_first : (text : List ℕ) → lines_in text ≡ [] → every in_line text ≡ true
unfolding lines_in
no_first [] e = refl
no_first (b ∷ s) e =
    by_test (eqb b 10)
    (λ t. let k : ◌≡◌ {A = List (List ℕ)} ([] ∷ lines_in s) [] = rw t at e in let z : ◌≡◌ {A = ℕ} 0 1 = cc in absurd (omega arith))
    (λ t. and_true (in_line b) (every in_line s) (rw t refl) (no_first s (no_more b (lines_in s) (rw t at e))))

-- ---- all lines of an input, or those that have their LF

abbrev pub cuts : Bool → List ℕ → List (List ℕ)
cuts true s = lines_of s
cuts false s = lines_in s

pub cuts_first : (k : Bool) (l s : List ℕ) → every in_line l ≡ true → cuts k (l ++ 10 ∷ s) ≡ l ∷ cuts k s
cuts_first true l s e = of_first l s e
cuts_first false l s e = lines_first l s e

none_in : (s : List ℕ) → every in_line s ≡ true → lines_in s ≡ []
unfolding lines_in
none_in [] e = refl
none_in (b ∷ s) e =
    rw (not-true (eqb b 10) (and_left (in_line b) (every in_line s) e), none_in s (and_right (in_line b) (every in_line s) e))

-- ---- a line that is too long

-- with the bytes behind its first 513 forgotten it asks what it asked
pub cut_line : (text m : List ℕ) → line_of (take 513 text ++ m) ≡ line_of (text ++ m)
cut_line text m =
    by_test (leb (length text) 513)
    (λ t. rw (take_all 513 text (leb-true (length text) 513 t)))
    (λ t.
    let h = leb-false (length text) 513 t in
    let a : 512 < length (text ++ m) = rw length-append (omega (arith, h)) in
    let b : 512 < length (take 513 text ++ m) = rw (length-append, length-take) (omega (arith, h)) in
    sym (line_long (take 513 text ++ m) b) ∙ line_long (text ++ m) a)

module _ (files : Files) (l : Ledger) (n : ℕ) where
  -- what is printed for a line hangs on what it asks
  pub same_asked : (x y : List ℕ) (ls : List (List ℕ)) → line_of x ≡ line_of y → printed files l n (x ∷ ls) ≡ printed files l n (y ∷ ls)
  unfolding printed
  same_asked x y ls e =
      ap (λ (a : Asked). answer_line n (line_says l (files n (name_of a)) a).said ++ printed files (line_says l (files n (name_of a)) a).ledger (suc n) ls) e

  same_last : (x y : List ℕ) → line_of x ≡ line_of y → 0 < length x → 0 < length y → printed files l n (last_line x) ≡ printed files l n (last_line y)
  same_last x y e h k = rw (last_some x h, last_some y k) (same_asked x y [] e)

  -- bytes without LF before a first line
  joins : (k : Bool) (text more m rest : List ℕ) → every in_line text ≡ true → every in_line m ≡ true → more ≡ m ++ 10 ∷ rest →
      cuts k (text ++ more) ≡ (text ++ m) ∷ cuts k rest
  joins k text more m rest e f p =
      ap (λ (x : List ℕ). cuts k (text ++ x)) p ∙ ap (cuts k) (sym (append_assoc text m (10 ∷ rest))) ∙ cuts_first k (text ++ m) rest (every_append in_line text m e f)

  -- and before none
  joins_none : (k : Bool) (text more : List ℕ) → every in_line text ≡ true → every in_line more ≡ true →
      printed files l n (cuts k (take 513 text ++ more)) ≡ printed files l n (cuts k (text ++ more))
  joins_none true text more e f =
      let a : lines_of (take 513 text ++ more) ≡ last_line (take 513 text ++ more) =
      of_last (take 513 text ++ more) (every_append in_line (take 513 text) more (every_take in_line 513 text e) f) in
      let b : lines_of (text ++ more) ≡ last_line (text ++ more) = of_last (text ++ more) (every_append in_line text more e f) in
      by_test (leb (length text) 513)
      (λ t. rw (take_all 513 text (leb-true (length text) 513 t)))
      (λ t.
      let h = leb-false (length text) 513 t in
      let i : 0 < length (take 513 text ++ more) = rw (length-append, length-take) (omega (arith, h)) in
      let j : 0 < length (text ++ more) = rw length-append (omega (arith, h)) in
      rw (a, b) (same_last (take 513 text ++ more) (text ++ more) (cut_line text more) i j))
  joins_none false text more e f =
      ap (printed files l n)
      (none_in (take 513 text ++ more) (every_append in_line (take 513 text) more (every_take in_line 513 text e) f)
      ∙ sym (none_in (text ++ more) (every_append in_line text more e f)))

  by_lines : (k : Bool) (text more : List ℕ) (ms : List (List ℕ)) → lines_in more ≡ ms → every in_line text ≡ true →
      printed files l n (cuts k (take 513 text ++ more)) ≡ printed files l n (cuts k (text ++ more))
  by_lines k text more [] q e = joins_none k text more e (no_first more q)
  by_lines k text more (m ∷ ms) q e =
      let x = first_line_lem more m ms q in
      let a = joins k (take 513 text) more m x.rest (every_take in_line 513 text e) x.unbroken x.parts in
      let b = joins k text more m x.rest e x.unbroken x.parts in
      rw (a, b) (same_asked (take 513 text ++ m) (text ++ m) (cuts k x.rest) (cut_line text m))

  -- a line that has no LF yet, of which the first 513 bytes are held
  pub held_alike : (k : Bool) (text more : List ℕ) → every in_line text ≡ true →
      printed files l n (cuts k (take 513 text ++ more)) ≡ printed files l n (cuts k (text ++ more))
  held_alike k text more e = by_lines k text more (lines_in more) refl e
