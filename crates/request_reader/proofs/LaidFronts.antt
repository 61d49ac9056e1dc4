-- A step that is laid out as another one has its tokens, but for the labels and the digits of the power.
use mathlib.Core.Path.{◌≡◌, sym, ap, ◌∙◌}
use mathlib.Core.Bool.{true, false}
use mathlib.Core.List.{List, [], ◌∷◌, ◌++◌, append_assoc}
use Prim.Native.Nat.{ℕ, zero, suc, ◌+◌, ◌-◌, ◌<◌, ◌≤◌}
use native.Mathlib.Nat.{add-zero}
use native.Mathlib.Numerals.{add-one}
use native.Mathlib.Omega.{arith}
use lib.ListN.{length, get_or, take, drop, length-drop, take-append-drop}
use lib.Seq.{take-nil, take-take, take-suc, drop-drop, drop-cons, get_or-take, get_or-drop, length-take-le}
use lib.Dec.{ltb}
use borrow.Author.Tests.{lt-ltb}
use Rattle.lists.specs.Searches.{every, same}
use Rattle.lists.proofs.Tests.{and_true}
use Rattle.lists.proofs.Searches.{same_true}
use Rattle.notification.specs.Forms.{is_digit}
use Rattle.request.specs.Tokens.{quoted, tokens}
use Rattle.request.specs.Reading.{is_label_byte}
use Rattle.request.proofs.Unquoted.{label_unquoted}
use Rattle.request_reader.specs.declared.layouts.Layout.{Layout}
use Rattle.request_reader.specs.Walking.{part, Passed}
use Rattle.request_reader.specs.Steps.{before_from, before_until, before_power, FiveAt, LaidOut, LabelEntry, RunAt, FrontAt}
use Rattle.request_reader.specs.Series.{between_steps}
use Rattle.request_reader.proofs.Fronts.{tokens_quoted, tokens_run}

-- ---- parts of a text

pub part_rest : (s : List ℕ) (at n : ℕ) → drop at s ≡ part at n s ++ drop (at + n) s
part_rest s at n = sym (take-append-drop n (drop at s)) ∙ ap (λ (x : List ℕ). part at n s ++ x) (drop-drop n at s)

pub byte_rest : (s : List ℕ) (i b : ℕ) → i < length s → get_or s i 0 ≡ b → drop i s ≡ b ∷ drop (i + 1) s
byte_rest s i b h e = drop-cons s i 0 h ∙ rw (e, add-one i)

take_within : (l : List ℕ) (i m n : ℕ) → i + m ≤ n → take m (drop i (take n l)) ≡ take m (drop i l)
take_within l zero m n h = take-take m n l (omega arith)
take_within [] (suc i) m n h = ap (λ (x : List ℕ). take m (drop (suc i) x)) (take-nil n)
take_within (b ∷ l) (suc i) m zero h = absurd (omega arith)
take_within (b ∷ l) (suc i) m (suc n) h = take_within l i m n (omega arith)

-- what is the same at two places, the bytes and the parts of it are
module _ (s : List ℕ) (p q n : ℕ) (e : same (part p n s) (part q n s) ≡ true) where
  alike : part p n s ≡ part q n s
  alike = same_true (part p n s) (part q n s) e

  pub byte_alike : (i a b : ℕ) → i < n → p + i ≡ a → q + i ≡ b → get_or s a 0 ≡ get_or s b 0
  byte_alike i a b h f g = rw (f, g) at (sym (inner p) ∙ (ap (λ (x : List ℕ). get_or x i 0) alike ∙ inner q))
    where
      inner : (o : ℕ) → get_or (part o n s) i 0 ≡ get_or s (o + i) 0
      inner o = get_or-take n (drop o s) i 0 h ∙ get_or-drop o s i 0

  pub part_alike : (i m a b : ℕ) → i + m ≤ n → p + i ≡ a → q + i ≡ b → part a m s ≡ part b m s
  part_alike i m a b h f g = rw (f, g) at (sym (inner p) ∙ (ap (λ (x : List ℕ). take m (drop i x)) alike ∙ inner q))
    where
      inner : (o : ℕ) → take m (drop i (part o n s)) ≡ part (o + i) m s
      inner o = take_within (drop o s) i m n h ∙ ap (take m) (drop-drop i o s)

-- ---- the tokens of what stands there

-- between two places stand the tokens of a text that stands elsewhere too
pub passed_again : (ts : List (List ℕ)) (s : List ℕ) (from to at n : ℕ) → from + n ≡ to → Passed ts s from to → part at n s ≡ part from n s
    → tokens (drop at s) ≡ ts ++ tokens (drop (at + n) s)
passed_again ts s from to at n k p e =
    let r = drop (at + n) s in
    let m : to - from ≡ n = omega arith in
    ap tokens (part_rest s at n) ∙ (ap (λ (x : List ℕ). tokens (x ++ r)) e ∙ rw m at (p.lays r))

-- a label of a list, of which four bytes are compared
module _ (s t : List ℕ) (p j : ℕ) (room : p + 7 ≤ length s) (listed : j + 5 ≤ length t) (four : part (p + 1) 4 s ≡ part j 4 t)
    (opens : get_or s p 0 ≡ 34) (last : get_or s (p + 5) 0 ≡ 48) (closes : get_or s (p + 6) 0 ≡ 34) (ends : get_or t (j + 4) 0 ≡ 48) where
  five : part j 5 t ≡ part j 4 t ++ 48 ∷ []
  five =
      let k : 4 < length (drop j t) = rw length-drop (omega arith) in
      take-suc (drop j t) 4 0 k ∙ ap (λ (b : ℕ). part j 4 t ++ b ∷ []) (get_or-drop j t 4 0 ∙ ends)

  label_text_lem : drop p s ≡ quoted (part j 5 t) ++ drop (p + 7) s
  label_text_lem =
      let k5 : p + 1 + 4 ≡ p + 5 = omega arith in
      let k6 : p + 5 + 1 ≡ p + 6 = omega arith in
      let k7 : p + 6 + 1 ≡ p + 7 = omega arith in
      let r = drop (p + 7) s in
      let d6 : drop (p + 6) s ≡ 34 ∷ r = rw k7 at (byte_rest s (p + 6) 34 (omega arith) closes) in
      let d5 : drop (p + 5) s ≡ 48 ∷ 34 ∷ r = rw (k6, d6) at (byte_rest s (p + 5) 48 (omega arith) last) in
      let d1 : drop (p + 1) s ≡ part j 4 t ++ 48 ∷ 34 ∷ r = rw (k5, four, d5) at (part_rest s (p + 1) 4) in
      byte_rest s p 34 (omega arith) opens
      ∙ (ap (λ (x : List ℕ). 34 ∷ x) (d1 ∙ sym (joined (part j 4 t) r)) ∙ ap (λ (x : List ℕ). quoted x ++ r) (sym five))
    where
      joined : (x r : List ℕ) → ((x ++ 48 ∷ []) ++ 34 ∷ []) ++ r ≡ x ++ 48 ∷ 34 ∷ r
      joined x r = simp append_assoc

  pub label_again : every is_label_byte (part j 5 t) ≡ true → tokens (drop p s) ≡ quoted (part j 5 t) ∷ tokens (drop (p + 7) s)
  label_again e = ap tokens label_text_lem ∙ tokens_quoted (part j 5 t) (drop (p + 7) s) (label_unquoted (part j 5 t) e)

-- the digits of a power
module _ (s : List ℕ) (at v n : ℕ) (r : RunAt s at v n) where
  pub run_length : length (part at n s) ≡ n
  run_length = length-take-le n (drop at s) (rw length-drop (omega (arith, r.within)))

  pub run_token : tokens (drop at s) ≡ part at n s ∷ tokens (drop (at + n) s)
  run_token =
      ap tokens (part_rest s at n)
      ∙ whole (part at n s) (drop (at + n) s) (omega (arith, run_length, r.some)) r.all
      (ap is_digit (get_or-drop (at + n) s 0 0 ∙ ap (λ (k : ℕ). get_or s k 0) (add-zero (at + n))) ∙ r.stop)
    where
      whole : (t u : List ℕ) → 0 < length t → every is_digit t ≡ true → is_digit (get_or u 0 0) ≡ false → tokens (t ++ u) ≡ t ∷ tokens u
      whole [] u h e f = absurd (omega arith)
      whole (d ∷ t) u h e f = tokens_run d t u e f

-- ---- the step

-- the step begins at a place, as the other one after its lead: so many bytes up to the first label, from it to the second, and to the power
module _ (s t : List ℕ) (at lead first second power g h k i : ℕ)
    (eg : lead + g ≡ first) (eh : first + 7 + h ≡ second) (ek : second + 7 + k ≡ power)
    (to_from : Passed (between_steps ++ before_from) s lead first) (from_label : FiveAt s first)
    (to_until : Passed before_until s (first + 7) second) (until_label : FiveAt s second)
    (to_power : Passed before_power s (second + 7) power) (from : LabelEntry t i) (until : LabelEntry t (i + 10)) where
  abbrev label : ℕ
  label = at + (g + 1)

  abbrev second_label : ℕ
  second_label = label + (h + 7)

  pub step_again : (v n : ℕ)
      → same (part at (g + 1) s) (part lead (g + 1) s) ≡ true
      → same (part label 4 s) (part (i + 4) 4 t) ≡ true
      → same (part (label + 4) (h + 3) s) (part (first + 5) (h + 3) s) ≡ true
      → same (part second_label 4 s) (part (i + 14) 4 t) ≡ true
      → same (part (second_label + 4) (k + 2) s) (part (second + 5) (k + 2) s) ≡ true
      → RunAt s (second_label + (k + 6)) v n
      → FrontAt between_steps (part (i + 4) 5 t) (part (i + 14) 5 t) s at (at + (g + 1 + (h + 7) + (k + 6) + n)) v
  step_again v n s1 f1 s2 f2 s3 r =
      let m = r.within in
      let p1 = at + g in
      let p2 = p1 + 7 + h in
      let p3 = p2 + 7 + k in
      let e1 : label ≡ p1 + 1 = omega arith in
      let e2 : second_label ≡ p2 + 1 = omega arith in
      let e3 : second_label + (k + 6) ≡ p3 = omega arith in
      let e4 : at + (g + 1 + (h + 7) + (k + 6) + n) ≡ p3 + n = omega arith in
      let j4 : i + 4 + 4 ≡ i + 8 = omega arith in
      let j14 : i + 10 + 4 ≡ i + 14 = omega arith in
      let j18 : i + 14 + 4 ≡ i + 10 + 8 = omega arith in
      let b1 = byte_alike s at lead (g + 1) s1 in
      let b2 = byte_alike s (label + 4) (first + 5) (h + 3) s2 in
      let b3 = byte_alike s (second_label + 4) (second + 5) (k + 2) s3 in
      let t1 = passed_again (between_steps ++ before_from) s lead first at g eg to_from
      (part_alike s at lead (g + 1) s1 0 g at lead (omega arith) (add-zero at) (add-zero lead)) in
      let t2 = label_again s t p1 (i + 4) (omega arith) (omega (arith, from.within))
      (rw e1 at (same_true (part label 4 s) (part (i + 4) 4 t) f1))
      (b1 g p1 first (omega arith) (omega arith) (omega arith) ∙ from_label.opens)
      (b2 0 (p1 + 5) (first + 5) (omega arith) (omega arith) (omega arith) ∙ from_label.last)
      (b2 1 (p1 + 6) (first + 6) (omega arith) (omega arith) (omega arith) ∙ from_label.closes)
      (rw j4 from.last) from.label in
      let t3 = passed_again before_until s (first + 7) second (p1 + 7) h eh to_until
      (part_alike s (label + 4) (first + 5) (h + 3) s2 2 h (p1 + 7) (first + 7) (omega arith) (omega arith) (omega arith)) in
      let t4 = label_again s t p2 (i + 14) (omega arith) (omega (arith, until.within))
      (rw e2 at (same_true (part second_label 4 s) (part (i + 14) 4 t) f2))
      (b2 (h + 2) p2 second (omega arith) (omega arith) (omega arith) ∙ until_label.opens)
      (b3 0 (p2 + 5) (second + 5) (omega arith) (omega arith) (omega arith) ∙ until_label.last)
      (b3 1 (p2 + 6) (second + 6) (omega arith) (omega arith) (omega arith) ∙ until_label.closes)
      (rw j18 until.last) (rw j14 at until.label) in
      let t5 = passed_again before_power s (second + 7) power (p2 + 7) k ek to_power
      (part_alike s (second_label + 4) (second + 5) (k + 2) s3 2 k (p2 + 7) (second + 7) (omega arith) (omega arith) (omega arith)) in
      let r3 : RunAt s p3 v n = rw e3 at r in
      let digits = part p3 n s in
      let long = run_length s p3 v n r3 in
      let some : 0 < length digits = omega (arith, long, r.some) in
      record {
        digits = digits;
        within = omega arith;
        its_tokens =
            rw e4
            (t1 ∙ ap (λ (x : List (List ℕ)). (between_steps ++ before_from) ++ x)
            (t2 ∙ ap (λ (x : List (List ℕ)). quoted (part (i + 4) 5 t) ∷ x)
            (t3 ∙ ap (λ (x : List (List ℕ)). before_until ++ x)
            (t4 ∙ ap (λ (x : List (List ℕ)). quoted (part (i + 14) 5 t) ∷ x)
            (t5 ∙ ap (λ (x : List (List ℕ)). before_power ++ x) (run_token s p3 v n r3))))));
        run = and_true (ltb 0 (length digits)) (every is_digit digits) (lt-ltb 0 (length digits) some) r3.all;
        its_power = rw long r3.its_power;
      }

-- so many bytes stand between two places, and beside them the quote before a label, or the end of one and the quotes
gap : (x y : ℕ) → x ≤ y → x + (y - x) ≡ y
gap x y h = omega arith

gap_opened : (x y n : ℕ) → x ≤ y → n ≡ y + 1 - x → n ≡ y - x + 1
gap_opened x y n h e = omega arith

gap_both : (x y n : ℕ) → x + 7 ≤ y → n ≡ y - x → (n ≡ y - (x + 7) + 7) × (n - 4 ≡ y - (x + 7) + 3)
gap_both x y n h e = (omega arith, omega arith)

gap_closed : (x y n : ℕ) → x + 7 ≤ y → n ≡ y - x - 1 → (n ≡ y - (x + 7) + 6) × (n - 4 ≡ y - (x + 7) + 2)
gap_closed x y n h e = (omega arith, omega arith)

-- the same, by the places of the other step
module _ (s t : List ℕ) (at lead i : ℕ) (l : Layout) (laid : LaidOut (between_steps ++ before_from) s lead l)
    (from : LabelEntry t i) (until : LabelEntry t (i + 10)) (a b c : ℕ)
    (ea : a ≡ l.first + 1 - lead) (eb : b ≡ l.second - l.first) (ec : c ≡ l.power - l.second - 1) where
  pub laid_again : (v n : ℕ)
      → same (part at a s) (part lead a s) ≡ true
      → same (part (at + a) 4 s) (part (i + 4) 4 t) ≡ true
      → same (part (at + a + 4) (b - 4) s) (part (l.first + 5) (b - 4) s) ≡ true
      → same (part (at + a + b) 4 s) (part (i + 14) 4 t) ≡ true
      → same (part (at + a + b + 4) (c - 4) s) (part (l.second + 5) (c - 4) s) ≡ true
      → RunAt s (at + a + b + c) v n
      → FrontAt between_steps (part (i + 4) 5 t) (part (i + 14) 5 t) s at (at + (a + b + c + n)) v
  laid_again v n s1 f1 s2 f2 s3 r =
      let o1 = laid.to_from.on in
      let o2 = laid.to_until.on in
      let o3 = laid.to_power.on in
      let g = l.first - lead in
      let h = l.second - (l.first + 7) in
      let k = l.power - (l.second + 7) in
      let xa = gap_opened lead l.first a o1 ea in
      let (xb, yb) = gap_both l.first l.second b o2 eb in
      let (xc, yc) = gap_closed l.second l.power c o3 ec in
      rw (xa, xb, xc)
      (step_again s t at lead l.first l.second l.power g h k i (gap lead l.first o1) (gap (l.first + 7) l.second o2)
      (gap (l.second + 7) l.power o3)
      laid.to_from laid.from_label laid.to_until laid.until_label laid.to_power from until v n
      (rw xa at s1) (rw xa at f1) (rw (yb, xa) at s2) (rw (xa, xb) at f2) (rw (yc, xa, xb) at s3) (rw (xa, xb, xc) at r))
