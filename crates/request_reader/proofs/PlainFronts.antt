-- A step without blanks, by words of eight bytes: its text is what they say together, and its tokens are those of a step.
use Rattle.std.specs.Prelude.{Option, Some, None}
use mathlib.Core.Path.{◌≡◌, refl, sym, ap, ◌∙◌}
use mathlib.Core.Bool.{Bool, true, false, not, ◌&&◌}
use mathlib.Core.List.{List, [], ◌∷◌, ◌++◌}
use Prim.Native.Nat.{ℕ, ◌+◌, ◌<◌, ◌≤◌}
use native.Mathlib.Nat.{add-zero}
use native.Mathlib.Omega.{arith}
use lib.Dec.{ltb}
use lib.ListN.{length, get_or, take, drop, length-take, length-drop}
use lib.Seq.{take_all, take-suc, take-add, take-take, drop-append-le, drop-drop, drop_at, get_or-drop, append_snoc}
use borrow.Author.Tests.{lt-ltb, not-false}
use Rattle.lists.specs.Searches.{every, same}
use Rattle.lists.proofs.Tests.{and_left, and_right, and_true}
use Rattle.lists.proofs.Searches.{same_true}
use Rattle.notification.specs.Forms.{is_digit}
use Rattle.request.specs.Tokens.{quoted, tokens}
use Rattle.request.specs.Objects.{from_name, until_name, power_name}
use Rattle.request.proofs.Unquoted.{label_unquoted}
use Rattle.request_reader.specs.Walking.{part, is_plain, is_mark}
use Rattle.request_reader.specs.Steps.{front_of, open_text, LabelEntry, RunAt, FrontAt}
use Rattle.request_reader.specs.Series.{between_steps, PlainSays, LaidSays}
use Rattle.request_reader.proofs.Fronts.{tokens_mark, tokens_quoted}
use Rattle.request_reader.proofs.LaidFronts.{part_rest, run_length, run_token}

-- ---- parts of a text

-- some bytes and some more
part_more : (s : List ℕ) (p m n : ℕ) → part p (m + n) s ≡ part p m s ++ part (p + m) n s
part_more s p m n = take-add m n (drop p s) ∙ ap (λ (l : List ℕ). part p m s ++ take n l) (drop-drop m p s)

-- one byte
part_one : (s : List ℕ) (p b : ℕ) → p < length s → get_or s p 0 ≡ b → part p 1 s ≡ b ∷ []
part_one s p b h e =
    let l : 0 < length (drop p s) = rw length-drop (omega arith) in
    take-suc (drop p s) 0 0 l ∙ ap (λ (x : ℕ). x ∷ []) (get_or-drop p s 0 0 ∙ (ap (λ (x : ℕ). get_or s x 0) (add-zero p) ∙ e))

-- ---- the tokens of its text

-- a step as it is written without blanks, up to its power
abbrev plain_text : List ℕ → List ℕ → List ℕ → List ℕ
plain_text from until rest =
    123 ∷ (quoted from_name ++ 58 ∷ (quoted from ++ 44 ∷ (quoted until_name ++ 58 ∷ (quoted until ++ 44 ∷ (quoted power_name ++ 58 ∷ rest)))))

-- a quoted text and a byte by itself
quoted_mark : (t r : List ℕ) (b : ℕ) → every is_plain t ≡ true → is_mark b ≡ true
    → tokens (quoted t ++ b ∷ r) ≡ quoted t ∷ (b ∷ []) ∷ tokens r
quoted_mark t r b e f = tokens_quoted t (b ∷ r) e ∙ ap (λ (l : List (List ℕ)). quoted t ∷ l) (tokens_mark b r f)

plain_tokens : (from until digits rest more : List ℕ) → every is_plain from ≡ true → every is_plain until ≡ true
    → tokens rest ≡ digits ∷ tokens more → tokens (plain_text from until rest) ≡ front_of from until digits ++ tokens more
unfolding is_mark
plain_tokens from until digits rest more p q e =
    let power = quoted power_name ++ 58 ∷ rest in
    let second = quoted until ++ 44 ∷ power in
    let between = quoted until_name ++ 58 ∷ second in
    let first = quoted from ++ 44 ∷ between in
    let a0 = quoted_mark power_name rest 58 refl refl in
    let a1 = quoted_mark until power 44 q refl in
    let a2 = quoted_mark until_name second 58 refl refl in
    let a3 = quoted_mark from between 44 p refl in
    let a4 = quoted_mark from_name first 58 refl refl in
    tokens_mark 123 (quoted from_name ++ 58 ∷ first) refl ∙ rw (a4, a3, a2, a1, a0, e)

-- ---- the words of a list of labels

module _ (t : List ℕ) (i : ℕ) (e : LabelEntry t i) where
  -- `t":"hhhm` and a 0
  first_word : (r : List ℕ) → part i 8 t ++ 48 ∷ r ≡ 116 ∷ 34 ∷ 58 ∷ 34 ∷ (part (i + 4) 5 t ++ r)
  first_word r =
      let w = e.within in
      let k : i + 4 + 4 ≡ i + 8 = omega arith in
      let b : part (i + 4 + 4) 1 t ≡ 48 ∷ [] = rw k (part_one t (i + 8) 48 (omega arith) e.last) in
      rw (part_more t i 4 4, e.opens, part_more t (i + 4) 4 1, b)
      (ap (λ (l : List ℕ). 116 ∷ 34 ∷ 58 ∷ 34 ∷ l) (sym (append_snoc (part (i + 4) 4 t) 48 r)))

  -- `:"hhhm0"`
  second_word : part (i + 2) 8 t ≡ 58 ∷ 34 ∷ (part (i + 4) 5 t ++ 34 ∷ [])
  second_word =
      let w = e.within in
      let k : i + 2 + 2 ≡ i + 4 = omega arith in
      let m : i + 4 + 5 ≡ i + 9 = omega arith in
      let n : length (part i 2 t) ≡ 2 = rw (length-take, length-drop) (omega arith) in
      let a : part (i + 2) 2 t ≡ 58 ∷ 34 ∷ [] =
      sym (drop_at (part i 2 t) (part (i + 2) 2 t) 2 n) ∙ ap (λ (l : List ℕ). drop 2 l) (sym (part_more t i 2 2) ∙ e.opens) in
      let b : part (i + 4 + 5) 1 t ≡ 34 ∷ [] = rw m (part_one t (i + 9) 34 (omega arith) e.closes) in
      part_more t (i + 2) 2 6 ∙ rw (a, k, part_more t (i + 4) 5 1, b)

  label_plain : every is_plain (part (i + 4) 5 t) ≡ true
  label_plain = label_unquoted (part (i + 4) 5 t) e.label

-- ---- the words of a text

-- `0","Fin"`
abbrev until_word : List ℕ
until_word = 48 ∷ 34 ∷ 44 ∷ 34 ∷ 70 ∷ 105 ∷ 110 ∷ 34 ∷ []

-- `,"Puissa` and `ssance":`, which have three bytes in common
abbrev power_word : List ℕ
power_word = 44 ∷ 34 ∷ 80 ∷ 117 ∷ 105 ∷ 115 ∷ 115 ∷ 97 ∷ []

abbrev end_word : List ℕ
end_word = 115 ∷ 115 ∷ 97 ∷ 110 ∷ 99 ∷ 101 ∷ 34 ∷ 58 ∷ []

-- a word, and what stands after it
after_word : (s w r : List ℕ) (p q : ℕ) → part p 8 s ≡ w → p + 8 ≡ q → drop q s ≡ r → drop p s ≡ w ++ r
after_word s w r p q e f g =
    part_rest s p 8
    ∙ (ap (λ (l : List ℕ). l ++ drop (p + 8) s) e ∙ ap (λ (l : List ℕ). w ++ l) (ap (λ (k : ℕ). drop k s) f ∙ g))

module _ (s lead t : List ℕ) (at i v n : ℕ) (eight : length lead ≡ 8) (opened : drop 2 lead ≡ open_text)
    (a : LabelEntry t i) (b : LabelEntry t (i + 10)) (r : RunAt s (at + 45) v n)
    (w0 : part at 8 s ≡ part 0 8 lead) (w1 : part (at + 8) 8 s ≡ part i 8 t) (w2 : part (at + 16) 8 s ≡ until_word)
    (w3 : part (at + 24) 8 s ≡ part (i + 12) 8 t) (w4 : part (at + 32) 8 s ≡ power_word) (w5 : part (at + 37) 8 s ≡ end_word) where
  abbrev from : List ℕ
  from = part (i + 4) 5 t

  abbrev until : List ℕ
  until = part (i + 14) 5 t

  its_lead : part at 8 s ≡ lead
  its_lead = w0 ∙ take_all 8 lead (omega arith)

  before_lead : part at 2 s ≡ take 2 lead
  before_lead = sym (take-take 2 8 (drop at s) (omega arith)) ∙ ap (λ (l : List ℕ). take 2 l) its_lead

  to_power : drop (at + 32) s ≡ 44 ∷ (quoted power_name ++ 58 ∷ drop (at + 45) s)
  to_power =
      let k : at + 37 + 8 ≡ at + 45 = omega arith in
      let m : at + 37 + 3 ≡ at + 40 = omega arith in
      after_word s power_word (drop 3 end_word ++ drop (at + 45) s) (at + 32) (at + 40) w4 (omega arith)
      (ap (λ (j : ℕ). drop j s) (sym m)
      ∙ (sym (drop-drop 3 (at + 37) s)
      ∙ ap (λ (l : List ℕ). drop 3 l) (after_word s end_word (drop (at + 45) s) (at + 37) (at + 45) w5 k refl)))

  to_until : drop (at + 24) s ≡ 58 ∷ (quoted until ++ drop (at + 32) s)
  to_until =
      let k : i + 10 + 2 ≡ i + 12 = omega arith in
      let m : i + 10 + 4 ≡ i + 14 = omega arith in
      let u : part (i + 12) 8 t ≡ 58 ∷ 34 ∷ (until ++ 34 ∷ []) = rw (k, m) at (second_word t (i + 10) b) in
      after_word s (58 ∷ quoted until) (drop (at + 32) s) (at + 24) (at + 32) (w3 ∙ u) (omega arith) refl

  to_from : drop (at + 8) s ≡ 116 ∷ 34 ∷ 58 ∷ (quoted from ++ 44 ∷ (quoted until_name ++ drop (at + 24) s))
  to_from =
      let rest = drop (at + 24) s in
      after_word s (part i 8 t) (until_word ++ rest) (at + 8) (at + 16) w1 (omega arith)
      (after_word s until_word rest (at + 16) (at + 24) w2 (omega arith) refl)
      ∙ (first_word t i a (34 ∷ 44 ∷ (quoted until_name ++ rest))
      ∙ ap (λ (l : List ℕ). 116 ∷ 34 ∷ 58 ∷ 34 ∷ l) (sym (append_snoc from 34 (44 ∷ (quoted until_name ++ rest)))))

  its_text : drop (at + 2) s ≡ plain_text from until (drop (at + 45) s)
  its_text =
      let h : 2 ≤ length lead = omega arith in
      sym (drop-drop 2 at s)
      ∙ (ap (λ (l : List ℕ). drop 2 l) (after_word s lead (drop (at + 8) s) at (at + 8) its_lead refl refl)
      ∙ (drop-append-le 2 lead (drop (at + 8) s) h ∙ rw (opened, to_from, to_until, to_power)))

  plain_front : FrontAt [] from until s (at + 2) (at + (n + 45)) v
  plain_front =
      let k : at + (n + 45) ≡ at + 45 + n = omega arith in
      let m : i + 10 + 4 ≡ i + 14 = omega arith in
      let q : every is_plain until ≡ true = rw m at (label_plain t (i + 10) b) in
      let d = part (at + 45) n s in
      let l = run_length s (at + 45) v n r in
      let more = drop (at + 45 + n) s in
      let e = plain_tokens from until d (drop (at + 45) s) more (label_plain t i a) q (run_token s (at + 45) v n r) in
      record {
        digits = d;
        within = omega (arith, r.within);
        its_tokens = rw k (ap tokens its_text ∙ e);
        run = and_true (ltb 0 (length d)) (every is_digit d) (lt-ltb 0 (length d) (omega (arith, l, r.some))) r.all;
        its_power = rw l r.its_power;
      }

-- the same, as a reader compares the words
pub plain_flags : (s lead t : List ℕ) (at i v n : ℕ) (b0 b1 b2 b3 b4 b5 : Bool) → length lead ≡ 8 → drop 2 lead ≡ open_text
    → LabelEntry t i → LabelEntry t (i + 10) → RunAt s (at + 45) v n
    → b0 ≡ same (part at 8 s) (part 0 8 lead) → b1 ≡ same (part (at + 8) 8 s) (part i 8 t)
    → b2 ≡ same (part (at + 16) 8 s) until_word → b3 ≡ same (part (at + 24) 8 s) (part (i + 12) 8 t)
    → b4 ≡ same (part (at + 32) 8 s) power_word → b5 ≡ same (part (at + 37) 8 s) end_word
    → not (b0 && b1 && b2 && b3 && b4 && b5) ≡ false
    → (part at 2 s ≡ take 2 lead) × FrontAt [] (part (i + 4) 5 t) (part (i + 14) 5 t) s (at + 2) (at + (n + 45)) v
plain_flags s lead t at i v n b0 b1 b2 b3 b4 b5 eight opened a b r e0 e1 e2 e3 e4 e5 f =
    let c5 = not-false (b0 && b1 && b2 && b3 && b4 && b5) f in
    let c4 = and_left (b0 && b1 && b2 && b3 && b4) b5 c5 in
    let c3 = and_left (b0 && b1 && b2 && b3) b4 c4 in
    let c2 = and_left (b0 && b1 && b2) b3 c3 in
    let c1 = and_left (b0 && b1) b2 c2 in
    let w0 = same_true (part at 8 s) (part 0 8 lead) (sym e0 ∙ and_left b0 b1 c1) in
    let w1 = same_true (part (at + 8) 8 s) (part i 8 t) (sym e1 ∙ and_right b0 b1 c1) in
    let w2 = same_true (part (at + 16) 8 s) until_word (sym e2 ∙ and_right (b0 && b1) b2 c2) in
    let w3 = same_true (part (at + 24) 8 s) (part (i + 12) 8 t) (sym e3 ∙ and_right (b0 && b1 && b2) b3 c3) in
    let w4 = same_true (part (at + 32) 8 s) power_word (sym e4 ∙ and_right (b0 && b1 && b2 && b3) b4 c4) in
    let w5 = same_true (part (at + 37) 8 s) end_word (sym e5 ∙ and_right (b0 && b1 && b2 && b3 && b4) b5 c5) in (
      before_lead s lead t at i v n eight opened a b r w0 w1 w2 w3 w4 w5,
      plain_front s lead t at i v n eight opened a b r w0 w1 w2 w3 w4 w5,
    )

-- after a step's power
pub plain_between : (from until s : List ℕ) (at next v : ℕ) → part at 2 s ≡ 125 ∷ 44 ∷ [] → FrontAt [] from until s (at + 2) next v
    → FrontAt between_steps from until s at next v
unfolding is_mark
plain_between from until s at next v e f =
    let r = drop (at + 2) s in
    let marks : tokens (125 ∷ 44 ∷ r) ≡ between_steps ++ tokens r =
    tokens_mark 125 (44 ∷ r) refl ∙ ap (λ (l : List (List ℕ)). (125 ∷ []) ∷ l) (tokens_mark 44 r refl) in
    record {
      digits = f.digits;
      within = f.within;
      its_tokens =
          ap tokens (part_rest s at 2 ∙ ap (λ (l : List ℕ). l ++ r) e)
          ∙ (marks ∙ ap (λ (l : List (List ℕ)). between_steps ++ l) f.its_tokens);
      run = f.run;
      its_power = f.its_power;
    }

-- what is said of a step without blanks after `}` and a comma is said of the next step
pub plain_next : (lead from until s : List ℕ) (at : ℕ) (r : Option (ℕ × ℕ)) → take 2 lead ≡ 125 ∷ 44 ∷ [] → PlainSays lead from until s at r
    → LaidSays from until s at r
plain_next lead from until s at (Some (v, n)) e p = plain_between from until s at (at + n) v (p.0 ∙ e) p.1
plain_next lead from until s at None e p = p
