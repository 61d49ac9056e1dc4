-- A run of bytes, passed one by one: those of a label up to the quote that ends it, and digits.
use mathlib.Core.Path.{◌≡◌, refl, sym, ap, ◌∙◌}
use mathlib.Core.Bool.{Bool, true, false, not, false≢true}
use mathlib.Core.List.{List, [], ◌∷◌, ◌++◌}
use Prim.Native.Nat.{ℕ, suc, ◌+◌, ◌-◌, ◌<◌, ◌≤◌}
use native.Mathlib.Nat.{add-zero}
use native.Mathlib.Omega.{arith}
use lib.Dec.{eqb, ltb}
use lib.ListN.{length, get_or, take, drop, length-take, length-drop, get_or-eq_default, take-append-drop}
use lib.Seq.{get_or-drop, get_or-take, drop-drop}
use borrow.Author.Tests.{ltb-true, ltb-false, lt-ltb, le-ltb, eqb-true, eqb-false}
use Rattle.std.specs.Option.{unwrap_or}
use Rattle.std.specs.Prelude.{Option}
use Rattle.std.specs.List.{position, position_or_len}
use Rattle.lists.proofs.Parts.{rest_all}
use Rattle.lists.specs.Searches.{every}
use Rattle.lists.proofs.Tests.{by_test, true_false, and_left, and_right, and_true}
use Rattle.lists.proofs.Searches.{every_at}
use Rattle.notification.specs.Forms.{is_digit}
use Rattle.reader.specs.Walking.{starts_with}
use Rattle.request.specs.Tokens.{is_blank, quote, inside, tokens, quoted_by}
use Rattle.request.specs.Reading.{is_label_byte, is_run}
use Rattle.request.proofs.Unquoted.{label_unquoted}
use Rattle.request_reader.specs.Walking.{Past, Walked, Missing, RunTo, first_token, framed, between}
use Rattle.request_reader.specs.Steps.{FiveAt}
use Rattle.request_reader.proofs.Fronts.{tokens_run}
use Rattle.request_reader.proofs.Walks.{walked_found, walked_lost, token_stands, stands_split}
use Rattle.request_reader.proofs.Values.{by_none, framed_parts, value_found, value_framed}

-- ---- as many bytes as pass a test

module _ (p : ℕ → Bool) (none : p 0 ≡ false) where
  abbrev fails : ℕ → Bool
  fails b = not (p b)

  prefix_run : (u : List ℕ) → (position_or_len fails u ≤ length u) × (every p (take (position_or_len fails u) u) ≡ true)
      × (p (get_or u (position_or_len fails u) 0) ≡ false)
  prefix_run [] = (omega arith, refl, none)
  prefix_run (b ∷ u) =
      by_test (p b)
      (λ t. let x = prefix_run u in let n : 1 + position_or_len fails u ≡ suc (position_or_len fails u) = omega arith in rw (t, n, t) (omega (arith, x.0), x.1, x.2))
      (λ f. rw f (omega arith, refl, f))

  first_fail : (u : List ℕ) → unwrap_or (position fails u) (length u) ≡ position_or_len fails u
  first_fail u =
      by_test (ltb (position_or_len fails u) (length u))
      (λ t. rw t)
      (λ t. rw t (omega (arith, (prefix_run u).0, ltb-false (position_or_len fails u) (length u) t)))

  -- the first place from another on where the test fails, and the end of the text where it fails nowhere
  pub run_to : (s : List ℕ) (from n : ℕ) (r : Option ℕ) → from ≤ length s
      → r ≡ position fails (take (length s - from) (drop from s)) → n ≡ unwrap_or r (length (take (length s - from) (drop from s)))
      → RunTo p s from (from + n)
  run_to s from n r w e d =
      let u = drop from s in
      let all = rest_all from s in
      let m : n ≡ position_or_len fails u =
      d ∙ (ap (λ (o : Option ℕ). unwrap_or o (length (take (length s - from) u))) e
      ∙ (ap (λ (l : List ℕ). unwrap_or (position fails l) (length l)) all ∙ first_fail u)) in
      let x = prefix_run u in
      let k : from + n - from ≡ position_or_len fails u = omega arith in
      record {
        on = omega arith;
        within = omega (arith, x.0, length-drop from s);
        all = rw k x.1;
        stop = ap p (sym (get_or-drop from s n 0)) ∙ (ap (λ (i : ℕ). p (get_or u i 0)) m ∙ x.2);
      }

-- a byte that isn't 0 stands within the text
pub byte_within : (s : List ℕ) (i b : ℕ) → get_or s i 0 ≡ b → (b ≡ 0 → ⊥) → i < length s
byte_within s i b e f =
    by_test (ltb i (length s))
    (λ t. ltb-true i (length s) t)
    (λ t. absurd (f (sym e ∙ get_or-eq_default s 0 (ltb-false i (length s) t))))

-- five bytes in quotes stand within the text
pub to_seven : (s : List ℕ) (at : ℕ) → at ≤ length s → FiveAt s at → at + 7 ≤ length s
to_seven s at h f = let w = byte_within s (at + 6) 34 f.closes (λ (e : 34 ≡ 0). omega arith) in omega arith

-- ---- a label of any bytes

abbrev labelled : List ℕ → Bool
labelled t = quoted_by (every is_label_byte) t

module _ (s : List ℕ) (from : ℕ) (b : is_blank (get_or s from 0) ≡ false) where
  abbrev here : Past s from from
  here = record { on = omega arith; no_blank = b; same_tokens = refl }

  pub loose_unquoted : (get_or s from 0 ≡ quote → ⊥) → Missing (labelled ∷ []) s from
  loose_unquoted f =
      walked_lost labelled (by_none (every is_label_byte)) s from from here
      (by_test (labelled (first_token s from))
      (λ e. let v = value_framed (every is_label_byte) s from from here e in
      absurd (f (framed_parts s from (length (inside (first_token s from))) v.0).1))
      (λ e. e))

  module _ (q : get_or s from 0 ≡ quote) (end : ℕ) (r : RunTo is_label_byte s (from + 1) end) where
    abbrev n : ℕ
    n = end - (from + 1)

    its_end : from + n + 1 ≡ end
    its_end = let o = r.on in omega arith

    pub loose_found : get_or s end 0 ≡ quote → Walked (labelled ∷ []) s from (end + 1)
    unfolding framed
    loose_found e =
        let w = byte_within s end quote e (λ (z : 34 ≡ 0). omega arith) in
        let o = its_end in
        let room : from + n + 2 ≤ length s = omega arith in
        let last : get_or s (from + n + 1) 0 ≡ quote = rw o e in
        let f : framed s from n ≡ true = rw (le-ltb (length s) (from + n + 2) room, q, last) in
        let g : from + n + 2 ≡ end + 1 = omega arith in
        rw g at (value_found (every is_label_byte) s from from here n f r.all (label_unquoted (between s from n) r.all))

    pub loose_other : (get_or s end 0 ≡ quote → ⊥) → Missing (labelled ∷ []) s from
    loose_other f =
        walked_lost labelled (by_none (every is_label_byte)) s from from here
        (by_test (labelled (first_token s from))
        (λ e. let v = value_framed (every is_label_byte) s from from here e in
        absurd (nowhere_ends (length (inside (first_token s from))) v.0 (ap (every is_label_byte) v.1 ∙ v.2)))
        (λ e. e))
      where
        nowhere_ends : (m : ℕ) → framed s from m ≡ true → every is_label_byte (between s from m) ≡ true → ⊥
        nowhere_ends m g a =
            let p = framed_parts s from m g in
            let o = its_end in
            by_test (ltb m n)
            (λ t. let l = ltb-true m n t in
            let i : m < length (between s from n) = rw (length-take, length-drop) (omega (arith, p.0)) in
            let x = every_at is_label_byte (between s from n) m 0 r.all i in
            let y : get_or (between s from n) m 0 ≡ quote =
            let k : from + 1 + m ≡ from + m + 1 = omega arith in
            get_or-take n (drop (from + 1) s) m 0 l ∙ (get_or-drop (from + 1) s m 0 ∙ (ap (λ (z : ℕ). get_or s z 0) k ∙ p.2)) in
            true_false (is_label_byte (get_or (between s from n) m 0)) x (ap is_label_byte y))
            (λ t. let l = ltb-false m n t in
            by_test (eqb m n)
            (λ u. let z = eqb-true m n u in
            let k : from + m + 1 ≡ end = omega arith in
            absurd (f (ap (λ (x : ℕ). get_or s x 0) (sym k) ∙ p.2)))
            (λ u. let z = eqb-false m n u in
            by_test (ltb n m)
            (λ w. let j = ltb-true n m w in
            let i : n < length (between s from m) = rw (length-take, length-drop) (omega (arith, p.0)) in
            let x = every_at is_label_byte (between s from m) n 0 a i in
            let y : get_or (between s from m) n 0 ≡ get_or s end 0 =
            let k : from + 1 + n ≡ end = omega arith in
            get_or-take m (drop (from + 1) s) n 0 j ∙ (get_or-drop (from + 1) s n 0 ∙ ap (λ (v : ℕ). get_or s v 0) k) in
            true_false (is_label_byte (get_or s end 0)) (ap is_label_byte (sym y) ∙ x) r.stop)
            (λ w. let j = ltb-false n m w in absurd (z (omega arith)))))

-- ---- a run of digits

module _ (s : List ℕ) (from end : ℕ) (b : is_blank (get_or s from 0) ≡ false) (r : RunTo is_digit s from end) where
  abbrev pub run : List ℕ
  run = take (end - from) (drop from s)

  abbrev there : Past s from from
  there = record { on = omega arith; no_blank = b; same_tokens = refl }

  run_none : is_run [] ≡ false
  run_none = refl

  pub digits_lost : end ≡ from → Missing (is_run ∷ []) s from
  digits_lost e =
      walked_lost is_run run_none s from from there
      (by_test (is_run (first_token s from))
      (λ g. absurd (digit_first (first_token s from) g (token_stands is_run run_none s from from there)))
      (λ g. g))
    where
      digit_first : (t : List ℕ) → is_run t ≡ true → starts_with t (drop from s) ≡ true → ⊥
      digit_first [] g w = false≢true g
      digit_first (d ∷ t) g w =
          let x = and_left (is_digit d) (every is_digit t) (and_right (ltb 0 (length (d ∷ t))) (every is_digit (d ∷ t)) g) in
          let y : get_or s from 0 ≡ d = sym (rw (add-zero from) at (get_or-drop from s 0 0)) ∙ ap (λ (l : List ℕ). get_or l 0 0) (stands_split s (d ∷ t) from w) in
          let z : get_or s end 0 ≡ d = ap (λ (k : ℕ). get_or s k 0) e ∙ y in
          true_false (is_digit (get_or s end 0)) (ap is_digit z ∙ x) r.stop

  module _ (some : end ≡ from → ⊥) where
    longer : from < end
    longer =
        by_test (ltb from end)
        (λ t. ltb-true from end t)
        (λ t. let h = ltb-false from end t in let o = r.on in absurd (some (omega arith)))

    pub digits_within : end ≤ length s
    digits_within = r.within

    run_length : length run ≡ end - from
    run_length = let w = digits_within in rw (length-take, length-drop) (omega arith)

    run_rest : drop from s ≡ run ++ drop end s
    run_rest =
        let o = r.on in
        let m : from + (end - from) ≡ end = omega arith in
        sym (take-append-drop (end - from) (drop from s)) ∙ ap (λ (l : List ℕ). run ++ l) (drop-drop (end - from) from s ∙ ap (λ (k : ℕ). drop k s) m)

    run_tokens : tokens (drop from s) ≡ run ∷ tokens (drop end s)
    run_tokens =
        ap tokens run_rest
        ∙ first_run run (drop end s) (omega (arith, run_length, longer)) r.all (ap is_digit (get_or-drop end s 0 0 ∙ ap (λ (k : ℕ). get_or s k 0) (add-zero end)) ∙ r.stop)
      where
        first_run : (t u : List ℕ) → 0 < length t → every is_digit t ≡ true → is_digit (get_or u 0 0) ≡ false → tokens (t ++ u) ≡ t ∷ tokens u
        first_run [] u h e f = absurd (omega arith)
        first_run (d ∷ t) u h e f = tokens_run d t u e f

    pub digits_found : Walked (is_run ∷ []) s from end
    digits_found =
        let h : 0 < length run = omega (arith, run_length, longer) in
        walked_found is_run run_none s from from there run end run_tokens (and_true (ltb 0 (length run)) (every is_digit run) (lt-ltb 0 (length run) h) r.all) digits_within

    pub digits_token : first_token s from ≡ run
    digits_token = ap (λ (ts : List (List ℕ)). get_or ts 0 []) run_tokens
