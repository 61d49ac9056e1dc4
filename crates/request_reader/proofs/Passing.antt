-- What stands between two places of a text, whatever stands after it: nothing, a blank, a byte by itself or a quoted text. What stands between
-- three places, one after another, stands between the first and the last.
use mathlib.Core.Path.{◌≡◌, sym, ap, ◌∙◌}
use mathlib.Core.Bool.{true, false}
use mathlib.Core.List.{List, [], ◌∷◌, ◌++◌, append_assoc}
use Prim.Native.Nat.{ℕ, zero, suc, ◌+◌, ◌-◌, ◌<◌, ◌≤◌}
use native.Mathlib.Nat.{add-zero}
use native.Mathlib.Omega.{arith}
use lib.ListN.{length, get_or, take, drop, take-append-drop, length-take, length-drop}
use lib.Seq.{take-add, drop-drop, drop-cons, get_or-take, get_or-drop}
use Rattle.lists.proofs.Searches.{every_at}
use Rattle.reader.specs.Walking.{starts_with}
use Rattle.reader.proofs.Starts.{starts_true}
use Rattle.request.specs.Tokens.{is_blank, tokens}
use Rattle.request_reader.specs.Walking.{Past, Passed, RunTo, part, is_mark, is_quoted}
use Rattle.request_reader.proofs.Fronts.{tokens_blank, tokens_mark}
use Rattle.request_reader.proofs.Walks.{mark_inside, stands_inside, text_long, quoted_first}

passed_none : (s : List ℕ) (at : ℕ) → at ≤ length s → Passed [] s at at
passed_none s at h = let e : at - at ≡ 0 = omega arith in record { on = omega arith; within = h; lays = λ r. rw e }

pub passed_on : (ts us : List (List ℕ)) (s : List ℕ) (a b c : ℕ) → Passed ts s a b → Passed us s b c → Passed (ts ++ us) s a c
passed_on ts us s a b c v w =
    let h = v.on in
    let k = w.on in
    let m : c - a ≡ b - a + (c - b) = omega arith in
    let n : a + (b - a) ≡ b = omega arith in
    let split : part a (c - a) s ≡ part a (b - a) s ++ part b (c - b) s =
    ap (λ (x : ℕ). part a x s) m
    ∙ (take-add (b - a) (c - b) (drop a s)
    ∙ ap (λ (l : List ℕ). part a (b - a) s ++ take (c - b) l) (drop-drop (b - a) a s ∙ ap (λ (x : ℕ). drop x s) n)) in
    record {
      on = omega arith;
      within = w.within;
      lays = λ r. ap (λ (l : List ℕ). tokens (l ++ r)) split
          ∙ (ap tokens (append_assoc (part a (b - a) s) (part b (c - b) s) r)
          ∙ (v.lays (part b (c - b) s ++ r) ∙ (ap (λ (x : List (List ℕ)). ts ++ x) (w.lays r) ∙ sym (append_assoc ts us (tokens r)))));
    }

-- a byte that is these tokens, whatever stands after it
byte_passed : (ts : List (List ℕ)) (s : List ℕ) (i : ℕ) → i < length s → ((r : List ℕ) → tokens (get_or s i 0 ∷ r) ≡ ts ++ tokens r)
    → Passed ts s i (i + 1)
byte_passed ts s i h f =
    let e : i + 1 - i ≡ 1 = omega arith in
    let one : part i (i + 1 - i) s ≡ get_or s i 0 ∷ [] = ap (λ (n : ℕ). part i n s) e ∙ ap (take 1) (drop-cons s i 0 h) in
    record {
      on = omega arith;
      within = omega arith;
      lays = λ r. ap (λ (l : List ℕ). tokens (l ++ r)) one ∙ f r;
    }

passed_blank : (s : List ℕ) (at i : ℕ) → i < length s → is_blank (get_or s i 0) ≡ true → Passed [] s at i → Passed [] s at (i + 1)
passed_blank s at i h e p = passed_on [] [] s at i (i + 1) p (byte_passed [] s i h (λ r. tokens_blank (get_or s i 0) r e))

-- blanks up to a place are no tokens
pub blanks_passed : (s : List ℕ) (at i : ℕ) → at ≤ i → i ≤ length s → ((k : ℕ) → k < i - at → is_blank (get_or s (at + k) 0) ≡ true)
    → Passed [] s at i
blanks_passed s at i o h f = rw m at (upto (i - at) (omega arith) (λ k l. l))
  where
    m : at + (i - at) ≡ i
    m = omega arith

    upto : (n : ℕ) → at + n ≤ length s → ((k : ℕ) → k < n → k < i - at) → Passed [] s at (at + n)
    upto zero g b = rw (add-zero at) (passed_none s at (omega arith))
    upto (suc n) g b =
        let e : at + n + 1 ≡ at + suc n = omega arith in
        rw e at (passed_blank s at (at + n) (omega arith) (f n (b n (omega arith))) (upto n (omega arith) (λ k l. b k (omega arith))))

-- the tokens from a place on are those that stand before another and those from there on
pub passed_tokens : (ts : List (List ℕ)) (s : List ℕ) (at next : ℕ) → Passed ts s at next → tokens (drop at s) ≡ ts ++ tokens (drop next s)
passed_tokens ts s at next p =
    let h = p.on in
    let e : at + (next - at) ≡ next = omega arith in
    let d : drop (next - at) (drop at s) ≡ drop next s = drop-drop (next - at) at s ∙ ap (λ (n : ℕ). drop n s) e in
    ap tokens (sym (take-append-drop (next - at) (drop at s)) ∙ ap (λ (r : List ℕ). part at (next - at) s ++ r) d) ∙ p.lays (drop next s)

-- where a run of blanks ends
pub run_passed : (s : List ℕ) (at from : ℕ) → RunTo is_blank s at from → Passed [] s at from
run_passed s at from r =
    let o = r.on in
    let w = r.within in
    let n = from - at in
    let long : length (take n (drop at s)) ≡ n = rw (length-take, length-drop) (omega arith) in
    blanks_passed s at from o w
    (λ k h. let e = every_at is_blank (take n (drop at s)) k 0 r.all (omega (arith, long)) in
    rw (get_or-take n (drop at s) k 0 h, get_or-drop at s k 0) at e)

pub past_passed : (s : List ℕ) (at from : ℕ) → is_blank (get_or s from 0) ≡ false → Passed [] s at from → Past s at from
past_passed s at from e p = record { on = p.on; no_blank = e; same_tokens = sym (passed_tokens [] s at from p) }

-- ---- a token after blanks

module _ (s : List ℕ) (at from : ℕ) (p : Past s at from) (v : Passed [] s at from) where
  pub mark_passed : (b : ℕ) → is_mark b ≡ true → get_or s from 0 ≡ b → Passed ((b ∷ []) ∷ []) s at (from + 1)
  mark_passed b m e =
      let h = mark_inside s at from b p m e in
      passed_on [] ((b ∷ []) ∷ []) s at from (from + 1) v
      (byte_passed ((b ∷ []) ∷ []) s from h (λ r. ap (λ (x : ℕ). tokens (x ∷ r)) e ∙ tokens_mark b r m))

  pub text_passed : (t : List ℕ) → is_quoted t ≡ true → starts_with t (drop from s) ≡ true → Passed (t ∷ []) s at (from + length t)
  text_passed t q e =
      let h = stands_inside s t from (text_long t q) e in
      let n : from + length t - from ≡ length t = omega arith in
      let its : part from (from + length t - from) s ≡ t = ap (λ (k : ℕ). part from k s) n ∙ starts_true t (drop from s) e in
      passed_on [] (t ∷ []) s at from (from + length t) v
      (record {
        on = omega arith;
        within = h;
        lays = λ r. ap (λ (l : List ℕ). tokens (l ++ r)) its ∙ quoted_first t r q;
      })
