-- A text for each step, one after another: with one step more there is one text more at the end.
use mathlib.Core.Path.{◌≡◌, sym, ap, ◌∙◌}
use mathlib.Core.List.{List, [], ◌∷◌, ◌++◌, append_assoc, append-nil}
use Prim.Native.Nat.{ℕ, suc, ◌+◌, ◌-◌, ◌*◌, ◌<◌, ◌≤◌}
use native.Mathlib.Nat.{add-zero, zero-add, mul-suc}
use native.Mathlib.Numerals.{add-one}
use native.Mathlib.Omega.{arith}
use lib.Dec.{ltb}
use lib.ListN.{length, get_or, take, drop, length-append}
use lib.Seq.{take-suc, take-add, length-take-le, drop-drop}
use borrow.Author.Tests.{ltb-true}
use Rattle.std.proofs.lemmas.List.{get_or-drop}
use Rattle.lists.proofs.Searches.{every_at}
use Rattle.notification.specs.Forms.{power_end}
use Rattle.writer.specs.Placing.{Placed, Powered, step_texts}
use Rattle.writer.proofs.Placed.{placed_length, placed_join}

module _ (text : ℕ → ℕ → List ℕ) where
  pub texts_append : (k : ℕ) (s t : List ℕ) → step_texts text k (s ++ t) ≡ step_texts text k s ++ step_texts text (k + length s) t
  unfolding step_texts
  texts_append k [] t = rw add-zero
  texts_append k (p ∷ s) t =
      let e : suc k + length s ≡ k + suc (length s) = omega arith in
      rw (texts_append (suc k) s t, e) (sym (append_assoc (text k p) (step_texts text (suc k) s) (step_texts text (k + suc (length s)) t)))

  pub texts_more : (ps : List ℕ) (i : ℕ) → i < length ps
      → step_texts text 0 (take (i + 1) ps) ≡ step_texts text 0 (take i ps) ++ text i (get_or ps i 0)
  unfolding step_texts
  texts_more ps i h =
      let n = length-take-le i ps (omega arith) in
      rw (add-one i, take-suc ps i 0 h, texts_append 0 (take i ps) (get_or ps i 0 ∷ []), n, zero-add i, append-nil)

  texts_up_to : (ps : List ℕ) (i n : ℕ) → i ≤ n → length (step_texts text 0 (take i ps)) ≤ length (step_texts text 0 (take n ps))
  texts_up_to ps i n h =
      let e : i + (n - i) ≡ n = omega arith in
      let s = take i ps in
      let t = take (n - i) (drop i ps) in
      let f : take n ps ≡ s ++ t = rw e at (take-add i (n - i) ps) in
      rw (f, texts_append 0 s t, length-append) (omega arith)

  -- texts of which none is longer than so many bytes
  pub texts_length : (most : ℕ) → ((k p : ℕ) → length (text k p) ≤ most) → (k : ℕ) (ps : List ℕ) → length (step_texts text k ps) ≤ most * length ps
  unfolding step_texts
  texts_length most h k [] = omega arith
  texts_length most h k (p ∷ ps) =
      rw (length-append (text k p), mul-suc most (length ps)) (omega (arith, h k p, texts_length most h (suc k) ps))

  module _ (steps : ℕ) (ps : List ℕ) (w : Powered steps ps) where
    pub sum_all : (sum k : ℕ) → k ≤ steps → steps ≤ k → sum ≡ length (step_texts text 0 (take k ps)) → sum ≡ length (step_texts text 0 (take steps ps))
    sum_all sum k h l e = let n : k ≡ steps = omega arith in rw n at e

    pub texts_placed : (buffer : List ℕ) (at : ℕ) (b : List ℕ) (next k : ℕ) → k ≤ steps → steps ≤ k
        → Placed buffer at (step_texts text 0 (take k ps)) b next → Placed buffer at (step_texts text 0 (take steps ps)) b next
    texts_placed buffer at b next k h l p = let n : k ≡ steps = omega arith in rw n at p

    module _ (k : ℕ) (h : k < steps) where
      abbrev its_step : List ℕ
      its_step = text k (get_or ps k 0)

      one_more : step_texts text 0 (take (k + 1) ps) ≡ step_texts text 0 (take k ps) ++ its_step
      one_more = texts_more ps k (omega (arith, w.there))

      step_within : length (step_texts text 0 (take k ps)) + length its_step ≤ length (step_texts text 0 (take steps ps))
      step_within =
          omega (arith, texts_up_to ps (k + 1) steps (omega arith), ap length one_more, length-append (step_texts text 0 (take k ps)) its_step)

      -- no day's texts are long, so that the sum fits
      pub sum_fits : (most : ℕ) → ((i p : ℕ) → length (text i p) ≤ most) → (sum d : ℕ) → sum ≡ length (step_texts text 0 (take k ps)) → d ≡ length its_step
          → sum + d ≤ most * steps
      sum_fits most f sum d e g =
          let l = rw (length-take-le steps ps w.there) at (texts_length most f 0 (take steps ps)) in
          omega (arith, step_within)

      pub sum_more : (sum d : ℕ) → sum ≡ length (step_texts text 0 (take k ps)) → d ≡ length its_step
          → sum + d ≡ length (step_texts text 0 (take (k + 1) ps))
      sum_more sum d e f = omega (arith, ap length one_more, length-append (step_texts text 0 (take k ps)) its_step)

      module _ (buffer : List ℕ) (at : ℕ) (b : List ℕ) (next : ℕ) (p : Placed buffer at (step_texts text 0 (take k ps)) b next) where
        pub step_room : at + length (step_texts text 0 (take steps ps)) ≤ length buffer → next + length its_step ≤ length b
        step_room r = omega (arith, step_within, placed_length p, p.follows)

        pub step_placed : (d : List ℕ) (end : ℕ) → Placed b next its_step d end → Placed buffer at (step_texts text 0 (take (k + 1) ps)) d end
        step_placed d end q = rw one_more (placed_join p q)

-- each step's power is in its range
pub step_power : (steps : ℕ) (ps : List ℕ) → Powered steps ps → (k : ℕ) → k < steps → get_or ps k 0 < power_end
step_power steps ps w k h =
    ltb-true (get_or ps k 0) power_end (every_at (λ p. ltb p power_end) ps k 0 w.in_range_lem (omega (arith, w.there)))

-- what is left of the powers, with the first of it taken
module _ (ps rest : List ℕ) (k p : ℕ) (e : drop k ps ≡ p ∷ rest) where
  pub left_first : p ≡ get_or ps k 0
  left_first = sym (ap (λ (s : List ℕ). get_or s 0 0) e) ∙ get_or-drop k ps 0 0 ∙ ap (λ (i : ℕ). get_or ps i 0) (add-zero k)

  pub left_more : rest ≡ drop (k + 1) ps
  left_more = sym (ap (drop 1) e) ∙ drop-drop 1 k ps
