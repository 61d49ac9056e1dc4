-- What writing answers, and what it leaves in the two lent buffers. Lengths are answered exactly where nothing refuses the
-- notification; they are those of its two texts, and the buffers begin with these.
use Rattle.std.specs.Prelude.{Ok, Err}
use mathlib.Core.Path.{◌≡◌, refl, sym, ap, ◌∙◌}
use mathlib.Core.Bool.{Bool, false, ◌||◌}
use mathlib.Core.List.{List, [], ◌∷◌, ◌++◌}
use Prim.Native.Nat.{ℕ, ◌≤◌}
use native.Mathlib.Omega.{arith}
use lib.Dec.{ltb}
use lib.ListN.{length, take, drop, length-append, length-drop}
use lib.Seq.{take_at, drop_at}
use borrow.Author.Tests.{ltb-false, le-ltb}
use Rattle.lists.proofs.Tests.{or_left, or_right}
use Rattle.refusals.specs.Tests.{state, first_met, decide, Verdict, pass}
use Rattle.refusals.specs.declared.Refusal.{Refusal}
use Rattle.refusals.specs.declared.StateRefusal.TheVariants.{Full}
use Rattle.refusals.proofs.Tests.{pass_all, all_pass, pass_append}
use Rattle.notification.specs.Writing.{name_of, body_of, note_tests, too_short, lengths, write_verdict, write_answer, written, Writes}
use Rattle.notification.specs.declared.Notification.{Notification}
use Rattle.notification.specs.declared.FileLengths.{FileLengths}

-- ---- one buffer, after a pass: the text stands first, the rest is as it was, and nothing is longer or shorter

module _ (text buffer : List ℕ) where
  pub begins_with : take (length text) (written pass text buffer) ≡ text
  unfolding written
  begins_with = take_at text _ (length text) refl

  pub rest_kept : drop (length text) (written pass text buffer) ≡ drop (length text) buffer
  unfolding written
  rest_kept = drop_at text _ (length text) refl

  pub as_long : length text ≤ length buffer → length (written pass text buffer) ≡ length buffer
  unfolding written
  as_long h = simp (length-append, length-drop) (omega arith)

-- ---- where writing gives a file, buffers at least as long as it take it

neither : (x y : Bool) → x ≡ false → y ≡ false → (x || y) ≡ false
neither x y e f = rw (e, f)

module _ (n : Notification) (name body : List ℕ) (w : Writes n name body) (a b : ℕ) (name_fits : length name ≤ a) (body_fits : length body ≤ b) where
  pub passes_fit : write_verdict n a b ≡ pass
  unfolding write_verdict
  passes_fit =
      let roomy : too_short n a b ≡ false =
      neither _ _ (le-ltb a (length (name_of n.key)) (rw w.its_name at name_fits)) (le-ltb b (length (body_of n)) (rw w.its_body at body_fits)) in
      pass_append (note_tests n) ((too_short n a b, state Full) ∷ []) w.passes ∙ rw roomy

  pub answers_fit : write_answer n a b ≡ Ok (lengths (length name) (length body))
  unfolding write_answer
  answers_fit = rw (passes_fit, w.its_name, w.its_body)

-- ---- what an answer says

by_lengths : (v : Verdict) (a b p q : ℕ) → decide v (Ok (lengths a b)) Err ≡ Ok (lengths p q) → (v ≡ pass) × (p ≡ a) × (q ≡ b)
by_lengths (Ok u) a b p q e =
    let f : lengths a b ≡ lengths p q = cc in
    (refl, sym (ap (λ (x : FileLengths). x.name) f), sym (ap (λ (x : FileLengths). x.body) f))
by_lengths (Err r) a b p q e = let z : ◌≡◌ {A = ℕ} 0 1 = cc in absurd (omega arith)

by_refusal : (v : Verdict) (a b : ℕ) (r : Refusal) → decide v (Ok (lengths a b)) Err ≡ Err r → v ≡ Err r
by_refusal (Ok u) a b r e = let z : ◌≡◌ {A = ℕ} 0 1 = cc in absurd (omega arith)
by_refusal (Err q) a b r e = cc

-- what two lengths say, answered for buffers of these lengths
pub record Answered (n : Notification) (name body p q : ℕ) : Type 0 where
  pub a_pass : write_verdict n name body ≡ pass
  pub unrefused : first_met (note_tests n) ≡ pass
  pub of_name : p ≡ length (name_of n.key)
  pub of_body : q ≡ length (body_of n)
  pub name_room_lem : p ≤ name
  pub body_room_lem : q ≤ body

module _ (n : Notification) (name body : ℕ) where
  pub answered : (p q : ℕ) → write_answer n name body ≡ Ok (lengths p q) → Answered n name body p q
  unfolding write_answer write_verdict
  answered p q e =
      let d = by_lengths (write_verdict n name body) _ _ p q e in
      let all = pass_all (note_tests n ++ (too_short n name body, state Full) ∷ []) d.0 in
      let short = all.1.1.1.0 in
      record {
        a_pass = d.0;
        unrefused = all_pass (note_tests n) (all.0, (all.1.0, (all.1.1.0, tt)));
        of_name = d.1;
        of_body = d.2;
        name_room_lem = omega (arith, d.1, ltb-false name (length (name_of n.key)) (or_left _ _ short));
        body_room_lem = omega (arith, d.2, ltb-false body (length (body_of n)) (or_right (ltb name (length (name_of n.key))) _ short));
      }

  -- a refusal leaves a buffer as it was
  pub untouched : (r : Refusal) → write_answer n name body ≡ Err r → (text buffer : List ℕ) →
      written (write_verdict n name body) text buffer ≡ buffer
  unfolding write_answer written
  untouched r e text buffer = rw (by_refusal (write_verdict n name body) _ _ r e)
