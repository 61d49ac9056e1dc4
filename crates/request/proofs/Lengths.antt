-- The text of an object is far below 8,192 bytes: a step is at most 56 of them, and a day has at most 50 steps.
use mathlib.Core.Path.{◌≡◌, refl}
use mathlib.Core.List.{List, [], ◌∷◌, ◌++◌, append_assoc}
use Prim.Native.Nat.{ℕ, suc, ◌+◌, ◌*◌, ◌≤◌}
use native.Mathlib.Omega.{arith}
use lib.ListN.{length, take, length-append, length-take}
use Rattle.calendar.proofs.StepCounts.{steps_small}
use Rattle.notification.specs.Forms.{category_text}
use Rattle.notification.proofs.Lengths.{digits_length, formed_parts, code_length}
use Rattle.request.specs.Tokens.{quoted, joined}
use Rattle.request.specs.Moments.{moment_text, midnight}
use Rattle.request.specs.Objects.{Values, Step, further, parted, step_of, series_of, object_of}
use Rattle.request.specs.Writing.{hour_label, values_of, steps_for, steps_of_note, object_tokens, object_text}
use Rattle.request.specs.Reading.{head_tokens}
use Rattle.request.specs.declared.Request.{Request}
use Rattle.request.proofs.Series.{token, more, between}
use Rattle.request.proofs.Shapes.{object_tokens_lem}
use Rattle.request.proofs.MomentTexts.{moment_length}
use Rattle.request.proofs.Unquoted.{hour_length}
use Rattle.request.proofs.StepTokens.{made}
use Rattle.request.proofs.Tables.{Fileable}

joined_append : (ts us : List (List ℕ)) → joined (ts ++ us) ≡ joined ts ++ joined us
unfolding joined
joined_append [] us = refl
joined_append (t ∷ ts) us = rw (joined_append ts us, append_assoc)

quoted_length : (t : List ℕ) → length (quoted t) ≡ length t + 2
quoted_length t = simp length-append (omega arith)

-- ---- steps

step_length : (s : Step (List ℕ)) → length (joined (step_of token s)) ≡ 30 + (length s.from + (length s.until + length s.power))
unfolding step_of parted further joined
step_length s = simp length-append (omega arith)

made_length : (steps k p : ℕ) → length (joined (step_of token (made steps k p))) ≤ 56
made_length steps k p =
    rw step_length
    (omega (arith, quoted_length (hour_label steps k), quoted_length (hour_label steps (suc k)), hour_length steps k, hour_length steps (suc k), digits_length p))

more_length : (steps k : ℕ) (ps : List ℕ) → length (joined (more token (steps_for steps k ps))) ≤ 57 * length ps
unfolding steps_for further joined
more_length steps k [] = omega arith
more_length steps k (p ∷ ps) =
    let t = step_of token (made steps k p) in
    rw (joined_append t, length-append (joined t))
    (omega (arith, made_length steps k p, more_length steps (suc k) ps))

series_length : (steps k : ℕ) (ps : List ℕ) → length (joined (between token (steps_for steps k ps))) ≤ 57 * length ps
unfolding steps_for parted joined
series_length steps k [] = omega arith
series_length steps k (p ∷ ps) =
    let t = step_of token (made steps k p) in
    rw (joined_append t, length-append (joined t))
    (omega (arith, made_length steps k p, more_length steps (suc k) ps))

-- ---- the object

head_length : (v : Values (List ℕ)) → length (joined (take head_tokens (object_of token v []))) ≡
    164 + (length v.ceder + (length v.acquirer + (length v.origin + (length v.category + (length v.day + length v.submitted)))))
unfolding object_of series_of parted further joined
head_length v = simp length-append (omega arith)

ends_length : (ts : List (List ℕ)) → length (joined (ts ++ (93 ∷ []) ∷ (125 ∷ []) ∷ [])) ≡ length (joined ts) + 2
unfolding joined
ends_length ts = rw (joined_append ts, length-append (joined ts))

object_length : (v : Values (List ℕ)) (ss : List (Step (List ℕ))) → length (joined (object_of token v ss)) ≡
    length (joined (take head_tokens (object_of token v []))) + (length (joined (between token ss)) + 2)
object_length v ss =
    let h = take head_tokens (object_of token v []) in
    rw (object_tokens_lem token v ss, joined_append h, length-append (joined h), ends_length)

pub text_length : (r : Request) → Fileable r → length (object_text r) ≤ 3122
unfolding object_tokens
text_length r w =
    let n = r.notification in
    let k = n.key in
    let ps = take n.steps n.powers in
    let f = formed_parts k w.note.a_form in
    let steps = steps_small k.day in
    let own = w.note.its_steps in
    let l = length-take n.steps n.powers in
    rw (object_length (values_of r) (steps_of_note n), head_length)
    (omega (
      arith,
      series_length n.steps 0 ps,
      quoted_length k.ceder,
      quoted_length k.acquirer,
      quoted_length r.origin,
      quoted_length (category_text k.category),
      quoted_length (moment_text (midnight k.day)),
      quoted_length (moment_text r.moment),
      code_length r.origin w.a_code,
      moment_length (midnight k.day),
      moment_length r.moment,
    ))
