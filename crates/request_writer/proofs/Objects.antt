-- An object is its pieces one after another: its tokens are joined, and each closing quote goes with the text after it.
use mathlib.Core.Path.{◌≡◌, refl, sym, ap, ◌∙◌}
use mathlib.Core.List.{List, [], ◌∷◌, ◌++◌, map, append_assoc, append-nil}
use Prim.Native.Nat.{ℕ, suc, ◌≤◌}
use native.Mathlib.Omega.{arith}
use lib.ListN.{length, take}
use lib.Seq.{length-take-le}
use borrow.Author.Tests.{ne_eqb}
use Rattle.notification.specs.Forms.{category_text, digits}
use Rattle.notification.specs.declared.Notification.{Notification}
use Rattle.writer.specs.Placing.{step_texts}
use Rattle.request.specs.Tokens.{quote, quoted, joined}
use Rattle.request.specs.Moments.{moment_text, midnight}
use Rattle.request.specs.Objects.{Step, ceder_name, acquirer_name, origin_name, category_name, day_name, submitted_name, status_name, created, series_name, from_name, until_name, power_name, further, parted, step_of, series_of, object_of}
use Rattle.request.specs.Writing.{hour_label, steps_for, values_of, object_tokens, object_text}
use Rattle.request.specs.declared.Request.{Request}
use Rattle.request_writer.specs.Pieces.{first_lead, mark_of, step_object, marked_step, actors_text, terms_text, steps_text, end_text}

pub joined_append : (xs ys : List (List ℕ)) → joined (xs ++ ys) ≡ joined xs ++ joined ys
unfolding joined
joined_append [] ys = refl
joined_append (x ∷ xs) ys = rw (joined_append xs ys) (sym (append_assoc x (joined xs) (joined ys)))

-- ---- a step

-- `,"name":"`
abbrev member_lead : List ℕ → List ℕ
member_lead name = 44 ∷ (quoted name ++ 58 ∷ quote ∷ [])

-- a token stands in its own place
abbrev its : List ℕ → List ℕ
its t = t

-- a quoted text ends with its quote, which stands before the next piece too
step_pieces : (q x a y b z d t rest : List ℕ)
    → x ++ ((a ++ q) ++ (y ++ ((b ++ q) ++ (z ++ (d ++ (t ++ rest)))))) ≡ ((x ++ a) ++ (((q ++ y) ++ b) ++ (((q ++ z) ++ d) ++ t))) ++ rest
step_pieces q x a y b z d t rest = simp append_assoc

-- the tokens of a step, and what follows them
step_joined : (steps k p : ℕ) (rest : List (List ℕ))
    → joined (step_of its (record { from = quoted (hour_label steps k); until = quoted (hour_label steps (suc k)); power = digits p }) ++ rest)
    ≡ step_object steps k p ++ joined rest
unfolding joined step_of parted further
step_joined steps k p rest =
    step_pieces (quote ∷ []) (first_lead from_name) (hour_label steps k) (member_lead until_name) (hour_label steps (suc k)) (44 ∷ (quoted power_name ++ 58 ∷ []))
    (digits p) (125 ∷ []) (joined rest)

-- a comma stands before any step but the first
mark_next : (k : ℕ) → mark_of (suc k) ≡ 44
mark_next k = rw (ne_eqb (suc k) 0 (λ e. omega (arith, e)))

-- steps after the first, each with its comma
further_joined : (steps k : ℕ) (ps : List ℕ) → joined (further its (map (step_of its) (steps_for steps (suc k) ps))) ≡ step_texts (marked_step steps) (suc k) ps
unfolding joined further steps_for step_texts
further_joined steps k [] = refl
further_joined steps k (p ∷ ps) =
    rw (mark_next k) (ap (λ t. 44 ∷ t) (step_joined steps (suc k) p _ ∙ ap (λ t. step_object steps (suc k) p ++ t) (further_joined steps (suc k) ps)))

-- the steps in `[` and `]`
series_joined : (steps : ℕ) (ps : List ℕ) → 1 ≤ length ps → joined (series_of its (steps_for steps 0 ps)) ≡ step_texts (marked_step steps) 0 ps ++ 93 ∷ []
unfolding joined series_of parted steps_for step_texts
series_joined steps [] h = absurd (omega arith)
series_joined steps (p ∷ ps) h =
    let rest = further its (map (step_of its) (steps_for steps 1 ps)) in
    let e = step_joined steps 0 p rest ∙ ap (λ t. step_object steps 0 p ++ t) (further_joined steps 0 ps) in
    ap (λ t. 91 ∷ t) (joined_append (step_of its _ ++ rest) ((93 ∷ []) ∷ []) ∙ ap (λ t. t ++ 93 ∷ []) e)

-- ---- the object

-- the same of the members before the steps
head_pieces : (q x a y b z c w d u e v f t rest : List ℕ)
    → x ++ ((a ++ q) ++ (y ++ ((b ++ q) ++ (z ++ ((c ++ q) ++ (w ++ ((d ++ q) ++ (u ++ ((e ++ q) ++ (v ++ ((f ++ q) ++ (t ++ rest))))))))))))
    ≡ ((x ++ a) ++ (((q ++ y) ++ b) ++ ((q ++ z) ++ c))) ++ ((((q ++ w) ++ d) ++ (((q ++ u) ++ e) ++ (((q ++ v) ++ f) ++ (q ++ t)))) ++ rest)
head_pieces q x a y b z c w d u e v f t rest = simp append_assoc

-- the tokens of an object: codes, terms and steps
head_joined : (r : Request) (steps : List (Step (List ℕ)))
    → joined (object_of its (values_of r) steps) ≡ actors_text r ++ (terms_text r ++ (joined (series_of its steps) ++ 125 ∷ []))
unfolding joined object_of parted further
head_joined r steps =
    let e : joined ((series_of its steps ++ []) ++ (125 ∷ []) ∷ []) ≡ joined (series_of its steps) ++ 125 ∷ [] =
    rw (append-nil (series_of its steps)) (joined_append (series_of its steps) ((125 ∷ []) ∷ [])) in
    let k = r.notification.key in
    head_pieces (quote ∷ []) (first_lead ceder_name) k.ceder (member_lead acquirer_name) k.acquirer (member_lead origin_name) r.origin
    (member_lead category_name) (category_text k.category) (member_lead day_name) (moment_text (midnight k.day))
    (member_lead submitted_name) (moment_text r.moment) (44 ∷ (quoted status_name ++ 58 ∷ (quoted created ++ 44 ∷ (quoted series_name ++ 58 ∷ []))))
    (joined ((series_of its steps ++ []) ++ (125 ∷ []) ∷ []))
    ∙ ap (λ t. actors_text r ++ (terms_text r ++ t)) e

module _ (r : Request) where
  abbrev its_note : Notification
  its_note = r.notification

  pub object_pieces : 1 ≤ its_note.steps → its_note.steps ≤ length its_note.powers
      → actors_text r ++ (terms_text r ++ (steps_text its_note ++ end_text)) ≡ object_text r
  unfolding object_tokens
  object_pieces o h =
      let ps = take its_note.steps its_note.powers in
      let n = length-take-le its_note.steps its_note.powers h in
      let e = append_assoc (steps_text its_note) (93 ∷ []) (125 ∷ []) in
      sym (head_joined r (steps_for its_note.steps 0 ps)
      ∙ ap (λ t. actors_text r ++ (terms_text r ++ t)) (ap (λ t. t ++ 125 ∷ []) (series_joined its_note.steps ps (omega arith)) ∙ e))
