-- The reader's walk along the steps: what is kept after a step's power and the tokens from there on say together what the whole series says
-- from its beginning on.
use Rattle.std.specs.Prelude.{Result}
use Rattle.reader.specs.declared.tally.StepFault.{StepFault}
use mathlib.Core.Path.{◌≡◌, refl, sym, ap, ◌∙◌}
use mathlib.Core.Bool.{Bool, true, false, not, ◌&&◌}
use mathlib.Core.List.{List, [], ◌∷◌, ◌++◌}
use Prim.Native.Nat.{ℕ, suc, ◌+◌, ◌<◌, ◌≤◌, min}
use native.Mathlib.Omega.{arith}
use lib.Dec.{leb, ltb, eqb}
use lib.ListN.{length, get_or, drop, length-drop, drop_of_length-le}
use lib.Seq.{drop-cons}
use borrow.Author.Tests.{ltb-true, ltb-false, leb-true, leb-false}
use Rattle.std.specs.Prelude.{Option, Some, None, IfSome, MatchOption}
use Rattle.std.specs.Option.{ForSome}
use Rattle.std.specs.Bool.{then_some}
use Rattle.std.proofs.lemmas.Option.{none-some}
use Rattle.lists.specs.Searches.{same}
use Rattle.lists.proofs.Tests.{by_test, or_right}
use Rattle.notification.specs.Forms.{is_digit}
use Rattle.reader.specs.Folding.{Taken, is_over, step_taken, take_all}
use Rattle.request.specs.Tokens.{is_blank, quote, onto, tokens_from, tokens, fits, is}
use Rattle.request.specs.Objects.{Step}
use Rattle.request.specs.Writing.{hour_label}
use Rattle.request.specs.Reading.{steps_in}
use Rattle.request_reader.specs.declared.layouts.Layout.{Layout}
use Rattle.request_reader.specs.Walking.{Past, Walked, Missing, Passed, first_token, is_mark}
use Rattle.request_reader.specs.Steps.{front_tests, step_in, said_at, StepAt, before_from, LaidOut}
use Rattle.request_reader.specs.Series.{closing, count_of, is_series, first_step, tell_all, is_rest, steps_rest, between_steps}
use Rattle.request_reader.specs.Series.{Told, Onward, NextStep, SeriesAt}
use Rattle.request_reader.proofs.Walks.{starts_one, walked_on, missing_on, missing_first, mark_found, mark_lost}
use Rattle.request_reader.proofs.Passing.{passed_on, passed_tokens, mark_passed}
use Rattle.request_reader.proofs.StepSeries.{fits_append, no_front, no_first, no_end, last_rest, begins_end, left_end}
use Rattle.request_reader.proofs.StepRuns.{told_on, step_told, step_onward}

-- ---- a byte by itself, as the first token

is_none : (b : ℕ) → is (b ∷ []) [] ≡ false
unfolding same
is_none b = refl

module _ (s : List ℕ) (at from b : ℕ) (p : Past s at from) (m : is_mark b ≡ true) where
  pub mark_first : get_or s from 0 ≡ b → is (b ∷ []) (get_or (tokens (drop at s)) 0 []) ≡ true
  mark_first e =
      sym (starts_one (is (b ∷ [])) (tokens (drop at s)) (is_none b)) ∙ (mark_found s at from b p m e).passes

  pub mark_other : (get_or s from 0 ≡ b → ⊥) → is (b ∷ []) (get_or (tokens (drop at s)) 0 []) ≡ false
  mark_other f = sym (starts_one (is (b ∷ [])) (tokens (drop at s)) (is_none b)) ∙ mark_lost s at from b p m f

-- ---- nothing after what closes the object

onto_some : (b : ℕ) (ts : List (List ℕ)) → fits [] (onto b ts) ≡ false
unfolding fits
onto_some b [] = refl
onto_some b (t ∷ ts) = refl

one_some : (t : List ℕ) (ts : List (List ℕ)) → fits [] (t ∷ ts) ≡ false
unfolding fits
one_some t ts = refl

none_left : fits [] (tokens []) ≡ true
unfolding fits tokens_from
none_left = refl

tokens_some : (b : ℕ) (s : List ℕ) → is_blank b ≡ false → fits [] (tokens (b ∷ s)) ≡ false
unfolding tokens_from
tokens_some b s e =
    by_test (eqb b quote)
    (λ t. rw (e, t) (onto_some b (tokens_from true s)))
    (λ t. by_test (is_digit b && is_digit (get_or s 0 0))
    (λ u. rw (e, t, u) (onto_some b (tokens s)))
    (λ u. rw (e, t, u) (one_some (b ∷ []) (tokens s))))

abbrev a_bracket : List (List ℕ → Bool)
a_bracket = is (93 ∷ []) ∷ []

abbrev a_brace : List (List ℕ → Bool)
a_brace = is (125 ∷ []) ∷ []

module _ (s : List ℕ) (at : ℕ) where
  pub not_closed : Missing closing s at → false ≡ fits closing (tokens (drop at s))
  not_closed m = sym (fits_append closing [] (tokens (drop at s)) ∙ rw m)

  pub no_bracket : Missing a_bracket s at → false ≡ fits closing (tokens (drop at s))
  no_bracket m = not_closed (missing_first a_bracket a_brace s at m)

  module _ (inner : ℕ) (w : Walked a_bracket s at inner) where
    pub no_brace : Missing a_brace s inner → false ≡ fits closing (tokens (drop at s))
    no_brace m = not_closed (missing_on a_bracket a_brace s at inner w m)

    pub closed_by : (outer end : ℕ) → Walked a_brace s inner outer → Past s outer end → leb (length s) end ≡ fits closing (tokens (drop at s))
    closed_by outer end v p =
        let f = walked_on a_bracket a_brace s at inner w outer v in
        let d : fits closing (tokens (drop at s)) ≡ fits [] (tokens (drop end s)) =
        fits_append closing [] (tokens (drop at s)) ∙ rw (f.passes, ← f.leaves, p.same_tokens) in
        by_test (leb (length s) end)
        (λ t. let l = leb-true (length s) end t in t ∙ sym (d ∙ ended l))
        (λ t. let l = leb-false (length s) end t in t ∙ sym (d ∙ rw (drop-cons s end 0 l) (tokens_some (get_or s end 0) (drop (suc end) s) p.no_blank)))
      where
        ended : length s ≤ end → fits [] (tokens (drop end s)) ≡ true
        ended l = ap (λ (x : List ℕ). fits [] (tokens x)) (drop_of_length-le s l) ∙ none_left

-- ---- the labels of a step's place in the day

pub told_same : (first steps : ℕ) (x : Taken) (said other : Result ℕ StepFault) → (x.tally.lines < steps → said ≡ other) → step_taken first steps x said ≡ step_taken first steps x other
told_same first steps x said other f =
    by_test (is_over steps x.tally)
    (λ t. rw t)
    (λ t. let h = leb-false steps x.tally.lines (or_right (not (eqb x.tally.fault 0)) (leb steps x.tally.lines) t) in
    ap (λ (l : Result ℕ StepFault). step_taken first steps x l) (f h))

pub next_told : (steps k k' : ℕ) (from until s : List ℕ) (at next : ℕ) (x y : Taken) (said : Result ℕ StepFault) → k ≡ min x.tally.lines steps → k' ≡ min (k + 1) steps
    → from ≡ hour_label steps k → until ≡ hour_label steps k' → StepAt from until s at next said → y ≡ step_taken first_step steps x said → NextStep steps s at next x y
unfolding said_at
next_told steps k k' from until s at next x y said e e' f u w r =
    record {
      walked = w.walked;
      its_tally = r ∙ told_same first_step steps x said (said_at steps x.tally.lines (step_in (tokens (drop at s))))
          (λ i. let a : k ≡ x.tally.lines = omega arith in
          let b : k' ≡ suc x.tally.lines = omega arith in
          w.its_said ∙ rw (f, u, a, b));
    }

-- ---- the first step, and the next one

module _ (steps : ℕ) (s : List ℕ) (at next : ℕ) (x y : Taken) (n : NextStep steps s at next x y) where
  step_first : Told steps s at x next y
  step_first = step_told steps s at next x y (tokens (drop at s)) n.walked.passes n.walked.leaves n.its_tally refl

  module _ (lead : ℕ) (p : Passed between_steps s lead at) where
    pub next_onward : Onward steps s lead x next y
    next_onward = step_onward steps s lead next x y (tokens (drop at s)) n.walked.passes n.walked.leaves n.its_tally (passed_tokens between_steps s lead at p)

  pub next_less : length (tokens (drop next s)) ≤ length (tokens (drop at s))
  next_less = omega (arith, ap length n.walked.leaves, length-drop 12 (tokens (drop at s)))

-- before a step: the first one, where nothing is kept yet, or one after the comma
module _ (steps : ℕ) (s : List ℕ) (first : ℕ) (x : Taken) where
  pub record StepDue (lead at : ℕ) (y : Taken) : Type 0 where
    pub on : lead ≤ at
    pub within : at ≤ length s
    pub begins : lead ≡ at → (at ≡ first) × (y ≡ x)
    pub goes : lead < at → Told steps s first x lead y × Passed between_steps s lead at

  pub due_told : (lead at next : ℕ) (y z : Taken) → StepDue lead at y → NextStep steps s at next y z → Told steps s first x next z
  due_told lead at next y z d n =
      by_test (ltb lead at)
      (λ t. let g = d.goes (ltb-true lead at t) in
      told_on steps s first lead next x y z g.0 (next_onward steps s at next y z n lead g.1))
      (λ t. let e = d.begins (omega (arith, d.on, ltb-false lead at t)) in
      rw (e.0, e.1) at (step_first steps s at next y z n))

  -- without a step there are no steps that what closes the object could end
  pub due_missing : (lead at : ℕ) (y : Taken) → is (93 ∷ []) (first_token s first) ≡ false → StepDue lead at y → Missing front_tests s at
      → is_series (tokens (drop first s)) ≡ false
  due_missing lead at y f d m =
      by_test (ltb lead at)
      (λ t. let g = d.goes (ltb-true lead at t) in
      g.0.its_form ∙ (ap is_rest (passed_tokens between_steps s lead at g.1) ∙ no_front (tokens (drop at s)) m))
      (λ t. let e = d.begins (omega (arith, d.on, ltb-false lead at t)) in
      no_first (tokens (drop first s)) (rw e.0 at m) f)

  pub due_next : (lead at : ℕ) (y : Taken) → Told steps s first x lead y → Passed between_steps s lead at → StepDue lead at y
  due_next lead at y t p =
      let e = ap length (passed_tokens between_steps s lead at p) in
      record {
        on = p.on;
        within = p.within;
        begins = λ q. absurd (omega (arith, e, ap (λ (i : ℕ). length (tokens (drop i s))) q));
        goes = λ h. (t, p);
      }

-- a step that is laid out so after `}` and a comma is laid out so from there on
pub laid_before : (s : List ℕ) (lead at : ℕ) (l : Layout) → Passed between_steps s lead at → LaidOut before_from s at l
    → LaidOut (between_steps ++ before_from) s lead l
laid_before s lead at l p o =
    record {
      to_from = passed_on between_steps before_from s lead at l.first p o.to_from;
      from_label = o.from_label;
      to_until = o.to_until;
      until_label = o.until_label;
      to_power = o.to_power;
    }

pub laid_for : (s : List ℕ) (lead at : ℕ) → Passed between_steps s lead at → (o : Option Layout) → IfSome o (λ l. LaidOut before_from s at l)
    → ForSome o (λ l. LaidOut (between_steps ++ before_from) s lead l)
laid_for s lead at p None i = λ l e. absurd (none-some l e)
laid_for s lead at p (Some k) i = λ l e. let q : k ≡ l = cc in laid_before s lead at l p (rw q at i)

-- what is kept where the object is closed
pub kept_where : {T : Type 0} (P : Type 0) (Q : T → Type 0) (closed : Bool) (kept : T) → (closed ≡ true → Q kept) → (closed ≡ false → P)
    → MatchOption (then_some closed kept) P Q
kept_where P Q true kept f g = f refl
kept_where P Q false kept f g = g refl

-- ---- the walk

pub between-passed : (s : List ℕ) (at end mark : ℕ) → Passed ((125 ∷ []) ∷ []) s at end → Past s end mark → Passed [] s end mark
    → get_or s mark 0 ≡ 44 → Passed between_steps s at (mark + 1)
unfolding is_mark
between-passed s at end mark u p v e =
    passed_on ((125 ∷ []) ∷ []) ((44 ∷ []) ∷ []) s at end (mark + 1) u (mark_passed s end mark p v 44 refl e)

-- without `}` the step has no end
pub no_end_told : (steps : ℕ) (s : List ℕ) (first at : ℕ) (x y : Taken) → Told steps s first x at y → Missing a_brace s at
    → is_series (tokens (drop first s)) ≡ false
no_end_told steps s first at x y l m = l.its_form ∙ no_end (tokens (drop at s)) m

-- the step is the last one
module _ (s : List ℕ) (at end mark : ℕ) (p : Past s end mark) (w : Walked a_brace s at end) (f : get_or s mark 0 ≡ 44 → ⊥) where
  abbrev ts : List (List ℕ)
  ts = tokens (drop at s)

  rest_closed : (fits closing (tokens (drop mark s)) ≡ is_rest ts) × (is_rest ts ≡ true → steps_rest ts ≡ [])
  unfolding is_mark
  rest_closed =
      let d : tokens (drop mark s) ≡ drop 1 ts = p.same_tokens ∙ w.leaves in
      let o : is (44 ∷ []) (get_or (drop 1 ts) 0 []) ≡ false = rw (← w.leaves) (mark_other s end mark 44 p refl f) in
      let r = last_rest ts w.passes o in
      (ap (fits closing) d ∙ sym r.0, r.1)

  module _ (steps from first : ℕ) (x y : Taken) (b : Past s from first) (l : Told steps s first x at y) where
    its_form : fits closing (tokens (drop mark s)) ≡ is_series (tokens (drop from s))
    its_form = rest_closed.0 ∙ (sym l.its_form ∙ ap is_series b.same_tokens)

    pub last_lost : fits closing (tokens (drop mark s)) ≡ false → is_series (tokens (drop from s)) ≡ false
    last_lost g = sym its_form ∙ g

    pub last_step : fits closing (tokens (drop mark s)) ≡ true → SeriesAt steps s from x y
    unfolding take_all
    last_step g =
        let r = rest_closed in
        let q = sym r.0 ∙ g in
        let k : y ≡ tell_all steps x (steps_in (count_of (tokens (drop first s))) (tokens (drop first s))) =
        sym (l.its_steps (l.its_form ∙ q) ∙ ap (λ (ss : List (Step (List ℕ))). tell_all steps y ss) (r.1 q)) in
        record {
          its_form = sym its_form ∙ g;
          its_steps = k ∙ ap (λ (us : List (List ℕ)). tell_all steps x (steps_in (count_of us) us)) b.same_tokens;
        }

-- ---- no step

module _ (s : List ℕ) (from first : ℕ) (p : Past s from first) where
  module _ (e : get_or s first 0 ≡ 93) where
    closes : is_series (tokens (drop from s)) ≡ fits closing (tokens (drop first s))
    unfolding is_mark
    closes = begins_end (tokens (drop from s)) (mark_first s from first 93 p refl e) ∙ ap (fits closing) (sym p.same_tokens)

    pub none_lost : fits closing (tokens (drop first s)) ≡ false → is_series (tokens (drop from s)) ≡ false
    none_lost g = closes ∙ g

    pub no_steps_lem : (steps : ℕ) (x : Taken) → fits closing (tokens (drop first s)) ≡ true → SeriesAt steps s from x x
    unfolding take_all
    no_steps_lem steps x g =
        record {
          its_form = closes ∙ g;
          its_steps = sym (ap (λ (ss : List (Step (List ℕ))). tell_all steps x ss) (left_end (tokens (drop from s)) (sym (ap (fits closing) p.same_tokens) ∙ g)));
        }

  pub not_none : (get_or s first 0 ≡ 93 → ⊥) → is (93 ∷ []) (first_token s first) ≡ false
  unfolding is_mark
  not_none f = rw p.same_tokens (mark_other s from first 93 p refl f)

-- ---- a step more, by what it says
