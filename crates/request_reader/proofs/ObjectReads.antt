-- What the reader finds is what reading the object comes to: the members before the steps and the steps make the object, and 5 to 8 of the
-- steps follow.
use mathlib.Core.Path.{◌≡◌, refl, sym, ap, ◌∙◌}
use mathlib.Core.Bool.{Bool, true, false, false≢true, ◌&&◌}
use mathlib.Core.List.{List, [], ◌∷◌, ◌++◌, append_assoc, map}
use Prim.Native.Nat.{ℕ, zero, suc, ◌+◌, ◌-◌, ◌/◌, ◌<◌, ◌≤◌}
use native.Mathlib.Nat.{zero-add}
use native.Mathlib.Omega.{arith}
use lib.Dec.{ltb, eqb}
use lib.ListN.{length, get_or, drop, replicate, length-drop, drop_of_length-le}
use lib.Seq.{drop-cons}
use borrow.Author.Tests.{lt-ltb, le-ltb, le-leb, lt-leb}
use Rattle.lists.specs.Searches.{first_from}
use Rattle.lists.proofs.Tests.{by_test, and_left, and_right}
use Rattle.calendar.specs.Dates.{day_count}
use Rattle.calendar.specs.Steps.{steps_of}
use Rattle.calendar.proofs.StepCounts.{steps_small, steps_some}
use Rattle.std.specs.Prelude.{Option, None, Result, Ok, Err}
use Rattle.std.specs.Option.{ok_or}
use Rattle.refusals.specs.declared.InputRefusal.{InputRefusal}
use Rattle.refusals.specs.Tests.{Verdict, pass, verdict, input, first_met, decide}
use Rattle.refusals.specs.declared.Refusal.{Refusal}
use Rattle.refusals.specs.declared.Refusal.TheVariants.{Input}
use Rattle.refusals.specs.declared.InputRefusal.TheVariants.{Object, Labels, Power}
use Rattle.refusals.proofs.Tests.{refused_pass}
use Rattle.notification.specs.Forms.{places, six_bytes, all_zero}
use Rattle.notification.specs.Reading.{is_power, note_of}
use Rattle.notification.specs.declared.Key.{Key}
use Rattle.notification.specs.declared.Notification.{Notification}
use Rattle.reader.specs.Folding.{Taken, no_steps, outcome_of, judgement}
use Rattle.reader.proofs.Series.{verdict_from, powers_from, told, judged_told}
use Rattle.request.specs.Tokens.{inside, tokens_from, tokens, fits, is, quoted_by}
use Rattle.request.specs.Moments.{moment_in, is_day_text}
use Rattle.request.specs.Objects.{Step, further, parted, step_of, series_of, object_of}
use Rattle.request.specs.Writing.{object_most}
use Rattle.request.specs.Reading.{step_test, value_tests, step_count, is_object, text_at, steps_in, steps_read, day_read, has_labels, ended, no_step, bad_step, first_bad, step_refusal, powers_of, object_tests, request_in, read_object}
use Rattle.request.specs.declared.Moment.{Moment}
use Rattle.request.specs.declared.Request.{Request}
use Rattle.request.proofs.Fits.{quoted_back}
use Rattle.request.proofs.MomentTexts.{day_back}
use Rattle.request_reader.specs.Walking.{starts, Walked, Missing}
use Rattle.request_reader.specs.Heads.{party_tests, term_tests, begin_tests, head_tests, PartiesAt, TermsAt}
use Rattle.request_reader.specs.Steps.{said_by, said_at}
use Rattle.request_reader.specs.Series.{closing, series_tests, count_of, is_series, first_step, tell_all, SeriesAt}
use Rattle.request_reader.specs.declared.head.Parties.{Parties}
use Rattle.request_reader.specs.declared.head.Terms.{Terms}
use Rattle.request_reader.proofs.Walks.{walked_on, missing_on, missing_first, token_after}
use Rattle.request_reader.proofs.StepSeries.{fits_append}

-- ---- the object is what stands before the steps, and the steps

append_nil : {A : Type 0} (xs : List A) → xs ++ [] ≡ xs
append_nil [] = refl
append_nil {A} (x ∷ xs) = ap (λ (ys : List A). x ∷ ys) (append_nil xs)

object_tests_lem : (n : ℕ) → object_of is value_tests (replicate n step_test) ≡ head_tests ++ series_tests n
unfolding object_of series_of parted further
object_tests_lem n =
    let p = parted is (map (step_of is) (replicate n step_test)) in
    let a : List (List ℕ → Bool) = is (93 ∷ []) ∷ [] in
    let b : List (List ℕ → Bool) = is (125 ∷ []) ∷ [] in
    let e : ((p ++ a) ++ []) ++ b ≡ p ++ closing = ap (λ (x : List (List ℕ → Bool)). x ++ b) (append_nil (p ++ a)) ∙ append_assoc p a b in
    whole p (((p ++ a) ++ []) ++ b) e
  where
    whole : (p tail : List (List ℕ → Bool)) → tail ≡ p ++ closing → head_tests ++ tail ≡ head_tests ++ (p ++ closing)
    whole p tail e = ap (λ (x : List (List ℕ → Bool)). head_tests ++ x) e

pub object_parts : (ts : List (List ℕ)) → is_object ts ≡ (starts head_tests ts && is_series (drop 32 ts))
unfolding is_object is_series
object_parts ts =
    let n : length ts - 33 ≡ length (drop 32 ts) - 1 = omega (arith, length-drop 32 ts) in
    let m : step_count ts ≡ count_of (drop 32 ts) = ap (λ (k : ℕ). k / 14) n in
    ap (λ (ps : List (List ℕ → Bool)). fits ps ts) (object_tests_lem (step_count ts))
    ∙ (fits_append head_tests (series_tests (step_count ts)) ts ∙ ap (λ (k : ℕ). starts head_tests ts && fits (series_tests k) (drop 32 ts)) m)

-- a token among those that pass passes its test
starts_at : (ps : List (List ℕ → Bool)) (ts : List (List ℕ)) (i : ℕ) → starts ps ts ≡ true → i < length ps → get_or ps i (λ t. false) (get_or ts i []) ≡ true
unfolding starts
starts_at [] ts i e h = absurd (omega arith)
starts_at (p ∷ ps) [] i e h = absurd (false≢true e)
starts_at (p ∷ ps) (t ∷ ts) zero e h = and_left (p t) (starts ps ts) e
starts_at (p ∷ ps) (t ∷ ts) (suc i) e h = starts_at ps ts i (and_right (p t) (starts ps ts) e) (omega arith)

pub head_day : (ts : List (List ℕ)) → starts head_tests ts ≡ true → day_read ts < day_count
unfolding day_read
head_day ts e =
    let t : quoted_by is_day_text (get_or ts 19 []) ≡ true = starts_at head_tests ts 19 e (omega arith) in
    (day_back (text_at 19 ts) (quoted_back is_day_text (get_or ts 19 []) t).1).0

-- ---- 6 and 7: the first bad step

module _ (steps : ℕ) where
  abbrev fault : ℕ → List (Step (List ℕ)) → Verdict
  fault k ss = verdict_from (said_at steps) first_step steps k ss

  verdict_first : (all : List (Step (List ℕ))) (i n : ℕ) → i + n ≡ length all
      → fault i (drop i all) ≡ first_met ((ltb (first_from (bad_step steps all) i n) (length all), step_refusal steps all (first_from (bad_step steps all) i n)) ∷ [])
  unfolding verdict_from first_from said_at said_by has_labels
  verdict_first all i zero e =
      let h : length all ≤ i = omega arith in
      rw (drop_of_length-le all h, le-ltb i (length all) h)
  verdict_first all i (suc n) e =
      let h : i < length all = omega arith in
      let t = lt-ltb i (length all) h in
      let l = get_or all i no_step in
      let d = drop-cons all i no_step h in
      by_test (has_labels steps i l)
      (λ a. by_test (is_power (ended l))
      (λ b. rw (d, a, b) (verdict_first all (suc i) n (omega arith)))
      (λ b. rw (d, a, b, t, a)))
      (λ a. rw (d, a, t, a))

  pub verdict_table : (ss : List (Step (List ℕ))) → fault 0 ss ≡ first_met ((ltb (first_bad steps ss) (length ss), step_refusal steps ss (first_bad steps ss)) ∷ [])
  unfolding first_bad
  verdict_table ss = verdict_first ss 0 (length ss) (zero-add (length ss))

  -- where none is bad, the powers are those of the digits
  pub powers_said : (k : ℕ) (ss : List (Step (List ℕ))) → fault k ss ≡ pass → powers_from (said_at steps) first_step steps k ss ≡ powers_of ss
  unfolding verdict_from powers_from powers_of said_at said_by has_labels
  powers_said k [] e = refl
  powers_said k (s ∷ ss) e =
      by_test (has_labels steps k s)
      (λ a. by_test (is_power (ended s))
      (λ b. rw (a, b, powers_said (suc k) ss (rw (a, b) at e)))
      (λ b. refused_pass (Input Power (k + first_step)) (rw (a, b) at e)))
      (λ a. refused_pass (Input Labels (k + first_step)) (rw a at e))

-- ---- what isn't found, as the code refuses

pub not_found : {T E : Type 0} (o : Option T) (x y : E) → o ≡ None → Err x ≡ ok_or o y → x ≡ y
not_found o x y n e = let f : Err x ≡ ok_or None y = rw n at e in cc

pub by_object : (s : List ℕ) (x : InputRefusal) → x ≡ Object → Err (input Object) ≡ read_object s → Err (input x) ≡ read_object s
by_object s x e f = rw e f

-- ---- WHAT READING COMES TO

pub too_long_lem : (s : List ℕ) → object_most < length s → Err (input Object) ≡ read_object s
unfolding read_object object_tests
too_long_lem s h = rw (lt-leb (length s) object_most h)

module _ (s : List ℕ) (few : length s ≤ object_most) where
  abbrev ts : List (List ℕ)
  ts = tokens s

  abbrev steps : ℕ
  steps = steps_of (day_read ts)

  abbrev ss : List (Step (List ℕ))
  ss = steps_read ts

  pub no_object : is_object ts ≡ false → Err (input Object) ≡ read_object s
  unfolding read_object object_tests
  no_object e = rw (le-leb (length s) object_most few, e)

  module _ (good : is_object ts ≡ true) where
    abbrev key : Key
    key = (request_in ts).notification.key

    abbrev concluded : Result Notification Refusal → Result Request Refusal
    concluded x = decide (verdict x) (Ok (record { notification = note_of x; origin = text_at 11 ts; moment = moment_in (text_at 23 ts) })) Err

    by_verdict : (v : Verdict) → fault steps 0 ss ≡ v → eqb (length ss) steps ≡ true → concluded (told (said_at steps) first_step steps key ss) ≡ read_object s
    unfolding read_object object_tests request_in
    by_verdict (Err r) e n =
        let t = sym (verdict_table steps ss) ∙ e in
        by_test (ltb (first_bad steps ss) (length ss))
        (λ q. let z : Err (step_refusal steps ss (first_bad steps ss)) ≡ Err r = rw q at t in
        rw (n, e, le-leb (length s) object_most few, good, q) (sym (ap (λ (v : Verdict). decide v (Ok (request_in ts)) Err) z)))
        (λ q. let z : pass ≡ Err r = rw q at t in refused_pass r (sym z))
    by_verdict (Ok u) e n =
        let t = sym (verdict_table steps ss) ∙ e in
        let w = powers_said steps 0 ss e in
        by_test (ltb (first_bad steps ss) (length ss))
        (λ q. let z : Err (step_refusal steps ss (first_bad steps ss)) ≡ pass = rw q at t in refused_pass (step_refusal steps ss (first_bad steps ss)) z)
        (λ q. by_test (all_zero (powers_of ss))
        (λ z. rw (n, e, w, z, le-leb (length s) object_most few, good, q))
        (λ z. rw (n, e, w, z, le-leb (length s) object_most few, good, q)))

    all_steps : concluded (told (said_at steps) first_step steps key ss) ≡ read_object s
    unfolding read_object object_tests
    all_steps =
        by_test (eqb (length ss) steps)
        (λ n. by_verdict (fault steps 0 ss) refl n)
        (λ n. rw (n, le-leb (length s) object_most few, good))

    -- the request is Ok or refused as its notification is
    by_notification : (v : Verdict) (n : Notification)
        → decide v (Ok (record { notification = n; origin = text_at 11 ts; moment = moment_in (text_at 23 ts) })) Err
        ≡ concluded (decide v (Ok n) Err)
    by_notification (Ok u) n = refl
    by_notification (Err r) n = refl

    -- what the reader has found: the key, what is kept of the steps, the origin and the submission
    pub object_read : (k : Key) (x : Taken) (origin : List ℕ) (moment : Moment) → k ≡ key
        → x ≡ tell_all steps (record { tally = no_steps; powers = replicate places 0 }) ss
        → origin ≡ text_at 11 ts → moment ≡ moment_in (text_at 23 ts)
        → decide (outcome_of steps x.tally x.powers)
        (Ok (record { notification = record { key = k; steps = steps; powers = x.powers }; origin = origin; moment = moment })) Err
        ≡ read_object s
    unfolding judgement
    object_read k x origin moment ek ex eo em =
        let e : judgement k steps x.tally x.powers ≡ told (said_at steps) first_step steps key ss =
        ap (λ (z : Key). judgement z steps x.tally x.powers) ek
        ∙ (ap (λ (z : Taken). judgement key steps z.tally z.powers) ex
        ∙ judged_told (said_at steps) first_step steps key (steps_small (day_read ts)) ss) in
        rw (eo, em)
        (by_notification (outcome_of steps x.tally x.powers) (record { key = k; steps = steps; powers = x.powers }) ∙ (ap concluded e ∙ all_steps))

-- ---- by the places that the reader has found

module _ (s : List ℕ) (few : length s ≤ object_most) where
  abbrev all : List (List ℕ)
  all = tokens s

  headless : Missing head_tests s 0 → Err (input Object) ≡ read_object s
  headless m = no_object s few (object_parts all ∙ rw m)

  pub no_parties : Missing party_tests s 0 → Err (input Object) ≡ read_object s
  no_parties m = headless (missing_first party_tests (term_tests ++ begin_tests) s 0 m)

  module _ (p : Parties) (pa : PartiesAt s p) where
    pub no_terms : Missing term_tests s p.at → Err (input Object) ≡ read_object s
    no_terms m = headless (missing_on party_tests (term_tests ++ begin_tests) s 0 p.at pa.walked (missing_first term_tests begin_tests s p.at m))

    module _ (t : Terms) (te : TermsAt s p.at t) where
      terms_walked : Walked (party_tests ++ term_tests) s 0 t.at
      terms_walked = walked_on party_tests term_tests s 0 p.at pa.walked t.at te.walked

      pub no_begin : Missing begin_tests s t.at → Err (input Object) ≡ read_object s
      no_begin m = headless (missing_on (party_tests ++ term_tests) begin_tests s 0 t.at terms_walked m)

      module _ (from : ℕ) (be : Walked begin_tests s t.at from) where
        head_walked : Walked head_tests s 0 from
        head_walked = walked_on (party_tests ++ term_tests) begin_tests s 0 t.at terms_walked from be

        after_parties : (i : ℕ) → get_or (tokens (drop p.at s)) i [] ≡ get_or all (13 + i) []
        after_parties i = token_after party_tests [] s 0 p.at pa.walked i

        its_day : t.day.day ≡ day_read all
        unfolding day_read
        its_day = ap (λ (m : Moment). m.day) te.its_day ∙ ap (λ (u : List ℕ). (moment_in (inside u)).day) (after_parties 6)

        its_category : t.category ≡ six_bytes (text_at 15 all)
        its_category = te.its_category ∙ ap (λ (u : List ℕ). six_bytes (inside u)) (after_parties 2)

        its_moment : t.submitted ≡ moment_in (text_at 23 all)
        its_moment = te.its_moment ∙ ap (λ (u : List ℕ). moment_in (inside u)) (after_parties 10)

        its_key : ◌≡◌ {A = Key} (record { ceder = p.ceder; acquirer = p.acquirer; category = t.category; day = t.day.day }) (request_in all).notification.key
        unfolding request_in
        its_key = λ i. record { ceder = pa.its_ceder i; acquirer = pa.its_acquirer i; category = its_category i; day = its_day i }

        module _ (steps : ℕ) (e : steps ≡ steps_of t.day.day) where
          same_steps : steps ≡ steps_of (day_read all)
          same_steps = e ∙ ap steps_of its_day

          pub steps_enough : (1 ≤ steps) × (steps ≤ places)
          steps_enough =
              let l = steps_some (day_read all) (head_day all head_walked.passes) in
              let m = steps_small (day_read all) in
              (omega (arith, same_steps), omega (arith, same_steps))

          its_object : is_object all ≡ is_series (tokens (drop from s))
          its_object = object_parts all ∙ rw (head_walked.passes, ← head_walked.leaves)

          pub series_lost : is_series (tokens (drop from s)) ≡ false → Err (input Object) ≡ read_object s
          series_lost g = no_object s few (its_object ∙ g)

          pub series_found : (x y : Taken) (v : Verdict) → SeriesAt steps s from x y
              → x ≡ record { tally = no_steps; powers = replicate places 0 } → v ≡ outcome_of steps y.tally y.powers
              → decide v (Ok (record {
                notification = record {
                  key = record { ceder = p.ceder; acquirer = p.acquirer; category = t.category; day = t.day.day };
                  steps = steps;
                  powers = y.powers;
                };
                origin = p.origin;
                moment = t.submitted;
              })) Err ≡ read_object s
          unfolding steps_read
          series_found x y v se ex ev =
              let n : length all - 33 ≡ length (drop 32 all) - 1 = omega (arith, length-drop 32 all) in
              let m : count_of (drop 32 all) ≡ step_count all = sym (ap (λ (k : ℕ). k / 14) n) in
              let d : steps_in (count_of (tokens (drop from s))) (tokens (drop from s)) ≡ steps_read all =
              ap (λ (us : List (List ℕ)). steps_in (count_of us) us) head_walked.leaves ∙ ap (λ (k : ℕ). steps_in k (drop 32 all)) m in
              let told-all : y ≡ tell_all (steps_of (day_read all)) (record { tally = no_steps; powers = replicate places 0 }) (steps_read all) =
              se.its_steps ∙ (ap (λ (z : Taken). tell_all steps z (steps_in (count_of (tokens (drop from s))) (tokens (drop from s)))) ex ∙ (ap (λ (q : List (Step (List ℕ))). tell_all steps (record { tally = no_steps; powers = replicate places 0 }) q) d ∙ ap (λ (k : ℕ). tell_all k (record { tally = no_steps; powers = replicate places 0 }) (steps_read all)) same_steps)) in
              rw (ev, same_steps)
              (object_read s few (its_object ∙ se.its_form) (record { ceder = p.ceder; acquirer = p.acquirer; category = t.category; day = t.day.day }) y p.origin t.submitted its_key told-all pa.its_origin its_moment)

-- nothing stands past the end, and nothing is no object
pub past_end : (s : List ℕ) (at : ℕ) → length s ≤ at → Err (input Object) ≡ read_object (drop at s)
unfolding tokens_from starts
past_end s at h = rw (drop_of_length-le s h) (no_object [] (omega arith) (object_parts []))
