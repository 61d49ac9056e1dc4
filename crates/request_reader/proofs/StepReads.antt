-- A step, member by member: its labels are the ones wanted or others, and its digits are a power or not.
use Rattle.std.specs.Prelude.{Option, Some, None}
use Rattle.std.specs.Prelude.{Ok, Err}
use Rattle.reader.specs.declared.tally.StepFault.TheVariants.{NoLabels, NoPower}
use mathlib.Core.Path.{◌≡◌, refl, sym, ap, ◌∙◌}
use mathlib.Core.Bool.{Bool, true, false, false≢true, cond, not, ◌&&◌}
use mathlib.Core.List.{List, [], ◌∷◌, ◌++◌}
use Prim.Native.Nat.{ℕ, ◌+◌, ◌-◌, ◌<◌, ◌≤◌}
use native.Mathlib.Omega.{arith}
use lib.Dec.{ltb}
use lib.ListN.{length, get_or, take, drop, length-take, length-drop, length-append, get_or-eq_default, get_or-append}
use lib.Seq.{get_or-drop, get_or-take, get_or-append_seam, length-take-le}
use borrow.Author.Tests.{ltb-true, ltb-false}
use Rattle.std.proofs.lemmas.Option.{none-some}
use Rattle.lists.specs.Searches.{every, same}
use Rattle.lists.proofs.Tests.{by_test, true_false, and_left, and_right, and_true}
use Rattle.lists.proofs.Searches.{same_refl, same_true, every_at}
use Rattle.notification.specs.Forms.{is_digit, digits}
use Rattle.notification.specs.Reading.{power_value, is_power}
use Rattle.reader.proofs.Figures.{power_in, power_sound}
use Rattle.reader.proofs.Judging.{power_whole, power_only}
use Rattle.request.specs.Tokens.{quoted, inside, tokens, is, quoted_by}
use Rattle.request.specs.Reading.{is_label_byte, is_run}
use Rattle.request.specs.Objects.{from_name, until_name, power_name}
use Rattle.request.proofs.Unquoted.{label_unquoted}
use Rattle.request_reader.specs.Walking.{starts, Past, Walked, Missing, Opened, RunTo, first_token, framed, between}
use Rattle.request_reader.specs.Steps.{label_tests, LabelAt, power_of, power_tests, PowerAt, front_tests, said_of, said_by, StepAt}
use Rattle.request_reader.proofs.Walks.{starts_one, walked_on, missing_on, missing_first, token_after}
use Rattle.request.proofs.Fits.{inside_quoted}
use Rattle.request_reader.proofs.Values.{by_none, value_found, value_framed, value_tokens, opened_token}
use Rattle.request_reader.proofs.ByteRuns.{digits_lost, digits_found, digits_token}

-- ---- a walk from a place past blanks is one from before them

pub walked_past : (ps : List (List ℕ → Bool)) (s : List ℕ) (at from next : ℕ) → Past s at from → Walked ps s from next → Walked ps s at next
walked_past ps s at from next p w = record { within = w.within; passes = rw p.same_tokens at w.passes; leaves = rw p.same_tokens at w.leaves }

pub missing_past : (ps : List (List ℕ → Bool)) (s : List ℕ) (at from : ℕ) → Past s at from → Missing ps s from → Missing ps s at
missing_past ps s at from p m = rw p.same_tokens at m

module _ (name s : List ℕ) (at from : ℕ) (o : Opened (is name ∷ is (58 ∷ []) ∷ []) s at from) where
  abbrev named : List (List ℕ → Bool)
  named = is name ∷ is (58 ∷ []) ∷ []

  value_walked : (q : List ℕ → Bool) (next : ℕ) → Walked (q ∷ []) s from next → Walked (is name ∷ is (58 ∷ []) ∷ q ∷ []) s at next
  value_walked q next w = walked_on named (q ∷ []) s at o.mid o.walked next (walked_past (q ∷ []) s o.mid from next o.past w)

  pub value_missing : (q : List ℕ → Bool) → Missing (q ∷ []) s from → Missing (is name ∷ is (58 ∷ []) ∷ q ∷ []) s at
  value_missing q m = missing_on named (q ∷ []) s at o.mid o.walked (missing_past (q ∷ []) s o.mid from o.past m)

  -- ---- a label

  module _ (wanted : List ℕ) where
    pub label_right : every is_label_byte wanted ≡ true → (framed s from (length wanted) && same (between s from (length wanted)) wanted) ≡ true
        → LabelAt name wanted s at (from + length wanted + 2) true
    label_right a e =
        let n = length wanted in
        let f = and_left (framed s from n) (same (between s from n) wanted) e in
        let g = same_true (between s from n) wanted (and_right (framed s from n) (same (between s from n) wanted) e) in
        let l : every is_label_byte (between s from n) ≡ true = ap (every is_label_byte) g ∙ a in
        let u = label_unquoted (between s from n) l in
        let k = value_tokens (every is_label_byte) s o.mid from o.past n f u in
        let t : get_or (tokens (drop at s)) 2 [] ≡ quoted (between s from n) =
        opened_token named s at from o ∙ ap (λ (ts : List (List ℕ)). get_or ts 0 []) k in
        record {
          walked = walked_on named (quoted_by (every is_label_byte) ∷ []) s at o.mid o.walked (from + n + 2) (value_found (every is_label_byte) s o.mid from o.past n f l u);
          its_label = sym (ap (λ (x : List ℕ). same x (quoted wanted)) (t ∙ ap quoted g) ∙ same_refl (quoted wanted));
        }

    pub label_other : (next : ℕ) → (framed s from (length wanted) && same (between s from (length wanted)) wanted) ≡ false
        → Walked (quoted_by (every is_label_byte) ∷ []) s from next → LabelAt name wanted s at next false
    label_other next e w =
        record {
          walked = value_walked (quoted_by (every is_label_byte)) next w;
          its_label =
              let t = opened_token named s at from o in
              by_test (same (get_or (tokens (drop at s)) 2 []) (quoted wanted))
              (λ f. let g : first_token s from ≡ quoted wanted = sym t ∙ same_true (get_or (tokens (drop at s)) 2 []) (quoted wanted) f in
              let i : inside (first_token s from) ≡ wanted = ap inside g ∙ inside_quoted wanted in
              let b : quoted_by (every is_label_byte) (first_token s from) ≡ true = first_labelled w.passes in
              let v = value_framed (every is_label_byte) s o.mid from o.past b in
              let x : framed s from (length wanted) ≡ true = rw i at v.0 in
              let y : between s from (length wanted) ≡ wanted = rw i at v.1 in
              true_false (framed s from (length wanted) && same (between s from (length wanted)) wanted) (and_true (framed s from (length wanted)) (same (between s from (length wanted)) wanted) x (ap (λ (z : List ℕ). same z wanted) y ∙ same_refl wanted)) e)
              (λ f. sym f);
        }
      where
        first_labelled : starts (quoted_by (every is_label_byte) ∷ []) (tokens (drop from s)) ≡ true → quoted_by (every is_label_byte) (first_token s from) ≡ true
        first_labelled f = sym (starts_one (quoted_by (every is_label_byte)) (tokens (drop from s)) (by_none (every is_label_byte))) ∙ f

  -- ---- a power

  module _ (end : ℕ) (r : RunTo is_digit s from end) where
    pub power_lost : end ≡ from → Missing (power_tests name) s at
    power_lost e = value_missing is_run (digits_lost s from end o.past.no_blank r e)

    pub power_read : (power : Option (ℕ × ℕ)) → (end ≡ from → ⊥) → power ≡ power_of (take (end - from) (drop from s)) → PowerAt name s at end power
    power_read power f e =
        record {
          walked = value_walked is_run end (digits_found s from end o.past.no_blank r f);
          its_power = e ∙ ap power_of (sym (opened_token named s at from o ∙ digits_token s from end o.past.no_blank r f));
        }

-- ---- a byte of a run, and what ends it

module _ (s : List ℕ) (from end i : ℕ) (a : from ≤ end) (b : end ≤ length s) where
  abbrev t : List ℕ
  t = take (end - from) (drop from s)

  t_length : length t ≡ end - from
  t_length = rw (length-take, length-drop) (omega arith)

  pub byte_inside : from + i < end → get_or s (from + i) 0 ≡ get_or (t ++ 59 ∷ []) i 0
  byte_inside h =
      sym (get_or-append t (59 ∷ []) 0 i (omega (arith, t_length)) ∙ (get_or-take (end - from) (drop from s) i 0 (omega arith) ∙ get_or-drop from s i 0))

  pub byte_past : end ≤ from + i → (from + i ≡ end → ⊥) → 0 ≡ get_or (t ++ 59 ∷ []) i 0
  byte_past h f =
      let k : length (t ++ 59 ∷ []) ≤ i = rw length-append (past_one h f) in
      sym (get_or-eq_default (t ++ 59 ∷ []) 0 k)
    where
      past_one : end ≤ from + i → (from + i ≡ end → ⊥) → length t + 1 ≤ i
      past_one h f =
          by_test (ltb end (from + i))
          (λ q. let l = ltb-true end (from + i) q in omega (arith, t_length))
          (λ q. let l = ltb-false end (from + i) q in absurd (f (omega arith)))

-- ---- what the digits of a token say

-- a power is found in a run of digits only where it is the whole run
power_last : (u : List ℕ) (v n : ℕ) → every is_digit u ≡ true → power_in (u ++ 59 ∷ []) ≡ Some (v, n) → n ≡ length (u ++ 59 ∷ [])
power_last u v n e p =
    let s = u ++ 59 ∷ [] in
    let q = power_sound s v n p in
    let l : length s ≡ length u + 1 = length-append u (59 ∷ []) in
    let k : length (take n s) ≡ n = length-take-le n s q.1 in
    let m : n ≡ length (digits v) + 1 = sym k ∙ (ap length q.2 ∙ length-append (digits v) (59 ∷ [])) in
    let i : length (digits v) < n = omega arith in
    let w : get_or s (length (digits v)) 0 ≡ 59 =
    sym (get_or-take n s (length (digits v)) 0 i) ∙ (ap (λ (x : List ℕ). get_or x (length (digits v)) 0) q.2 ∙ get_or-append_seam (digits v) 59 [] 0) in
    by_test (ltb (length (digits v)) (length u))
    (λ t. let h = ltb-true (length (digits v)) (length u) t in
    let d = every_at is_digit u (length (digits v)) 0 e h in
    let x : get_or u (length (digits v)) 0 ≡ 59 = sym (get_or-append u (59 ∷ []) 0 (length (digits v)) h) ∙ w in
    true_false (is_digit (get_or u (length (digits v)) 0)) d (ap is_digit x))
    (λ t. let h = ltb-false (length (digits v)) (length u) t in
    let g = q.1 in
    omega arith)

pub said_run : (right : Bool) (u : List ℕ) → every is_digit u ≡ true
    → said_of right (power_of u) ≡ cond (not right) (Err NoLabels) (cond (not (is_power (u ++ 59 ∷ []))) (Err NoPower) (Ok (power_value (u ++ 59 ∷ []))))
unfolding power_of
said_run false u e = refl
said_run true u e = by_power (power_of u) refl
  where
    by_power : (p : Option (ℕ × ℕ)) → power_of u ≡ p → said_of true (power_of u) ≡ cond (not (is_power (u ++ 59 ∷ []))) (Err NoPower) (Ok (power_value (u ++ 59 ∷ [])))
    by_power (Some (v, n)) q =
        let w = power_whole (u ++ 59 ∷ []) v n q (power_last u v n e q) in
        rw (q, w.0, w.1)
    by_power None q =
        by_test (is_power (u ++ 59 ∷ []))
        (λ t. absurd (none-some (power_value (u ++ 59 ∷ []), length (u ++ 59 ∷ [])) (sym q ∙ power_only (u ++ 59 ∷ []) t)))
        (λ t. rw (q, t))

-- the third of three tokens that pass passes its test
third_passes : (a b q : List ℕ → Bool) (us : List (List ℕ)) → starts (a ∷ b ∷ q ∷ []) us ≡ true → q (get_or us 2 []) ≡ true
unfolding starts
third_passes a b q [] e = absurd (false≢true e)
third_passes a b q (x ∷ []) e = absurd (false≢true (and_right (a x) false e))
third_passes a b q (x ∷ y ∷ []) e = absurd (false≢true (and_right (b y) false (and_right (a x) (b y && false) e)))
third_passes a b q (x ∷ y ∷ z ∷ us) e = and_left (q z) true (and_right (b y) (q z && true) (and_right (a x) (b y && (q z && true)) e))

-- ---- THE STEP

abbrev a_comma : List (List ℕ → Bool)
a_comma = is (44 ∷ []) ∷ []

-- the tests of a step's tokens up to its first label, the comma after it, and so on
abbrev tests1 : List (List ℕ → Bool)
tests1 = is (123 ∷ []) ∷ []

abbrev tests2 : List (List ℕ → Bool)
tests2 = is (123 ∷ []) ∷ label_tests (quoted from_name)

abbrev tests3 : List (List ℕ → Bool)
tests3 = is (123 ∷ []) ∷ (label_tests (quoted from_name) ++ a_comma)

abbrev tests4 : List (List ℕ → Bool)
tests4 = is (123 ∷ []) ∷ (label_tests (quoted from_name) ++ is (44 ∷ []) ∷ label_tests (quoted until_name))

abbrev tests5 : List (List ℕ → Bool)
tests5 = is (123 ∷ []) ∷ (label_tests (quoted from_name) ++ is (44 ∷ []) ∷ (label_tests (quoted until_name) ++ a_comma))

-- where one of them is missing, no step stands there
module _ (s : List ℕ) (at : ℕ) where
  pub no_brace : Missing tests1 s at → Missing front_tests s at
  no_brace m = missing_first tests1 (drop 1 front_tests) s at m

  module _ (inner : ℕ) (w1 : Walked tests1 s at inner) where
    pub no_label : Missing (label_tests (quoted from_name)) s inner → Missing front_tests s at
    no_label m = missing_on tests1 (drop 1 front_tests) s at inner w1 (missing_first (label_tests (quoted from_name)) (drop 4 front_tests) s inner m)

    module _ (from : List ℕ) (first : ℕ) (right₁ : Bool) (l1 : LabelAt (quoted from_name) from s inner first right₁) where
      w2 : Walked tests2 s at first
      w2 = walked_on tests1 (label_tests (quoted from_name)) s at inner w1 first l1.walked

      pub no_comma : Missing a_comma s first → Missing front_tests s at
      no_comma m = missing_on tests2 (drop 4 front_tests) s at first w2 (missing_first a_comma (drop 5 front_tests) s first m)

      module _ (next : ℕ) (v3 : Walked a_comma s first next) where
        w3 : Walked tests3 s at next
        w3 = walked_on tests2 a_comma s at first w2 next v3

        pub no_second : Missing (label_tests (quoted until_name)) s next → Missing front_tests s at
        no_second m = missing_on tests3 (drop 5 front_tests) s at next w3 (missing_first (label_tests (quoted until_name)) (drop 8 front_tests) s next m)

        module _ (until : List ℕ) (second : ℕ) (right₂ : Bool) (l2 : LabelAt (quoted until_name) until s next second right₂) where
          w4 : Walked tests4 s at second
          w4 = walked_on tests3 (label_tests (quoted until_name)) s at next w3 second l2.walked

          pub no_last : Missing a_comma s second → Missing front_tests s at
          no_last m = missing_on tests4 (drop 8 front_tests) s at second w4 (missing_first a_comma (drop 9 front_tests) s second m)

          module _ (last : ℕ) (v5 : Walked a_comma s second last) where
            w5 : Walked tests5 s at last
            w5 = walked_on tests4 a_comma s at second w4 last v5

            pub no_power : Missing (power_tests (quoted power_name)) s last → Missing front_tests s at
            no_power m = missing_on tests5 (power_tests (quoted power_name)) s at last w5 m

            module _ (third : ℕ) (power : Option (ℕ × ℕ)) (p1 : PowerAt (quoted power_name) s last third power) where
              abbrev ts : List (List ℕ)
              ts = tokens (drop at s)

              its_from : right₁ ≡ same (get_or ts 3 []) (quoted from)
              its_from = l1.its_label ∙ ap (λ (x : List ℕ). same x (quoted from)) (token_after tests1 [] s at inner w1 2)

              its_until : right₂ ≡ same (get_or ts 7 []) (quoted until)
              its_until = l2.its_label ∙ ap (λ (x : List ℕ). same x (quoted until)) (token_after tests3 [] s at next w3 2)

              power_token : get_or (tokens (drop last s)) 2 [] ≡ get_or ts 11 []
              power_token = token_after tests5 [] s at last w5 2

              -- the twelfth token is a run of digits
              its_run : every is_digit (get_or ts 11 []) ≡ true
              its_run =
                  rw power_token at (and_right (ltb 0 (length (get_or (tokens (drop last s)) 2 []))) (every is_digit (get_or (tokens (drop last s)) 2 [])) (third_passes (is (quoted power_name)) (is (58 ∷ [])) is_run (tokens (drop last s)) p1.walked.passes))

              pub step_read : StepAt from until s at third (said_of (right₁ && right₂) power)
              unfolding said_by
              step_read =
                  let e : power ≡ power_of (get_or ts 11 []) = p1.its_power ∙ ap power_of power_token in
                  record {
                    walked = walked_on tests5 (power_tests (quoted power_name)) s at last w5 third p1.walked;
                    its_said = ap (λ (p : Option (ℕ × ℕ)). said_of (right₁ && right₂) p) e ∙ (said_run (right₁ && right₂) (get_or ts 11 []) its_run ∙ rw (its_from, its_until));
                  }

-- ---- a label of five bytes

-- ---- what is said, case by case
