-- The members before the steps, one after another: where each is found, the place of its value among all tokens is known.
use mathlib.Core.Path.{◌≡◌, sym, ap, ◌∙◌}
use mathlib.Core.Bool.{Bool, true, false, ◌&&◌}
use mathlib.Core.List.{List, [], ◌∷◌, ◌++◌}
use Prim.Native.Nat.{ℕ, ◌+◌, ◌<◌, ◌≤◌}
use native.Mathlib.Omega.{arith}
use lib.Dec.{leb, eqb}
use lib.ListN.{length, get_or, drop}
use borrow.Author.Tests.{lt-leb, le-leb, leb-true, eqb-true, eq-eqb}
use Rattle.lists.specs.Searches.{every}
use Rattle.lists.proofs.Tests.{by_test, true_false, and_left}
use Rattle.notification.specs.Forms.{is_code, is_category, six_bytes}
use Rattle.request.specs.Tokens.{quoted, inside, tokens, is, quoted_by}
use Rattle.request.specs.Objects.{ceder_name, acquirer_name, origin_name, category_name, day_name, submitted_name}
use Rattle.request.specs.Moments.{moment_in, is_moment_text, is_day_text}
use Rattle.request.specs.declared.Moment.{Moment}
use Rattle.request.proofs.MomentTexts.{in_range_lem, moment_back}
use Rattle.request.proofs.Unquoted.{moment_text_unquoted}
use Rattle.request_reader.specs.Walking.{Walked, Valued, value_tests, is_plain, first_token, member_tests}
use Rattle.request_reader.specs.Heads.{is_timely, PartiesAt, TermsAt}
use Rattle.request_reader.specs.declared.head.Parties.{Parties}
use Rattle.request_reader.specs.declared.head.Terms.{Terms}
use Rattle.request_reader.proofs.Walks.{walked_on, token_after}
use Rattle.request.proofs.Fits.{quoted_back}

-- ---- a member

-- a member of a quoted value of a form stands at a place, and what was read is by its value
pub record Membered {A : Type 0} (name : List ℕ) (form : List ℕ → Bool) (value : List ℕ → A) (s : List ℕ) (at next : ℕ) (read : A) : Type 0 where
  pub walked : Walked (member_tests name (quoted_by form)) s at next
  pub its_value : read ≡ value (inside (get_or (tokens (drop at s)) 2 []))

-- ---- one after another

module _ {A : Type 0} (ps : List (List ℕ → Bool)) (name : List ℕ) (form : List ℕ → Bool) (value : List ℕ → A) (s : List ℕ) (at mid next : ℕ) (read : A)
    (w : Walked ps s at mid) (m : Membered name form value s mid next read) where
  pub then_walked : Walked (ps ++ member_tests name (quoted_by form)) s at next
  then_walked = walked_on ps (member_tests name (quoted_by form)) s at mid w next m.walked

  pub then_value : read ≡ value (inside (get_or (tokens (drop at s)) (length ps + 2) []))
  then_value = m.its_value ∙ ap (λ (t : List ℕ). value (inside t)) (token_after ps [] s at mid w 2)

-- a member by its name and what stands after it
module _ (name : List ℕ) (form : List ℕ → Bool) (s : List ℕ) (at named : ℕ) (w : Walked (is (quoted name) ∷ []) s at named) where
  pub member_named : {A : Type 0} (value : List ℕ → A) (next : ℕ) (read : A) → Valued form value s named next read
      → Membered (quoted name) form value s at next read
  member_named value next read v =
      record {
        walked = walked_on (is (quoted name) ∷ []) (value_tests form) s at named w next v.walked;
        its_value = v.its_value ∙ ap (λ (t : List ℕ). value (inside t)) (token_after (is (quoted name) ∷ []) [] s at named w 1);
      }

-- ---- the time of a date member

pub timely_day : (u : List ℕ) → is_timely 0 u ≡ is_day_text u
unfolding is_timely is_day_text
timely_day u = ap (λ (b : Bool). is_moment_text u && b) (zero_test (moment_in u).second)
  where
    zero_test : (n : ℕ) → leb n 0 ≡ eqb n 0
    zero_test n =
        by_test (eqb n 0)
        (λ t. let z = eqb-true n 0 t in rw t (le-leb n 0 (omega arith)))
        (λ t. by_test (leb n 0)
        (λ f. let h = leb-true n 0 f in
        let z : n ≡ 0 = omega arith in
        true_false (eqb n 0) (eq-eqb n 0 z) t)
        (λ f. f ∙ sym t))

pub timely_moment : (u : List ℕ) → is_timely 86399 u ≡ is_moment_text u
unfolding is_timely
timely_moment u =
    by_test (is_moment_text u)
    (λ t. let r = in_range_lem (moment_in u) (moment_back u t).0 in
    let h : (moment_in u).second ≤ 86399 = omega (arith, r.1) in
    rw (t, le-leb (moment_in u).second 86399 h))
    (λ t. rw t)

module _ (latest : ℕ) where
  timely_text : (u : List ℕ) → is_timely latest u ≡ true → is_moment_text u ≡ true
  unfolding is_timely
  timely_text u e = and_left (is_moment_text u) (leb (moment_in u).second latest) e

  pub timely_plain : (u : List ℕ) → is_timely latest u ≡ true → every is_plain u ≡ true
  timely_plain u e = moment_text_unquoted u (timely_text u e)

  pub timely_long : (s : List ℕ) (from : ℕ) → ((u : List ℕ) → is_moment_text u ≡ true → length u ≡ 20) → quoted_by (is_timely latest) (first_token s from) ≡ true
      → length (inside (first_token s from)) ≡ 20
  timely_long s from long e = long (inside (first_token s from)) (timely_text (inside (first_token s from)) (quoted_back (is_timely latest) (first_token s from) e).1)

  -- what the reader finds of a moment
  module _ (part : List ℕ) where
    pub timely_none : is_moment_text part ≡ false → is_timely latest part ≡ false
    unfolding is_timely
    timely_none e = rw e

    module _ (x : Moment) (g : (is_moment_text part ≡ true) × (x ≡ moment_in part)) where
      pub timely_late : latest < x.second → is_timely latest part ≡ false
      unfolding is_timely
      timely_late h = rw (g.0, ← g.1) (lt-leb x.second latest h)

      pub timely_good : x.second ≤ latest → is_timely latest part ≡ true
      unfolding is_timely
      timely_good h = rw (g.0, ← g.1) (le-leb x.second latest h)

-- a day's text and a moment's as the reader tests them
pub day_form : is_timely 0 ≡ is_day_text
day_form = λ i u. timely_day u i

pub moment_form : is_timely 86399 ≡ is_moment_text
moment_form = λ i u. timely_moment u i

-- ---- three members, one after another

-- `{` and the three codes
pub parties_joined : (s : List ℕ) (a b c : ℕ) (p : Parties) → Walked (is (123 ∷ []) ∷ []) s 0 a
    → Membered (quoted ceder_name) is_code (λ t. t) s a b p.ceder → Membered (quoted acquirer_name) is_code (λ t. t) s b c p.acquirer
    → Membered (quoted origin_name) is_code (λ t. t) s c p.at p.origin → PartiesAt s p
parties_joined s a b c p w1 m1 m2 m3 =
    let p1 : List (List ℕ → Bool) = is (123 ∷ []) ∷ [] in
    let p2 : List (List ℕ → Bool) = is (123 ∷ []) ∷ member_tests (quoted ceder_name) (quoted_by is_code) in
    let p3 : List (List ℕ → Bool) =
    is (123 ∷ []) ∷ (member_tests (quoted ceder_name) (quoted_by is_code) ++ member_tests (quoted acquirer_name) (quoted_by is_code)) in
    let w2 = then_walked p1 (quoted ceder_name) is_code (λ t. t) s 0 a b p.ceder w1 m1 in
    let w3 = then_walked p2 (quoted acquirer_name) is_code (λ t. t) s 0 b c p.acquirer w2 m2 in
    record {
      walked = then_walked p3 (quoted origin_name) is_code (λ t. t) s 0 c p.at p.origin w3 m3;
      its_ceder = then_value p1 (quoted ceder_name) is_code (λ t. t) s 0 a b p.ceder w1 m1;
      its_acquirer = then_value p2 (quoted acquirer_name) is_code (λ t. t) s 0 b c p.acquirer w2 m2;
      its_origin = then_value p3 (quoted origin_name) is_code (λ t. t) s 0 c p.at p.origin w3 m3;
    }

-- the category and the two dates
pub terms_joined : (s : List ℕ) (at b c : ℕ) (t : Terms)
    → Membered (quoted category_name) is_category six_bytes s at b t.category → Membered (quoted day_name) is_day_text moment_in s b c t.day
    → Membered (quoted submitted_name) is_moment_text moment_in s c t.at t.submitted → TermsAt s at t
terms_joined s at b c t m1 m2 m3 =
    let p1 : List (List ℕ → Bool) = member_tests (quoted category_name) (quoted_by is_category) in
    let p2 : List (List ℕ → Bool) =
    member_tests (quoted category_name) (quoted_by is_category) ++ member_tests (quoted day_name) (quoted_by is_day_text) in
    let w1 = m1.walked in
    let w2 = then_walked p1 (quoted day_name) is_day_text moment_in s at b c t.day w1 m2 in
    record {
      walked = then_walked p2 (quoted submitted_name) is_moment_text moment_in s at c t.at t.submitted w2 m3;
      its_category = m1.its_value;
      its_day = then_value p1 (quoted day_name) is_day_text moment_in s at b c t.day w1 m2;
      its_moment = then_value p2 (quoted submitted_name) is_moment_text moment_in s at c t.at t.submitted w2 m3;
    }
