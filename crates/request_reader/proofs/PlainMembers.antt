-- Members without blanks: what stands around their values, byte by byte, is their tokens.
use mathlib.Core.Path.{◌≡◌, refl, sym, ap, ◌∙◌}
use mathlib.Core.Bool.{Bool, true, ◌&&◌}
use mathlib.Core.List.{List, [], ◌∷◌, ◌++◌, append_assoc}
use Prim.Native.Nat.{ℕ, ◌+◌, ◌<◌, ◌≤◌}
use native.Mathlib.Omega.{arith}
use lib.Dec.{eqb}
use lib.ListN.{length, get_or, take, drop, take-append-drop, length-take, length-drop}
use lib.Seq.{drop-drop, take_all}
use borrow.Author.Tests.{eqb-true, eq-eqb}
use Rattle.lists.specs.Searches.{every, same}
use Rattle.lists.proofs.Tests.{and_left, and_right, and_true}
use Rattle.lists.proofs.Searches.{same_refl, same_true}
use Rattle.notification.specs.Forms.{is_code, is_category, filled, six_bytes}
use Rattle.reader.specs.Walking.{starts_with}
use Rattle.std.specs.Prelude.{Option, Some, None, IfSome}
use Rattle.request.specs.Tokens.{quoted, tokens, is, quoted_by}
use Rattle.request.specs.Moments.{moment_in, is_moment_text, is_day_text}
use Rattle.request.specs.Objects.{ceder_name, acquirer_name, origin_name, category_name, day_name, submitted_name}
use Rattle.request.specs.Objects.{status_name, created, series_name}
use Rattle.request.specs.declared.Moment.{Moment}
use Rattle.request.proofs.Fits.{inside_quoted}
use Rattle.request.proofs.Unquoted.{code_unquoted, category_unquoted, moment_text_unquoted, day_text_unquoted}
use Rattle.request_reader.specs.Walking.{starts, Walked, is_plain, is_mark, part, member_tests}
use Rattle.request_reader.specs.Heads.{PartiesAt, TermsAt, PlainParties, PlainDates, member_from, begin_tests}
use Rattle.request_reader.specs.declared.head.Terms.{Terms}
use Rattle.request_reader.proofs.Fronts.{tokens_mark, tokens_quoted}
use Rattle.request_reader.proofs.Walks.{comma, colon, bracket, brace, stands_split, stands_inside}
use Rattle.request_reader.proofs.Values.{quoted_by_lem}
use Rattle.request_reader.proofs.ByteNumbers.{part_byte, part_alike, alike_same, alike_join}
use Rattle.request_reader.proofs.LaidFronts.{byte_rest}
use Rattle.request_reader.proofs.ValueForms.{code_filled}
use Rattle.request_reader.proofs.Heads.{Membered, parties_joined, terms_joined}

-- ---- tokens, one after another

then_mark : (b : ℕ) (r : List ℕ) (ts : List (List ℕ)) → is_mark b ≡ true → tokens r ≡ ts → tokens (b ∷ r) ≡ (b ∷ []) ∷ ts
then_mark b r ts m e = tokens_mark b r m ∙ ap (λ (x : List (List ℕ)). (b ∷ []) ∷ x) e

then_quoted : (t r : List ℕ) (ts : List (List ℕ)) → every is_plain t ≡ true → tokens r ≡ ts → tokens (quoted t ++ r) ≡ quoted t ∷ ts
then_quoted t r ts p e = tokens_quoted t r p ∙ ap (λ (x : List (List ℕ)). quoted t ∷ x) e

-- tokens that pass the tests stand between two places
walked_by : (ps : List (List ℕ → Bool)) (s : List ℕ) (at next : ℕ) → next ≤ length s → starts ps (tokens (drop at s)) ≡ true
    → tokens (drop next s) ≡ drop (length ps) (tokens (drop at s)) → Walked ps s at next
walked_by ps s at next h e f = record { within = h; passes = e; leaves = f }

-- ---- a member

module _ {A : Type 0} (name : List ℕ) (form : List ℕ → Bool) (value : List ℕ → A) (s v : List ℕ) (at next : ℕ) where
  member_tokens : drop at s ≡ quoted name ++ 58 ∷ (quoted v ++ 44 ∷ drop next s) → every is_plain name ≡ true → every is_plain v ≡ true
      → tokens (drop at s) ≡ quoted name ∷ (58 ∷ []) ∷ quoted v ∷ (44 ∷ []) ∷ tokens (drop next s)
  member_tokens e p q =
      ap tokens e ∙ then_quoted name _ _ p (then_mark 58 _ _ colon (then_quoted v _ _ q (then_mark 44 _ _ comma refl)))

  pub plain_member : drop at s ≡ quoted name ++ 58 ∷ (quoted v ++ 44 ∷ drop next s) → every is_plain name ≡ true → every is_plain v ≡ true
      → form v ≡ true → next ≤ length s → Membered (quoted name) form value s at next (value v)
  unfolding starts
  plain_member e p q f h =
      let k = member_tokens e p q in
      record {
        walked = walked_by (member_tests (quoted name) (quoted_by form)) s at next h
            (rw (k, same_refl (quoted name), same_refl (58 ∷ []), quoted_by_lem form v, f, same_refl (44 ∷ []))) (rw k);
        its_value = ap value (sym (rw k (inside_quoted v)));
      }

-- ---- what a part leaves of the text

pub part_leaves : (s t : List ℕ) (at n : ℕ) → part at n s ≡ t → drop at s ≡ t ++ drop (at + n) s
part_leaves s t at n e =
    sym (take-append-drop n (drop at s))
    ∙ (ap (λ (x : List ℕ). x ++ drop n (drop at s)) e ∙ ap (λ (x : List ℕ). t ++ x) (drop-drop n at s))

-- a name, its colon and the quote before its value stand at a place, and the value's bytes from another on
abbrev Named : List ℕ → List ℕ → ℕ → ℕ → Type 0
Named name s at from = drop at s ≡ quoted name ++ 58 ∷ 34 ∷ drop from s

-- the quote after a value and the comma stand at a place, before another
abbrev Ended : List ℕ → ℕ → ℕ → Type 0
Ended s at next = drop at s ≡ 34 ∷ 44 ∷ drop next s

module _ (s : List ℕ) (at : ℕ) where
  named_at : (name : List ℕ) (n : ℕ) → part at n s ≡ quoted name ++ 58 ∷ 34 ∷ [] → Named name s at (at + n)
  named_at name n e =
      part_leaves s (quoted name ++ 58 ∷ 34 ∷ []) at n e ∙ append_assoc (quoted name) (58 ∷ 34 ∷ []) (drop (at + n) s)

  ended_at : part at 2 s ≡ 34 ∷ 44 ∷ [] → Ended s at (at + 2)
  ended_at e = part_leaves s (34 ∷ 44 ∷ []) at 2 e

  module _ (name : List ℕ) (n : ℕ) (e : part at n s ≡ member_from name) where
    next_named : Named name s (at + 2) (at + n)
    next_named =
        sym (drop-drop 2 at s)
        ∙ (ap (drop 2) (part_leaves s (member_from name) at n e) ∙ append_assoc (quoted name) (58 ∷ 34 ∷ []) (drop (at + n) s))

    next_ended : Ended s at (at + 2)
    next_ended =
        let d = part_leaves s (member_from name) at n e in
        d ∙ ap (λ (x : List ℕ). 34 ∷ 44 ∷ x) (sym (sym (drop-drop 2 at s) ∙ ap (drop 2) d))

-- a member between them
module _ {A : Type 0} (name : List ℕ) (form : List ℕ → Bool) (value : List ℕ → A) (s : List ℕ) (at from n end next : ℕ) where
  member_between : Named name s at from → end ≡ from + n → Ended s end next → every is_plain name ≡ true
      → every is_plain (part from n s) ≡ true → form (part from n s) ≡ true → next ≤ length s
      → Membered (quoted name) form value s at next (value (part from n s))
  member_between a b c p q f h =
      let v = part from n s in
      let d : drop from s ≡ v ++ 34 ∷ 44 ∷ drop next s =
      part_leaves s v from n refl ∙ ap (λ (x : List ℕ). v ++ x) (ap (λ (k : ℕ). drop k s) (sym b) ∙ c) in
      plain_member name form value s v at next
      (a ∙ ap (λ (x : List ℕ). quoted name ++ 58 ∷ 34 ∷ x) (d ∙ sym (append_assoc v (34 ∷ []) (44 ∷ drop next s)))) p q f h

-- ---- the three codes

open_walked : (s : List ℕ) (n : ℕ) (t : List ℕ) → 1 ≤ length s → part 0 n s ≡ 123 ∷ t → Walked (is (123 ∷ []) ∷ []) s 0 1
unfolding starts
open_walked s n t h e =
    let d = part_leaves s (123 ∷ t) 0 n e in
    let f : drop 1 s ≡ t ++ drop (0 + n) s = sym (drop-drop 1 0 s) ∙ ap (drop 1) d in
    let k : tokens (drop 0 s) ≡ (123 ∷ []) ∷ tokens (drop 1 s) = ap tokens d ∙ then_mark 123 _ _ brace (ap tokens (sym f)) in
    walked_by (is (123 ∷ []) ∷ []) s 0 1 h (rw (k, same_refl (123 ∷ []))) (rw k)

parties_between : (s : List ℕ) → PlainParties s → is_code (part 24 16 s) ≡ true → is_code (part 68 16 s) ≡ true
    → is_code (part 110 16 s) ≡ true
    → PartiesAt s (record { ceder = part 24 16 s; acquirer = part 68 16 s; origin = part 110 16 s; at = 128 })
parties_between s p f g h =
    let w = p.within in
    let d = part_leaves s (123 ∷ (quoted ceder_name ++ 58 ∷ 34 ∷ [])) 0 24 p.to_ceder in
    let first : Named ceder_name s 1 24 = sym (drop-drop 1 0 s) ∙ ap (drop 1) d in
    parties_joined s 1 42 86 _
    (open_walked s 24 (quoted ceder_name ++ 58 ∷ 34 ∷ []) (omega arith) p.to_ceder)
    (member_between ceder_name is_code (λ t. t) s 1 24 16 40 42 first refl (next_ended s 40 acquirer_name 28 p.to_acquirer) refl
    (code_unquoted (part 24 16 s) f) f (omega arith))
    (member_between acquirer_name is_code (λ t. t) s 42 68 16 84 86 (next_named s 40 acquirer_name 28 p.to_acquirer) refl
    (next_ended s 84 origin_name 26 p.to_origin) refl (code_unquoted (part 68 16 s) g) g (omega arith))
    (member_between origin_name is_code (λ t. t) s 86 110 16 126 128 (next_named s 84 origin_name 26 p.to_origin) refl
    (ended_at s 126 p.end) refl (code_unquoted (part 110 16 s) h) h w)

-- what is read of them
pub plain_parties : (s : List ℕ) → PlainParties s → (a b c : Bool) (x y z : List ℕ)
    → a ≡ is_code (part 24 16 s) → b ≡ is_code (part 68 16 s) → c ≡ is_code (part 110 16 s) → ((a && b) && c) ≡ true
    → x ≡ filled 16 (part 24 16 s) → y ≡ filled 16 (part 68 16 s) → z ≡ filled 16 (part 110 16 s)
    → PartiesAt s (record { ceder = x; acquirer = y; origin = z; at = 128 })
plain_parties s p a b c x y z ea eb ec e ex ey ez =
    let ab = and_left (a && b) c e in
    let f = sym ea ∙ and_left a b ab in
    let g = sym eb ∙ and_right a b ab in
    let h = sym ec ∙ and_right (a && b) c e in
    rw (code_filled (part 24 16 s) x f ex, code_filled (part 68 16 s) y g ey, code_filled (part 110 16 s) z h ez)
    (parties_between s p f g h)

-- words of eight bytes that cover a text together: three of them, and its last one
words_joined : (s t : List ℕ) (p k : ℕ) → k ≤ 24 → p + (k + 8) ≤ length s → length t ≡ k + 8 → (a b c d : Bool)
    → a ≡ same (part p 8 s) (part 0 8 t) → b ≡ same (part (p + 8) 8 s) (part 8 8 t) → c ≡ same (part (p + 16) 8 s) (part 16 8 t)
    → d ≡ same (part (p + k) 8 s) (part (0 + k) 8 t) → (((a && b) && c) && d) ≡ true → part p (k + 8) s ≡ t
words_joined s t p k h l m a b c d ea eb ec ed e =
    let abc = and_left ((a && b) && c) d e in
    let ab = and_left (a && b) c abc in
    let wa = alike_same s t p 0 8 (sym ea ∙ and_left a b ab) in
    let wb = alike_same s t (p + 8) 8 8 (sym eb ∙ and_right a b ab) in
    let wc = alike_same s t (p + 16) 16 8 (sym ec ∙ and_right (a && b) c abc) in
    let wd = alike_same s t (p + k) (0 + k) 8 (sym ed ∙ and_right ((a && b) && c) d e) in
    let two = alike_join s t p 0 8 8 8 (omega arith) wa wb in
    let three = alike_join s t p 0 16 16 8 (omega arith) two wc in
    part_alike s t p 0 (k + 8) l (omega arith) (alike_join s t p 0 k 24 8 h three wd) ∙ take_all (k + 8) t (omega arith)

-- what stands around them, as the reader finds it
module _ (s : List ℕ) (h : 128 ≤ length s) where
  -- the four words of a text from a place on, as they are compared
  abbrev words : List ℕ → ℕ → ℕ → Bool → Bool → Bool → Bool → Type 0
  words t p k a b c d =
      (a ≡ same (part p 8 s) (part 0 8 t)) × (b ≡ same (part (p + 8) 8 s) (part 8 8 t)) × (c ≡ same (part (p + 16) 8 s) (part 16 8 t))
      × (d ≡ same (part (p + k) 8 s) (part k 8 t)) × ((((a && b) && c) && d) ≡ true)

  two_bytes : (eqb (get_or s 126 0) 34 && eqb (get_or s 127 0) 44) ≡ true → part 126 2 s ≡ 34 ∷ 44 ∷ []
  two_bytes e =
      let a = eqb (get_or s 126 0) 34 in
      let b = eqb (get_or s 127 0) 44 in
      ap (λ (l : List ℕ). take 2 l)
      (byte_rest s 126 34 (omega arith) (eqb-true (get_or s 126 0) 34 (and_left a b e))
      ∙ ap (λ (l : List ℕ). 34 ∷ l) (byte_rest s 127 44 (omega arith) (eqb-true (get_or s 127 0) 44 (and_right a b e))))

  pub around_codes : (a b0 b1 b2 b3 c0 c1 c2 c3 : Bool) → a ≡ same (part 0 24 s) (123 ∷ (quoted ceder_name ++ 58 ∷ 34 ∷ [])) → a ≡ true
      → words (member_from acquirer_name) 40 20 b0 b1 b2 b3 → words (member_from origin_name) 84 18 c0 c1 c2 c3
      → (eqb (get_or s 126 0) 34 && eqb (get_or s 127 0) 44) ≡ true → PlainParties s
  around_codes a b0 b1 b2 b3 c0 c1 c2 c3 ea ta (f0, f1, f2, f3, f) (g0, g1, g2, g3, g) e =
      record {
        within = h;
        to_ceder = same_true (part 0 24 s) (123 ∷ (quoted ceder_name ++ 58 ∷ 34 ∷ [])) (sym ea ∙ ta);
        to_acquirer = words_joined s (member_from acquirer_name) 40 20 (omega arith) (omega arith) refl b0 b1 b2 b3 f0 f1 f2 f3 f;
        to_origin = words_joined s (member_from origin_name) 84 18 (omega arith) (omega arith) refl c0 c1 c2 c3 g0 g1 g2 g3 g;
        end = two_bytes e;
      }

-- ---- the category and the two dates

terms_between : (s : List ℕ) (at n : ℕ) (r : Terms) → part at 26 s ≡ quoted category_name ++ 58 ∷ 34 ∷ []
    → is_category (part (at + 26) n s) ≡ true → PlainDates s (at + 26 + n) (six_bytes (part (at + 26) n s)) r
    → TermsAt s at r
terms_between s at n r e f p =
    let from = at + 26 + n in
    let w = p.within in
    let day = part (from + 22) 20 s in
    let moment = part (from + 62) 20 s in
    let next : from + 42 + 2 ≡ from + 44 = omega arith in
    let third : from + 42 + 20 ≡ from + 62 = omega arith in
    let last : from + 82 + 2 ≡ from + 84 = omega arith in
    let e2 : Ended s (from + 42) (from + 44) = rw next at (next_ended s (from + 42) submitted_name 20 p.to_moment) in
    let n3 : Named submitted_name s (from + 44) (from + 62) =
    rw (next, third) at (next_named s (from + 42) submitted_name 20 p.to_moment) in
    let e3 : Ended s (from + 82) (from + 84) = rw last at (ended_at s (from + 82) p.end) in
    terms_joined s at (from + 2) (from + 44) r
    (rw p.its_category (member_between category_name is_category six_bytes s at (at + 26) n from (from + 2) (named_at s at category_name 26 e) refl
    (next_ended s from day_name 22 p.to_day) refl (category_unquoted (part (at + 26) n s) f) f (omega arith)))
    (rw p.its_day (member_between day_name is_day_text moment_in s (from + 2) (from + 22) 20 (from + 42) (from + 44)
    (next_named s from day_name 22 p.to_day) (omega arith) e2 refl (day_text_unquoted day p.a_day) p.a_day (omega arith)))
    (rw (p.its_place, p.its_moment) (member_between submitted_name is_moment_text moment_in s (from + 44) (from + 62) 20 (from + 82) (from + 84) n3 (omega arith) e3
    refl (moment_text_unquoted moment p.a_moment) p.a_moment w))

-- what is read of them
pub plain_terms : (s : List ℕ) (at n w : ℕ) (text good : Bool) (category : List ℕ) (r : Option Terms) → w ≡ n
    → text ≡ same (part at 26 s) (quoted category_name ++ 58 ∷ 34 ∷ []) → text ≡ true → good ≡ is_category (part (at + 26) w s) → good ≡ true
    → category ≡ six_bytes (part (at + 26) w s) → IfSome r (λ t. PlainDates s (at + 26 + n) category t) → IfSome r (λ t. TermsAt s at t)
plain_terms s at n w text good category None e et tt eg tg ec p = p
plain_terms s at n w text good category (Some t) e et tt eg tg ec p =
    let x : part (at + 26) w s ≡ part (at + 26) n s = ap (λ (k : ℕ). part (at + 26) k s) e in
    terms_between s at n t (same_true (part at 26 s) (quoted category_name ++ 58 ∷ 34 ∷ []) (sym et ∙ tt))
    (ap is_category (sym x) ∙ (sym eg ∙ tg)) (rw (ec ∙ ap six_bytes x) at p)

-- ---- a part of a part

pub part_of_part : (s : List ℕ) (from w k m a : ℕ) → k + m ≤ w → from + w ≤ length s → a ≡ from + k → part k m (part from w s) ≡ part a m s
part_of_part s from w k m a h l e =
    let n : length (part from w s) ≡ w = rw (length-take, length-drop) (omega arith) in
    part_alike (part from w s) s k a m (omega arith) (omega arith) (λ i g. byte i (omega arith))
  where
    byte : (i : ℕ) → k + i < w → get_or (part from w s) (k + i) 0 ≡ get_or s (a + i) 0
    byte i g =
        let x : from + (k + i) ≡ a + i = omega arith in
        part_byte s from w (k + i) g ∙ ap (λ (y : ℕ). get_or s y 0) x

-- ---- what is read of the dates

module _ (s : List ℕ) (from w : ℕ) (e : w ≡ 84) (h : from + 84 ≤ length s) (category : List ℕ) (r : Terms)
    (its_place : r.at ≡ from + 84) (its_category : r.category ≡ category) where
  abbrev t : List ℕ
  t = part from w s

  inner : (k m a : ℕ) → k + m ≤ 84 → a ≡ from + k → part k m t ≡ part a m s
  inner k m a g f = part_of_part s from w k m a (omega arith) (omega arith) f

  pub plain_dates : (a b c : Bool) → a ≡ same (part 0 22 t) (member_from day_name) → b ≡ same (part 42 20 t) (member_from submitted_name)
      → c ≡ same (part 82 2 t) (34 ∷ 44 ∷ []) → ((a && b) && c) ≡ true
      → (is_moment_text (part 22 20 t) ≡ true) × (r.day ≡ moment_in (part 22 20 t))
      → (is_moment_text (part 62 20 t) ≡ true) × (r.submitted ≡ moment_in (part 62 20 t))
      → r.day.second ≡ 0 → PlainDates s from category r
  unfolding is_day_text
  plain_dates a b c ea eb ec texts first second z =
      let ab = and_left (a && b) c texts in
      let day = inner 22 20 (from + 22) (omega arith) refl in
      let moment = inner 62 20 (from + 62) (omega arith) refl in
      let its_day : r.day ≡ moment_in (part (from + 22) 20 s) = first.1 ∙ ap moment_in day in
      record {
        within = h;
        its_place = its_place;
        its_category = its_category;
        to_day = sym (inner 0 22 from (omega arith) (omega arith))
            ∙ same_true (part 0 22 t) (member_from day_name) (sym ea ∙ and_left a b ab);
        a_day = and_true (is_moment_text (part (from + 22) 20 s)) (eqb (moment_in (part (from + 22) 20 s)).second 0)
            (ap is_moment_text (sym day) ∙ first.0) (ap (λ (x : Moment). eqb x.second 0) (sym its_day) ∙ eq-eqb r.day.second 0 z);
        its_day = its_day;
        to_moment = sym (inner 42 20 (from + 42) (omega arith) refl)
            ∙ same_true (part 42 20 t) (member_from submitted_name) (sym eb ∙ and_right a b ab);
        a_moment = ap is_moment_text (sym moment) ∙ second.0;
        its_moment = second.1 ∙ ap moment_in moment;
        end = sym (inner 82 2 (from + 82) (omega arith) refl)
            ∙ same_true (part 82 2 t) (34 ∷ 44 ∷ []) (sym ec ∙ and_right (a && b) c texts);
      }

-- ---- the status and the beginning of the steps

abbrev begin_text : List ℕ
begin_text = quoted status_name ++ 58 ∷ (quoted created ++ 44 ∷ (quoted series_name ++ 58 ∷ 91 ∷ []))

pub begin_within : (s : List ℕ) (at : ℕ) → starts_with begin_text (drop at s) ≡ true → at + 26 ≤ length s
begin_within s at e = stands_inside s begin_text at (omega arith) e

pub plain_begin : (s : List ℕ) (at : ℕ) → starts_with begin_text (drop at s) ≡ true → Walked begin_tests s at (at + 26)
unfolding starts
plain_begin s at e =
    let k : tokens (drop at s) ≡ quoted status_name ∷ (58 ∷ []) ∷ quoted created ∷ (44 ∷ []) ∷ quoted series_name ∷ (58 ∷ []) ∷ (91 ∷ [])
    ∷ tokens (drop (at + 26) s) =
    ap tokens (stands_split s begin_text at e)
    ∙ then_quoted status_name _ _ refl
    (then_mark 58 _ _ colon
    (then_quoted created _ _ refl
    (then_mark 44 _ _ comma (then_quoted series_name _ _ refl (then_mark 58 _ _ colon (then_mark 91 _ _ bracket refl)))))) in
    walked_by begin_tests s at (at + 26) (begin_within s at e)
    (rw (
      k,
      same_refl (quoted status_name),
      same_refl (58 ∷ []),
      same_refl (quoted created),
      same_refl (44 ∷ []),
      same_refl (quoted series_name),
      same_refl (91 ∷ []),
    )) (rw k)
