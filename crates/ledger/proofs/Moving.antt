-- What one record moves under a key at a step, before and after a filing changes it: from the filing's first counted step
-- on, under its key, nothing; elsewhere what it moved before.
use mathlib.Core.Path.{◌≡◌, refl, sym, ◌∙◌, ap}
use mathlib.Core.Bool.{Bool, true, false, cond, not, ◌&&◌, ◌||◌, and-false}
use mathlib.Core.List.{List}
use Prim.Native.Nat.{ℕ, ◌≤◌, ◌<◌}
use native.Mathlib.Omega.{arith}
use lib.Dec.{leb, ltb, eqb}
use lib.ListN.{get_or}
use borrow.Author.Tests.{leb-false, eqb-true, le-ltb, lt-ltb, lt-leb, eq-eqb}
use Rattle.lists.proofs.Tests.{both_true, left_false}
use Rattle.calendar.specs.Steps.{steps_of}
use Rattle.calendar.specs.Clocks.{first_counted, replaces_whole}
use Rattle.calendar.specs.declared.clock.Clock.{Clock}
use Rattle.ledger.specs.Statuses.{created, answered, deleted, validated, updated, obsolete}
use Rattle.ledger.specs.Ledger.{Key, Rec, moves, moved_by, under_key}
use Rattle.ledger.specs.Filing.{with_status, deletes, rule_one, answers, rule_two, same_powers, replaces, rule_three, changed}
use Rattle.calendar.proofs.Clocks.{whole_first}

-- ---- two keys are the same, by their four fields; a record is under a key where its own is the same

abbrev pub eq_key : Key → Key → Bool
eq_key j k = eqb j.ceder k.ceder && eqb j.acquirer k.acquirer && eqb j.category k.category && eqb j.day k.day

pub eq_key_same : (j k : Key) → eq_key j k ≡ true → j ≡ k
eq_key_same j k e =
    let p = both_true (eqb j.ceder k.ceder && eqb j.acquirer k.acquirer && eqb j.category k.category) (eqb j.day k.day) e in
    let q = both_true (eqb j.ceder k.ceder && eqb j.acquirer k.acquirer) (eqb j.category k.category) p.0 in
    let r = both_true (eqb j.ceder k.ceder) (eqb j.acquirer k.acquirer) q.0 in
    let c = eqb-true j.ceder k.ceder r.0 in
    let a = eqb-true j.acquirer k.acquirer r.1 in
    let z = eqb-true j.category k.category q.1 in
    let d = eqb-true j.day k.day p.1 in
    rebuilt j.ceder k.ceder j.acquirer k.acquirer j.category k.category j.day k.day c a z d
  where
    key_with : ℕ → ℕ → ℕ → ℕ → Key
    key_with c a z d = record { ceder = c; acquirer = a; category = z; day = d }

    rebuilt : (c c' a a' z z' d d' : ℕ) → c ≡ c' → a ≡ a' → z ≡ z' → d ≡ d' → key_with c a z d ≡ key_with c' a' z' d'
    rebuilt c c' a a' z z' d d' p q r s = rw (p, q, r, s)

pub eq_key_refl : (k : Key) → eq_key k k ≡ true
eq_key_refl k =
    rw (eq-eqb k.ceder k.ceder refl, eq-eqb k.acquirer k.acquirer refl, eq-eqb k.category k.category refl, eq-eqb k.day k.day refl)

pub eq_key_of : (j k : Key) → j ≡ k → eq_key j k ≡ true
eq_key_of j k e = rw e (eq_key_refl k)

-- ---- what a record gives to a key

abbrev pub given : Key → ℕ → Rec → ℕ
given k s r = cond (under_key k r) (moved_by s r) 0

module _ (k : Key) (s : ℕ) (r : Rec) where
  pub given_other : under_key k r ≡ false → given k s r ≡ 0
  given_other e = ap (λ t. cond t (moved_by s r) 0) e

  pub given_still : moves s r ≡ false → given k s r ≡ 0
  given_still e = ap (λ m. cond (under_key k r) (cond m (get_or r.powers s 0) 0) 0) e ∙ nothing (under_key k r)
    where
      nothing : (t : Bool) → ◌≡◌ {A = ℕ} (cond t 0 0) 0
      nothing true = refl
      nothing false = refl

moves_early : (s : ℕ) (r : Rec) → s < r.from → moves s r ≡ false
moves_early s r h = simp (lt-leb r.from s h, and-false)

moves_late : (s : ℕ) (r : Rec) → r.until ≤ s → moves s r ≡ false
moves_late s r h = simp (le-ltb s r.until h, and-false)

moves_idle : (s : ℕ) (r : Rec) → eqb r.status validated ≡ false → eqb r.status updated ≡ false → moves s r ≡ false
moves_idle s r p q = rw (p, q)

-- ---- the span of a record: of a V to the day's end, of a P to a step that no longer counts or the first that does

pub record Span (clock : Clock) (r : Rec) : Type 0 where
  pub whole : r.status ≡ validated → r.until ≡ steps_of r.key.day
  pub past : r.status ≡ updated → clock.day ≤ r.key.day → r.until ≤ first_counted clock r.key.day

-- rules 1 and 2: a C record becomes S or A, and moves nothing before and after
abbrev restated : Bool → ℕ → Rec → Rec
restated b q r = cond b (with_status q r.until r) r

pub given_restated : (k : Key) (s : ℕ) (b : Bool) (q : ℕ) (r : Rec) → (eqb q validated || eqb q updated) ≡ false → (b ≡ true → r.status ≡ created) →
    given k s (restated b q r) ≡ given k s r
given_restated k s true q r e h =
    given_still k s (with_status q r.until r) (ap (λ t. t && (leb r.from s && ltb s r.until)) e) ∙
    sym (given_still k s r (ap (λ x. (eqb x validated || eqb x updated) && (leb r.from s && ltb s r.until)) (h refl)))
given_restated k s false q r e h = refl

-- a span stays one where a record takes a status that moves nothing
pub span_restated : (clock : Clock) (b : Bool) (q : ℕ) (r : Rec) → (q ≡ validated → ⊥) → (q ≡ updated → ⊥) → Span clock r → Span clock (restated b q r)
span_restated clock true q r v p sp = record { whole = λ e. absurd (v e); past = λ e h. absurd (p e) }
span_restated clock false q r v p sp = sp

-- rules 1 and 2 of a filing
module _ (by : ℕ) (k : Key) (ps : List ℕ) (r : Rec) where
  deletes_created : deletes by k r ≡ true → r.status ≡ created
  deletes_created e =
      let p = both_true (eqb r.status created && under_key k r) (eqb r.submitter by) e in
      eqb-true r.status created (both_true (eqb r.status created) (under_key k r) p.0).0

  answers_created : answers by k ps r ≡ true → r.status ≡ created
  answers_created e =
      let p = both_true (eqb r.status created && under_key k r && not (eqb r.submitter by)) (same_powers r.powers ps) e in
      let q = both_true (eqb r.status created && under_key k r) (not (eqb r.submitter by)) p.0 in
      eqb-true r.status created (both_true (eqb r.status created) (under_key k r) q.0).0

  given_one : (k' : Key) (s : ℕ) → given k' s (rule_one by k r) ≡ given k' s r
  given_one k' s = given_restated k' s (deletes by k r) deleted r refl deletes_created

  given_two : (k' : Key) (s : ℕ) → given k' s (rule_two by k ps r) ≡ given k' s r
  given_two k' s = given_restated k' s (answers by k ps r) answered r refl answers_created

  span_one : (clock : Clock) → Span clock r → Span clock (rule_one by k r)
  span_one clock = span_restated clock (deletes by k r) deleted r (λ e. omega arith) (λ e. omega arith)

  span_two : (clock : Clock) → Span clock r → Span clock (rule_two by k ps r)
  span_two clock = span_restated clock (answers by k ps r) answered r (λ e. omega arith) (λ e. omega arith)

-- ---- rule 3: a V under the filing's key ends at the new from-step

abbrev replaced : Clock → Key → Bool → Bool → Rec → Rec
replaced clock k b o r = cond b (cond o (with_status obsolete r.until r) (with_status updated (first_counted clock k.day) r)) r

module _ (clock : Clock) (k : Key) (reached : clock.day ≤ k.day) (counted : first_counted clock k.day < steps_of k.day) where
  -- what a V under the key is
  replaces_true : (r : Rec) → replaces k r ≡ true → (r.status ≡ validated) × (r.key ≡ k)
  replaces_true r e =
      let p = both_true (eqb r.status validated) (under_key k r) e in
      (eqb-true r.status validated p.0, eq_key_same r.key k p.1)

  span_three : (r : Rec) → Span clock r → Span clock (rule_three clock k r)
  span_three r sp = go (replaces k r) (replaces_whole clock r.from k.day) refl
    where
      go : (b o : Bool) → replaces k r ≡ b → Span clock (replaced clock k b o r)
      go true true e = record { whole = λ x. absurd (omega arith); past = λ x h. absurd (omega arith) }
      go true false e =
          record { whole = λ x. absurd (omega arith); past = λ x h. rw (replaces_true r e).1 (omega arith) }
      go false o e = sp

  -- under the key, from the new from-step on, it moves nothing
  given_replaced : (s : ℕ) (r : Rec) → Span clock r → first_counted clock k.day ≤ s → given k s (rule_three clock k r) ≡ 0
  given_replaced s r sp h = go (replaces k r) (replaces_whole clock r.from k.day) refl
    where
      other : (t p : Bool) → under_key k r ≡ t → eqb r.status updated ≡ p → replaces k r ≡ false → given k s r ≡ 0
      other false p u e f = given_other k s r u
      other true true u e f =
          let d : r.key.day ≡ k.day = ap (λ x. x.day) (eq_key_same r.key k u) in
          given_still k s r (moves_late s r (omega (arith, sp.past (eqb-true r.status updated e) (omega arith), ap (first_counted clock) d)))
      other true false u e f =
          given_still k s r (moves_idle s r (left_false (eqb r.status validated) (under_key k r) f u) e)

      go : (b o : Bool) → replaces k r ≡ b → given k s (replaced clock k b o r) ≡ 0
      go true true e = given_still k s (with_status obsolete r.until r) refl
      go true false e = given_still k s (with_status updated (first_counted clock k.day) r) (moves_late s (with_status updated (first_counted clock k.day) r) h)
      go false o e = other (under_key k r) (eqb r.status updated) refl refl e

  -- elsewhere it moves what it did
  given_kept : (k' : Key) (s : ℕ) (r : Rec) → Span clock r → (leb (first_counted clock k.day) s && eq_key k' k) ≡ false →
      given k' s (rule_three clock k r) ≡ given k' s r
  given_kept k' s r sp e = go (replaces k r) (replaces_whole clock r.from k.day) (under_key k' r) refl refl refl
    where
      early : replaces k r ≡ true → under_key k' r ≡ true → s < first_counted clock k.day
      early p u =
          let same : k' ≡ k = sym (eq_key_same r.key k' u) ∙ (replaces_true r p).1 in
          leb-false (first_counted clock k.day) s (left_false (leb (first_counted clock k.day) s) (eq_key k' k) e (eq_key_of k' k same))

      updates : replaces k r ≡ true → under_key k' r ≡ true → moves s (with_status updated (first_counted clock k.day) r) ≡ moves s r
      updates p u =
          let h = early p u in
          let v = replaces_true r p in
          let d : steps_of r.key.day ≡ steps_of k.day = ap (λ x. steps_of x.day) v.1 in
          rw (lt-ltb s (first_counted clock k.day) h, v.0, lt-ltb s r.until (omega (arith, sp.whole v.0)))

      go : (b o t : Bool) → replaces k r ≡ b → replaces_whole clock r.from k.day ≡ o → under_key k' r ≡ t → given k' s (replaced clock k b o r) ≡ given k' s r
      go true true true p q u =
          given_still k' s (with_status obsolete r.until r) refl ∙
          sym (given_still k' s r (moves_early s r (omega (arith, early p u, whole_first clock r.from k.day q))))
      go true false true p q u = ap (λ m. cond (under_key k' r) (cond m (get_or r.powers s 0) 0) 0) (updates p u)
      go true true false p q u = given_other k' s (with_status obsolete r.until r) u ∙ sym (given_other k' s r u)
      go true false false p q u = given_other k' s (with_status updated (first_counted clock k.day) r) u ∙ sym (given_other k' s r u)
      go false o t p q u = refl

-- ---- the three rules together

-- what a new status and until-step leave as it was is left as it was by the rules
pub part_changed : {A : Type 0} (part : Rec → A) → ((status until : ℕ) (x : Rec) → part (with_status status until x) ≡ part x) →
    (paired : Bool) (clock : Clock) (by : ℕ) (k : Key) (ps : List ℕ) (r : Rec) → part (changed paired clock by k ps r) ≡ part r
part_changed part same paired clock by k ps r = go paired
  where
    restates : (b : Bool) (q : ℕ) (x : Rec) → part (restated b q x) ≡ part x
    restates true q x = same q x.until x
    restates false q x = refl

    three : (b o : Bool) (x : Rec) → part (replaced clock k b o x) ≡ part x
    three true true x = same obsolete x.until x
    three true false x = same updated (first_counted clock k.day) x
    three false o x = refl

    go : (paired : Bool) → part (changed paired clock by k ps r) ≡ part r
    go true =
        let x = rule_one by k r in
        let y = rule_two by k ps x in
        three (replaces k y) (replaces_whole clock y.from k.day) y ∙ restates (answers by k ps x) answered x ∙ restates (deletes by k r) deleted r
    go false = restates (deletes by k r) deleted r

-- no rule changes a record's key
pub key_changed : (paired : Bool) (clock : Clock) (by : ℕ) (k : Key) (ps : List ℕ) (r : Rec) → (changed paired clock by k ps r).key ≡ r.key
key_changed = part_changed (λ (r : Rec). r.key) (λ status until x. refl)

module _ (clock : Clock) (k : Key) (reached : clock.day ≤ k.day) (counted : first_counted clock k.day < steps_of k.day) (by : ℕ) (ps : List ℕ) where
  span_before : (r : Rec) → Span clock r → Span clock (rule_two by k ps (rule_one by k r))
  span_before r sp = span_two by k ps (rule_one by k r) clock (span_one by k ps r clock sp)

  pub span_changed : (paired : Bool) (r : Rec) → Span clock r → Span clock (changed paired clock by k ps r)
  span_changed true r sp = span_three clock k reached counted (rule_two by k ps (rule_one by k r)) (span_before r sp)
  span_changed false r sp = span_one by k ps r clock sp

  pub given_ended : (s : ℕ) (r : Rec) → Span clock r → first_counted clock k.day ≤ s → given k s (changed true clock by k ps r) ≡ 0
  given_ended s r sp h = given_replaced clock k reached counted s (rule_two by k ps (rule_one by k r)) (span_before r sp) h

  pub given_changed : (paired : Bool) (k' : Key) (s : ℕ) (r : Rec) → Span clock r →
      (paired && leb (first_counted clock k.day) s && eq_key k' k) ≡ false → given k' s (changed paired clock by k ps r) ≡ given k' s r
  given_changed true k' s r sp e =
      given_kept clock k reached counted k' s (rule_two by k ps (rule_one by k r)) (span_before r sp) e ∙
      given_two by k ps (rule_one by k r) k' s ∙
      given_one by k ps r k' s
  given_changed false k' s r sp e = given_one by k ps r k' s
