-- The power of a key after a filing: the filed one under its key from its first counted step on, what it was elsewhere.
-- What an actor acquires and cedes is the sum of the powers of its keys.
use mathlib.Core.Path.{◌≡◌, refl, sym, ◌∙◌}
use mathlib.Core.Bool.{Bool, true, false, cond, ◌&&◌, and-false, and-true}
use mathlib.Core.Logic.{◌⊎◌, inl, inr}
use mathlib.Core.List.{List, map}
use Prim.Native.Nat.{ℕ, ◌+◌, ◌≤◌, ◌<◌}
use native.Mathlib.Omega.{arith}
use lib.Dec.{leb}
use lib.ListN.{length, get_or}
use borrow.Author.Tests.{leb-true, lt-ltb, le-leb, eq-eqb, ne_eqb}
use Rattle.lists.specs.Sums.{sum_to, sum_over}
use Rattle.lists.proofs.Tests.{both_true, left_false}
use Rattle.lists.proofs.All.{All, all_more, all_also, all_map}
use Rattle.lists.proofs.Sums.{sum_only, over_ext, over_zero, over_map, over_swap}
use Rattle.calendar.specs.Steps.{steps_of}
use Rattle.calendar.specs.Clocks.{first_counted}
use Rattle.calendar.specs.declared.clock.Clock.{Clock}
use Rattle.ledger.specs.Statuses.{validated}
use Rattle.ledger.specs.Ledger.{Key, Rec, Ledger, moved_by, moved, acquires, cedes, power, acquired, ceded}
use Rattle.ledger.specs.Filing.{changed, status_by, next_id, born, filed}
pub use Rattle.ledger.proofs.Moving.{eq_key, eq_key_same, eq_key_refl, eq_key_of, Span}
use Rattle.ledger.proofs.Moving.{given, given_other, given_still, given_ended, given_changed, span_changed, key_changed}

-- ---- what a ledger keeps of its records

-- parties and category are enrolled
pub record Party (actors categories : ℕ) (r : Rec) : Type 0 where
  pub ceder : r.key.ceder < actors
  pub acquirer : r.key.acquirer < actors
  pub category : r.key.category < categories

abbrev pub Parties : Ledger → Type 0
Parties l = All (Party (length l.actors) (length l.categories)) l.records

-- a V moves to its day's end, a P no step that counts
abbrev pub Spans : Ledger → Type 0
Spans l = All (Span l.clock) l.records

-- a filing changes no party
party_changed : {n m : ℕ} (paired : Bool) (clock : Clock) (by : ℕ) (k : Key) (ps : List ℕ) (r : Rec) → Party n m r → Party n m (changed paired clock by k ps r)
party_changed paired clock by k ps r p =
    let e = key_changed paired clock by k ps r in
    record { ceder = rw e p.ceder; acquirer = rw e p.acquirer; category = rw e p.category }

-- ---- power after a filing

module _ (l : Ledger) (by : ℕ) (k : Key) (ps : List ℕ) (reached : l.clock.day ≤ k.day)
    (counted : first_counted l.clock k.day < steps_of k.day) where
  -- the new record
  new_hit : (s : ℕ) → first_counted l.clock k.day ≤ s → s < steps_of k.day →
      given k s (born (next_id l) validated l.clock by k ps) ≡ get_or ps s 0
  new_hit s h below =
      rw (eq_key_refl k, le-leb (first_counted l.clock k.day) s h, lt-ltb s (steps_of k.day) below)

  new_miss : (paired : Bool) (k' : Key) (s : ℕ) → (paired && leb (first_counted l.clock k.day) s && eq_key k' k) ≡ false →
      given k' s (born (next_id l) (status_by paired) l.clock by k ps) ≡ 0
  new_miss false k' s e = given_still k' s (born (next_id l) (status_by false) l.clock by k ps) refl
  new_miss true k' s e = go (eq_key k k') refl
    where
      go : (t : Bool) → eq_key k k' ≡ t → given k' s (born (next_id l) validated l.clock by k ps) ≡ 0
      go true q =
          let f = left_false (leb (first_counted l.clock k.day) s) (eq_key k' k) e (eq_key_of k' k (sym (eq_key_same k k' q))) in
          given_still k' s (born (next_id l) validated l.clock by k ps) (rw f)
      go false q = given_other k' s (born (next_id l) validated l.clock by k ps) q

  pub power_filed : (paired : Bool) → Spans l → (k' : Key) (s : ℕ) → s < steps_of k'.day →
      power (filed paired l by k ps) k' s
      ≡ cond (paired && leb (first_counted l.clock k.day) s && eq_key k' k) (get_or ps s 0) (power l.records k' s)
  unfolding power moved filed
  power_filed paired spans k' s below =
      go paired (paired && leb (first_counted l.clock k.day) s && eq_key k' k) refl
    where
      go : (paired t : Bool) → (paired && leb (first_counted l.clock k.day) s && eq_key k' k) ≡ t →
          given k' s (born (next_id l) (status_by paired) l.clock by k ps) + sum_over (map (changed paired l.clock by k ps) l.records) (given k' s)
          ≡ cond t (get_or ps s 0) (sum_over l.records (given k' s))
      go paired false e =
          let new = new_miss paired k' s e in
          let old = all_also (λ r sp. given_changed l.clock k reached counted by ps paired k' s r sp e) spans in
          omega (
            arith,
            over_map (changed paired l.clock by k ps) l.records (given k' s),
            over_ext l.records (λ r. given k' s (changed paired l.clock by k ps r)) (given k' s) old,
          )
      go false true e = let z : ◌≡◌ {A = ℕ} 0 1 = cc in absurd (omega arith)
      go true true e =
          let p = both_true (leb (first_counted l.clock k.day) s) (eq_key k' k) e in
          let h = leb-true (first_counted l.clock k.day) s p.0 in
          let old = all_also (λ r sp. given_ended l.clock k reached counted by ps s r sp h) spans in
          let same = eq_key_same k' k p.1 in
          let today : s < steps_of k.day = rw same at below in
          rw same (omega (
            arith,
            new_hit s h today,
            over_map (changed true l.clock by k ps) l.records (given k s),
            over_zero l.records (λ r. given k s (changed true l.clock by k ps r)) old,
          ))

  -- a filing between enrolled actors in an enrolled category keeps the two
  pub parties_filed : (paired : Bool) → Parties l → k.ceder < length l.actors → k.acquirer < length l.actors →
      k.category < length l.categories → All (Party (length l.actors) (length l.categories)) (filed paired l by k ps)
  unfolding filed
  parties_filed paired parties c a z =
      all_more (record { ceder = c; acquirer = a; category = z })
      (all_map (changed paired l.clock by k ps) (λ r p. party_changed paired l.clock by k ps r p) parties)

  pub spans_filed : (paired : Bool) → Spans l → All (Span l.clock) (filed paired l by k ps)
  unfolding filed
  spans_filed paired spans =
      all_more (new paired) (all_map (changed paired l.clock by k ps) (span_changed l.clock k reached counted by ps paired) spans)
    where
      new : (paired : Bool) → Span l.clock (born (next_id l) (status_by paired) l.clock by k ps)
      new true = record { whole = λ e. refl; past = λ e h. absurd (omega arith) }
      new false = record { whole = λ e. absurd (omega arith); past = λ e h. absurd (omega arith) }

-- ---- acquired and ceded, key by key

abbrev pub key_from : ℕ → ℕ → ℕ → ℕ → Key
key_from c a z d = record { ceder = c; acquirer = a; category = z; day = d }

module _ (l : Ledger) (parties : Parties l) (a z d s : ℕ) where
  pub acquired_keys : acquired l.records a z d s ≡ sum_to (length l.actors) (λ c. power l.records (key_from c a z d) s)
  unfolding acquired power moved
  acquired_keys =
      over_ext l.records (λ r. cond (acquires a z d r) (moved_by s r) 0) (λ r. sum_to (length l.actors) (λ c. given (key_from c a z d) s r))
      (all_also (λ r p. one r p.ceder) parties) ∙
      sym (over_swap (length l.actors) l.records (λ c. given (key_from c a z d) s))
    where
      one : (r : Rec) → r.key.ceder < length l.actors →
          cond (acquires a z d r) (moved_by s r) 0 ≡ sum_to (length l.actors) (λ c. given (key_from c a z d) s r)
      one r h =
          sym (sum_only (length l.actors) r.key.ceder (λ c. given (key_from c a z d) s r)
          (λ c ne. given_other (key_from c a z d) s r (rw (ne_eqb r.key.ceder c (λ e. ne (sym e))))) h ∙
          rw (eq-eqb r.key.ceder r.key.ceder refl))

  pub ceded_keys : ceded l.records a z d s ≡ sum_to (length l.actors) (λ b. power l.records (key_from a b z d) s)
  unfolding ceded power moved
  ceded_keys =
      over_ext l.records (λ r. cond (cedes a z d r) (moved_by s r) 0) (λ r. sum_to (length l.actors) (λ b. given (key_from a b z d) s r))
      (all_also (λ r p. one r p.acquirer) parties) ∙
      sym (over_swap (length l.actors) l.records (λ b. given (key_from a b z d) s))
    where
      one : (r : Rec) → r.key.acquirer < length l.actors →
          cond (cedes a z d r) (moved_by s r) 0 ≡ sum_to (length l.actors) (λ b. given (key_from a b z d) s r)
      one r h =
          sym (sum_only (length l.actors) r.key.acquirer (λ b. given (key_from a b z d) s r)
          (λ b ne. given_other (key_from a b z d) s r (simp (ne_eqb r.key.acquirer b (λ e. ne (sym e)), and-false))) h ∙
          simp (eq-eqb r.key.acquirer r.key.acquirer refl, and-true))

-- the power of a key with a party or a category that is not enrolled
pub power_stranger : (l : Ledger) → Parties l → (k : Key) (s : ℕ) →
    (length l.actors ≤ k.ceder) ⊎ ((length l.actors ≤ k.acquirer) ⊎ (length l.categories ≤ k.category)) → power l.records k s ≡ 0
unfolding power moved
power_stranger l parties k s out = over_zero l.records (given k s) (all_also (λ r p. one r p out) parties)
  where
    one : (r : Rec) → Party (length l.actors) (length l.categories) r →
        (length l.actors ≤ k.ceder) ⊎ ((length l.actors ≤ k.acquirer) ⊎ (length l.categories ≤ k.category)) → given k s r ≡ 0
    one r p (inl h) = given_other k s r (rw (ne_eqb r.key.ceder k.ceder (λ e. omega arith)))
    one r p (inr (inl h)) = given_other k s r (simp (ne_eqb r.key.acquirer k.acquirer (λ e. omega arith), and-false))
    one r p (inr (inr h)) = given_other k s r (simp (ne_eqb r.key.category k.category (λ e. omega arith), and-false))
