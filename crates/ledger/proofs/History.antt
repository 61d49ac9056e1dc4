-- A HISTORY'S ORDER, PROVED: of two records one comes before the other by its day, and within a day by its id. So the laws of any list in
-- order hold of a history, and records alike in day and id come before the same ones.
use mathlib.Core.Path.{◌≡◌, sym, ◌∙◌}
use mathlib.Core.Bool.{true, false, ◌&&◌}
use mathlib.Core.List.{List}
use Prim.Native.Nat.{ℕ, ◌<◌, ◌≤◌}
use native.Mathlib.Omega.{arith}
use lib.Dec.{ltb, eqb}
use lib.ListN.{length, length-map}
use borrow.Author.Tests.{ltb-true, ltb-false, eqb-true, lt-ltb, eq-eqb}
use Rattle.lists.specs.Orders.{kept}
use Rattle.lists.proofs.Tests.{by_test, and_left, and_right, right_false, or_left, or_right, or_cases}
use Rattle.lists.proofs.All.{all_every}
use Rattle.lists.proofs.Orders.{kept_pass, settled_kept, settled_rises, order_length, order_counts, order_settled, order_alike, Settled}
use Rattle.ledger.specs.Ledger.{Rec}
use Rattle.ledger.specs.Asking.{party, earlier, in_order, ids_of}
use Rattle.ledger.specs.Once.{on_day, alike, InOrder}

-- ---- which of two records comes before the other

-- by its day, or on one day by its id
by_earlier : {P : Type 0} (r q : Rec) → earlier r q ≡ true →
    (r.key.day < q.key.day → P) → (r.key.day ≡ q.key.day → r.id < q.id → P) → P
by_earlier r q e f g =
    let sooner = ltb r.key.day q.key.day in
    let one = eqb r.key.day q.key.day in
    let lower = ltb r.id q.id in
    or_cases sooner (one && lower) e
    (λ t. f (ltb-true _ _ t))
    (λ t. g (eqb-true _ _ (and_left one lower t)) (ltb-true _ _ (and_right one lower t)))

day_earlier : (r q : Rec) → r.key.day < q.key.day → earlier r q ≡ true
day_earlier r q h = rw (lt-ltb r.key.day q.key.day h)

id_earlier : (r q : Rec) → r.key.day ≡ q.key.day → r.id < q.id → earlier r q ≡ true
id_earlier r q e h =
    rw (eq-eqb r.key.day q.key.day e, lt-ltb r.id q.id h) (by_test (ltb r.key.day q.key.day) (λ t. rw t) (λ t. rw t))

earlier_asym : (r q : Rec) → earlier r q ≡ true → earlier q r ≡ false
earlier_asym r q e =
    by_test (earlier q r)
    (λ t. absurd (by_earlier r q e
    (λ a. by_earlier q r t (λ b. omega arith) (λ b c. omega arith))
    (λ a d. by_earlier q r t (λ b. omega arith) (λ b c. omega arith))))
    (λ t. t)

earlier_trans : (r q s : Rec) → earlier r q ≡ true → earlier q s ≡ true → earlier r s ≡ true
earlier_trans r q s e f =
    by_earlier r q e
    (λ a. by_earlier q s f (λ b. day_earlier r s (omega arith)) (λ b c. day_earlier r s (omega arith)))
    (λ a d. by_earlier q s f (λ b. day_earlier r s (omega arith)) (λ b c. id_earlier r s (a ∙ b) (omega arith)))

-- where a record doesn't come before another, its day isn't lower, nor its id within the day
later_day : (r q : Rec) → earlier q r ≡ false → r.key.day ≤ q.key.day
later_day r q e = ltb-false q.key.day r.key.day (or_left _ _ e)

later_id : (r q : Rec) → r.key.day ≡ q.key.day → earlier q r ≡ false → r.id ≤ q.id
later_id r q d e =
    let one = eqb q.key.day r.key.day in
    let lower = ltb q.id r.id in
    let both : (one && lower) ≡ false = or_right (ltb q.key.day r.key.day) (one && lower) e in
    ltb-false q.id r.id (right_false one lower both (eq-eqb q.key.day r.key.day (sym d)))

-- records alike in day and id come before the same ones
alike_earlier : (d i : ℕ) (r q s : Rec) → alike d i r ≡ true → alike d i q ≡ true → earlier r s ≡ earlier q s
alike_earlier d i r q s e f =
    let dr = eqb-true r.key.day d (and_left _ _ e) in
    let dq = eqb-true q.key.day d (and_left _ _ f) in
    let ir = eqb-true r.id i (and_right (on_day d r) _ e) in
    let iq = eqb-true q.id i (and_right (on_day d q) _ f) in
    rw (dr, dq, ir, iq)

-- ---- an actor's history

history_settled : (a : ℕ) (rs : List Rec) → Settled earlier (in_order a rs)
unfolding in_order
history_settled a rs = order_settled earlier earlier_asym earlier_trans (kept (party a) rs)

-- it has as many ids as the actor has records
pub history_count : (a : ℕ) (rs : List Rec) → length (ids_of a rs) ≡ length (kept (party a) rs)
unfolding ids_of in_order
history_count a rs = length-map (in_order a rs) (λ r. r.id) ∙ order_length earlier (kept (party a) rs)

-- THE THEOREM, OF EVERY LIST OF RECORDS
pub history_in_order : (a : ℕ) (rs : List Rec) → InOrder a rs
unfolding in_order
history_in_order a rs =
    record {
      days =
          settled_rises {P = λ r. Unit} (λ r. r.key.day) (λ r q h k e. later_day r q e)
          (all_every (in_order a rs) (λ r. tt)) (history_settled a rs);
      ids = λ d.
          settled_rises {P = λ r. on_day d r ≡ true} (λ r. r.id)
          (λ r q h k e. later_id r q (omega (arith, eqb-true r.key.day d h, eqb-true q.key.day d k)) e)
          (kept_pass (on_day d) (in_order a rs)) (settled_kept (on_day d) (history_settled a rs));
      all = λ kind. order_counts earlier kind (kept (party a) rs);
      made = λ d i. order_alike earlier earlier_asym earlier_trans (alike d i) (alike_earlier d i) (kept (party a) rs);
    }
