-- EACH ID ONCE, PROVED: the records of a ledger that a list of calls reaches have the ids 1, 2 and so on, in the order of their
-- filing, since a filing takes the next id and changes no other. Wherever a record is put in a history, its id is none of the others.
use mathlib.Core.Path.{◌≡◌, refl, sym, ◌∙◌, ap}
use mathlib.Core.Bool.{Bool, true, false, cond, not, ◌&&◌}
use mathlib.Core.List.{List, [], ◌∷◌, map}
use Prim.Native.Nat.{ℕ, suc, ◌<◌, ◌≤◌}
use native.Mathlib.Omega.{arith}
use lib.Dec.{leb, ltb, eqb}
use lib.ListN.{length, length-map}
use borrow.Author.Tests.{ltb-true, leb-true, eqb-false, not-true, lt-ltb, le-leb, ne_eqb}
use Rattle.lists.specs.Searches.{some}
use Rattle.lists.specs.Orders.{kept, put_by, order_by}
use Rattle.lists.proofs.Tests.{and_left, and_right, both_true, both_false}
use Rattle.lists.proofs.Orders.{put_some}
use Rattle.calendar.specs.declared.clock.Clock.{Clock}
use Rattle.notification.specs.declared.Notification.{Notification}
use Rattle.calendar.specs.Clocks.{replaces_whole}
use Rattle.ledger.specs.Call.{Call}
use Rattle.ledger.specs.Ledger.{Key, Rec, Ledger, fresh, actor_at}
use Rattle.ledger.specs.Filing.{deletes, rule_one, answers, rule_two, replaces, changed, pairs, next_id, filed, key_of}
use Rattle.ledger.specs.Calls.{file_note, step, file_at}
use Rattle.ledger.specs.Asking.{party, earlier, in_order, ids_of}
use Rattle.ledger.specs.Whole.{after}
use Rattle.ledger.specs.Once.{once_up_to, EachOnce}
use Rattle.ledger.proofs.Steps.{step_kept}

-- ---- a filing changes no id

id_changed : (paired : Bool) (clock : Clock) (by : ℕ) (k : Key) (ps : List ℕ) (r : Rec) → (changed paired clock by k ps r).id ≡ r.id
id_changed paired clock by k ps r = go paired
  where
    one : {i : ℕ} (b : Bool) (x y : Rec) → x.id ≡ i → y.id ≡ i → (cond b x y).id ≡ i
    one true x y e f = e
    one false x y e f = f

    first : (rule_one by k r).id ≡ r.id
    first = one (deletes by k r) _ r refl refl

    second : (rule_two by k ps (rule_one by k r)).id ≡ r.id
    second = one (answers by k ps (rule_one by k r)) _ (rule_one by k r) first first

    go : (paired : Bool) → (changed paired clock by k ps r).id ≡ r.id
    go true =
        let x = rule_two by k ps (rule_one by k r) in
        one (replaces k x) (cond (replaces_whole clock x.from k.day) _ _) x (one (replaces_whole clock x.from k.day) _ _ second second) second
    go false = first

-- ---- the ids of records, the newest first: as many as there are, and so on down

pub data Numbered : List Rec → Type 0 where
  none : Numbered []
  more : {r : Rec} {rs : List Rec} → r.id ≡ suc (length rs) → Numbered rs → Numbered (r ∷ rs)

numbered_map : (f : Rec → Rec) → ((r : Rec) → (f r).id ≡ r.id) → {rs : List Rec} → Numbered rs → Numbered (map f rs)
numbered_map f e none = none
numbered_map f e (more {r} {rs} i n) = more (e r ∙ i ∙ ap suc (sym (length-map rs f))) (numbered_map f e n)

numbered_filed : (l : Ledger) (u : List ℕ) (note : Notification) → Numbered l.records → Numbered (file_note l u note).ledger.records
unfolding file_at filed next_id
numbered_filed l u note n =
    let k = key_of l note in
    let by = actor_at l.actors u in
    let paired = pairs by k note.powers l.records in
    more (ap suc (sym (length-map l.records _)))
    (numbered_map (changed paired l.clock by k note.powers) (id_changed paired l.clock by k note.powers) n)

numbered_step : (l : Ledger) (c : Call) → Numbered l.records → Numbered (step l c).ledger.records
numbered_step l c n =
    step_kept l (λ m. Numbered m.records)
    (record {
      refused = n;
      actor = λ code first last ok. n;
      category = λ text ok. n;
      load = λ a z day most ps ok. n;
      filing = λ u note ok. numbered_filed l u note n;
      clock = λ day minute ok. n;
    })
    c

numbered_after : (cs : List Call) (l : Ledger) → Numbered l.records → Numbered (after l cs).records
numbered_after [] l n = n
numbered_after (c ∷ cs) l n = numbered_after cs (step l c).ledger (numbered_step l c n)

-- ---- ids from 1 to a last one, none of them twice

-- what is said of the first of them
record First (last i : ℕ) (is : List ℕ) : Type 0 where
  low : 0 < i
  high : i ≤ last
  new : some (eqb i) is ≡ false
  rest : once_up_to last is ≡ true

once_first : (last i : ℕ) (is : List ℕ) → once_up_to last (i ∷ is) ≡ true → First last i is
unfolding once_up_to
once_first last i is e =
    let new = not (some (eqb i) is) in
    let rest = once_up_to last is in
    let (a, f) = both_true (ltb 0 i) (leb i last && (new && rest)) e in
    let (b, g) = both_true (leb i last) (new && rest) f in
    record {
      low = ltb-true 0 i a;
      high = leb-true i last b;
      new = not-true (some (eqb i) is) (and_left new rest g);
      rest = and_right new rest g;
    }

once_more : (last i : ℕ) (is : List ℕ) → First last i is → once_up_to last (i ∷ is) ≡ true
unfolding once_up_to
once_more last i is f = rw (lt-ltb 0 i f.low, le-leb i last f.high, f.new) f.rest

once_up : (last : ℕ) (is : List ℕ) → once_up_to last is ≡ true → once_up_to (suc last) is ≡ true
unfolding once_up_to
once_up last [] e = refl
once_up last (i ∷ is) e =
    let f = once_first last i is e in
    once_more (suc last) i is (record { low = f.low; high = omega (arith, f.high); new = f.new; rest = once_up last is f.rest })

-- an id above the last one is none of them
once_above : (last i : ℕ) (is : List ℕ) → last < i → once_up_to last is ≡ true → some (eqb i) is ≡ false
once_above last i [] h e = refl
once_above last i (j ∷ is) h e =
    let f = once_first last j is e in
    rw (ne_eqb i j (λ q. omega (arith, f.high))) (once_above last i is h f.rest)

-- a record of another id is put into a list of records
once_put : (before : Rec → Rec → Bool) (last : ℕ) (r : Rec) (qs : List Rec) → First last r.id (map (λ q. q.id) qs) →
    once_up_to last (map (λ q. q.id) (put_by before r qs)) ≡ true
unfolding put_by
once_put before last r [] f = once_more last r.id [] f
once_put before last r (q ∷ qs) f = go (before r q) (once_put before last r qs)
  where
    ids : List Rec → List ℕ
    ids = map (λ q. q.id)

    later : First last q.id (ids qs)
    later = once_first last q.id (ids qs) f.rest

    other : (eqb r.id q.id ≡ false) × (some (eqb r.id) (ids qs) ≡ false)
    other = both_false (eqb r.id q.id) (some (eqb r.id) (ids qs)) f.new

    new : some (eqb q.id) (ids (put_by before r qs)) ≡ false
    new =
        put_some before (λ q. q.id) (eqb q.id) r qs
        ∙ rw (ne_eqb q.id r.id (λ e. eqb-false r.id q.id other.0 (sym e))) later.new

    go : (b : Bool) → (First last r.id (ids qs) → once_up_to last (ids (put_by before r qs)) ≡ true) →
        once_up_to last (ids (cond b (r ∷ q ∷ qs) (q ∷ put_by before r qs))) ≡ true
    go true ih = once_more last r.id (ids (q ∷ qs)) f
    go false ih =
        once_more last q.id (ids (put_by before r qs))
        (record {
          low = later.low;
          high = later.high;
          new = new;
          rest = ih (record { low = f.low; high = f.high; new = other.1; rest = later.rest });
        })

history_once : (a : ℕ) (rs : List Rec) → Numbered rs → once_up_to (length rs) (ids_of a rs) ≡ true
unfolding ids_of in_order order_by kept once_up_to
history_once a [] none = refl
history_once a (r ∷ rs) (more i n) = go (party a r) (history_once a rs n)
  where
    go : (b : Bool) → once_up_to (length rs) (ids_of a rs) ≡ true →
        once_up_to (suc (length rs)) (map (λ q. q.id) (order_by earlier (cond b (r ∷ kept (party a) rs) (kept (party a) rs)))) ≡ true
    go true old =
        once_put earlier (suc (length rs)) r (in_order a rs)
        (record {
          low = omega (arith, i);
          high = omega (arith, i);
          new = once_above (length rs) r.id (ids_of a rs) (omega (arith, i)) old;
          rest = once_up (length rs) (ids_of a rs) old;
        })
    go false old = once_up (length rs) (ids_of a rs) old

-- THE THEOREM, OF EVERY LIST OF CALLS FROM A FRESH LEDGER
pub each_once : (cs : List Call) (actor : List ℕ) → EachOnce cs actor
each_once cs actor =
    let l = after fresh cs in
    history_once (actor_at l.actors actor) l.records (numbered_after cs fresh none)
