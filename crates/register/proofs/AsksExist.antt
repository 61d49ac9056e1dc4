-- Each call that only asks has an answer, whatever the register.
use mathlib.Core.Path.{◌≡◌, refl, sym, ◌∙◌, ap}
use mathlib.Core.Bool.{cond}
use mathlib.Core.List.{List, []}
use Prim.Native.Nat.{ℕ, zero, suc, min}
use lib.ListN.{length, get_or}
use Rattle.ledger.specs.Ledger.{Ledger, actor_at, category_at, load_is, loaded, moved_by, moved, acquires, cedes, acquired, ceded, gained, engagement}
use Rattle.ledger.specs.Asking.{engagement_tests, engaged_at, ask_engagement, record_tests, ask_record, history_of, history_tests, ask_history, history_in}
use Rattle.tables.specs.Tables.{Columns, LoadColumns, columns, load_columns, down_from, load_in, record_in, actors_in, categories_in, loads_in, records_in}
use Rattle.tables.proofs.Down.{down_sum}
use Rattle.recording.proofs.TurnNumbers.{ids_only}
use Rattle.register.specs.View.{Register, view, held}
use Rattle.register.specs.declared.Head.{Head}
use Rattle.register.proofs.Runs.{Engages, engages, Shows, shows, Lists, lists}
use Rattle.register.proofs.Sized.{ref, ref_mut}

-- an engagement doesn't depend on ids and approved powers
module _ (h : Head) (cols : Columns) (ls : LoadColumns) (ids approved : List ℕ) where
  abbrev cols' : Columns
  cols' = columns cols.statuses ids cols.keys cols.marks cols.rows

  abbrev ls' : LoadColumns
  ls' = load_columns ls.keys approved ls.rows

  loaded_any : (n a z d s : ℕ) → loaded (down_from (load_in ls) n) a z d s ≡ loaded (down_from (load_in ls') n) a z d s
  unfolding loaded
  loaded_any zero a z d s = refl
  loaded_any (suc n) a z d s = ap (cond (load_is a z d (load_in ls n)) (get_or (get_or ls.rows n []) s 0)) (loaded_any n a z d s)

  acquired_any : (n a z d s : ℕ) → acquired (down_from (record_in cols) n) a z d s ≡ acquired (down_from (record_in cols') n) a z d s
  unfolding acquired moved
  acquired_any n a z d s = down_sum (record_in cols) n _ ∙ sym (down_sum (record_in cols') n (λ r. cond (acquires a z d r) (moved_by s r) 0))

  ceded_any : (n a z d s : ℕ) → ceded (down_from (record_in cols) n) a z d s ≡ ceded (down_from (record_in cols') n) a z d s
  unfolding ceded moved
  ceded_any n a z d s = down_sum (record_in cols) n _ ∙ sym (down_sum (record_in cols') n (λ r. cond (cedes a z d r) (moved_by s r) 0))

  engagement_any : (actor category : List ℕ) (day s : ℕ) →
      ask_engagement (view h cols ls) actor category day s ≡ ask_engagement (view h cols' ls') actor category day s
  unfolding ask_engagement engagement_tests engaged_at engagement gained view loads_in records_in
  engagement_any actor category day s =
      let a = actor_at (actors_in h.actors) actor in
      let z = category_at (categories_in h.categories) category in
      rw (loaded_any (min h.loads 64) a z day s, acquired_any (min h.records 256) a z day s, ceded_any (min h.records 256) a z day s)

pub engagement_exists : (r : Register) (actor category : List ℕ) (day s : ℕ) → Engages r actor category day s (ask_engagement (held r) actor category day s)
engagement_exists r actor category day s =
    let x = r.columns in
    let y = r.loads in
    engages x.ids y.approved ([], ([], ([], ([], ([], ([], ([], ([], tt))))))))
    (r.head, (ref x.statuses, (ref x.keys, (ref x.marks, (ref x.rows, (ref y.keys, (ref y.rows, (ref actor, (ref category, (day, (s, tt)))))))))))
    _
    (r.head, (ref x.statuses, (ref x.keys, (ref x.marks, (ref x.rows, (ref y.keys, (ref y.rows, (ref actor, (ref category, (day, (s, tt)))))))))))
    (λ t ids approved. engagement_any r.head x y ids approved actor category day s)

record_any : (h : Head) (cols : Columns) (ls rest : LoadColumns) (asker : List ℕ) (id : ℕ) → ask_record (view h cols ls) asker id ≡ ask_record (view h cols rest) asker id
unfolding ask_record record_tests view
record_any h cols ls rest asker id = refl

pub record_exists : (r : Register) (asker : List ℕ) (id : ℕ) → Shows r asker id (ask_record (held r) asker id)
record_exists r asker id =
    let x = r.columns in
    shows r.loads ([], ([], ([], ([], ([], ([], tt))))))
    (r.head, (ref x.statuses, (ref x.ids, (ref x.keys, (ref x.marks, (ref x.rows, (ref asker, (id, tt))))))))
    _
    (r.head, (ref x.statuses, (ref x.ids, (ref x.keys, (ref x.marks, (ref x.rows, (ref asker, (id, tt))))))))
    (λ t ls. record_any r.head x r.loads ls asker id)

-- a history depends on ids and keys alone of what is lent
history_any : (h : Head) (cols : Columns) (ls : LoadColumns) (statuses : List ℕ) (marks rows : List (List ℕ)) (other : LoadColumns) (actor : List ℕ) →
    history_of (view h cols ls) actor ≡ history_of (view h (columns statuses cols.ids cols.keys marks rows) other) actor
unfolding view records_in
history_any h cols ls statuses marks rows other actor =
    let a = actor_at (actors_in h.actors) actor in
    let n = min h.records 256 in
    ids_only cols n a ∙ sym (ids_only (columns statuses cols.ids cols.keys marks rows) n a)

-- count and buffer, by the history
module _ (l m : Ledger) (actor buffer : List ℕ) (same-actors : l.actors ≡ m.actors) (same-ids : history_of l actor ≡ history_of m actor) where
  same_tests : history_tests l actor (length buffer) ≡ history_tests m actor (length buffer)
  unfolding history_tests
  same_tests = rw (same-ids, same-actors)

  same_count : ask_history l actor (length buffer) ≡ ask_history m actor (length buffer)
  unfolding ask_history
  same_count = rw (same_tests, same-ids)

  same_buffer : history_in l actor buffer ≡ history_in m actor buffer
  unfolding history_in
  same_buffer = rw (same_tests, same-ids)

pub history_exists : (r : Register) (actor buffer : List ℕ) → Lists r actor buffer (ask_history (held r) actor (length buffer)) (history_in (held r) actor buffer)
unfolding view
history_exists r actor buffer =
    let x = r.columns in
    lists x.statuses x.marks x.rows r.loads ([], ([], ([], ([], tt))))
    (r.head, (ref x.ids, (ref x.keys, (ref actor, (ref_mut buffer, tt)))))
    _
    (r.head, (ref x.ids, (ref x.keys, (ref actor, (ref_mut (history_in (held r) actor buffer), tt)))))
    (λ t statuses marks rows ls.
    let l = view r.head (columns statuses x.ids x.keys marks rows) ls in
    let ids = history_any r.head x r.loads statuses marks rows ls actor in
    (same_count (held r) l actor buffer refl ids, same_buffer (held r) l actor buffer refl ids))
