-- Each call but a filing can be made on every register whose arrays have their places.
use Rattle.std.specs.Prelude.{Err, Ok}
use Rattle.refusals.specs.Tests.{Verdict, pass}
use mathlib.Core.Path.{◌≡◌, refl, sym, ◌∙◌}
use mathlib.Core.List.{List, []}
use Prim.Native.Nat.{ℕ, ◌+◌}
use lib.ListN.{length, length-set}
use Rattle.notification.specs.Forms.{six_bytes, in_places}
use Rattle.ledger.specs.Ledger.{actor_at, category_at}
use Rattle.ledger.specs.Call.{Answered, Call, enrol_actor, enrol_category, load, advance}
use Rattle.ledger.specs.Calls.{verdict_of, effect, actor_tests, category_tests, load_tests, moment}
use Rattle.ledger.specs.declared.Answer.TheVariants.{Moved, Held}
use Rattle.tables.specs.Tables.{Columns, LoadColumns, load_number}
use Rattle.tables.specs.More.{more_actors, more_categories, load_put}
use Rattle.tables.specs.declared.actors.Actors.{Actors}
use Rattle.tables.specs.declared.categories.Categories.{Categories}
use Rattle.register.specs.View.{Register, lent, view, held}
use Rattle.register.specs.Written.{with_clock, with_actors, with_categories, with_loads, writes, does, seen}
use Rattle.register.specs.declared.Head.{Head}
use Rattle.register.proofs.Steps.{does_refused, does_passed, actor_done, category_done, load_done}
use Rattle.register.proofs.Runs.{Did, did_actor, did_category, did_load, did_advance}
use Rattle.register.proofs.Sized.{LoadsSized, Sized, ref, ref_mut, Next}

-- ---- calls that are judged by the head alone: the clock, an actor, a category

module _ (r : Register) (c : Call) (z : Sized r) where
  -- such a call leaves a head, whatever the columns
  abbrev LeavesHead : Head → Answered → Type 0
  LeavesHead h y = (cols : Columns) (ls : LoadColumns) → seen (lent h cols ls) y ≡ does (lent r.head cols ls) c

  module _ (did : (h : Head) (y : Answered) → LeavesHead h y → Did r c y (lent h r.columns r.loads)) where
    next_head : (h : Head) (y : Answered) → length h.actors.entries ≡ 8 → length h.categories.entries ≡ 4 → LeavesHead h y → Next r c
    next_head h y la lz e =
        record {
          answer = y;
          register = lent h r.columns r.loads;
          did = did h y e;
          sized = record { actors = la; categories = lz; loads = z.loads; records = z.records };
        }

    by_head : (h : Head) (y : Answered) → length h.actors.entries ≡ 8 → length h.categories.entries ≡ 4 → (v : Verdict) →
        ((cols : Columns) (ls : LoadColumns) → v ≡ verdict_of (view r.head cols ls) c) → (v ≡ pass → LeavesHead h y) → Next r c
    by_head h y la lz (Err f) j e =
        next_head r.head (Err f) z.actors z.categories
        (λ cols ls. does_refused (lent r.head cols ls) c (Err f) f (j cols ls) refl)
    by_head h y la lz (Ok u) j e = next_head h y la lz (e refl)

pub next_advance : (r : Register) (day minute : ℕ) → Sized r → Next r (advance day minute)
unfolding verdict_of effect view writes
next_advance r day minute z =
    by_head r (advance day minute) z
    (λ h y s. did_advance r.columns r.loads (r.head, (day, (minute, tt))) (record { head = h; answer = y }) (r.head, (day, (minute, tt))) (λ t. s))
    (with_clock r.head (moment day minute)) (Ok Moved) z.actors z.categories (verdict_of (held r) (advance day minute)) (λ cols ls. refl)
    (λ p cols ls. does_passed (lent r.head cols ls) _ (advance day minute) (Ok Moved) _ refl p refl refl)

pub next_actor : (r : Register) (code : List ℕ) (first last : ℕ) → Sized r → Next r (enrol_actor code first last)
unfolding verdict_of view actor_tests
next_actor r code first last z =
    let h = r.head in
    let x : Actors = more_actors h.actors (record { code = code; first = first; last = last }) in
    by_head r (enrol_actor code first last) z
    (λ h y s. did_actor r.columns r.loads ([], tt) (r.head, (ref code, (first, (last, tt)))) (record { head = h; answer = y }) (r.head, (ref code, (first, (last, tt)))) (λ t. s))
    (with_actors h x) (Ok (Held x.count)) (length-set h.actors.entries h.actors.count _ ∙ z.actors) z.categories
    (verdict_of (held r) (enrol_actor code first last)) (λ cols ls. refl) (λ p cols ls. actor_done h cols ls code first last z.actors p code x refl refl)

pub next_category : (r : Register) (text : List ℕ) → Sized r → Next r (enrol_category text)
unfolding verdict_of view category_tests
next_category r text z =
    let h = r.head in
    let x : Categories = more_categories h.categories (record { text = six_bytes text }) in
    by_head r (enrol_category text) z
    (λ h y s. did_category r.columns r.loads ([], tt) (r.head, (ref text, tt)) (record { head = h; answer = y }) (r.head, (ref text, tt)) (λ t. s))
    (with_categories h x) (Ok (Held x.count)) z.actors (length-set h.categories.entries h.categories.count _ ∙ z.categories)
    (verdict_of (held r) (enrol_category text)) (λ cols ls. refl) (λ p cols ls. category_done h cols ls text z.categories p (six_bytes text) x refl refl)

-- ---- a load

module _ (r : Register) (actor category : List ℕ) (day most : ℕ) (ps : List ℕ) (z : Sized r) where
  abbrev loading : Call
  loading = load actor category day most ps

  loads_next : (n : ℕ) (ls : LoadColumns) (y : Answered) → LoadsSized ls →
      ((cols : Columns) → seen (lent (with_loads r.head n) cols ls) y ≡ does (lent r.head cols r.loads) loading) → Next r loading
  loads_next n ls y s e =
      let x = r.loads in
      record {
        answer = y;
        register = lent (with_loads r.head n) r.columns ls;
        did = did_load r.columns ([], ([], ([], ([], ([], ([], tt))))))
            (r.head, (ref_mut x.keys, (ref_mut x.approved, (ref_mut x.rows, (ref actor, (ref category, (day, (most, (ref ps, tt)))))))))
            (record { head = with_loads r.head n; answer = y })
            (r.head, (ref_mut ls.keys, (ref_mut ls.approved, (ref_mut ls.rows, (ref actor, (ref category, (day, (most, (ref ps, tt))))))))) (λ t. e);
        sized = record { actors = z.actors; categories = z.categories; loads = s; records = z.records };
      }

  by_verdict : (v : Verdict) → v ≡ verdict_of (held r) loading → Next r loading
  unfolding verdict_of view load_tests
  by_verdict (Err f) e =
      loads_next r.head.loads r.loads (Err f) z.loads (λ cols. does_refused (lent r.head cols r.loads) loading (Err f) f e refl)
  by_verdict (Ok u) e =
      let h = r.head in
      let a = actor_at (held r).actors actor in
      let k = category_at (held r).categories category in
      let s = z.loads in
      loads_next (h.loads + 1) (load_put r.loads h.loads (load_number a k day) most (in_places ps)) (Ok (Held (h.loads + 1)))
      (record {
        keys = length-set r.loads.keys h.loads _ ∙ s.keys;
        approved = length-set r.loads.approved h.loads _ ∙ s.approved;
        rows = length-set r.loads.rows h.loads _ ∙ s.rows;
      })
      (λ cols.
      load_done h cols r.loads actor category day most ps z.actors z.categories (sym e) a k _ _ refl refl refl refl s.keys s.approved s.rows)

  pub next_load : Next r loading
  next_load = by_verdict _ refl
