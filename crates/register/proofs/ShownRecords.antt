-- What the record call shows: the codes and the category of a record, the record of an id, and what refuses to show it.
use Rattle.std.specs.Prelude.{is_none, Ok, unwrap_or, Err, None, Option, Some}
use mathlib.Core.Path.{◌≡◌, refl, sym, ap, ◌∙◌}
use mathlib.Core.Bool.{true, false, cond, not, true≢false}
use mathlib.Core.List.{List, [], ◌∷◌, map}
use Prim.Native.Nat.{ℕ, ◌/◌, ◌%◌, ◌≤◌, ◌<◌, min}
use native.Mathlib.Omega.{arith}
use lib.Dec.{ltb, eqb}
use lib.ListN.{length, get_or, take, replicate, get_or-eq_default, get_or-map}
use lib.Seq.{get_or-take}
use borrow.Author.Tests.{lt-ltb, le-ltb}
use Rattle.calendar.specs.Steps.{steps_of}
use Rattle.refusals.specs.Tests.{Test, state, first_met, pass}
use Rattle.refusals.specs.declared.Refusal.{Refusal}
use Rattle.refusals.specs.declared.StateRefusal.TheVariants.{ActorUnknown, NoRecord, NotAsker}
use Rattle.refusals.proofs.Tests.{pass_all}
use Rattle.notification.specs.Forms.{six_bytes, category_text}
use Rattle.ledger.specs.Ledger.{Rec, actor_at}
use Rattle.ledger.specs.Filing.{nobody}
use Rattle.ledger.specs.Asking.{code_at, category_of, party, no_record, record_at, record_tests, shown, ask_record}
use Rattle.ledger.specs.declared.Shown.{Shown}
use Rattle.tables.specs.Tables.{Columns, LoadColumns, down_from, actors_in, categories_in, record_in, records_in}
use Rattle.tables.specs.Passing.{last_below}
use Rattle.tables.specs.declared.categories.Category.{Category}
use Rattle.tables.proofs.Down.{down_length, last_below_lem}
use Rattle.recording.specs.Recording.{party_in}
use Rattle.recording.proofs.Views.{found_view, missing_view}
use Rattle.register.specs.declared.Head.{Head}
use Rattle.register.specs.View.{view}
use Rattle.register.proofs.Parties.{actors_many, categories_many, actor_entry, default_any, blank}

-- ---- the codes and the category of a record

module _ (h : Head) (cols : Columns) (loads : LoadColumns) (i n : ℕ) where
  module _ (en : n ≡ length (actors_in h.actors)) (l : length h.actors.entries ≡ 8) where
    pub code_here : i < n → (get_or h.actors.entries i blank).code ≡ code_at (view h cols loads) i
    unfolding view
    code_here k =
        let m = actors_many h.actors l in
        let f : get_or (actors_in h.actors) i nobody ≡ get_or h.actors.entries i blank =
        actor_entry h.actors i nobody (omega arith) l ∙ default_any h.actors.entries i nobody blank (omega arith) in
        ap (λ x. x.code) (sym f)

    pub code_past : n ≤ i → replicate 16 0 ≡ code_at (view h cols loads) i
    unfolding view
    code_past k =
        let m = actors_many h.actors l in
        ap (λ x. x.code) (sym (get_or-eq_default (actors_in h.actors) nobody (omega arith)))

  module _ (en : n ≡ length (categories_in h.categories)) (l : length h.categories.entries ≡ 4) where
    pub category_here : (d : Category) → i < n →
        six_bytes (category_text (get_or h.categories.entries i d).text) ≡ category_of (view h cols loads) i
    unfolding view categories_in
    category_here d k =
        let m = categories_many h.categories l in
        let t : ltb i (length (categories_in h.categories)) ≡ true = lt-ltb i _ (omega arith) in
        let text : Category → List ℕ = λ z. category_text z.text in
        let front = take (min h.categories.count 4) h.categories.entries in
        let g : get_or (categories_in h.categories) i [] ≡ category_text (get_or h.categories.entries i d).text =
        default_any (map text front) i [] (text d) (omega arith) ∙ get_or-map text front i d
        ∙ ap text (get_or-take (min h.categories.count 4) h.categories.entries i d (omega arith)) in
        rw (t, g)

    pub category_past : n ≤ i → replicate 6 0 ≡ category_of (view h cols loads) i
    unfolding view
    category_past k =
        let m = categories_many h.categories l in
        let t : ltb i (length (categories_in h.categories)) ≡ false = le-ltb i _ (omega arith) in
        rw t

-- ---- a record by its id

-- a record that is found has a place in the columns
pub found_below : (ids : List ℕ) (id n i : ℕ) → Some i ≡ last_below (λ j. eqb (get_or ids j 0) id) (min n 256) → i < 256
found_below ids id n i e =
    let b : i < min n 256 = (last_below_lem (λ j. eqb (get_or ids j 0) id) (min n 256) i (sym e)).0 in
    omega arith

-- 40 and 41, by what is found, after 22
abbrev found_tried : Columns → ℕ → Option ℕ → List Test
found_tried cols a f = (is_none f, state NoRecord) ∷ (not (party_in (get_or cols.keys (unwrap_or f 0) 0) a), state NotAsker) ∷ []

abbrev pub record_tried : Columns → ℕ → ℕ → Option ℕ → List Test
record_tried cols a n f = (not (ltb a n), state ActorUnknown) ∷ found_tried cols a f

module _ (h : Head) (cols : Columns) (loads : LoadColumns) (asker : List ℕ) (id n a : ℕ) (f : Option ℕ)
    (en : length (actors_in h.actors) ≡ n) (ea : a ≡ actor_at (actors_in h.actors) asker)
    (ef : f ≡ last_below (λ j. eqb (get_or cols.ids j 0) id) (min h.records 256)) where
  abbrev k : ℕ
  k = min h.records 256

  abbrev held : List Rec
  held = down_from (record_in cols) k

  found_is : (g : Option ℕ) → f ≡ g →
      first_met (found_tried cols a g)
      ≡ first_met ((not (ltb (record_at held id) (length held)), state NoRecord) ∷ (not (party a (get_or held (record_at held id) no_record)), state NotAsker) ∷ [])
  found_is (Some i) e =
      let p = found_view cols k id i (sym ef ∙ e) in
      rw (down_length (record_in cols) k, lt-ltb _ k p.0, p.1)
  found_is None e =
      rw (missing_view cols k id (sym ef ∙ e), down_length (record_in cols) k, le-ltb k k (omega arith))

  module _ where
    record_is : first_met (record_tried cols a n f) ≡ first_met (record_tests (view h cols loads) asker id)
    unfolding record_tests view records_in
    record_is = rw (en, ← ea) (ap (cond (not (ltb a n)) (Err (state ActorUnknown))) (found_is f refl))

    pub shown_refused : (r : Refusal) → first_met (record_tried cols a n f) ≡ Err r → Err r ≡ ask_record (view h cols loads) asker id
    unfolding ask_record
    shown_refused r e = rw (← record_is, e)

    module _ (passed : first_met (record_tried cols a n f) ≡ pass) where
      found_held : (g : Option ℕ) → f ≡ g → is_none g ≡ false → get_or held (record_at held id) no_record ≡ record_in cols (unwrap_or g 0)
      found_held (Some i) e t = (found_view cols k id i (sym ef ∙ e)).1
      found_held None e t = absurd (true≢false t)

      pub shown_found : (r : Shown) → r ≡ shown (view h cols loads) (record_in cols (unwrap_or f 0)) → Ok r ≡ ask_record (view h cols loads) asker id
      unfolding ask_record view records_in
      shown_found r e =
          let t = pass_all (record_tried cols a n f) passed in
          rw (← record_is, passed, found_held f refl t.1.0) (ap Ok e)

-- ---- what a record shows

pub shown_by : (h : Head) (cols : Columns) (loads : LoadColumns) (i : ℕ) (ceder acquirer category submitter : List ℕ) (steps by from until : ℕ) →
    ceder ≡ code_at (view h cols loads) (get_or cols.keys i 0 / 8 % 8) → acquirer ≡ code_at (view h cols loads) (get_or cols.keys i 0 % 8) →
    category ≡ category_of (view h cols loads) (get_or cols.keys i 0 / 64 % 4) → steps ≡ steps_of (get_or cols.keys i 0 / 256) →
    submitter ≡ code_at (view h cols loads) by → by ≡ get_or (get_or cols.marks i []) 0 0 →
    from ≡ get_or (get_or cols.marks i []) 1 0 → until ≡ get_or (get_or cols.marks i []) 2 0 →
    ◌≡◌ {A = Shown} (record {
      submitter = submitter;
      notification = record {
        key = record { ceder = ceder; acquirer = acquirer; category = category; day = get_or cols.keys i 0 / 256 };
        steps = steps;
        powers = get_or cols.rows i [];
      };
      status = get_or cols.statuses i 0;
      from = from;
      until = until;
    }) (shown (view h cols loads) (record_in cols i))
shown_by h cols loads i ceder acquirer category submitter steps by from until ec ea ez es eu eb ef el =
    rw (ec, ea, ez, es, eu, eb, ef, el)
