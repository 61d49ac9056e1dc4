-- One record more: what the head and the lent columns hold once a filing is recorded.
use Rattle.std.specs.Prelude.{Ok}
use mathlib.Core.Path.{◌≡◌, sym, subst, ◌∙◌, ap, ap₂}
use mathlib.Core.Bool.{Bool}
use mathlib.Core.List.{List, [], ◌∷◌, map}
use Prim.Native.Nat.{ℕ, ◌+◌, ◌<◌, ◌≤◌, ◌/◌, min}
use native.Mathlib.Omega.{arith}
use lib.ListN.{length, get_or, set}
use Rattle.calendar.specs.Steps.{steps_of}
use Rattle.calendar.specs.Clocks.{first_counted}
use Rattle.calendar.proofs.StepCounts.{steps_small}
use Rattle.ledger.specs.Ledger.{Key, Rec}
use Rattle.ledger.specs.Filing.{pairs, changed, status_by, next_id, born, filed}
use Rattle.ledger.specs.Calls.{Outcome, file_at}
use Rattle.ledger.specs.declared.Answer.TheVariants.{Filed}
use Rattle.tables.specs.Tables.{Columns, LoadColumns, columns, key_from, key_number, rec_of, record_in, records_in, actors_in, categories_in, loads_in}
use Rattle.tables.specs.Passing.{is_under, PlacesOf}
use Rattle.tables.specs.More.{put_to, with_until}
use Rattle.tables.proofs.Keys.{key_unpacked}
use Rattle.tables.proofs.RecordTable.{records_length, records_held, record_stored, record_more}
use Rattle.recording.specs.Recording.{pairs_below, with_changes, Changed}
use Rattle.recording.proofs.Puts.{put_length}
use Rattle.recording.proofs.Views.{pairs_view, changed_view}
use Rattle.register.specs.declared.Head.{Head}
use Rattle.register.specs.declared.verdicts.Places.{Places}
use Rattle.register.specs.View.{Register, lent, view}
use Rattle.register.specs.Written.{with_records, record_put, seen}
use Rattle.register.specs.Judging.{key_at, Judgeable, Fileable, UnderListed, files_at}

-- a filing's first counted step is found by its key's number, and fits a byte
key_day : (c a z d m : ℕ) → c < 8 → a < 8 → z < 4 → m ≡ key_number c a z d → m / 256 ≡ d
key_day c a z d m h i j e = omega arith

pub first_small : (h : Head) (at : Places) (own : ℕ) → Judgeable h at → own ≡ key_number at.ceder at.acquirer at.category at.day →
    first_counted h.clock (own / 256) < 256
first_small h at own j e =
    let d : own / 256 ≡ at.day = key_day at.ceder at.acquirer at.category at.day own j.ceder j.acquirer j.category e in
    let k : first_counted h.clock (own / 256) ≡ first_counted h.clock at.day = ap (first_counted h.clock) d in
    omega (arith, j.counted, steps_small at.day)

-- ---- one record more in the ledger

-- the ledger of a head with other records, and the answer to a filing
abbrev outcome_of : Head → LoadColumns → List Rec → ℕ → ℕ → ℕ → Outcome
outcome_of h loads rs id status first =
    record {
      ledger = record {
        clock = h.clock;
        actors = actors_in h.actors;
        categories = categories_in h.categories;
        loads = loads_in h.loads loads;
        records = rs;
      };
      answer = Ok (Filed id status first);
    }

module _ (h : Head) (loads : LoadColumns) (was : Columns) (at : Places) (ps : List ℕ)
    (own first until status : ℕ) (paired : Bool) (next : List ℕ) (turned : List (List ℕ)) where
  abbrev n : ℕ
  n = h.records

  abbrev by : ℕ
  by = at.submitter

  abbrev mark : List ℕ
  mark = by ∷ first ∷ until ∷ 0 ∷ []

  -- the columns that are left
  abbrev pub recorded : Columns
  recorded = record_stored (with_changes was next turned) n (n + 1) status own mark ps

  module _ (file : Fileable h at) (ls : length was.statuses ≡ 256) (li : length was.ids ≡ 256) (lk : length was.keys ≡ 256)
      (lm : length was.marks ≡ 256) (lr : length was.rows ≡ 256)
      (eo : own ≡ key_number at.ceder at.acquirer at.category at.day) (ef : first ≡ first_counted h.clock at.day)
      (eu : until ≡ steps_of at.day) (es : status ≡ status_by paired) (ep : paired ≡ pairs_below was n by own ps)
      (ch : Changed paired h.clock by own ps n was next turned) where
    few : n ≤ 256
    few = omega (arith, file.room)

    own_key : key_from own ≡ key_at at
    own_key =
        let j = file.judgeable in
        ap key_from eo ∙ key_unpacked at.ceder at.acquirer at.category at.day j.ceder j.acquirer j.category

    is_paired : pairs by (key_at at) ps (records_in n was) ≡ paired
    is_paired =
        ap₂ (λ k rs. pairs by k ps rs) (sym own_key) (records_held n was few) ∙ pairs_view was n by own ps ∙ sym ep

    next_is : n + 1 ≡ next_id (view h was loads)
    unfolding view next_id
    next_is = omega (arith, records_length n was, file.room)

    rest : records_in n (with_changes was next turned) ≡ map (changed paired h.clock by (key_at at) ps) (records_in n was)
    rest =
        records_held n (with_changes was next turned) few
        ∙ changed_view was paired h.clock by own ps n next turned ch
        ∙ ap₂ (λ k rs. map (changed paired h.clock by k ps) rs) own_key (sym (records_held n was few))

    new : rec_of (n + 1) status own mark ps ≡ born (n + 1) status h.clock by (key_at at) ps
    new = rw (own_key, ef, eu)

    all : records_in (n + 1) recorded
        ≡ born (n + 1) status h.clock by (key_at at) ps ∷ map (changed paired h.clock by (key_at at) ps) (records_in n was)
    all =
        let l₁ : length next ≡ 256 = ap length ch.new_statuses ∙ put_length _ was.statuses n ∙ ls in
        let l₂ : length turned ≡ 256 = ap length ch.new_marks ∙ put_length _ was.marks n ∙ lm in
        record_more (with_changes was next turned) n (n + 1) status own mark ps file.room l₁ li lk l₂ lr ∙ ap₂ ◌∷◌ new rest

    -- the register with a filing's record, by what is known of the filing
    abbrev with_record : Bool → Key → ℕ → ℕ → ℕ → ℕ → ℕ → Register
    with_record paired k id own first until status =
        let made : ℕ → Rec = λ i. changed paired h.clock by k ps (record_in was i) in
        lent (with_records h (n + 1))
        (columns
        (set (put_to (λ i. (made i).status) n was.statuses) n status)
        (set was.ids n id)
        (set was.keys n own)
        (set (put_to (λ i. with_until (get_or was.marks i []) (made i).until) n was.marks) n (by ∷ first ∷ until ∷ 0 ∷ []))
        (set was.rows n ps))
        loads

    abbrev number : ℕ
    number = key_number at.ceder at.acquirer at.category at.day

    left : lent (with_records h (n + 1)) recorded loads ≡ record_put (lent h was loads) by (key_at at) ps
    unfolding record_put view
    left =
        rw (ch.new_statuses, ch.new_marks)
        (ap₂ (λ k o. with_record paired k (n + 1) o first until status) own_key eo
        ∙ ap₂ (λ f u. with_record paired (key_at at) (n + 1) number f u status) ef eu
        ∙ ap₂ (λ i s. with_record paired (key_at at) i number (first_counted h.clock at.day) (steps_of at.day) s) next_is es
        ∙ ap (λ p. with_record p (key_at at) (next_id (view h was loads)) number (first_counted h.clock at.day) (steps_of at.day) (status_by p))
        (sym is_paired))

    outcome : ◌≡◌ {A = Outcome} (record { ledger = view (with_records h (n + 1)) recorded loads; answer = Ok (Filed (n + 1) status first) })
        (file_at (view h was loads) (key_at at) by ps)
    unfolding view file_at filed
    outcome =
        ap (λ rs. outcome_of h loads rs (n + 1) status first) all
        ∙ rw (is_paired, ← next_is, es, ef)

    pub record_done : seen (lent (with_records h (n + 1)) recorded loads) (Ok (Filed (n + 1) status first)) ≡ files_at (lent h was loads) (key_at at) by ps
    record_done = ap₂ (λ x o. record { register = x; outcome = o }) left outcome

-- ---- the records under the filing's key

module _ (h : Head) (at : Places) (number : ℕ) (e : number ≡ key_number at.ceder at.acquirer at.category at.day) (keys places : List ℕ) (count : ℕ) where
  -- listed by the number of the key, among the records that are there
  pub under_listed : (n : ℕ) → n ≡ min h.records 256 → PlacesOf (is_under keys number) n count places → UnderListed h.records at keys count places
  under_listed n f l = subst (λ m. PlacesOf (is_under keys m) (min h.records 256) count places) e (subst (λ m. PlacesOf (is_under keys number) m count places) f l)

  -- which are as many as the head says, where there is room for one more
  pub listed_under : h.records < 256 → UnderListed h.records at keys count places → PlacesOf (is_under keys number) h.records count places
  listed_under room l =
      let f : min h.records 256 ≡ h.records = omega arith in
      subst (λ m. PlacesOf (is_under keys m) h.records count places) (sym e)
      (subst (λ m. PlacesOf (is_under keys (key_number at.ceder at.acquirer at.category at.day)) m count places) f l)
