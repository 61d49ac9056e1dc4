-- What a filing makes of a record, case by case, as the code has the cases.
use mathlib.Core.Path.{◌≡◌, refl, sym, subst, ◌∙◌, ap, ap₂}
use mathlib.Core.Bool.{Bool, true, false, cond, not, ◌&&◌, ◌||◌, false≢true}
use mathlib.Core.List.{List, []}
use Prim.Native.Nat.{ℕ, ◌+◌, ◌<◌}
use native.Mathlib.Omega.{arith}
use native.Mathlib.Numerals.{add-one}
use native.Mathlib.Decide.{ℕ_discrete}
use lib.Dec.{eqb}
use lib.ListN.{length, get_or, set}
use lib.Seq.{get_or-set_same, get_or-set_other, set-get_or}
use borrow.Author.Tests.{eq-eqb, ne_eqb}
use Rattle.calendar.specs.Clocks.{first_counted, replaces_whole}
use Rattle.calendar.specs.declared.clock.Clock.{Clock}
use Rattle.ledger.specs.Statuses.{created, answered, deleted, validated, updated, obsolete}
use Rattle.ledger.specs.Ledger.{Key, Rec, under_key}
use Rattle.ledger.specs.Filing.{with_status, rule_one, rule_two, rule_three, deletes, answers, replaces, same_powers, changed}
use Rattle.ledger.proofs.Moving.{part_changed}
use Rattle.tables.specs.Tables.{Columns, key_from, rec_of, record_in}
use Rattle.tables.specs.More.{put_to, with_until}
use Rattle.tables.specs.Passing.{is_under, reached, PlacesOf}
use Rattle.tables.proofs.Listing.{listed_next, reached_more}
use Rattle.lists.proofs.Tests.{and_true, and_right}
use Rattle.recording.specs.Recording.{pairs_below, made_of, with_changes, ChangedAt, Changed}
use Rattle.tables.proofs.Keys.{key_same}
use Rattle.recording.proofs.Puts.{put_length, put_past, put_more, put_same}

-- ---- tests in a row

and_false : (s k : Bool) → k ≡ false → (s && k) ≡ false
and_false true k e = e
and_false false k e = refl

module _ (s k x y : Bool) where
  second_false : k ≡ false → (s && k && x && y) ≡ false
  second_false e = ap (λ b. b && x && y) (and_false s k e)

-- ---- the other party's created record with the same powers

module _ (by own status key : ℕ) (ps mark row : List ℕ) where
  abbrev rec : Rec
  rec = rec_of 0 status key mark row

  pub not_key : eqb key own ≡ false → false ≡ answers by (key_from own) ps rec
  not_key e =
      sym (second_false (eqb status created) (under_key (key_from own) rec) (not (eqb (get_or mark 0 0) by)) (same_powers row ps)
      (key_same key own ∙ e))

-- one record more
pub pairs_next : (cols : Columns) (i by own : ℕ) (ps : List ℕ) (a b : Bool) →
    a ≡ answers by (key_from own) ps (record_in cols i) → b ≡ pairs_below cols i by own ps →
    (a || b) ≡ pairs_below cols (i + 1) by own ps
unfolding pairs_below
pairs_next cols i by own ps a b e f = rw (add-one i, e, f)

-- one record more, of another key
pub pairs_same : (cols : Columns) (i by own : ℕ) (ps : List ℕ) (b : Bool) → is_under cols.keys own i ≡ false →
    b ≡ pairs_below cols i by own ps → b ≡ pairs_below cols (i + 1) by own ps
pairs_same cols i by own ps b e f =
    pairs_next cols i by own ps false b
    (not_key by own (get_or cols.statuses i 0) (get_or cols.keys i 0) ps (get_or cols.marks i []) (get_or cols.rows i [])
    e)
    f

-- ---- the rules one by one

module _ (by : ℕ) (k : Key) (r : Rec) where
  one_there : deletes by k r ≡ true → rule_one by k r ≡ with_status deleted r.until r
  one_there t = ap (λ b. cond b (with_status deleted r.until r) r) t

  one_not : deletes by k r ≡ false → rule_one by k r ≡ r
  one_not t = ap (λ b. cond b (with_status deleted r.until r) r) t

module _ (by : ℕ) (k : Key) (ps : List ℕ) (r : Rec) where
  two_there : answers by k ps r ≡ true → rule_two by k ps r ≡ with_status answered r.until r
  two_there t = ap (λ b. cond b (with_status answered r.until r) r) t

  two_not : answers by k ps r ≡ false → rule_two by k ps r ≡ r
  two_not t = ap (λ b. cond b (with_status answered r.until r) r) t

module _ (clock : Clock) (k : Key) (r : Rec) where
  three_not : replaces k r ≡ false → rule_three clock k r ≡ r
  three_not t =
      ap (λ b. cond b (cond (replaces_whole clock r.from k.day) (with_status obsolete r.until r)
      (with_status updated (first_counted clock k.day) r)) r) t

  three_obsolete : replaces k r ≡ true → replaces_whole clock r.from k.day ≡ true → rule_three clock k r ≡ with_status obsolete r.until r
  three_obsolete t u = rw (t, u)

  three_updated : replaces k r ≡ true → replaces_whole clock r.from k.day ≡ false →
      rule_three clock k r ≡ with_status updated (first_counted clock k.day) r
  three_updated t u = rw (t, u)

-- ---- the rules together

module _ (clock : Clock) (by : ℕ) (k : Key) (ps : List ℕ) (r : Rec) where
  -- a record that no rule concerns
  untouched : (paired : Bool) → deletes by k r ≡ false → (paired && answers by k ps r) ≡ false → (paired && replaces k r) ≡ false →
      changed paired clock by k ps r ≡ r
  untouched true d a v =
      ap (λ x. rule_three clock k (rule_two by k ps x)) (one_not by k r d)
      ∙ ap (rule_three clock k) (two_not by k ps r a)
      ∙ three_not clock k r v
  untouched false d a v = one_not by k r d

  -- a record of another key
  pub other_key : (paired : Bool) → under_key k r ≡ false → changed paired clock by k ps r ≡ r
  other_key paired u =
      let s = eqb r.status created in
      untouched paired
      (ap (λ b. b && eqb r.submitter by) (and_false s (under_key k r) u))
      (and_false paired (answers by k ps r) (second_false s (under_key k r) (not (eqb r.submitter by)) (same_powers r.powers ps) u))
      (and_false paired (replaces k r) (and_false (eqb r.status validated) (under_key k r) u))

  module _ (u : under_key k r ≡ true) where
    -- the submitter's own created record
    pub own_deleted : (paired : Bool) → r.status ≡ created → r.submitter ≡ by →
        changed paired clock by k ps r ≡ with_status deleted r.until r
    own_deleted paired s b = go paired
      where
        one : rule_one by k r ≡ with_status deleted r.until r
        one = one_there by k r (rw (u, eq-eqb r.status created s, eq-eqb r.submitter by b))

        go : (b : Bool) → changed b clock by k ps r ≡ with_status deleted r.until r
        go true = ap (λ x. rule_three clock k (rule_two by k ps x)) one
        go false = one

    -- the other party's created record
    pub other_answered : (paired : Bool) → (paired && same_powers r.powers ps) ≡ true → r.status ≡ created → (r.submitter ≡ by → ⊥) →
        changed paired clock by k ps r ≡ with_status answered r.until r
    other_answered true p s b =
        ap (λ x. rule_three clock k (rule_two by k ps x))
        (one_not by k r (and_false (eqb r.status created && under_key k r) (eqb r.submitter by) (ne_eqb r.submitter by b)))
        ∙ ap (rule_three clock k) (two_there by k ps r (rw (u, eq-eqb r.status created s, ne_eqb r.submitter by b, p)))
    other_answered false p s b = absurd (false≢true p)

    pub other_kept : (paired : Bool) → (paired && same_powers r.powers ps) ≡ false → r.status ≡ created → (r.submitter ≡ by → ⊥) →
        changed paired clock by k ps r ≡ r
    other_kept paired p s b =
        untouched paired
        (and_false (eqb r.status created && under_key k r) (eqb r.submitter by) (ne_eqb r.submitter by b))
        (not_answered paired p)
        (and_false paired (replaces k r) (rw s))
      where
        not_answered : (q : Bool) → (q && same_powers r.powers ps) ≡ false → (q && answers by k ps r) ≡ false
        not_answered true p = and_false (eqb r.status created && under_key k r && not (eqb r.submitter by))
            (same_powers r.powers ps) p
        not_answered false p = refl

    -- a validated record
    module _ (paired : Bool) (p : (paired && eqb r.status validated) ≡ true) (s : r.status ≡ created → ⊥) where
      before_three : changed paired clock by k ps r ≡ rule_three clock k r
      before_three = go paired p
        where
          go : (q : Bool) → (q && eqb r.status validated) ≡ true → changed q clock by k ps r ≡ rule_three clock k r
          go true e =
              ap (λ x. rule_three clock k (rule_two by k ps x)) (one_not by k r (rw (ne_eqb r.status created s)))
              ∙ ap (rule_three clock k) (two_not by k ps r (rw (ne_eqb r.status created s)))
          go false e = absurd (false≢true e)

      replaced : replaces k r ≡ true
      replaced = and_true (eqb r.status validated) (under_key k r) (and_right paired (eqb r.status validated) p) u

      pub made_obsolete : replaces_whole clock r.from k.day ≡ true → changed paired clock by k ps r ≡ with_status obsolete r.until r
      made_obsolete o = before_three ∙ three_obsolete clock k r replaced o

      pub made_updated : replaces_whole clock r.from k.day ≡ false → changed paired clock by k ps r ≡ with_status updated (first_counted clock k.day) r
      made_updated o = before_three ∙ three_updated clock k r replaced o

    pub rest_kept : (paired : Bool) → (paired && eqb r.status validated) ≡ false → (r.status ≡ created → ⊥) →
        changed paired clock by k ps r ≡ r
    rest_kept paired p s =
        untouched paired
        (rw (ne_eqb r.status created s))
        (and_false paired (answers by k ps r) (rw (ne_eqb r.status created s)))
        (not_replaced paired p)
      where
        not_replaced : (q : Bool) → (q && eqb r.status validated) ≡ false → (q && replaces k r) ≡ false
        not_replaced true p = ap (λ b. b && under_key k r) p
        not_replaced false p = refl

-- ---- nothing else of a record is changed

-- a record that was changed is what it was but for its status and its until-step
pub changed_is : (paired : Bool) (clock : Clock) (by : ℕ) (k : Key) (ps : List ℕ) (r : Rec) →
    with_status (changed paired clock by k ps r).status (changed paired clock by k ps r).until r ≡ changed paired clock by k ps r
changed_is paired clock by k ps r =
    let x = changed paired clock by k ps r in
    ap (with_status x.status x.until) (sym (part_changed (with_status 0 0) (λ s u r. refl) paired clock by k ps r))

-- ---- the records one by one

module _ (paired : Bool) (clock : Clock) (by own : ℕ) (ps : List ℕ) where
  -- record i as one of the filing's key
  abbrev own_at : Columns → ℕ → Rec
  own_at cols i =
      rec_of (get_or cols.ids i 0) (get_or cols.statuses i 0) own (get_or cols.marks i []) (get_or cols.rows i [])

  -- the changed record stored
  pub stored : (cols : Columns) (i status until : ℕ) (mark : List ℕ) → get_or cols.keys i 0 ≡ own →
      (status ≡ (changed paired clock by (key_from own) ps (own_at cols i)).status)
      × (until ≡ (changed paired clock by (key_from own) ps (own_at cols i)).until) →
      (mark ≡ with_until (get_or cols.marks i []) until) × (get_or mark 2 0 ≡ until) →
      ChangedAt paired clock by own ps i cols (set cols.statuses i status) (set cols.marks i mark)
  stored cols i status until mark e f g =
      record {
        new_statuses = rw e (ap (set cols.statuses i) f.0);
        new_marks = rw e (ap (set cols.marks i) (g.0 ∙ ap (with_until (get_or cols.marks i [])) f.1));
        here = λ h l.
            rw (get_or-set_same cols.statuses i status 0 h, get_or-set_same cols.marks i mark [] l, e) built;
      }
    where
      first : (j : ℕ) → (j ≡ 2 → ⊥) → get_or mark j 0 ≡ get_or (get_or cols.marks i []) j 0
      first j ne = ap (λ m. get_or m j 0) g.0 ∙ get_or-set_other (get_or cols.marks i []) 2 j until 0 ne

      built : rec_of (get_or cols.ids i 0) status own mark (get_or cols.rows i [])
          ≡ changed paired clock by (key_from own) ps (own_at cols i)
      built =
          rw (first 0 (λ e. omega arith), first 1 (λ e. omega arith), g.1)
          (ap₂ (λ s u. with_status s u (own_at cols i)) f.0 f.1
          ∙ changed_is paired clock by (key_from own) ps (own_at cols i))

  module _ (cols : Columns) (i : ℕ) where
    -- a record of another key is left as it is
    not_changed : is_under cols.keys own i ≡ false → record_in cols i ≡ made_of paired clock by own ps cols i
    not_changed ne =
        sym (other_key clock by (key_from own) ps (record_in cols i) paired (key_same (get_or cols.keys i 0) own ∙ ne))

    -- and so are its status and its mark
    same_status : is_under cols.keys own i ≡ false →
        (made_of paired clock by own ps cols i).status ≡ get_or cols.statuses i 0
    same_status ne = sym (ap (λ r. r.status) (not_changed ne))

    same_mark : is_under cols.keys own i ≡ false →
        with_until (get_or cols.marks i []) (made_of paired clock by own ps cols i).until ≡ get_or cols.marks i []
    same_mark ne =
        ap (with_until (get_or cols.marks i [])) (sym (ap (λ r. r.until) (not_changed ne)))
        ∙ set-get_or (get_or cols.marks i []) 2 0

    pub left_alone : (get_or cols.keys i 0 ≡ own → ⊥) →
        ChangedAt paired clock by own ps i cols cols.statuses cols.marks
    left_alone ne =
        let u = ne_eqb (get_or cols.keys i 0) own ne in
        record {
          new_statuses = sym (ap (set cols.statuses i) (same_status u) ∙ set-get_or cols.statuses i 0);
          new_marks = sym (ap (set cols.marks i) (same_mark u) ∙ set-get_or cols.marks i []);
          here = λ h l. not_changed u;
        }

  pub changed_none : (cols : Columns) → Changed paired clock by own ps 0 cols cols.statuses cols.marks
  unfolding put_to
  changed_none cols = record { new_statuses = refl; new_marks = refl; below = λ i h. absurd (omega arith) }

  -- record i and those past it, where those below i are changed
  module _ (cols : Columns) (i : ℕ) (next : List ℕ) (after : List (List ℕ))
      (p : Changed paired clock by own ps i cols next after) where
    abbrev is : Columns
    is = with_changes cols next after

    still_status : get_or next i 0 ≡ get_or cols.statuses i 0
    still_status = ap (λ l. get_or l i 0) p.new_statuses ∙ put_past _ cols.statuses i i 0 (omega arith)

    still_mark : get_or after i [] ≡ get_or cols.marks i []
    still_mark = ap (λ l. get_or l i []) p.new_marks ∙ put_past _ cols.marks i i [] (omega arith)

    still : record_in is i ≡ record_in cols i
    still =
        ap₂ (λ m s. rec_of (get_or cols.ids i 0) s (get_or cols.keys i 0) m (get_or cols.rows i []))
        still_mark still_status

    -- one record more, of another key
    pub changed_same : is_under cols.keys own i ≡ false → Changed paired clock by own ps (i + 1) cols next after
    changed_same ne =
        record {
          new_statuses = put_same _ cols.statuses i next 0 p.new_statuses (same_status cols i ne);
          new_marks = put_same _ cols.marks i after [] p.new_marks (same_mark cols i ne);
          below = λ j k. go j k (ℕ_discrete j i);
        }
      where
        go : (j : ℕ) → j < i + 1 → Dec (j ≡ i) → record_in is j ≡ made_of paired clock by own ps cols j
        go j k (yes e) = rw e (still ∙ not_changed cols i ne)
        go j k (no e) = p.below j (omega arith)

    -- one record more, changed
    pub changed_more : (later : List ℕ) (then : List (List ℕ)) →
        i < length cols.statuses → i < length cols.marks →
        ChangedAt paired clock by own ps i is later then → Changed paired clock by own ps (i + 1) cols later then
    changed_more later then h l c =
        record {
          new_statuses =
              put_more _ cols.statuses i next later p.new_statuses
              (c.new_statuses ∙ ap (λ r. set next i (changed paired clock by (key_from own) ps r).status) still);
          new_marks =
              put_more _ cols.marks i after then p.new_marks
              (c.new_marks
              ∙ ap₂ (λ m r. set after i (with_until m (changed paired clock by (key_from own) ps r).until)) still_mark still);
          below = λ j k. go j k (ℕ_discrete j i);
        }
      where
        longer : i < length next
        longer = rw (p.new_statuses, put_length _ cols.statuses i) h

        longer_marks : i < length after
        longer_marks = rw (p.new_marks, put_length _ cols.marks i) l

        other : (j : ℕ) → (j ≡ i → ⊥) → record_in (with_changes cols later then) j ≡ record_in is j
        other j ne =
            ap₂ (λ m s. rec_of (get_or cols.ids j 0) s (get_or cols.keys j 0) m (get_or cols.rows j []))
            (ap (λ l. get_or l j []) c.new_marks ∙ get_or-set_other after i j _ [] ne)
            (ap (λ l. get_or l j 0) c.new_statuses ∙ get_or-set_other next i j _ 0 ne)

        go : (j : ℕ) → j < i + 1 → Dec (j ≡ i) →
            record_in (with_changes cols later then) j ≡ made_of paired clock by own ps cols j
        go j k (yes e) = rw e (c.here longer longer_marks ∙ ap (changed paired clock by (key_from own) ps) still)
        go j k (no e) = other j e ∙ p.below j (omega arith)

  -- the listed record after those passed
  pub changed_listed : (cols : Columns) (n count j i : ℕ) (places next later : List ℕ) (after then : List (List ℕ)) →
      PlacesOf (is_under cols.keys own) n count places → j < count → i ≡ get_or places j 0 →
      i < length cols.statuses → i < length cols.marks →
      Changed paired clock by own ps (reached places j) cols next after →
      ChangedAt paired clock by own ps i (with_changes cols next after) later then →
      Changed paired clock by own ps (reached places (j + 1)) cols later then
  changed_listed cols n count j i places next later after then l h e a b p c =
      let before = listed_next (is_under cols.keys own) n count places l
      (λ k. Changed paired clock by own ps k cols next after) (λ k t q. changed_same cols k next after q t) j h p in
      let to : i + 1 ≡ reached places (j + 1) = ap (λ k. k + 1) e ∙ sym (reached_more places j) in
      subst (λ m. Changed paired clock by own ps m cols later then) to
      (changed_more cols i next after (subst (λ m. Changed paired clock by own ps m cols next after) (sym e) before)
      later then a b c)
