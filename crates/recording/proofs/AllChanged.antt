-- Whatever the records and the filing, there are statuses and marks in which each record is changed as the filing changes
-- it: they are made record by record, from the first on.
use mathlib.Core.Path.{◌≡◌, refl, ◌∙◌, ap}
use mathlib.Core.Bool.{Bool, false}
use mathlib.Core.List.{List, []}
use Prim.Native.Nat.{ℕ, zero, suc, ◌+◌, ◌≤◌, ◌<◌}
use native.Mathlib.Omega.{arith}
use native.Mathlib.Numerals.{add-one}
use native.Mathlib.Decide.{ℕ_discrete}
use lib.ListN.{length, get_or, set, length-set}
use lib.Seq.{get_or-set_same, get_or-set_other}
use borrow.Author.Tests.{eqb-true}
use Rattle.lists.proofs.Tests.{by_test}
use Rattle.calendar.specs.declared.clock.Clock.{Clock}
use Rattle.ledger.specs.Ledger.{Rec}
use Rattle.ledger.specs.Filing.{changed}
use Rattle.tables.specs.Tables.{Columns, key_from, rec_of}
use Rattle.tables.specs.Passing.{is_under}
use Rattle.tables.specs.More.{with_until}
use Rattle.recording.specs.Recording.{with_changes, Changed}
use Rattle.recording.proofs.Puts.{put_length}
use Rattle.recording.proofs.Changes.{changed_none, changed_same, changed_more, stored}

module _ (paired : Bool) (clock : Clock) (by own : ℕ) (ps : List ℕ) (cols : Columns) where
  -- statuses and marks in which the first n records are changed, each mark as long as it was
  pub record Made (n : ℕ) : Type 0 where
    pub next : List ℕ
    pub after : List (List ℕ)
    pub changes : Changed paired clock by own ps n cols next after
    pub wide : (i : ℕ) → length (get_or after i []) ≡ length (get_or cols.marks i [])

  module _ (marked : (i : ℕ) → i < length cols.marks → 2 < length (get_or cols.marks i [])) where
    module _ (n : ℕ) (hs : n < length cols.statuses) (hm : n < length cols.marks) (m : Made n) where
      -- the next record is under the key
      under : get_or cols.keys n 0 ≡ own → Made (suc n)
      under e =
          record {
            next = set m.next n new.status;
            after = set m.after n mark;
            changes = rw add-one at more;
            wide = λ i. at i (ℕ_discrete i n);
          }
        where
          lm : length m.after ≡ length cols.marks
          lm = ap length m.changes.new_marks ∙ put_length _ cols.marks n

          new : Rec
          new =
              changed paired clock by (key_from own) ps
              (rec_of (get_or cols.ids n 0) (get_or m.next n 0) own (get_or m.after n []) (get_or cols.rows n []))

          mark : List ℕ
          mark = with_until (get_or m.after n []) new.until

          more : Changed paired clock by own ps (n + 1) cols (set m.next n new.status) (set m.after n mark)
          more =
              changed_more paired clock by own ps cols n m.next m.after m.changes
              (set m.next n new.status) (set m.after n mark) hs hm
              (stored paired clock by own ps (with_changes cols m.next m.after) n new.status new.until mark e
              (refl, refl)
              (refl, get_or-set_same (get_or m.after n []) 2 new.until 0 (omega (arith, m.wide n, marked n hm))))

          at : (i : ℕ) → Dec (i ≡ n) → length (get_or (set m.after n mark) i []) ≡ length (get_or cols.marks i [])
          at i (yes e) =
              rw e
              (ap length (get_or-set_same m.after n mark [] (omega (arith, lm)))
              ∙ length-set (get_or m.after n []) 2 new.until
              ∙ m.wide n)
          at i (no e) = ap length (get_or-set_other m.after n i mark [] e) ∙ m.wide i

      -- it is under another key
      other : is_under cols.keys own n ≡ false → Made (suc n)
      other e =
          record {
            next = m.next;
            after = m.after;
            changes = rw add-one at (changed_same paired clock by own ps cols n m.next m.after m.changes e);
            wide = m.wide;
          }

    pub all_made : (n : ℕ) → n ≤ length cols.statuses → n ≤ length cols.marks → Made n
    all_made zero hs hm =
        record {
          next = cols.statuses;
          after = cols.marks;
          changes = changed_none paired clock by own ps cols;
          wide = λ i. refl;
        }
    all_made (suc n) hs hm =
        let m = all_made n (omega arith) (omega arith) in
        by_test (is_under cols.keys own n)
        (λ t. under n hs hm m (eqb-true (get_or cols.keys n 0) own t))
        (other n hs hm m)
