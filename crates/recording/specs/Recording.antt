-- What the functions over records say of their results.
use Rattle.std.specs.Prelude.{◌≡◌, Bool, false, cond, ◌&&◌, ◌||◌, List, [], ℕ, zero, suc, ◌/◌, ◌%◌, ◌<◌, eqb, length, get_or, set}
use Rattle.calendar.specs.declared.clock.Clock.{Clock}
use Rattle.ledger.specs.Ledger.{Rec, moved_by}
use Rattle.ledger.specs.Filing.{answers, changed}
use Rattle.tables.specs.Tables.{Columns, columns, key_from, record_in}
use Rattle.tables.specs.More.{put_to, with_until}

-- some record below n is answered by a filing
unfoldable pub pairs_below : Columns → ℕ → ℕ → ℕ → List ℕ → Bool
pairs_below cols zero by own ps = false
pairs_below cols (suc n) by own ps = answers by (key_from own) ps (record_in cols n) || pairs_below cols n by own ps

-- what a filing makes of record i
abbrev pub made_of : Bool → Clock → ℕ → ℕ → List ℕ → Columns → ℕ → Rec
made_of paired clock by own ps cols i = changed paired clock by (key_from own) ps (record_in cols i)

-- the columns with other statuses and other marks
abbrev pub with_changes : Columns → List ℕ → List (List ℕ) → Columns
with_changes cols statuses marks = columns statuses cols.ids cols.keys marks cols.rows

-- record i has the status and the until-step that a filing gives it, and nothing else is written; where both lists have
-- it, it is changed as the filing changes it
pub record ChangedAt (paired : Bool) (clock : Clock) (by own : ℕ) (ps : List ℕ) (i : ℕ) (cols : Columns)
    (statuses : List ℕ) (marks : List (List ℕ)) : Type 0 where
  pub new_statuses : statuses ≡ set cols.statuses i (made_of paired clock by own ps cols i).status
  pub new_marks : marks
      ≡ set cols.marks i (with_until (get_or cols.marks i []) (made_of paired clock by own ps cols i).until)
  pub here : i < length cols.statuses → i < length cols.marks →
      record_in (with_changes cols statuses marks) i ≡ made_of paired clock by own ps cols i

-- each record below n has the status and the until-step that a filing gives it, and nothing else is written
pub record Changed (paired : Bool) (clock : Clock) (by own : ℕ) (ps : List ℕ) (n : ℕ) (cols : Columns)
    (statuses : List ℕ) (marks : List (List ℕ)) : Type 0 where
  pub new_statuses : statuses ≡ put_to (λ i. (made_of paired clock by own ps cols i).status) n cols.statuses
  pub new_marks : marks
      ≡ put_to (λ i. with_until (get_or cols.marks i []) (made_of paired clock by own ps cols i).until) n cols.marks
  pub below : (i : ℕ) → i < n → record_in (with_changes cols statuses marks) i ≡ made_of paired clock by own ps cols i

-- what a record of a category and day moves where an actor acquires, and where it cedes
abbrev pub gained_at : Columns → ℕ → ℕ → ℕ → ℕ → ℕ
gained_at cols market a s i =
    cond (eqb (get_or cols.keys i 0 / 64) market && eqb (get_or cols.keys i 0 % 8) a)
    (moved_by s (record_in cols i))
    0

abbrev pub given_at : Columns → ℕ → ℕ → ℕ → ℕ → ℕ
given_at cols market a s i =
    cond (eqb (get_or cols.keys i 0 / 64) market && eqb (get_or cols.keys i 0 / 8 % 8) a)
    (moved_by s (record_in cols i))
    0

-- an actor is ceder or acquirer of a key
abbrev pub party_in : ℕ → ℕ → Bool
party_in key a = eqb (key / 8 % 8) a || eqb (key % 8) a
