-- Laws of the records' table: one record more stands first in the ledger's list of records.
use mathlib.Core.Path.{◌≡◌, ap, ap₂}
use mathlib.Core.List.{List, [], ◌∷◌}
use Prim.Native.Nat.{ℕ, suc, ◌+◌, min, ◌≤◌, ◌<◌}
use native.Mathlib.Omega.{arith}
use lib.ListN.{length, set}
use lib.Seq.{get_or-set_same, get_or-set_other}
use Rattle.ledger.specs.Ledger.{record_places}
use Rattle.tables.specs.Tables.{Columns, columns, down_from, rec_of, record_in, records_in}
use Rattle.tables.proofs.Down.{down_length, down_same}

pub records_length : (n : ℕ) (cols : Columns) → length (records_in n cols) ≡ min n 256
unfolding records_in
records_length n cols = down_length (record_in cols) (min n record_places)

-- records that have a place are all held
pub records_held : (n : ℕ) (cols : Columns) → n ≤ 256 → records_in n cols ≡ down_from (record_in cols) n
unfolding records_in
records_held n cols h = let e : min n 256 ≡ n = omega arith in ap (down_from (record_in cols)) e

-- one record stored at place n of each column
module _ (cols : Columns) (n id status key : ℕ) (mark row : List ℕ) where
  abbrev pub record_stored : Columns
  record_stored =
      columns (set cols.statuses n status) (set cols.ids n id) (set cols.keys n key) (set cols.marks n mark)
      (set cols.rows n row)

  -- those below it are what they were
  stored_below : (i : ℕ) → i < n → record_in record_stored i ≡ record_in cols i
  stored_below i h =
      let ne : i ≡ n → ⊥ = λ e. omega arith in
      rw (
        get_or-set_other cols.statuses n i status 0 ne,
        get_or-set_other cols.ids n i id 0 ne,
        get_or-set_other cols.keys n i key 0 ne,
        get_or-set_other cols.marks n i mark [] ne,
        get_or-set_other cols.rows n i row [] ne,
      )

  stored_rest : down_from (record_in record_stored) n ≡ down_from (record_in cols) n
  stored_rest = down_same (record_in record_stored) (record_in cols) n stored_below

  -- it is what was stored
  stored_last : n < length cols.statuses → n < length cols.ids → n < length cols.keys →
      n < length cols.marks → n < length cols.rows → record_in record_stored n ≡ rec_of id status key mark row
  stored_last h₁ h₂ h₃ h₄ h₅ =
      rw (
        get_or-set_same cols.statuses n status 0 h₁,
        get_or-set_same cols.ids n id 0 h₂,
        get_or-set_same cols.keys n key 0 h₃,
        get_or-set_same cols.marks n mark [] h₄,
        get_or-set_same cols.rows n row [] h₅,
      )

  -- and it stands first
  pub record_more : n < 256 → length cols.statuses ≡ 256 → length cols.ids ≡ 256 → length cols.keys ≡ 256 →
      length cols.marks ≡ 256 → length cols.rows ≡ 256 →
      records_in (n + 1) record_stored ≡ rec_of id status key mark row ∷ records_in n cols
  unfolding records_in
  record_more h ls li lk lm lr =
      let m : min (n + 1) 256 ≡ suc n = omega arith in
      let o : min n 256 ≡ n = omega arith in
      rw (m, o)
      (ap₂ ◌∷◌ (stored_last (omega arith) (omega arith) (omega arith) (omega arith) (omega arith)) stored_rest)
