-- What the register's own sums mean, step by step.
use Rattle.std.specs.Prelude.{◌≡◌, ℕ, ◌+◌, ◌*◌, ◌/◌, ◌%◌, ◌<◌, ◌≤◌, Bool, cond, not, ◌&&◌, ◌||◌, List, [], length, ◌==◌, nat_eq, nat_le, nat_lt, slice_index, slice_index_or}
use Rattle.lists.specs.Sums.{sum_to}
use Rattle.ledger.specs.Statuses.{validated, updated}
use Rattle.tables.specs.Tables.{Columns}
use Rattle.tables.specs.Passing.{is_under, PlacesOf}
use Rattle.judging.specs.declared.nets.Nets.{Nets}

-- what nets are counted from
abbrev pub base : ℕ
base = 16777216

-- what no net is above: a loaded power and one more from each of 256 records
abbrev pub most : ℕ
most = base + 257 * 65535

-- fifty numbers, each from a least to a most
pub record Between (net : List ℕ) (least most : ℕ) : Type 0 where
  pub fifty : length net ≡ 50
  pub low : (s : ℕ) → s < 50 → least ≤ slice_index net s
  pub high : (s : ℕ) → s < 50 → slice_index net s ≤ most

-- a row counted from the base
pub record Based (row net : List ℕ) : Type 0 where
  pub between : Between net base (base + 65535)
  pub each : (s : ℕ) → s < 50 → slice_index net s ≡ base + slice_index row s

-- the power of a marked row at a step, where the step is in the mark's span
abbrev pub spanned : List ℕ → List ℕ → ℕ → ℕ
spanned mark row s = cond (nat_le (slice_index mark 1) s && nat_lt s (slice_index mark 2)) (slice_index row s) 0

-- a net with a marked row gained or given at the steps from first to before until
pub record Applied (net : List ℕ) (gains gives : Bool) (mark row : List ℕ) (first until : ℕ) (r : List ℕ) : Type 0 where
  pub fifty : length r ≡ 50
  pub each : (s : ℕ) → first ≤ s → s < until →
      slice_index r s + cond gives (spanned mark row s) 0 ≡ slice_index net s + cond gains (spanned mark row s) 0
  pub low : (s : ℕ) → s < 50 → slice_index net s ≤ slice_index r s + 65535
  pub high : (s : ℕ) → s < 50 → slice_index r s ≤ slice_index net s + 65535

-- a net with a whole row gained or given
pub record Moved (net : List ℕ) (gains : Bool) (row r : List ℕ) : Type 0 where
  pub fifty : length r ≡ 50
  pub each : (s : ℕ) → s < 50 → slice_index r s + cond gains 0 (slice_index row s) ≡ slice_index net s + cond gains (slice_index row s) 0
  pub small : (s : ℕ) → s < 50 → slice_index row s ≤ 65535

-- a record that moves power, with one of two actors as a party
abbrev pub moves_for : ℕ → ℕ → ℕ → ℕ → Bool
moves_for key status ceder acquirer =
    (status == validated || status == updated)
    && (key / 8 % 8 == ceder || key / 8 % 8 == acquirer || (key % 8 == ceder || key % 8 == acquirer))

-- the same under another key of the same category and day
abbrev pub concerns : ℕ → ℕ → ℕ → ℕ → ℕ → Bool
concerns key status own ceder acquirer =
    (key / 64 == own / 64) && not (key == own) && moves_for key status ceder acquirer

-- what record i moves at step s where it concerns the filing, and is of a kind
abbrev pub part : Columns → ℕ → (ℕ → Bool) → ℕ → ℕ → ℕ
part cols own kind s i =
    cond
    (concerns (slice_index cols.keys i) (slice_index cols.statuses i) own (own / 8 % 8) (own % 8)
    && kind (slice_index cols.keys i))
    (spanned (slice_index_or cols.marks i []) (slice_index_or cols.rows i []) s)
    0

-- the nets after the first n records
pub record Netted (cols : Columns) (n own : ℕ) (start : Nets) (first until : ℕ) (r : Nets) : Type 0 where
  pub ceder : (s : ℕ) → first ≤ s → s < until →
      slice_index r.ceder s + sum_to n (part cols own (λ k. nat_eq (k / 8 % 8) (own / 8 % 8)) s)
      ≡ slice_index start.ceder s + sum_to n (part cols own (λ k. nat_eq (k % 8) (own / 8 % 8)) s)
  pub acquirer : (s : ℕ) → first ≤ s → s < until →
      slice_index r.acquirer s + sum_to n (part cols own (λ k. nat_eq (k / 8 % 8) (own % 8)) s)
      ≡ slice_index start.acquirer s + sum_to n (part cols own (λ k. nat_eq (k % 8) (own % 8)) s)
  pub ceder_high : (s : ℕ) → s < 50 → slice_index r.ceder s ≤ most
  pub acquirer_high : (s : ℕ) → s < 50 → slice_index r.acquirer s ≤ most

-- what an actor's records of a kind move, of those that concern the filing
abbrev pub gifts : Columns → ℕ → ℕ → ℕ → ℕ → ℕ
gifts cols own who s i = part cols own (λ k. nat_eq (k / 8 % 8) who) s i

abbrev pub gains : Columns → ℕ → ℕ → ℕ → ℕ → ℕ
gains cols own who s i = part cols own (λ k. nat_eq (k % 8) who) s i

-- an actor's net after i records
pub record Netting (cols : Columns) (own who : ℕ) (start : List ℕ) (first until i : ℕ) (net : List ℕ) : Type 0 where
  pub fifty : length net ≡ 50
  pub each : (s : ℕ) → first ≤ s → s < until →
      slice_index net s + sum_to i (gifts cols own who s) ≡ slice_index start s + sum_to i (gains cols own who s)
  pub low : (s : ℕ) → s < 50 → base ≤ slice_index net s + i * 65535
  pub high : (s : ℕ) → s < 50 → slice_index net s ≤ base + (i + 1) * 65535

-- both nets while the records are passed, and the places of those under the filing's own key
pub record Passing : Type 0 where
  pub ceder : List ℕ
  pub acquirer : List ℕ
  pub places : List ℕ
  pub count : ℕ

-- record i is passed
pub record PassedOne (cols : Columns) (own first until i : ℕ) (was is : Passing) : Type 0 where
  pub ceder : (start : List ℕ) → Netting cols own (own / 8 % 8) start first until i was.ceder →
      Netting cols own (own / 8 % 8) start first until (i + 1) is.ceder
  pub acquirer : (start : List ℕ) → Netting cols own (own % 8) start first until i was.acquirer →
      Netting cols own (own % 8) start first until (i + 1) is.acquirer
  pub places : PlacesOf (is_under cols.keys own) i was.count was.places →
      PlacesOf (is_under cols.keys own) (i + 1) is.count is.places
  pub long : length is.places ≡ length was.places
