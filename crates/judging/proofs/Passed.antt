-- One record passed that is applied to the nets of ceder and acquirer. And all records up to the next of the filing's
-- category and day.
use Rattle.std.proofs.Common.{◌≡◌, ℕ, ◌+◌, ◌/◌, ◌%◌, ◌<◌, ◌≤◌, Bool, true, false, eqb, List, [], get_or, refl, subst, arith}
use Rattle.tables.specs.Tables.{Columns, columns}
use Rattle.tables.specs.Passing.{in_market, is_under, PlacesOf}
use Rattle.tables.proofs.Fours.{Next}
use Rattle.tables.proofs.Listing.{listed_skip}
use Rattle.judging.specs.Nets.{Between, Applied, moves_for, concerns, Netted, Netting, Passing, PassedOne}
use Rattle.judging.proofs.Netting.{netting_more, netting_between, netting_through, listed_through}

module _ (cols : Columns) (own first until i : ℕ) (ceder acquirer places : List ℕ) (count : ℕ) where
  abbrev key : ℕ
  key = get_or cols.keys i 0

  abbrev status : ℕ
  status = get_or cols.statuses i 0

  abbrev moves : Bool
  moves = moves_for (get_or cols.keys i 0) (get_or cols.statuses i 0) (own / 8 % 8) (own % 8)

  abbrev before : Passing
  before = record { ceder = ceder; acquirer = acquirer; places = places; count = count }

  pub passed_applied : in_market cols.keys (own / 64) i ≡ true → eqb key own ≡ false → moves ≡ true → (c a : List ℕ) →
      Applied ceder (eqb (key % 8) (own / 8 % 8)) (eqb (key / 8 % 8) (own / 8 % 8)) (get_or cols.marks i []) (get_or cols.rows i []) first until c →
      Applied acquirer (eqb (key % 8) (own % 8)) (eqb (key / 8 % 8) (own % 8)) (get_or cols.marks i []) (get_or cols.rows i []) first until a →
      PassedOne cols own first until i before (record { ceder = c; acquirer = a; places = places; count = count })
  passed_applied n e m c a tc ta =
      let z : concerns key status own (own / 8 % 8) (own % 8) ≡ true = rw (n, e, m) in
      record {
        ceder = λ start t. netting_more cols own (own / 8 % 8) start first until i ceder c z t tc;
        acquirer = λ start t. netting_more cols own (own % 8) start first until i acquirer a z t ta;
        places = λ l. listed_skip (is_under cols.keys own) i count places l e;
        long = refl;
      }

-- ---- the records passed so far

module _ (statuses keys : List ℕ) (marks rows : List (List ℕ)) (own first until : ℕ) (ceder acquirer : List ℕ) where
  -- the ids don't matter
  abbrev named : List ℕ → Columns
  named ids = columns statuses ids keys marks rows

  -- both nets, and the places of those under the key, once the records below i are passed
  pub record PassedTo (i : ℕ) (is : Passing) : Type 0 where
    pub ceder_net : (ids : List ℕ) → Netting (named ids) own (own / 8 % 8) ceder first until i is.ceder
    pub acquirer_net : (ids : List ℕ) → Netting (named ids) own (own % 8) acquirer first until i is.acquirer
    pub under : PlacesOf (is_under keys own) i is.count is.places

  -- all up to the next of the category and day
  pub passed_next : (i n k : ℕ) (is : Passing) → Next (in_market keys (own / 64)) i n k → PassedTo i is → PassedTo k is
  passed_next i n k is next p =
      record {
        ceder_net = λ ids.
            netting_through (named ids) own (own / 8 % 8) ceder first until i k is.ceder next.from next.before
            (p.ceder_net ids);
        acquirer_net = λ ids.
            netting_through (named ids) own (own % 8) acquirer first until i k is.acquirer next.from next.before
            (p.acquirer_net ids);
        under = listed_through keys own i k is.count is.places next.from next.before p.under;
      }

  -- that one
  pub passed_more : (i : ℕ) (was is : Passing) → ((ids : List ℕ) → PassedOne (named ids) own first until i was is) →
      PassedTo i was → PassedTo (i + 1) is
  passed_more i was is one p =
      record {
        ceder_net = λ ids. (one ids).ceder ceder (p.ceder_net ids);
        acquirer_net = λ ids. (one ids).acquirer acquirer (p.acquirer_net ids);
        under = (one []).places p.under;
      }

  -- the nets stay where one more record can be applied
  pub passed_between : (i : ℕ) (is : Passing) → i < 256 → PassedTo i is →
      Between is.ceder 65535 4294901760 × Between is.acquirer 65535 4294901760
  passed_between i is h p = (
    netting_between (named []) own (own / 8 % 8) ceder first until i is.ceder h (p.ceder_net []),
    netting_between (named []) own (own % 8) acquirer first until i is.acquirer h (p.acquirer_net []),
  )

  -- up to the last
  pub passed_all : (n k : ℕ) (is : Passing) → n ≤ 256 → k ≡ n → PassedTo k is →
      ((ids : List ℕ) →
      Netted (named ids) n own (record { ceder = ceder; acquirer = acquirer }) first until
      (record { ceder = is.ceder; acquirer = is.acquirer }))
      × PlacesOf (is_under keys own) n is.count is.places
  passed_all n k is h e so =
      let p = subst (λ m. PassedTo m is) e so in (
        (λ ids.
            record {
              ceder = (p.ceder_net ids).each;
              acquirer = (p.acquirer_net ids).each;
              ceder_high = λ s l. omega (arith, (p.ceder_net ids).high s l);
              acquirer_high = λ s l. omega (arith, (p.acquirer_net ids).high s l);
            }),
        p.under,
      )
