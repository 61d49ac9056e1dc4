-- What the functions that search and pass over the tables say of their results; they stand between code and contract.
use Rattle.std.specs.Prelude.{◌≡◌, Bool, false, cond, List, [], ℕ, zero, suc, ◌+◌, ◌*◌, ◌/◌, ◌<◌, ◌≤◌, min, eqb, ltb, get_or, replicate, Option, Some, None}
use Rattle.notification.specs.Forms.{places}
use Rattle.ledger.specs.Ledger.{load_places}

-- the last number below n that passes a test
unfoldable pub last_below : (ℕ → Bool) → ℕ → Option ℕ
last_below p zero = None
last_below p (suc n) = cond (p n) (Some n) (last_below p n)

-- which of the n numbers from i on pass a test, a bit each and the first lowest
unfoldable pub bits_from : (ℕ → Bool) → ℕ → ℕ → ℕ
bits_from p i zero = 0
bits_from p i (suc n) = cond (p i) 1 0 + 2 * bits_from p (suc i) n

-- ---- a list of places, the lowest first

-- how far the first j places of a list go
abbrev pub reached : List ℕ → ℕ → ℕ
reached ps zero = 0
reached ps (suc j) = suc (get_or ps j 0)

-- the numbers below n that are not among the first places of a list all fail a test
pub record PlacesOf (test : ℕ → Bool) (n count : ℕ) (places : List ℕ) : Type 0 where
  pub few : count ≤ n
  pub up : (j : ℕ) → j < count → reached places j ≤ get_or places j 0
  pub below : (j : ℕ) → j < count → get_or places j 0 < n
  pub between : (j i : ℕ) → j < count → reached places j ≤ i → i < get_or places j 0 → test i ≡ false
  pub after : (i : ℕ) → reached places count ≤ i → i < n → test i ≡ false

-- ---- loads and records

-- the newest of n loads with a number, its row and its approved power
unfoldable pub last_load : List ℕ → ℕ → ℕ → Option ℕ
last_load keys n number = last_below (λ i. eqb (get_or keys i 0) number) (min n load_places)

unfoldable pub load_row : List (List ℕ) → Option ℕ → List ℕ
load_row rows (Some i) = cond (ltb i load_places) (get_or rows i []) (replicate places 0)
load_row rows None = replicate places 0

unfoldable pub load_most : List ℕ → Option ℕ → ℕ
load_most approved (Some i) = cond (ltb i load_places) (get_or approved i 0) 0
load_most approved None = 0

-- record i is of the category and day that a market's number stands for
abbrev pub in_market : List ℕ → ℕ → ℕ → Bool
in_market keys market i = eqb (get_or keys i 0 / 64) market

-- record i is under the key of a number
abbrev pub is_under : List ℕ → ℕ → ℕ → Bool
is_under keys number i = eqb (get_or keys i 0) number
