-- A history's order, computed on records written here (document 02, K1), the newest first. It is defined of any records: no list of calls
-- reaches those whose ids fall or come twice.
use mathlib.Core.Path.{◌≡◌, refl}
use mathlib.Core.List.{[], ◌∷◌}
use Prim.Native.Nat.{ℕ}
use Rattle.lists.specs.Orders.{kept, put_by, order_by}
use Rattle.ledger.specs.Statuses.{created, answered, deleted, validated, obsolete}
use Rattle.ledger.specs.Ledger.{Rec}
use Rattle.ledger.specs.Asking.{in_order, ids_of}

-- a record by its parties, day, id and status
abbrev between : ℕ → ℕ → ℕ → ℕ → ℕ → Rec
between ceder acquirer day id status =
    record {
      id = id;
      submitter = ceder;
      key = record { ceder = ceder; acquirer = acquirer; category = 0; day = day };
      status = status;
      from = 0;
      until = 48;
      powers = [];
    }

-- the exchanges of actor 1 with actor 2
abbrev own : ℕ → ℕ → ℕ → Rec
own day id status = between 1 2 day id status

pub record Histories : Type 0 where
  -- later days filed before earlier ones, several records on a day
  pub days : ids_of 1 (own 4 5 created ∷ own 3 4 created ∷ own 5 3 created ∷ own 3 2 created ∷ own 5 1 created ∷ []) ≡ 2 ∷ 4 ∷ 5 ∷ 1 ∷ 3 ∷ []
  -- ids that fall: the lower comes first, though it was made last
  pub falling : ids_of 1 (own 3 1 created ∷ own 3 2 created ∷ own 2 9 created ∷ []) ≡ 9 ∷ 1 ∷ 2 ∷ []
  -- alike in day and id: the order in which they were made
  pub twice : in_order 1 (own 3 7 validated ∷ own 2 9 created ∷ own 3 7 created ∷ []) ≡ own 2 9 created ∷ own 3 7 created ∷ own 3 7 validated ∷ []
  -- deleted and obsolete records are listed too
  pub statuses : ids_of 1 (own 3 4 deleted ∷ own 2 3 validated ∷ own 2 2 obsolete ∷ own 2 1 answered ∷ []) ≡ 1 ∷ 2 ∷ 3 ∷ 4 ∷ []
  -- as ceder or acquirer, and none of others
  pub parties : ids_of 1 (between 3 1 2 3 created ∷ between 2 3 2 2 created ∷ between 1 2 3 1 created ∷ []) ≡ 3 ∷ 1 ∷ []

pub histories : Histories
unfolding kept put_by order_by in_order ids_of
histories = record { days = refl; falling = refl; twice = refl; statuses = refl; parties = refl }
