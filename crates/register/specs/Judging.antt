-- What judging a filing by places leaves to be known of it.
use Rattle.std.specs.Prelude.{Option}
use Rattle.std.specs.Prelude.{◌≡◌, List, ℕ, ◌<◌, min}
use Rattle.calendar.specs.Steps.{steps_of}
use Rattle.calendar.specs.Clocks.{first_counted}
use Rattle.notification.specs.declared.Notification.{Notification}
use Rattle.ledger.specs.Ledger.{Key, Ledger, record_places, actor_at}
use Rattle.ledger.specs.Calls.{file_at}
use Rattle.ledger.specs.Filing.{key_of}
use Rattle.tables.specs.Tables.{Columns, key_number}
use Rattle.tables.specs.Passing.{load_row, is_under, PlacesOf}
use Rattle.judging.specs.Nets.{Based, Netted}
use Rattle.judging.specs.declared.nets.Nets.{Nets}
use Rattle.register.specs.declared.Head.{Head}
use Rattle.register.specs.declared.verdicts.Places.{Places}
use Rattle.register.specs.View.{Register, held}
use Rattle.register.specs.Written.{Done, record_put}

-- the key of a filing's places
abbrev pub key_at : Places → Key
key_at at = record { ceder = at.ceder; acquirer = at.acquirer; category = at.category; day = at.day }

-- the places of a filing's actors and category
pub record Placed (l : Ledger) (submitter : List ℕ) (n : Notification) (at : Places) : Type 0 where
  pub key : key_at at ≡ key_of l n
  pub by : at.submitter ≡ actor_at l.actors submitter

-- what 20 to 30 leave for the sums: places in their ranges, two actors, a counted step
pub record Judgeable (h : Head) (at : Places) : Type 0 where
  pub ceder : at.ceder < 8
  pub acquirer : at.acquirer < 8
  pub submitter : at.submitter < 8
  pub category : at.category < 4
  pub day : at.day < 36525
  pub apart : at.ceder ≡ at.acquirer → ⊥
  pub counted : first_counted h.clock at.day < steps_of at.day

-- what 20 to 36 leave for the record: the same, and a free place
pub record Fileable (h : Head) (at : Places) : Type 0 where
  pub judgeable : Judgeable h at
  pub room : h.records < record_places

-- what ceder and acquirer have without the key's own power, by their loads' rows and the records
pub record NettedAt (h : Head) (cols : Columns) (rows : List (List ℕ)) (ceders acquirers : Option ℕ) (at : Places) (nets : Nets) : Type 0 where
  pub start : Nets
  pub ceder : Based (load_row rows ceders) start.ceder
  pub acquirer : Based (load_row rows acquirers) start.acquirer
  pub netted : Netted cols (min h.records record_places) (key_number at.ceder at.acquirer at.category at.day) start
      (first_counted h.clock at.day) (steps_of at.day) nets

-- the places of the records under a filing's key are listed
abbrev pub UnderListed : ℕ → Places → List ℕ → ℕ → List ℕ → Type 0
UnderListed n at keys count places =
    PlacesOf (is_under keys (key_number at.ceder at.acquirer at.category at.day)) (min n record_places) count places

-- what a filing that passes does, by its places, and the register that it leaves
abbrev pub files_at : Register → Key → ℕ → List ℕ → Done
files_at r k by ps = record { register = record_put r by k ps; outcome = file_at (held r) k by ps }
