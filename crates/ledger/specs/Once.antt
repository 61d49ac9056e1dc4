-- A HISTORY'S ORDER, AND EACH ID ONCE: what is claimed of every history (document 01, "The ledger", "Calls": "the ids of all such
-- records .., each once"; document 02, K1: "by day, earliest first, and within a day by id, lowest first. Each id still comes once").
use Rattle.std.specs.Prelude.{◌≡◌, Bool, true, not, ◌&&◌, List, [], ◌∷◌, reverse, ℕ, leb, ltb, eqb, length}
use Rattle.lists.specs.Searches.{some}
use Rattle.lists.specs.Orders.{kept, never_falls}
use Rattle.ledger.specs.Ledger.{Rec, fresh}
use Rattle.ledger.specs.Call.{Call}
use Rattle.ledger.specs.Asking.{party, in_order, history_of}
use Rattle.ledger.specs.Whole.{after}

-- records of a day, and those of them with an id
abbrev pub on_day : ℕ → Rec → Bool
on_day d r = eqb r.key.day d

abbrev pub alike : ℕ → ℕ → Rec → Bool
alike d i r = on_day d r && eqb r.id i

-- WHAT IS CLAIMED OF EVERY LEDGER, also of one that no list of calls reaches: days never fall along a history; within a day ids never
-- fall, and so rise where they differ; of every kind of record it has as many as the actor has; records alike in day and id keep the
-- order in which they were made (the ledger has the newest first). proofs/History.antt shows it
pub record InOrder (a : ℕ) (rs : List Rec) : Type 0 where
  pub days : never_falls (λ r. r.key.day) (in_order a rs) ≡ true
  pub ids : (d : ℕ) → never_falls (λ r. r.id) (kept (on_day d) (in_order a rs)) ≡ true
  pub all : (kind : Rec → Bool) → length (kept kind (in_order a rs)) ≡ length (kept kind (kept (party a) rs))
  pub made : (d i : ℕ) → kept (alike d i) (in_order a rs) ≡ reverse (kept (alike d i) (kept (party a) rs))

-- numbers from 1 to a last one, none of them twice
unfoldable pub once_up_to : ℕ → List ℕ → Bool
once_up_to last [] = true
once_up_to last (i ∷ is) = ltb 0 i && (leb i last && (not (some (eqb i) is) && once_up_to last is))

-- WHAT IS CLAIMED OF EVERY LIST: a history's ids are from 1 to the number of records, each once; proofs/Once.antt shows it
abbrev pub EachOnce : List Call → List ℕ → Type 0
EachOnce cs actor = once_up_to (length (after fresh cs).records) (history_of (after fresh cs) actor) ≡ true
