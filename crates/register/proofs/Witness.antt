-- What the theorems speak of happens: the list of calls of the ledger's own witness (crates/ledger/proofs/Witness.antt), with an exchange in
-- it, run on lent columns of zeros. Each call is accepted, and the engagement call answers 20 and 40 MW where 60 and 0 are loaded.
use Rattle.std.specs.Prelude.{Ok, Result}
use Rattle.refusals.specs.declared.Refusal.{Refusal}
use mathlib.Core.Path.{◌≡◌, ◌∙◌, ap}
use mathlib.Core.List.{List, [], ◌∷◌}
use Prim.Native.Nat.{ℕ}
use lib.ListN.{replicate, length, length-replicate, get_or-replicate}
use Rattle.ledger.specs.Statuses.{created, validated}
use Rattle.ledger.specs.declared.Answer.TheVariants.{Moved, Held, Filed}
use Rattle.ledger.proofs.Examples.{first, second, category, plain_day}
use Rattle.ledger.proofs.Witness.{calls, told, reached, pair, met}
use Rattle.ledger.proofs.Whole.{demand3}
use Rattle.tables.specs.Tables.{Columns, LoadColumns, columns, load_columns}
use Rattle.register.proofs.Runs.{Engages}
use Rattle.register.proofs.Demand2.{Demand2, demand2_of_calls}
use Rattle.register.proofs.RunsExist.{Exists, every_list_runs}
use Rattle.register.proofs.Sized.{RecordsSized, LoadsSized}

abbrev pub zeros : Columns
zeros = columns (replicate 256 0) (replicate 256 0) (replicate 256 0) (replicate 256 (replicate 4 0)) (replicate 256 (replicate 50 0))

abbrev pub no_loads : LoadColumns
no_loads = load_columns (replicate 64 0) (replicate 64 0) (replicate 64 (replicate 50 0))

pub zeros_sized : RecordsSized zeros
zeros_sized =
    record {
      statuses = length-replicate {A = ℕ} 256 0;
      ids = length-replicate {A = ℕ} 256 0;
      keys = length-replicate {A = ℕ} 256 0;
      marks = length-replicate {A = List ℕ} 256 (replicate 4 0);
      rows = length-replicate {A = List ℕ} 256 (replicate 50 0);
      marked = λ i h. ap length (get_or-replicate {A = List ℕ} 256 i (replicate 4 0) [] h);
    }

pub loads_sized : LoadsSized no_loads
loads_sized =
    record {
      keys = length-replicate {A = ℕ} 64 0;
      approved = length-replicate {A = ℕ} 64 0;
      rows = length-replicate {A = List ℕ} 64 (replicate 50 0);
    }

pub ran : Exists zeros no_loads calls
ran = every_list_runs zeros no_loads zeros_sized loads_sized calls

answers : Demand2 calls ran.run.answers ran.run.register
answers = demand2_of_calls ran.start ran.begun zeros no_loads calls ran.run.answers ran.run.register ran.run.ran

-- every call of the list is accepted, and the second filing is validated
pub accepted : ran.run.answers ≡
    Ok (Held 1) ∷ Ok (Held 1) ∷ Ok (Held 1) ∷ Ok (Held 2) ∷ Ok (Held 2) ∷ Ok (Held 3) ∷ Ok (Filed 1 created 0) ∷ Ok (Filed 2 validated 0) ∷ Ok Moved
    ∷ Ok (Filed 3 created 33) ∷ []
accepted = answers.answered ∙ met.accepted

-- ceder and acquirer after it
pub engaged : (y z : Result ℕ Refusal) → Engages ran.run.register first category plain_day 20 y → Engages ran.run.register second category plain_day 20 z →
    (y ≡ Ok 20) × (z ≡ Ok 40)
unfolding told reached pair
engaged y z p q = (
  answers.engagement first category plain_day 20 y p ∙ (demand3 calls).answered first category plain_day 20 met.asked ∙ ap (λ x. Ok x.0) met.engaged,
  answers.engagement second category plain_day 20 z q ∙ (demand3 calls).answered second category plain_day 20 met.asked_other ∙ ap (λ x. Ok x.1) met.engaged,
)
