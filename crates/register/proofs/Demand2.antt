-- EVERY OTHER CALL, OF THE CODE (demand 2: "each other call the result or refusal of the tables"): after every list of calls from a fresh
-- register, engagement, record and history answer what the ledger gives for the list's calls alone, the lent buffer included.
use Rattle.std.specs.Prelude.{Result}
use Rattle.refusals.specs.declared.Refusal.{Refusal}
use mathlib.Core.Path.{◌≡◌, ◌∙◌, ap}
use mathlib.Core.List.{List}
use Prim.Native.Nat.{ℕ}
use lib.ListN.{length}
use Rattle.ledger.specs.Ledger.{fresh}
use Rattle.ledger.specs.Call.{Answered, Call}
use Rattle.ledger.specs.Asking.{ask_engagement, ask_record, ask_history, history_in}
use Rattle.ledger.specs.Whole.{after, answers_to}
use Rattle.ledger.specs.declared.Shown.{Shown}
use Rattle.tables.specs.Tables.{Columns, LoadColumns}
use Rattle.register.specs.View.{Register, lent}
use Rattle.register.specs.declared.Fresh.{Fresh}
use Rattle.register.proofs.Runs.{Begun, Ran, Engages, Shows, Lists, begun_is, ran_after, engages_is, shows_is, lists_is}

-- DEMAND 2 OF THE CALLS: of a list of calls, their answers and the register after them
pub record Demand2 (cs : List Call) (ys : List Answered) (t : Register) : Type 1 where
  -- each call of the list gets the ledger's verdict: an answer, or its refusal
  pub answered : ys ≡ answers_to fresh cs
  -- an actor's own engagement at a step
  pub engagement : (actor category : List ℕ) (day s : ℕ) (y : Result ℕ Refusal) → Engages t actor category day s y →
      y ≡ ask_engagement (after fresh cs) actor category day s
  -- a record by id
  pub record_of : (asker : List ℕ) (id : ℕ) (y : Result Shown Refusal) → Shows t asker id y → y ≡ ask_record (after fresh cs) asker id
  -- an actor's history: how many, and the lent buffer afterwards
  pub history : (actor before later : List ℕ) (y : Result ℕ Refusal) → Lists t actor before y later →
      (y ≡ ask_history (after fresh cs) actor (length before)) × (later ≡ history_in (after fresh cs) actor before)

-- THE THEOREM, OF EVERY LIST OF CALLS FROM A FRESH REGISTER, whatever its lent columns hold
pub demand2_of_calls : (start : Fresh) → Begun start → (cols : Columns) (ls : LoadColumns) (cs : List Call) (ys : List Answered) (t : Register) →
    Ran (lent start.head cols ls) cs ys t → Demand2 cs ys t
demand2_of_calls start fresh-one cols ls cs ys t run =
    let p = ran_after run fresh ((begun_is fresh-one).1 cols ls) in
    record {
      answered = p.1;
      engagement = λ actor category day s y q. engages_is q ∙ ap (λ l. ask_engagement l actor category day s) p.0;
      record_of = λ asker id y q. shows_is q ∙ ap (λ l. ask_record l asker id) p.0;
      history = λ actor before later y q.
          let e = lists_is q in
          (e.0 ∙ ap (λ l. ask_history l actor (length before)) p.0, e.1 ∙ ap (λ l. history_in l actor before) p.0);
    }
