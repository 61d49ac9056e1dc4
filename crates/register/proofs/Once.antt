-- EACH ID ONCE, OF THE CODE: after every list of calls from a fresh register, an accepted history call puts ids from 1 to the number of
-- records into the buffer, each once.
use Rattle.std.specs.Prelude.{Err, Ok}
use mathlib.Core.Path.{◌≡◌, ◌∙◌, ap}
use mathlib.Core.Bool.{true}
use mathlib.Core.List.{List, ◌++◌}
use native.Mathlib.Omega.{arith}
use Prim.Native.Nat.{ℕ}
use lib.ListN.{length, take, drop}
use lib.Seq.{take-append_seam}
use Rattle.refusals.specs.Tests.{first_met, decide, Verdict}
use Rattle.ledger.specs.Ledger.{Ledger, fresh}
use Rattle.ledger.specs.Call.{Answered, Call}
use Rattle.ledger.specs.Asking.{history_of, history_tests, ask_history, history_in}
use Rattle.ledger.specs.Once.{once_up_to}
use Rattle.ledger.proofs.Once.{each_once}
use Rattle.tables.specs.Tables.{Columns, LoadColumns}
use Rattle.register.specs.declared.Fresh.{Fresh}
use Rattle.register.specs.View.{Register, lent, held}
use Rattle.register.proofs.Runs.{Begun, Ran, Lists, begun_is, ran_after, lists_is}

-- an accepted call leaves the history at the beginning of the buffer
by_verdict : (v : Verdict) (ids before later : List ℕ) (n : ℕ) → Ok n ≡ decide v (Ok (length ids)) Err →
    later ≡ decide v (ids ++ drop (length ids) before) (λ r. before) → take n later ≡ ids
by_verdict (Ok u) ids before later n e f =
    let m : n ≡ length ids = cc in
    rw (f, m) (take-append_seam ids (drop (length ids) before))
by_verdict (Err r) ids before later n e f = let z : ◌≡◌ {A = ℕ} 0 1 = cc in absurd (omega arith)

listed : (l : Ledger) (actor before later : List ℕ) (n : ℕ) → Ok n ≡ ask_history l actor (length before) →
    later ≡ history_in l actor before → take n later ≡ history_of l actor
unfolding ask_history history_in
listed l actor before later n e f = by_verdict (first_met (history_tests l actor (length before))) (history_of l actor) before later n e f

-- THE THEOREM, OF EVERY LIST OF CALLS FROM A FRESH REGISTER, whatever its lent columns hold
pub each_once_of_calls : (start : Fresh) → Begun start → (cols : Columns) (ls : LoadColumns) (cs : List Call)
    (ys : List Answered) (t : Register) → Ran (lent start.head cols ls) cs ys t →
    (actor before later : List ℕ) (n : ℕ) → Lists t actor before (Ok n) later →
    once_up_to (length (held t).records) (take n later) ≡ true
each_once_of_calls start fresh-one cols ls cs ys t run actor before later n q =
    let p = ran_after run fresh ((begun_is fresh-one).1 cols ls) in
    let e = lists_is q in
    let ids = listed (held t) actor before later n e.0 e.1 in
    ap (once_up_to (length (held t).records)) ids
    ∙ ap (λ l. once_up_to (length l.records) (history_of l actor)) p.0
    ∙ each_once cs actor
