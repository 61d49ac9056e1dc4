-- What one step adds to what is kept, by what is said of it.
use mathlib.Core.Path.{◌≡◌, sym, ◌∙◌}
use mathlib.Core.Bool.{Bool, true, false, not}
use mathlib.Core.List.{List}
use Prim.Native.Nat.{ℕ, ◌<◌}
use lib.Dec.{leb, eqb}
use borrow.Author.Tests.{eqb-true, leb-false, not-false}
use Rattle.lists.proofs.Tests.{or_left, or_right}
use Rattle.reader.specs.Walking.{line_power}
use Rattle.reader.specs.Folding.{Taken, counted, judged, is_over, first_line, take_step}
use Rattle.reader.specs.declared.tally.StepFault.{StepFault}
use Rattle.std.specs.Prelude.{Result}
use Rattle.reader.specs.declared.tally.Tally.{Tally}

-- ---- a step of the day

module _ (first : ℕ) (t r : Tally) (ps : List ℕ) (said : Result ℕ StepFault) where
  abbrev x : Taken
  x = record { tally = t; powers = ps }

-- ---- whether the tests of the steps are over

module _ (steps : ℕ) (t : Tally) (o : Bool) (e : o ≡ is_over steps t) where
  pub not_over : o ≡ false → t.lines < steps
  not_over h = leb-false steps t.lines (or_right (not (eqb t.fault 0)) (leb steps t.lines) (sym e ∙ h))

  pub no_fault : o ≡ false → t.fault ≡ 0
  no_fault h =
      eqb-true t.fault 0 (not-false (eqb t.fault 0) (or_left (not (eqb t.fault 0)) (leb steps t.lines) (sym e ∙ h)))

  module _ (ps line : List ℕ) where
    pub take_over : (r : Tally) → o ≡ true → r ≡ counted t
        → record { tally = r; powers = ps } ≡ take_step steps (record { tally = t; powers = ps }) line
    unfolding take_step
    take_over r h q = rw (← e, h, q)

    pub take_on : (said : Result ℕ StepFault) (z : Taken) → o ≡ false → said ≡ line_power steps t.lines line
        → z ≡ judged first_line (record { tally = t; powers = ps }) said → z ≡ take_step steps (record { tally = t; powers = ps }) line
    unfolding take_step
    take_on said z h m q = q ∙ rw (← e, h, m)
