-- Where steps are taken at once: after no fault and before the end of a day.
use mathlib.Core.Path.{◌≡◌, refl}
use mathlib.Core.Bool.{Bool, false, ◌||◌}
use mathlib.Core.List.{List, []}
use Prim.Native.Nat.{ℕ, suc, ◌+◌, ◌-◌, ◌*◌, ◌<◌, ◌≤◌}
use native.Mathlib.Omega.{arith}
use lib.Dec.{ltb}
use lib.ListN.{set}
use borrow.Author.Tests.{ltb-false}
use Rattle.lists.proofs.Tests.{or_left, or_right}
use Rattle.notification.specs.Forms.{places}
use Rattle.reader.specs.declared.tally.Tally.{Tally}
use Rattle.reader.specs.Walking.{half_hours, Plain}
use Rattle.reader.specs.Folding.{is_over}
use Rattle.reader.proofs.Taking.{not_over, no_fault}
use Rattle.request.specs.Writing.{hour_label}
use Rattle.request_reader.specs.Walking.{part}
use Rattle.request_reader.specs.Steps.{LabelEntry, FrontAt, label_list}
use Rattle.request_reader.specs.Series.{NextStep}
use Rattle.request_reader.proofs.LabelLists.{label_entry, label_listed, first_labels}
use Rattle.request_reader.proofs.StepRuns.{one_told, front_next}

-- where steps are taken at once
pub may_run : (steps : ℕ) (t : Tally) (o : Bool) → o ≡ is_over steps t → (o || ltb steps 4) ≡ false
    → (t.lines < steps) × (t.fault ≡ 0) × (4 ≤ steps)
may_run steps t o e f =
    let h = or_left o (ltb steps 4) f in
    (not_over steps t o e h, no_fault steps t o e h, ltb-false steps 4 (or_right o (ltb steps 4) f))

-- ---- a step at the beginning, and one laid out by itself

pub first_next : (steps : ℕ) (s : List ℕ) (at next v : ℕ) (t : Tally) (ps : List ℕ) → 2 ≤ at → t.lines ≡ 0 → t.fault ≡ 0
    → 4 ≤ steps → steps ≤ places → FrontAt [] (part 4 5 label_list) (part 14 5 label_list) s (at - 2 + 2) next v
    → NextStep steps s at next (record { tally = t; powers = ps })
    (record { tally = record { lines = 1; fault = 0; place = t.place }; powers = set ps 0 v })
first_next steps s at next v t ps a z p w g f =
    let e : at - 2 + 2 ≡ at = omega arith in
    let l = first_labels steps (omega arith) in
    let k : FrontAt [] (hour_label steps t.lines) (hour_label steps (suc t.lines)) s at next v = rw (z, l.0, l.1) (rw e at f) in
    let told : one_told t ps v ≡ record { tally = record { lines = 1; fault = 0; place = t.place }; powers = set ps 0 v } = rw z in
    rw told at (front_next steps s at next v t ps p (omega arith) g [] k refl)

module _ (steps : ℕ) (t : Tally) (stop i : ℕ) (p : Plain steps t.lines stop) (b : t.lines < stop) (e : i ≡ half_hours steps t.lines * 10) where
  pub listed_entries : LabelEntry label_list i × LabelEntry label_list (i + 10)
  listed_entries =
      let h = p.small in
      let k : 10 * half_hours steps t.lines ≡ i = omega arith in
      let l : 10 * suc (half_hours steps t.lines) ≡ i + 10 = omega arith in
      (rw k at (label_entry (half_hours steps t.lines) (omega arith)), rw l at (label_entry (suc (half_hours steps t.lines)) (omega arith)))

  pub listed_next : (s : List ℕ) (at next v : ℕ) (ps : List ℕ) → t.fault ≡ 0 → t.lines < steps → 4 ≤ steps → steps ≤ places
      → FrontAt [] (part (i + 4) 5 label_list) (part (i + 14) 5 label_list) s at next v
      → NextStep steps s at next (record { tally = t; powers = ps }) (one_told t ps v)
  listed_next s at next v ps q h w g f =
      let k : 10 * (half_hours steps t.lines + (t.lines - t.lines)) + 4 ≡ i + 4 = omega arith in
      let l : 10 * (half_hours steps t.lines + (suc t.lines - t.lines)) + 4 ≡ i + 14 = omega arith in
      let a = rw k at (label_listed steps t.lines stop t.lines p w g (omega arith) (omega arith)) in
      let c = rw l at (label_listed steps t.lines stop (suc t.lines) p w g (omega arith) (omega arith)) in
      front_next steps s at next v t ps q h g [] (rw (a, c) f) refl
