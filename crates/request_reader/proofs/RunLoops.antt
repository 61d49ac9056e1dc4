-- Steps taken at once, one after another: the place in the day and that in the list of labels go on together, and what is kept and the
-- tokens from there on say what they said at first.
use mathlib.Core.Path.{◌≡◌, refl, sym}
use mathlib.Core.List.{List}
use Prim.Native.Nat.{ℕ, suc, ◌+◌, ◌-◌, ◌*◌, ◌<◌, ◌≤◌}
use native.Mathlib.Omega.{arith}
use lib.ListN.{length, set}
use Rattle.notification.specs.Forms.{places}
use Rattle.reader.specs.Walking.{half_hours, Plain}
use Rattle.reader.specs.Folding.{Taken}
use Rattle.request.specs.Writing.{hour_label}
use Rattle.request_reader.specs.Walking.{part}
use Rattle.request_reader.specs.Steps.{label_list, LabelEntry, FrontAt}
use Rattle.request_reader.specs.Series.{between_steps, Onward}
use Rattle.request_reader.proofs.StepRuns.{onward_on, front_onward}
use Rattle.request_reader.proofs.LabelLists.{label_entry, label_listed}

-- ---- what holds before each step

-- what is kept before step k, after no fault
abbrev pub kept_at : Taken → ℕ → List ℕ → Taken
kept_at x k ps = record { tally = record { lines = k; fault = 0; place = x.tally.place }; powers = ps }

module _ (steps first stop : ℕ) (s : List ℕ) (from : ℕ) (x : Taken) where
  pub record RunInv (k i at : ℕ) (ps : List ℕ) : Type 0 where
    pub on : first ≤ k
    pub upto : first < k → k ≤ stop
    pub listed : i ≡ 10 * (half_hours steps first + (k - first))
    pub within : at ≤ length s
    pub onward : Onward steps s from x at (kept_at x k ps)

  module _ (p : Plain steps first stop) (k i at : ℕ) (ps : List ℕ) (r : RunInv k i at ps) (b : k < stop) where
    half : ℕ
    half = half_hours steps first + (k - first)

    half_small : suc half < 49
    unfolding half
    half_small = omega (arith, p.small, r.on)

    pub run_entries : LabelEntry label_list i × LabelEntry label_list (i + 10)
    unfolding half
    run_entries =
        let h = half_small in
        let e : 10 * half ≡ i = sym r.listed in
        let f : 10 * suc half ≡ i + 10 = omega (arith, r.listed) in
        (rw e at (label_entry half (omega arith)), rw f at (label_entry (suc half) h))

    module _ (w : 4 ≤ steps) (g : steps ≤ places) (next v : ℕ)
        (f : FrontAt between_steps (part (i + 4) 5 label_list) (part (i + 14) 5 label_list) s at next v) where
      labelled : FrontAt between_steps (hour_label steps k) (hour_label steps (suc k)) s at next v
      labelled =
          let o = r.on in
          let e : 10 * (half_hours steps first + (k - first)) + 4 ≡ i + 4 = omega (arith, r.listed) in
          let d : 10 * (half_hours steps first + (suc k - first)) + 4 ≡ i + 14 = omega (arith, r.listed) in
          let a = rw e at (label_listed steps first stop k p w g o (omega arith)) in
          let c = rw d at (label_listed steps first stop (suc k) p w g (omega arith) (omega arith)) in
          rw (a, c) f

      pub run_more : RunInv (k + 1) (i + 10) next (set ps k v)
      run_more =
          let o = r.on in
          let here = kept_at x k ps in
          let there = kept_at x (k + 1) (set ps k v) in
          let step : Onward steps s at here next there =
          front_onward steps s at next v here.tally ps refl (omega (arith, p.within)) g between_steps labelled refl in
          record {
            on = omega arith;
            upto = λ h. omega arith;
            listed = omega (arith, r.listed);
            within = f.within;
            onward = onward_on steps s from at next x here there r.onward step;
          }
