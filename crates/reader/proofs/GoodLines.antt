-- A good line of the step at hand is taken at once: its text is the one that the step and its power give.
use mathlib.Core.Path.{◌≡◌, refl, sym, ap, ◌∙◌}
use mathlib.Core.List.{List, [], ◌∷◌, ◌++◌, append_assoc}
use Prim.Native.Nat.{ℕ, suc, ◌+◌, ◌-◌, ◌*◌, ◌<◌, ◌≤◌, min}
use native.Mathlib.Nat.{add-zero}
use native.Mathlib.Numerals.{add-one}
use native.Mathlib.Omega.{arith}
use lib.ListN.{length, get_or, drop, set, length-drop, take-append-drop}
use lib.Seq.{drop-drop, drop-cons, get_or-drop}
use Rattle.lists.proofs.Tests.{and_left, and_right}
use Rattle.notification.specs.Forms.{power_end, places}
use Rattle.notification.specs.Writing.{label_text, labels_text, power_text}
use Rattle.notification.specs.Reading.{lines_in, has_labels, rest_of, is_power}
use Rattle.reader.specs.Walking.{six_at, times_text, half_hours, mark_of, Plain, LineAt}
use Rattle.reader.specs.Folding.{Taken, take_step, take_steps, RunOn}
use Rattle.std.specs.Prelude.{Some}
use Rattle.reader.specs.declared.tally.Tally.{Tally}
use Rattle.notification.proofs.Lines.{lines_first}
use Rattle.notification.proofs.Breaks.{line_in}
use Rattle.notification.proofs.Steps.{line_of, line_made, line_value}
use Rattle.reader.proofs.Figures.{power_in, power_sound}
use Rattle.reader.proofs.Ends.{whole_past}
use Rattle.reader.proofs.Tallies.{line_good, takes_cons}
use Rattle.reader.proofs.Marking.{as_marks, bytes_at, label_mark, table_mark}

-- ---- the text of a good line

six_split : (s : List ℕ) → 6 ≤ length s → s ≡ (get_or s 0 0 ∷ get_or s 1 0 ∷ get_or s 2 0 ∷ get_or s 3 0 ∷ get_or s 4 0 ∷ get_or s 5 0 ∷ []) ++ drop 6 s
six_split (a ∷ b ∷ c ∷ d ∷ e ∷ f ∷ s) h = refl
six_split [] h = absurd (omega arith)
six_split (a ∷ []) h = absurd (omega arith)
six_split (a ∷ b ∷ []) h = absurd (omega arith)
six_split (a ∷ b ∷ c ∷ []) h = absurd (omega arith)
six_split (a ∷ b ∷ c ∷ d ∷ []) h = absurd (omega arith)
six_split (a ∷ b ∷ c ∷ d ∷ e ∷ []) h = absurd (omega arith)

-- six bytes at a place that are a mark are its label
six_label : (s : List ℕ) (i steps at : ℕ) → i + 6 ≤ length s → ((j : ℕ) → get_or s j 0 < 256) → at ≤ steps → steps ≤ places
    → six_at s i ≡ mark_of steps at
    → drop i s ≡ (label_text steps at ++ 59 ∷ []) ++ drop (i + 6) s
six_label s i steps at l h g k m =
    let n : 6 ≤ length (drop i s) = rw length-drop (omega arith) in
    let b = bytes_at s i h in
    let t = label_mark steps at (get_or s i 0) (get_or s (i + 1) 0) (get_or s (i + 2) 0) (get_or s (i + 3) 0) (get_or s (i + 4) 0) (get_or s (i + 5) 0) g k b m in
    let u =
    rw (get_or-drop i s 0 0, get_or-drop i s 1 0, get_or-drop i s 2 0, get_or-drop i s 3 0, get_or-drop i s 4 0, get_or-drop i s 5 0, add-zero, drop-drop 6 i s)
    at (six_split (drop i s) n) in
    u ∙ ap (λ (r : List ℕ). r ++ drop (i + 6) s) t

-- the same fault after so many lines
abbrev pub with_lines : Tally → ℕ → Tally
with_lines t k = record { lines = k; fault = t.fault; place = t.place }

-- a good line of the step at hand
good_taken : (steps : ℕ) (t : Tally) (ps s : List ℕ) (at : ℕ) (r : List ℕ) (v : ℕ) → t.fault ≡ 0 → t.lines < steps
    → drop at s ≡ line_of steps t.lines v ++ (10 ∷ r) → steps ≤ places → v < power_end
    → take_steps steps (record { tally = t; powers = ps }) (lines_in (drop at s))
    ≡ take_steps steps (record { tally = with_lines t (t.lines + 1); powers = set ps t.lines v }) (lines_in r)
good_taken steps t ps s at r v p h e g b =
    let k = t.lines in
    let l = line_of steps k v in
    let x : Taken = record { tally = t; powers = ps } in
    let o = line_made steps k v b in
    let a = and_left (has_labels steps k l) (is_power (rest_of steps k l)) o in
    let c = and_right (has_labels steps k l) (is_power (rest_of steps k l)) o in
    let w = line_value steps k v b in
    let m : min (k + 1) 51 ≡ k + 1 = omega arith in
    let y : take_step steps x l ≡ record { tally = with_lines t (k + 1); powers = set ps k v } =
    rw (w, m) at (line_good steps x l p h a c) in
    ap (λ (u : List ℕ). take_steps steps x (lines_in u)) e
    ∙ (ap (λ (u : List (List ℕ)). take_steps steps x u) (lines_first l r (line_in steps k v))
    ∙ takes_cons steps x (record { tally = with_lines t (k + 1); powers = set ps k v }) l (lines_in r) y)

module _ (steps k : ℕ) (s : List ℕ) (at v n : ℕ) (h : k < steps) (g : steps ≤ places)
    (l : LineAt s at (mark_of steps k) (mark_of steps (k + 1)) v n) where
  power_here : power_in (drop (at + 12) s) ≡ Some (v, n - 13)
  power_here =
      rw (
        get_or-drop (at + 12) s 0 0,
        get_or-drop (at + 12) s 1 0,
        get_or-drop (at + 12) s 2 0,
        get_or-drop (at + 12) s 3 0,
        get_or-drop (at + 12) s 4 0,
        add-zero (at + 12),
      )
      (sym l.power)

  power_small : v < power_end
  power_small = (power_sound (drop (at + 12) s) v (n - 13) power_here).0

  after_power : drop (at + 12) s ≡ power_text v ++ (10 ∷ drop (at + n) s)
  after_power =
      let p = power_sound (drop (at + 12) s) v (n - 13) power_here in
      let m = l.more in
      let w = l.within in
      let i : at + 12 + (n - 13) ≡ at + n - 1 = omega arith in
      let j : suc (at + n - 1) ≡ at + n = omega arith in
      let d : drop (n - 13) (drop (at + 12) s) ≡ 10 ∷ drop (at + n) s =
      drop-drop (n - 13) (at + 12) s ∙ (ap (λ (o : ℕ). drop o s) i ∙ rw (l.break, j) at (drop-cons s (at + n - 1) 0 (omega arith))) in
      sym (take-append-drop (n - 13) (drop (at + 12) s))
      ∙ (ap (λ (r : List ℕ). r ++ drop (n - 13) (drop (at + 12) s)) p.2 ∙ ap (λ (r : List ℕ). power_text v ++ r) d)

  its_text : drop at s ≡ line_of steps k v ++ (10 ∷ drop (at + n) s)
  unfolding labels_text
  its_text =
      let m = l.more in
      let w = l.within in
      let q6 : at + 6 + 6 ≡ at + 12 = omega arith in
      let a = six_label s at steps k (omega arith) l.bytes (omega arith) g l.first in
      let b = six_label s (at + 6) steps (k + 1) (omega arith) l.bytes (omega arith) g l.second in
      let c : drop (at + 6) s ≡ (label_text steps (suc k) ++ 59 ∷ []) ++ drop (at + 12) s = rw (q6, add-one k) at b in
      a
      ∙ (ap (λ (r : List ℕ). (label_text steps k ++ 59 ∷ []) ++ r) (c ∙ ap (λ (r : List ℕ). (label_text steps (suc k) ++ 59 ∷ []) ++ r) after_power)
      ∙ simp append_assoc)

  -- the line is taken at once
  take_good : (t : Tally) (ps : List ℕ) → t.fault ≡ 0 → t.lines ≡ k
      → take_steps steps (record { tally = t; powers = ps }) (lines_in (drop at s))
      ≡ take_steps steps (record { tally = with_lines t (k + 1); powers = set ps k v }) (lines_in (drop (at + n) s))
  take_good t ps p q = good_taken steps t ps s at (drop (at + n) s) v p (rw q h) (rw q its_text) g power_small ∙ rw q

-- ---- a good line, by the times in a list

module _ (steps first stop : ℕ) (p : Plain steps first stop) (g : steps ≤ places) (s : List ℕ) (k i at v n : ℕ) (a : first ≤ k) (b : k < stop)
    (e : i ≡ 6 * (half_hours steps first + (k - first))) (l : LineAt s at (six_at times_text i) (six_at times_text (i + 6)) v n) where
  of_day : k < steps
  of_day = omega (arith, p.within)

  marked : LineAt s at (mark_of steps k) (mark_of steps (k + 1)) v n
  marked =
      as_marks (table_mark steps first stop k i p a (omega arith) e)
      (table_mark steps first stop (k + 1) (i + 6) p (omega arith) (omega arith) (omega arith)) l

  -- the run goes on behind it
  pub good_on : (from : ℕ) (x : Taken) (t : Tally) (ps : List ℕ) → t.fault ≡ 0
      → RunOn steps s from x at (record { tally = with_lines t k; powers = ps })
      → RunOn steps s from x (at + n) (record { tally = with_lines t (k + 1); powers = set ps k v })
  good_on from x t ps h r =
      let m = l.more in
      let z = l.within in
      let o : at + n - 1 + 1 ≡ at + n = omega arith in
      record {
        after = omega (arith, r.after);
        within = l.within;
        kept = r.kept ∙ take_good steps k s at v n of_day g marked (with_lines t k) ps h refl;
        rest = r.rest ∙ rw o at (whole_past s at (at + n - 1) (omega arith) (omega arith) l.break);
      }
