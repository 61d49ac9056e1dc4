-- A line that asks for an engagement: the number that it ends with is its rest.
use mathlib.Core.Path.{◌≡◌, refl}
use mathlib.Core.Bool.{false, ◌&&◌}
use mathlib.Core.List.{List}
use Prim.Native.Nat.{ℕ, ◌+◌, ◌<◌, ◌≤◌}
use native.Mathlib.Omega.{arith}
use lib.ListN.{length}
use Rattle.script.specs.Numbers.{is_number, is_day}
use Rattle.script.specs.Lines.{engagement, engagement_line}
use Rattle.script.specs.Fields.{fields_from}
use Rattle.script.specs.Spans.{cut, start, plain}
use Rattle.script.specs.Walking.{FieldEnd, IsDay, IsValue}
use Rattle.script.specs.declared.reading.Kind.TheVariants.{Engagement}
use Rattle.script.proofs.Spelling.{number_last}
use Rattle.script.proofs.FieldEnds.{end_one, end_two}
use Rattle.script.proofs.LineKinds.{no_line, Reads, read_as_lem, unknown_as, some_after, none_after, both_good, by_rest}

module _ (line : List ℕ) (a : ℕ) (pa : FieldEnd line start a) where
  pub engagement_one : length line ≤ a → Reads line no_line (engagement_line (fields_from line start))
  unfolding engagement_line
  engagement_one h = unknown_as line {a = engagement_line (fields_from line start)} (rw (pa.parts, none_after line a h))

  module _ (b : ℕ) (pb : FieldEnd line (a + 1) b) where
    pub engagement_two : length line ≤ b → Reads line no_line (engagement_line (fields_from line start))
    unfolding engagement_line
    engagement_two h = unknown_as line {a = engagement_line (fields_from line start)} (rw (pa.parts, pb.parts, none_after line b h))

    module _ (c : ℕ) (pc : FieldEnd line (b + 1) c) where
      pub engagement_three : length line ≤ c → Reads line no_line (engagement_line (fields_from line start))
      unfolding engagement_line
      engagement_three h = unknown_as line {a = engagement_line (fields_from line start)} (rw (pa.parts, pb.parts, pc.parts, none_after line c h))

      module _ (d : ℕ) (pd : FieldEnd line (c + 1) d) where
        engagement_long : d < length line → Reads line no_line (engagement_line (fields_from line start))
        unfolding engagement_line
        engagement_long h = unknown_as line {a = engagement_line (fields_from line start)} (rw (pa.parts, pb.parts, pc.parts, pd.parts, some_after line d h))

        module _ (h : length line ≤ d) where
          engagement_good : {day v : ℕ} → IsDay (cut line (b + 1) c) day → IsValue (cut line (c + 1) d) v
              → Reads line (plain Engagement a b day v) (engagement_line (fields_from line start))
          unfolding engagement_line
          engagement_good {day} {v} p q =
              let k = both_good p.0 q.0 in
              read_as_lem line {a = engagement (cut line start a) (cut line (a + 1) b) day v} {b = engagement_line (fields_from line start)} (rw (end_one pa, end_two pa pb) refl)
              (rw (pa.parts, pb.parts, pc.parts, pd.parts, none_after line d h, k, p.1, q.1))

          engagement_bad : (is_day (cut line (b + 1) c) && is_number (cut line (c + 1) d)) ≡ false → Reads line no_line (engagement_line (fields_from line start))
          unfolding engagement_line
          engagement_bad k = unknown_as line {a = engagement_line (fields_from line start)} (rw (pa.parts, pb.parts, pc.parts, pd.parts, none_after line d h, k))

      pub engagement_read : c < length line → {day v : ℕ} → IsDay (cut line (b + 1) c) day → IsValue (cut line (c + 1) (length line)) v
          → Reads line (plain Engagement a b day v) (engagement_line (fields_from line start))
      engagement_read i p q = engagement_good (length line) (number_last line (omega arith) q.0) (omega arith) p q

      pub engagement_rest : c < length line → (is_day (cut line (b + 1) c) && is_number (cut line (c + 1) (length line))) ≡ false
          → Reads line no_line (engagement_line (fields_from line start))
      engagement_rest i k = by_rest line (omega arith) (λ d pd h. engagement_long d pd h) (λ pd. engagement_bad (length line) pd (omega arith) k)
