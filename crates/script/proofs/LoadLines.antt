-- A line that asks for a load: its powers are numbers, as many as were counted.
use mathlib.Core.Path.{◌≡◌, refl, sym, ◌∙◌}
use mathlib.Core.Bool.{true, false, ◌&&◌}
use mathlib.Core.List.{List, map}
use Prim.Native.Nat.{ℕ, ◌+◌, ◌<◌, ◌≤◌}
use lib.ListN.{length, length-map}
use Rattle.lists.specs.Searches.{every}
use Rattle.ledger.specs.Call as Call
use Rattle.script.specs.Numbers.{is_number, value_of, is_day}
use Rattle.script.specs.Lines.{calls, load_line}
use Rattle.script.specs.Fields.{fields_from}
use Rattle.script.specs.Spans.{cut, start}
use Rattle.script.specs.Walking.{FieldEnd, IsDay, IsValue}
use Rattle.script.specs.declared.reading.CallKind.TheVariants.{Load}
use Rattle.script.specs.declared.reading.Kind.TheVariants.{Calls}
use Rattle.script.proofs.FieldEnds.{end_one, end_two, end_four}
use Rattle.script.proofs.LineKinds.{no_line, Reads, read_as_lem, unknown_as, some_after, none_after, both_good, first_bad, second_bad}

module _ (line : List ℕ) (a : ℕ) (pa : FieldEnd line start a) where
  pub load_one : length line ≤ a → Reads line no_line (load_line (fields_from line start))
  unfolding load_line
  load_one h = unknown_as line {a = load_line (fields_from line start)} (rw (pa.parts, none_after line a h))

  module _ (b : ℕ) (pb : FieldEnd line (a + 1) b) where
    pub load_two : length line ≤ b → Reads line no_line (load_line (fields_from line start))
    unfolding load_line
    load_two h = unknown_as line {a = load_line (fields_from line start)} (rw (pa.parts, pb.parts, none_after line b h))

    module _ (c : ℕ) (pc : FieldEnd line (b + 1) c) where
      pub load_three : length line ≤ c → Reads line no_line (load_line (fields_from line start))
      unfolding load_line
      load_three h = unknown_as line {a = load_line (fields_from line start)} (rw (pa.parts, pb.parts, pc.parts, none_after line c h))

      module _ (d : ℕ) (pd : FieldEnd line (c + 1) d) where
        pub load_four : length line ≤ d → Reads line no_line (load_line (fields_from line start))
        unfolding load_line
        load_four h = unknown_as line {a = load_line (fields_from line start)} (rw (pa.parts, pb.parts, pc.parts, pd.parts, none_after line d h))

        module _ (h : d < length line) where
          pub load_bad : (is_day (cut line (b + 1) c) && is_number (cut line (c + 1) d) && every is_number (fields_from line (d + 1))) ≡ false
              → Reads line no_line (load_line (fields_from line start))
          unfolding load_line
          load_bad k =
              let more = some_after line d h in
              unknown_as line {a = load_line (fields_from line start)} (rw (pa.parts, pb.parts, pc.parts, pd.parts, more, (rw more at k)))

          pub load_undated : is_day (cut line (b + 1) c) ≡ false → Reads line no_line (load_line (fields_from line start))
          load_undated e = load_bad (first_bad _ (first_bad _ e))

          pub load_unnumbered : is_day (cut line (b + 1) c) ≡ true → is_number (cut line (c + 1) d) ≡ false → Reads line no_line (load_line (fields_from line start))
          load_unnumbered e f = load_bad (first_bad _ (second_bad e f))

          pub load_powerless : is_day (cut line (b + 1) c) ≡ true → is_number (cut line (c + 1) d) ≡ true → every is_number (fields_from line (d + 1)) ≡ false
              → Reads line no_line (load_line (fields_from line start))
          load_powerless e f g = load_bad (second_bad (both_good e f) g)

          pub load_good : {day v n : ℕ} → IsDay (cut line (b + 1) c) day → IsValue (cut line (c + 1) d) v
              → every is_number (fields_from line (d + 1)) ≡ true → n ≡ length (fields_from line (d + 1))
              → Reads line (record { kind = Calls Load; first = a; second = b; day = day; number = v; from = d + 1; count = n }) (load_line (fields_from line start))
          unfolding load_line
          load_good {day} {v} {n} p q e f =
              let more = some_after line d h in
              let k = both_good (both_good p.0 q.0) e in
              let powers = map value_of (fields_from line (d + 1)) in
              let m : length powers ≡ n = length-map (fields_from line (d + 1)) value_of ∙ sym f in
              read_as_lem line {a = calls (Call.load (cut line start a) (cut line (a + 1) b) day v powers)} {b = load_line (fields_from line start)} (rw (end_one pa, end_two pa pb, end_four pa pb pc pd, m) refl)
              (rw (pa.parts, pb.parts, pc.parts, pd.parts, more, (rw more at k), p.1, q.1))
