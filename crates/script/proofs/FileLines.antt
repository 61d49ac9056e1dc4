-- A line that files: its name is its rest, which has no comma.
use mathlib.Core.Path.{◌≡◌, refl}
use mathlib.Core.Bool.{true, false}
use mathlib.Core.List.{List}
use Prim.Native.Nat.{ℕ, ◌+◌, ◌<◌, ◌≤◌}
use native.Mathlib.Omega.{arith}
use lib.ListN.{length}
use Rattle.lists.specs.Searches.{some, is_byte}
use Rattle.lists.proofs.ByteSearch.{byte_nowhere}
use Rattle.script.specs.Lines.{file_of, comma, file_line}
use Rattle.script.specs.Fields.{fields_from}
use Rattle.script.specs.Spans.{cut, start, plain}
use Rattle.script.specs.Walking.{FieldEnd}
use Rattle.script.specs.declared.reading.Kind.TheVariants.{Files}
use Rattle.script.proofs.Parting.{field_ends, field_past}
use Rattle.script.proofs.FieldEnds.{end_one, end_two}
use Rattle.script.proofs.LineKinds.{no_line, Reads, read_as_lem, unknown_as, some_after, none_after, comma_inside}

module _ (line : List ℕ) (a : ℕ) (pa : FieldEnd line start a) where
  pub file_short : length line ≤ a → Reads line no_line (file_line (fields_from line start))
  unfolding file_line
  file_short h = unknown_as line {a = file_line (fields_from line start)} (rw (pa.parts, none_after line a h))

  module _ (b : ℕ) (pb : FieldEnd line (a + 1) b) where
    file_long : b < length line → Reads line no_line (file_line (fields_from line start))
    unfolding file_line
    file_long h = unknown_as line {a = file_line (fields_from line start)} (rw (pa.parts, pb.parts, some_after line b h))

    file_good : length line ≤ b → Reads line (plain Files a b 0 0) (file_line (fields_from line start))
    unfolding file_line
    file_good h =
        read_as_lem line {a = file_of (cut line start a) (cut line (a + 1) b)} {b = file_line (fields_from line start)} (rw (end_one pa, end_two pa pb) refl)
        (rw (pa.parts, pb.parts, none_after line b h))

  pub file_cut : a < length line → some (is_byte comma) (cut line (a + 1) (length line)) ≡ true → Reads line no_line (file_line (fields_from line start))
  file_cut i e = file_long _ (field_ends line (omega arith) refl) (comma_inside line (omega arith) e)

  pub file_whole : a < length line → some (is_byte comma) (cut line (a + 1) (length line)) ≡ false
      → Reads line (plain Files a (length line) 0 0) (file_line (fields_from line start))
  file_whole i e = file_good (length line) (field_past line (omega arith) (omega arith) e (byte_nowhere comma line (length line) (omega arith))) (omega arith)
