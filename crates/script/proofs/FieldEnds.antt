-- Where the fields of a line that begins with a letter and a comma end.
use mathlib.Core.Path.{◌≡◌}
use mathlib.Core.List.{List}
use Prim.Native.Nat.{ℕ, ◌+◌, ◌-◌}
use native.Mathlib.Omega.{arith}
use lib.ListN.{length, take, drop, length-drop}
use lib.Seq.{length-take-le}
use Rattle.script.specs.Spans.{cut, start, end_of}
use Rattle.script.specs.Walking.{FieldEnd, lettered}

module _ {line : List ℕ} where
  pub span : {from end : ℕ} → FieldEnd line from end → length (cut line from end) ≡ end - from
  span {from} {end} f =
      let a = f.after in
      let i = f.inside in
      length-take-le (end - from) (drop from line) (rw (length-drop from line) (omega arith))

  letter_one : {a : ℕ} → FieldEnd line start a → length (take 1 line) ≡ 1
  letter_one f = length-take-le 1 line (omega (arith, f.after, f.inside))

  pub end_one : {a : ℕ} → FieldEnd line start a → end_of (lettered line) 1 ≡ a
  unfolding end_of
  end_one pa = rw pa.parts (omega (arith, letter_one pa, span pa, pa.after))

  pub end_two : {a b : ℕ} → FieldEnd line start a → FieldEnd line (a + 1) b → end_of (lettered line) 2 ≡ b
  unfolding end_of
  end_two pa pb = rw (pa.parts, pb.parts) (omega (arith, letter_one pa, span pa, pa.after, span pb, pb.after))

  pub end_four : {a b c d : ℕ} → FieldEnd line start a → FieldEnd line (a + 1) b → FieldEnd line (b + 1) c → FieldEnd line (c + 1) d
      → end_of (lettered line) 4 ≡ d
  unfolding end_of
  end_four pa pb pc pd =
      rw (pa.parts, pb.parts, pc.parts, pd.parts)
      (omega (arith, letter_one pa, span pa, pa.after, span pb, pb.after, span pc, pc.after, span pd, pd.after))
