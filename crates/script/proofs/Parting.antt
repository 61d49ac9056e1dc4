-- A line's fields, one after the other: a field goes to the first comma, and the others start after that.
use mathlib.Core.Path.{◌≡◌, refl, sym, ap, ◌∙◌}
use mathlib.Core.Bool.{Bool, true, false, cond}
use mathlib.Core.List.{List, [], ◌∷◌}
use Prim.Native.Nat.{ℕ, suc, ◌+◌, ◌-◌, ◌<◌, ◌≤◌}
use native.Mathlib.Omega.{arith}
use lib.Dec.{ltb, leb-suc-suc}
use lib.ListN.{length, take, drop, length-drop}
use lib.Seq.{drop-drop}
use borrow.Author.Tests.{ltb-true, ltb-false, lt-ltb, le-leb, lt-leb}
use Rattle.lists.specs.Searches.{some, place_of, is_byte, byte_from}
use Rattle.lists.proofs.Tests.{by_test}
use Rattle.lists.proofs.Places.{place_end}
use Rattle.lists.proofs.ByteSearch.{bytes_past}
use Rattle.notification.specs.Reading.{onto}
use Rattle.script.specs.Lines.{comma, fields}
use Rattle.script.specs.Fields.{fields_from}
use Rattle.script.specs.Spans.{cut}
use Rattle.script.specs.Walking.{FieldEnd}

-- the fields after the one that ends at the k-th byte
abbrev pub rest_at : List ℕ → ℕ → List (List ℕ)
rest_at s k = cond (ltb k (length s)) (fields (drop (suc k) s)) []

pub fields_parted : (s : List ℕ) → fields s ≡ take (place_of (is_byte comma) s) s ∷ rest_at s (place_of (is_byte comma) s)
unfolding fields place_of
fields_parted [] = refl
fields_parted (b ∷ s) = go (is_byte comma b) (fields_parted s)
  where
    go : (t : Bool) → fields s ≡ take (place_of (is_byte comma) s) s ∷ rest_at s (place_of (is_byte comma) s)
        → onto t b (fields s) ≡ take (cond t 0 (suc (place_of (is_byte comma) s))) (b ∷ s) ∷ rest_at (b ∷ s) (cond t 0 (suc (place_of (is_byte comma) s)))
    go true e = rw (lt-ltb 0 (suc (length s)) (omega arith))
    go false e = ap (onto false b) e ∙ ap (λ t. (b ∷ take (place_of (is_byte comma) s) s) ∷ cond t (fields (drop (suc (place_of (is_byte comma) s)) s)) []) (sym (leb-suc-suc (suc (place_of (is_byte comma) s)) (length s)))

pub from_inside : (line : List ℕ) (at : ℕ) → at ≤ length line → fields_from line at ≡ fields (drop at line)
unfolding fields_from
from_inside line at h = rw (le-leb at (length line) h)

pub from_past : (line : List ℕ) (at : ℕ) → length line < at → fields_from line at ≡ []
unfolding fields_from
from_past line at h = rw (lt-leb at (length line) h)

-- where the search for a comma ends, the field ends
pub field_ends : (line : List ℕ) {from end : ℕ} → from ≤ length line → end ≡ byte_from comma line from → FieldEnd line from end
unfolding byte_from
field_ends line {from} {end} h q =
    let e : end - from ≡ place_of (is_byte comma) (drop from line) = omega arith in
    let m = place_end (is_byte comma) (drop from line) in
    let l = length-drop from line in
    record { after = omega arith; inside = omega arith; parts = from_inside line from h ∙ fields_parted (drop from line) ∙ rw (← e) (ap (λ fs. cut line from end ∷ fs) rest) }
  where
    rest : rest_at (drop from line) (end - from) ≡ fields_from line (end + 1)
    rest =
        by_test (ltb (end - from) (length (drop from line)))
        (λ t.
        let a = ltb-true (end - from) (length (drop from line)) t in
        let l = length-drop from line in
        let n : from + suc (end - from) ≡ end + 1 = omega arith in
        rw (t, drop-drop (suc (end - from)) from line, n) (sym (from_inside line (end + 1) (omega arith))))
        (λ t.
        let a = ltb-false (end - from) (length (drop from line)) t in
        let l = length-drop from line in
        rw t (sym (from_past line (end + 1) (omega arith))))

-- a comma that is none of some bytes is looked for after them
pub field_past : (line : List ℕ) {from next end : ℕ} → from ≤ next → next ≤ length line → some (is_byte comma) (cut line from next) ≡ false
    → end ≡ byte_from comma line next → FieldEnd line from end
field_past line {from} {next} a b e q =
    let n : from + (next - from) ≡ next = omega arith in
    let p = bytes_past comma line from (next - from) (omega arith) e in
    field_ends line (omega arith) (q ∙ (rw n at p))
