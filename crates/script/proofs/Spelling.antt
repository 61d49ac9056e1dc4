-- A number digit by digit: a digit more makes a longer number, and a comma behind it ends its field.
use mathlib.Core.Path.{◌≡◌, refl, sym, ap, ◌∙◌}
use mathlib.Core.Bool.{true, false}
use mathlib.Core.List.{List, [], ◌∷◌, ◌++◌}
use Prim.Native.Nat.{ℕ, suc, ◌+◌, ◌-◌, ◌*◌, ◌^◌, ◌<◌, ◌≤◌}
use native.Mathlib.Nat.{add-zero, pow-le-pow_right}
use native.Mathlib.Omega.{arith}
use Rattle.std.specs.Prelude.{Some}
use lib.ListN.{length, get_or, drop, length-drop}
use lib.Seq.{take-suc, get_or-take, get_or-drop, length-take-le}
use borrow.Author.Tests.{leb-true, le-leb, ne_eqb}
use Rattle.lists.specs.Searches.{every, some, is_byte}
use Rattle.lists.proofs.Tests.{and_left, and_right}
use Rattle.lists.proofs.ByteSearch.{byte_here, byte_nowhere}
use Rattle.calendar.specs.Texts.{digit}
use Rattle.script.specs.Numbers.{is_number, value_from}
use Rattle.script.specs.Lines.{comma}
use Rattle.script.specs.Spans.{cut}
use Rattle.script.specs.Walking.{FieldEnd, Spelt, NumberRead}
use Rattle.script.proofs.Parting.{field_past}
use Rattle.script.proofs.Numerals.{number_parts, number_more, value_end}

cut_more : (line : List ℕ) (from i : ℕ) → from ≤ i → i < length line → cut line from (i + 1) ≡ cut line from i ++ get_or line i 0 ∷ []
cut_more line from i a h =
    let n : i + 1 - from ≡ suc (i - from) = omega arith in
    let m : from + (i - from) ≡ i = omega arith in
    let l = length-drop from line in
    let g : get_or (drop from line) (i - from) 0 ≡ get_or line i 0 = get_or-drop from line (i - from) 0 ∙ ap (λ k. get_or line k 0) m in
    rw n (take-suc (drop from line) (i - from) 0 (omega arith) ∙ ap (λ b. cut line from i ++ b ∷ []) g)

digit_is : (x : ℕ) → x ≤ 9 → digit (x + 48) ≡ true
digit_is x h = rw (le-leb 48 (x + 48) (omega arith), le-leb (x + 48) 57 (omega arith))

no_comma : (s : List ℕ) → every digit s ≡ true → some (is_byte comma) s ≡ false
no_comma [] e = refl
no_comma (b ∷ s) e =
    let d = leb-true 48 b (and_left _ _ (and_left (digit b) (every digit s) e)) in
    rw (ne_eqb b comma (λ z. omega (arith, d, z))) (no_comma s (and_right (digit b) (every digit s) e))

-- the digits from a place on so far
pub record Near (line : List ℕ) (from v end : ℕ) : Type 0 where
  pub spelt : Spelt line from v end
  pub needed : get_or line from 0 ≡ 48 → ⊥
  pub small : v < 10 ^ (end - from)

module _ {line : List ℕ} {from : ℕ} where
  pub spelt_one : {x : ℕ} → from + 1 < length line → x ≤ 9 → x + 48 ≡ get_or line from 0 → Spelt line from x (from + 1)
  unfolding is_number value_from
  spelt_one {x} h k e =
      let z : from - from ≡ 0 = omega arith in
      let q : cut line from (from + 1) ≡ (x + 48) ∷ [] = cut_more line from from (omega arith) (omega arith) ∙ rw (z, e) refl in
      record {
        after = omega arith;
        inside = h;
        good = rw (q, le-leb 48 (x + 48) (omega arith), le-leb (x + 48) 57 (omega arith)) refl;
        value = rw q (omega arith);
      }

  pub spelt_more : {v i j x : ℕ} → Spelt line from v i → (get_or line from 0 ≡ 48 → ⊥) → j ≡ i + 1 → j ≤ from + 5 → j < length line → x ≤ 9 → x + 48 ≡ get_or line i 0
      → Spelt line from (v * 10 + x) j
  spelt_more {v} {i} {j} {x} p ne k few h m e =
      let a = p.after in
      let s = cut line from i in
      let l : length s ≡ i - from = length-take-le (i - from) (drop from line) (rw (length-drop from line) (omega arith)) in
      let some = (number_parts s p.good).0 in
      let g : get_or s 0 0 ≡ get_or line from 0 = get_or-take (i - from) (drop from line) 0 0 (omega arith) ∙ get_or-drop from line 0 0 ∙ rw add-zero refl in
      let q : cut line from j ≡ s ++ (x + 48) ∷ [] = rw k (cut_more line from i a (omega arith) ∙ rw e refl) in
      record {
        after = omega arith;
        inside = h;
        good = rw q (number_more s (x + 48) p.good (omega arith) (λ z. ne (sym g ∙ z)) (digit_is x m));
        value = rw q (value_end 0 s (x + 48) ∙ rw p.value (omega arith));
      }

  pub near_one : {x : ℕ} → from + 1 < length line → x ≤ 9 → (x ≡ 0 → ⊥) → x + 48 ≡ get_or line from 0 → Near line from x (from + 1)
  near_one {x} h k ne e =
      let d : from + 1 - from ≡ 1 = omega arith in
      record { spelt = spelt_one h k e; needed = λ z. ne (omega (arith, e, z)); small = rw d (omega arith) }

  pub near_more : {v i x : ℕ} → Near line from v i → i < from + 5 → i + 1 < length line → x ≤ 9 → x + 48 ≡ get_or line i 0
      → Near line from (v * 10 + x) (i + 1)
  near_more {v} {i} {x} p few h k e =
      let a = p.spelt.after in
      let d : i + 1 - from ≡ suc (i - from) = omega arith in
      record {
        spelt = spelt_more p.spelt p.needed refl (omega arith) h k e;
        needed = p.needed;
        small = rw d (omega (arith, p.small));
      }

  -- a comma ends it
  pub spelt_ended : {v end : ℕ} → Spelt line from v end → get_or line end 0 ≡ comma → NumberRead line from (record { number = Some v; end = end })
  spelt_ended {v} {end} p e =
      record {
        ends = field_past line p.after (omega arith) (no_comma (cut line from end) (number_parts (cut line from end) p.good).2) (byte_here comma line end p.inside e);
        number = (p.good, sym p.value);
      }

-- a number that the line ends with is its last field
pub number_last : (line : List ℕ) {from : ℕ} → from ≤ length line → is_number (cut line from (length line)) ≡ true → FieldEnd line from (length line)
number_last line {from} h e =
    field_past line h (omega arith) (no_comma (cut line from (length line)) (number_parts (cut line from (length line)) e).2) (byte_nowhere comma line (length line) (omega arith))
