-- The numbers at the end of a line: counted field by field, and taken one after another.
use mathlib.Core.Path.{◌≡◌, refl, sym, ap, ap₂, ◌∙◌}
use mathlib.Core.Bool.{true, false}
use mathlib.Core.List.{List, [], ◌∷◌, ◌++◌, map, append-nil, append_assoc}
use Prim.Native.Nat.{ℕ, suc, ◌+◌, ◌-◌, ◌*◌, ◌<◌, ◌≤◌, min}
use native.Mathlib.Numerals.{add-one}
use native.Mathlib.Omega.{arith}
use lib.ListN.{length, set, take, drop, replicate, length-append, length-take, length-set, take-append-drop}
use lib.Seq.{take-nil, take_at, take-suc-set, drop-set-lt, drop-drop, length-take-le}
use Rattle.std.specs.Prelude.{Option, Some, None, is_some, unwrap_or}
use Rattle.lists.specs.Searches.{every}
use Rattle.lists.proofs.Tests.{and_left, and_right, true_false}
use Rattle.script.specs.Numbers.{number_end, is_number, value_of}
use Rattle.script.specs.Fields.{fields_from, number_in}
use Rattle.script.specs.Spans.{cut, power_places, powers_of, powers_read}
use Rattle.script.specs.Walking.{ValueRead, NumberRead, AllCounted}
use Rattle.script.specs.declared.reading.Line.{Line}
use Rattle.script.specs.declared.numbers.Numeral.{Numeral}
use Rattle.script.specs.declared.parts.Powers.{Powers}
use Rattle.script.proofs.Parting.{from_past}
use Rattle.script.proofs.Numerals.{number_parts, number_value, value_or_end}

-- the number that a field is, where it is one
no_value : (s : List ℕ) (v : Option ℕ) → is_some v ≡ false → ValueRead s v → is_number s ≡ false
no_value s None k p = p
no_value s (Some v) k p = true_false true refl k

a_value : (s : List ℕ) (v : Option ℕ) → is_some v ≡ true → ValueRead s v → is_number s ≡ true
a_value s None k p = true_false false k refl
a_value s (Some v) k p = p.0

-- so far: the fields counted are numbers, and those that are left decide
pub record Counted (line : List ℕ) (from at count : ℕ) : Type 0 where
  pub inside : at ≤ length line + 1
  pub room : count * 2 + from ≤ at
  pub many : count + length (fields_from line at) ≡ length (fields_from line from)
  pub decides : every is_number (fields_from line at) ≡ every is_number (fields_from line from)

cut_length : (line : List ℕ) (from end : ℕ) → length (cut line from end) ≤ end - from
cut_length line from end = omega (arith, length-take (end - from) (drop from line))

module _ {line : List ℕ} {from at count : ℕ} (c : Counted line from at count) {r : Numeral} (f : NumberRead line at r) where
  pub counted_more : is_some r.number ≡ true → Counted line from (r.end + 1) (count + 1)
  counted_more k =
      let n : is_number (cut line at r.end) ≡ true = a_value (cut line at r.end) r.number k f.number in
      let p = number_parts (cut line at r.end) n in
      let l = cut_length line at r.end in
      let m = rw f.ends.parts at c.many in
      let i = f.ends.inside in
      let o = c.room in
      record {
        inside = omega arith;
        room = omega (arith, p.0);
        many = omega arith;
        decides = rw (f.ends.parts, n) at c.decides;
      }

pub counted_all : (line : List ℕ) (from at count : ℕ) → length line < at → Counted line from at count → AllCounted line from (Some count)
counted_all line from at count h c =
    let p = from_past line at h in
    let m = rw p at c.many in
    let d = rw p at c.decides in
    (sym d, omega arith, omega (arith, c.room, c.inside))

-- ---- the numbers themselves

pub numbers_values : (fs : List (List ℕ)) → every is_number fs ≡ true → map number_in fs ≡ map value_of fs
numbers_values [] e = refl
numbers_values (f ∷ fs) e =
    ap₂ ◌∷◌ (number_value f (and_left (is_number f) (every is_number fs) e)) (numbers_values fs (and_right (is_number f) (every is_number fs) e))

-- those that are put and those that the fields from here on give are all of them, of which m are wanted
pub record Taking (line : List ℕ) (from m at count : ℕ) (numbers : List ℕ) : Type 0 where
  pub few : count ≤ m
  pub most : m ≤ power_places
  pub places : length numbers ≡ power_places
  pub zeros : drop count numbers ≡ replicate (power_places - count) 0
  pub holds : take count numbers ++ take (m - count) (map number_in (fields_from line at)) ≡ take m (map number_in (fields_from line from))

module _ {line : List ℕ} {from m at count : ℕ} {numbers : List ℕ} (t : Taking line from m at count numbers) where
  pub taking_more : {r : Numeral} → count < m → NumberRead line at r → Taking line from m (r.end + 1) (count + 1) (set numbers count (unwrap_or r.number number_end))
  taking_more {r} h f =
      let v = value_or_end (cut line at r.end) r.number f.number in
      let s : m - count ≡ suc (m - (count + 1)) = omega arith in
      let k : count < length numbers = omega (arith, t.places, t.most) in
      let l : power_places - count ≡ suc (power_places - (count + 1)) = omega (arith, t.most) in
      record {
        few = omega arith;
        most = t.most;
        places = length-set numbers count _ ∙ t.places;
        zeros = drop-set-lt (count + 1) numbers count _ (omega arith) ∙ sym (drop-drop 1 count numbers) ∙ ap (drop 1) t.zeros ∙ rw l refl;
        holds = rw (add-one count, take-suc-set numbers count _ k, append_assoc, v) (rw (f.ends.parts, s, add-one count) at t.holds);
      }

  -- no field is left, or none is wanted any more
  taking_past : length line < at → take count numbers ≡ take m (map number_in (fields_from line from))
  taking_past h =
      let p = from_past line at h in
      sym (append-nil (take count numbers)) ∙ (ap (λ (xs : List ℕ). take count numbers ++ xs) (rw p (sym (take-nil (m - count)))) ∙ t.holds)

  taking_full : m ≤ count → take count numbers ≡ take m (map number_in (fields_from line from))
  taking_full h =
      let z : m - count ≡ 0 = omega arith in
      sym (append-nil (take count numbers)) ∙ (ap (λ (xs : List ℕ). take count numbers ++ xs) (rw z refl) ∙ t.holds)

abbrev powers_on : ℕ → List ℕ → Powers
powers_on count numbers = record { count = count; numbers = numbers }

module _ (line : List ℕ) (r : Line) {m at count : ℕ} {numbers : List ℕ} (e : m ≡ min r.count power_places) (t : Taking line r.from m at count numbers) where
  -- those that were put, with the zeros behind them, are all that is handed on
  taken : take count numbers ≡ take m (map number_in (fields_from line r.from)) → powers_on count numbers ≡ powers_read line r
  unfolding powers_of powers_read
  taken q =
      let p : take count numbers ≡ powers_of line r = q ∙ rw e refl in
      let n : count ≡ length (powers_of line r) = sym (length-take-le count numbers (omega (arith, t.few, t.most, t.places))) ∙ ap length p in
      let q : numbers ≡ powers_of line r ++ replicate (power_places - length (powers_of line r)) 0 =
      sym (take-append-drop count numbers) ∙ ap₂ ◌++◌ p (t.zeros ∙ ap (λ (i : ℕ). replicate (power_places - i) 0) n) in
      ap₂ powers_on n q

  pub taken_past : length line < at → powers_on count numbers ≡ powers_read line r
  taken_past h = taken (taking_past t h)

  pub taken_full : m ≤ count → powers_on count numbers ≡ powers_read line r
  taken_full h = taken (taking_full t h)

-- what is handed on begins with the powers
pub powers_first : (line : List ℕ) (r : Line) {p : Powers} → p ≡ powers_read line r → (take p.count p.numbers ≡ powers_of line r) × (p.count ≤ length p.numbers)
unfolding powers_read
powers_first line r e =
    let powers = powers_of line r in
    rw e (take_at powers (replicate (power_places - length powers) 0) (length powers) refl, rw length-append (omega arith))
