-- The kinds of lines but F, E and L, field by field: a line whose fields are too few or too many is unknown, and one whose fields are as many as its
-- kind has says what their tests and values say.
use mathlib.Core.Path.{◌≡◌, refl, sym, ap, ◌∙◌}
use mathlib.Core.Bool.{Bool, true, false, ◌&&◌}
use mathlib.Core.List.{List, [], ◌∷◌}
use Prim.Native.Nat.{ℕ, ◌+◌, ◌/◌, ◌<◌, ◌≤◌}
use native.Mathlib.Omega.{arith}
use lib.Dec.{eqb, ltb}
use lib.ListN.{length, take, drop, length-drop}
use borrow.Author.Tests.{ltb-true, ltb-false, lt-ltb, ne_eqb}
use Rattle.lists.specs.Searches.{some, place_of, is_byte, byte_from}
use Rattle.lists.proofs.Tests.{by_test, true_false}
use Rattle.lists.proofs.Parts.{rest_all}
use Rattle.lists.proofs.Places.{place_some}
use Rattle.lists.proofs.ByteSearch.{byte_nowhere}
use Rattle.calendar.specs.Dates.{day_count, date}
use Rattle.calendar.specs.Texts.{digit_of, text_of, day_of}
use Rattle.std.specs.Prelude.{Option, Some, None}
use Rattle.calendar.proofs.TwoWays.{read_text}
use Rattle.notification.specs.Reading.{day_number}
use Rattle.ledger.specs.Call as Call
use Rattle.script.specs.Numbers.{is_number, is_day}
use Rattle.script.specs.Lines.{Asked, calls, record_of, unknown, comma, advance_line, enrol_line, category_line, record_line}
use Rattle.script.specs.Fields.{fields_from}
use Rattle.script.specs.Spans.{cut, start, end_of, plain, read_as}
use Rattle.script.specs.Walking.{FieldEnd, IsDay, IsValue, lettered}
use Rattle.script.specs.declared.reading.CallKind.TheVariants.{Advance, EnrolActor, EnrolCategory}
use Rattle.script.specs.declared.reading.Kind.TheVariants.{Calls, RecordOf, Unknown}
use Rattle.script.specs.declared.reading.Line.{Line}
use Rattle.script.proofs.Parting.{rest_at, from_inside, from_past, fields_parted, field_ends, field_past}
use Rattle.script.proofs.Spelling.{number_last}
use Rattle.script.proofs.FieldEnds.{end_one}

abbrev pub no_line : Line
no_line = plain Unknown 0 0 0 0

-- a line that begins with a letter and a comma is read as its other fields say
abbrev pub Reads : List ℕ → Line → Asked → Type 0
Reads line r a = r ≡ read_as (end_of (lettered line)) a

pub read_as_lem : (line : List ℕ) {r : Line} {a b : Asked} → Reads line r a → a ≡ b → Reads line r b
read_as_lem line p q = p ∙ ap (read_as (end_of (lettered line))) q

pub unknown_as : (line : List ℕ) {a : Asked} → unknown ≡ a → Reads line no_line a
unknown_as line e = ap (read_as (end_of (lettered line))) e

-- the fields after one that ends before the end of the line, and after one that ends there
pub some_after : (line : List ℕ) (end : ℕ) → end < length line
    → fields_from line (end + 1) ≡ take (place_of (is_byte comma) (drop (end + 1) line)) (drop (end + 1) line) ∷ rest_at (drop (end + 1) line) (place_of (is_byte comma) (drop (end + 1) line))
some_after line end h = from_inside line (end + 1) (omega arith) ∙ fields_parted (drop (end + 1) line)

pub none_after : (line : List ℕ) (end : ℕ) → length line ≤ end → fields_from line (end + 1) ≡ []
none_after line end h = from_past line (end + 1) (omega arith)

-- two tests that are met, and two of which one is not
pub both_good : {s t : Bool} → s ≡ true → t ≡ true → (s && t) ≡ true
both_good e f = rw (e, f)

pub first_bad : {s : Bool} (t : Bool) → s ≡ false → (s && t) ≡ false
first_bad t e = rw e

pub second_bad : {s t : Bool} → s ≡ true → t ≡ false → (s && t) ≡ false
second_bad e f = rw (e, f)

-- the rest of a line in which there is a comma
pub comma_inside : (line : List ℕ) {from : ℕ} → from ≤ length line → some (is_byte comma) (cut line from (length line)) ≡ true → byte_from comma line from < length line
unfolding byte_from
comma_inside line {from} i e =
    let d : some (is_byte comma) (drop from line) ≡ true = rw (rest_all from line) at e in
    let p = place_some (is_byte comma) (drop from line) d in
    let l = length-drop from line in
    omega arith

-- what the rest of a line is read as, by whether it is one field
pub by_rest : {P : Type 0} (line : List ℕ) {from : ℕ} → from ≤ length line → ((end : ℕ) → FieldEnd line from end → end < length line → P)
    → (FieldEnd line from (length line) → P) → P
by_rest line {from} h more last =
    let end = byte_from comma line from in
    let f = field_ends line {from = from} {end = end} h refl in
    by_test (ltb end (length line))
    (λ t. more end f (ltb-true end (length line) t))
    (λ t. let e : end ≡ length line = omega (arith, ltb-false end (length line) t, f.inside) in last (rw e at f))

-- a text that is a date of a day, and one that is none
pub dated : (s : List ℕ) (n : ℕ) → Some n ≡ day_of s → IsDay s n
dated s n e =
    let f = sym e in
    (rw f (lt-ltb n day_count (read_text s n f).0), rw f refl)

pub undated : (s : List ℕ) → None ≡ day_of s → is_day s ≡ false
undated s e = let f = sym e in rw f refl

-- a date has no comma, so one that the line ends with is its last field
day_plain : (s : List ℕ) → is_day s ≡ true → some (is_byte comma) s ≡ false
unfolding text_of
day_plain s = go (day_of s) refl
  where
    other : (k : ℕ) → eqb (digit_of k) comma ≡ false
    other k = ne_eqb (digit_of k) comma (λ e. omega (arith, e))

    go : (d : Option ℕ) → day_of s ≡ d → ltb (day_number d) day_count ≡ true → some (is_byte comma) s ≡ false
    go (Some n) e t =
        let w : s ≡ text_of n = (read_text s n e).1 in
        let x = date n in
        rw (w, t, other (x.year / 10), other x.year, other (x.month / 10), other x.month, other (x.day / 10), other x.day) refl
    go None e t = true_false (ltb day_count day_count) t refl

pub day_last : (line : List ℕ) {from : ℕ} → from ≤ length line → is_day (cut line from (length line)) ≡ true → FieldEnd line from (length line)
day_last line {from} h e = field_past line h (omega arith) (day_plain (cut line from (length line)) e) (byte_nowhere comma line (length line) (omega arith))

-- ---- T

module _ (line : List ℕ) (a : ℕ) (pa : FieldEnd line start a) where
  pub advance_short : length line ≤ a → Reads line no_line (advance_line (fields_from line start))
  unfolding advance_line
  advance_short h = unknown_as line {a = advance_line (fields_from line start)} (rw (pa.parts, none_after line a h))

  module _ (b : ℕ) (pb : FieldEnd line (a + 1) b) where
    advance_long : b < length line → Reads line no_line (advance_line (fields_from line start))
    unfolding advance_line
    advance_long h = unknown_as line {a = advance_line (fields_from line start)} (rw (pa.parts, pb.parts, some_after line b h))

    module _ (h : length line ≤ b) where
      advance_good : {day v : ℕ} → IsDay (cut line start a) day → IsValue (cut line (a + 1) b) v → Reads line (plain (Calls Advance) 0 0 day v) (advance_line (fields_from line start))
      unfolding advance_line
      advance_good {day} {v} p q =
          let k = both_good p.0 q.0 in
          read_as_lem line {a = calls (Call.advance day v)} {b = advance_line (fields_from line start)} refl (rw (pa.parts, pb.parts, none_after line b h, k, p.1, q.1))

      advance_bad : (is_day (cut line start a) && is_number (cut line (a + 1) b)) ≡ false → Reads line no_line (advance_line (fields_from line start))
      unfolding advance_line
      advance_bad k = unknown_as line {a = advance_line (fields_from line start)} (rw (pa.parts, pb.parts, none_after line b h, k))

  pub advance_read : a < length line → {day v : ℕ} → IsDay (cut line start a) day → IsValue (cut line (a + 1) (length line)) v
      → Reads line (plain (Calls Advance) 0 0 day v) (advance_line (fields_from line start))
  advance_read i p q = advance_good (length line) (number_last line (omega arith) q.0) (omega arith) p q

  pub advance_rest : a < length line → (is_day (cut line start a) && is_number (cut line (a + 1) (length line))) ≡ false
      → Reads line no_line (advance_line (fields_from line start))
  advance_rest i k = by_rest line (omega arith) (λ b pb h. advance_long b pb h) (λ pb. advance_bad (length line) pb (omega arith) k)

-- ---- A

module _ (line : List ℕ) (a : ℕ) (pa : FieldEnd line start a) where
  pub enrol_short : length line ≤ a → Reads line no_line (enrol_line (fields_from line start))
  unfolding enrol_line
  enrol_short h = unknown_as line {a = enrol_line (fields_from line start)} (rw (pa.parts, none_after line a h))

  module _ (b : ℕ) (pb : FieldEnd line (a + 1) b) where
    pub enrol_shorter : length line ≤ b → Reads line no_line (enrol_line (fields_from line start))
    unfolding enrol_line
    enrol_shorter h = unknown_as line {a = enrol_line (fields_from line start)} (rw (pa.parts, pb.parts, none_after line b h))

    module _ (c : ℕ) (pc : FieldEnd line (b + 1) c) where
      pub enrol_long : c < length line → Reads line no_line (enrol_line (fields_from line start))
      unfolding enrol_line
      enrol_long h = unknown_as line {a = enrol_line (fields_from line start)} (rw (pa.parts, pb.parts, pc.parts, some_after line c h))

      module _ (h : length line ≤ c) where
        pub enrol_good : {first last : ℕ} → IsDay (cut line (a + 1) b) first → IsDay (cut line (b + 1) c) last
            → Reads line (plain (Calls EnrolActor) a 0 first last) (enrol_line (fields_from line start))
        unfolding enrol_line
        enrol_good {first} {last} p q =
            let k = both_good p.0 q.0 in
            read_as_lem line {a = calls (Call.enrol_actor (cut line start a) first last)} {b = enrol_line (fields_from line start)} (rw (end_one pa) refl)
            (rw (pa.parts, pb.parts, pc.parts, none_after line c h, k, p.1, q.1))

        pub enrol_bad : (is_day (cut line (a + 1) b) && is_day (cut line (b + 1) c)) ≡ false → Reads line no_line (enrol_line (fields_from line start))
        unfolding enrol_line
        enrol_bad k = unknown_as line {a = enrol_line (fields_from line start)} (rw (pa.parts, pb.parts, pc.parts, none_after line c h, k))

    pub enrol_read : b < length line → {first last : ℕ} → IsDay (cut line (a + 1) b) first → IsDay (cut line (b + 1) (length line)) last
        → Reads line (plain (Calls EnrolActor) a 0 first last) (enrol_line (fields_from line start))
    enrol_read i p q = enrol_good (length line) (day_last line (omega arith) q.0) (omega arith) p q

    pub enrol_rest : b < length line → (is_day (cut line (a + 1) b) && is_day (cut line (b + 1) (length line))) ≡ false
        → Reads line no_line (enrol_line (fields_from line start))
    enrol_rest i k = by_rest line (omega arith) (λ c pc h. enrol_long c pc h) (λ pc. enrol_bad (length line) pc (omega arith) k)

-- ---- C

module _ (line : List ℕ) (a : ℕ) (pa : FieldEnd line start a) where
  pub category_long : a < length line → Reads line no_line (category_line (fields_from line start))
  unfolding category_line
  category_long h = unknown_as line {a = category_line (fields_from line start)} (rw (pa.parts, some_after line a h))

  pub category_good : length line ≤ a → Reads line (plain (Calls EnrolCategory) a 0 0 0) (category_line (fields_from line start))
  unfolding category_line
  category_good h = read_as_lem line {a = calls (Call.enrol_category (cut line start a))} {b = category_line (fields_from line start)} (rw (end_one pa) refl) (rw (pa.parts, none_after line a h))

module _ (line : List ℕ) (i : start ≤ length line) where
  pub category_cut : some (is_byte comma) (cut line start (length line)) ≡ true → Reads line no_line (category_line (fields_from line start))
  category_cut e = category_long line _ (field_ends line i refl) (comma_inside line i e)

  pub category_whole : some (is_byte comma) (cut line start (length line)) ≡ false
      → Reads line (plain (Calls EnrolCategory) (length line) 0 0 0) (category_line (fields_from line start))
  category_whole e = category_good line (length line) (field_past line i (omega arith) e (byte_nowhere comma line (length line) (omega arith))) (omega arith)

-- ---- R

module _ (line : List ℕ) (a : ℕ) (pa : FieldEnd line start a) where
  pub record_short : length line ≤ a → Reads line no_line (record_line (fields_from line start))
  unfolding record_line
  record_short h = unknown_as line {a = record_line (fields_from line start)} (rw (pa.parts, none_after line a h))

  module _ (b : ℕ) (pb : FieldEnd line (a + 1) b) where
    record_long : b < length line → Reads line no_line (record_line (fields_from line start))
    unfolding record_line
    record_long h = unknown_as line {a = record_line (fields_from line start)} (rw (pa.parts, pb.parts, some_after line b h))

    module _ (h : length line ≤ b) where
      record_good : {v : ℕ} → IsValue (cut line (a + 1) b) v → Reads line (plain RecordOf a 0 0 v) (record_line (fields_from line start))
      unfolding record_line
      record_good {v} q =
          read_as_lem line {a = record_of (cut line start a) v} {b = record_line (fields_from line start)} (rw (end_one pa) refl) (rw (pa.parts, pb.parts, none_after line b h, q.0, q.1))

      record_bad : is_number (cut line (a + 1) b) ≡ false → Reads line no_line (record_line (fields_from line start))
      unfolding record_line
      record_bad k = unknown_as line {a = record_line (fields_from line start)} (rw (pa.parts, pb.parts, none_after line b h, k))

  pub record_read : a < length line → {v : ℕ} → IsValue (cut line (a + 1) (length line)) v → Reads line (plain RecordOf a 0 0 v) (record_line (fields_from line start))
  record_read i q = record_good (length line) (number_last line (omega arith) q.0) (omega arith) q

  pub record_rest : a < length line → is_number (cut line (a + 1) (length line)) ≡ false → Reads line no_line (record_line (fields_from line start))
  record_rest i k = by_rest line (omega arith) (λ b pb h. record_long b pb h) (λ pb. record_bad (length line) pb (omega arith) k)
