-- Bytes as numbers of four and of eight: two numbers are the same where their bytes are. Parts that cover a text together say of the whole
-- whether it is the same.
use mathlib.Core.Path.{◌≡◌, refl, sym, ap, ◌∙◌}
use mathlib.Core.Bool.{Bool, true, false, false≢true, ◌&&◌}
use mathlib.Core.List.{List}
use Prim.Native.Nat.{ℕ, zero, suc, ◌+◌, ◌-◌, ◌*◌, ◌<◌, ◌≤◌}
use native.Mathlib.Nat.{add-zero}
use native.Mathlib.Omega.{arith}
use Rattle.std.specs.List.{list_all, range_with_len}
use lib.Dec.{eqb, ltb}
use lib.ListN.{length, get_or, drop, length-take, length-drop}
use lib.Seq.{ext_get_or, get_or-take, get_or-drop, take_all}
use borrow.Author.Tests.{eqb-true, eq-eqb, ltb-true, ltb-false}
use Rattle.lists.specs.Searches.{same}
use Rattle.lists.proofs.Tests.{by_test, true_false, and_left, and_right, and_true}
use Rattle.lists.proofs.Searches.{same_refl, same_true}
use Rattle.request_reader.specs.Walking.{part, four_at, eight_at}

-- ---- the same bytes at two places

-- n bytes from a place of each text on, one by one
abbrev pub Alike : List ℕ → List ℕ → ℕ → ℕ → ℕ → Type 0
Alike s t p q n = (i : ℕ) → i < n → get_or s (p + i) 0 ≡ get_or t (q + i) 0

pub part_byte : (s : List ℕ) (a n i : ℕ) → i < n → get_or (part a n s) i 0 ≡ get_or s (a + i) 0
part_byte s a n i h = get_or-take n (drop a s) i 0 h ∙ get_or-drop a s i 0

module _ (s t : List ℕ) (p q : ℕ) where
  pub alike_part : (n : ℕ) → part p n s ≡ part q n t → Alike s t p q n
  alike_part n e i h = sym (part_byte s p n i h) ∙ (ap (λ (l : List ℕ). get_or l i 0) e ∙ part_byte t q n i h)

  pub part_alike : (n : ℕ) → p + n ≤ length s → q + n ≤ length t → Alike s t p q n → part p n s ≡ part q n t
  part_alike n h k a =
      let d : length (part p n s) ≡ n = rw (length-take, length-drop) (omega arith) in
      let e : length (part q n t) ≡ n = rw (length-take, length-drop) (omega arith) in
      ext_get_or 0 (part p n s) (part q n t) (d ∙ sym e) (λ i l. byte i (omega (arith, d)))
    where
      byte : (i : ℕ) → i < n → get_or (part p n s) i 0 ≡ get_or (part q n t) i 0
      byte i l = part_byte s p n i l ∙ (a i l ∙ sym (part_byte t q n i l))

  -- a test that is true exactly where the bytes are the same
  pub same_by : (n : ℕ) → p + n ≤ length s → q + n ≤ length t → (b : Bool) → (b ≡ true → Alike s t p q n) → (Alike s t p q n → b ≡ true)
      → b ≡ same (part p n s) (part q n t)
  same_by n h k b f g =
      by_test b
      (λ e. e ∙ sym (rw (part_alike n h k (f e)) (same_refl (part q n t))))
      (λ e. by_test (same (part p n s) (part q n t))
      (λ w. true_false b (g (alike_part n (same_true (part p n s) (part q n t) w))) e)
      (λ w. e ∙ sym w))

  pub alike_same : (n : ℕ) → same (part p n s) (part q n t) ≡ true → Alike s t p q n
  alike_same n e = alike_part n (same_true (part p n s) (part q n t) e)

  pub same_alike : (n : ℕ) → p + n ≤ length s → q + n ≤ length t → Alike s t p q n → same (part p n s) (part q n t) ≡ true
  same_alike n h k a = rw (part_alike n h k a) (same_refl (part q n t))

  -- ---- parts of a part

  pub alike_fewer : (m n : ℕ) → m ≤ n → Alike s t p q n → Alike s t p q m
  alike_fewer m n h a i l = a i (omega arith)

  pub alike_later : (k m n : ℕ) → k + m ≤ n → Alike s t p q n → Alike s t (p + k) (q + k) m
  alike_later k m n h a i l =
      let e : p + k + i ≡ p + (k + i) = omega arith in
      let f : q + k + i ≡ q + (k + i) = omega arith in
      rw (e, f) (a (k + i) (omega arith))

  pub alike_join : (k m n : ℕ) → k ≤ m → Alike s t p q m → Alike s t (p + k) (q + k) n → Alike s t p q (k + n)
  alike_join k m n h a b i l =
      by_test (ltb i m)
      (λ w. a i (ltb-true i m w))
      (λ w. let g = ltb-false i m w in
      let e : p + k + (i - k) ≡ p + i = omega arith in
      let f : q + k + (i - k) ≡ q + i = omega arith in
      rw (e, f) at (b (i - k) (omega arith)))

-- ---- parts that cover a part

module _ (s t : List ℕ) (p q n : ℕ) (h : p + n ≤ length s) (room : q + n ≤ length t) where
  -- a part of the same bytes has the same bytes
  inner_same : (k m : ℕ) → k + m ≤ n → Alike s t p q n → same (part (p + k) m s) (part (q + k) m t) ≡ true
  inner_same k m g a = same_alike s t (p + k) (q + k) m (omega arith) (omega arith) (alike_later s t p q k m n g a)

  -- where the first bytes are the same, the last ones tell
  pub last_tells : (k m w a : ℕ) → k + w ≡ n → k ≤ m → a ≡ p + k → Alike s t p q m
      → same (part a w s) (part (q + k) w t) ≡ same (part p n s) (part q n t)
  last_tells k m w a e g f l =
      rw f (same_by s t p q n h room (same (part (p + k) w s) (part (q + k) w t))
      (λ u. rw e at (alike_join s t p q k m w g l (alike_same s t (p + k) (q + k) w u)))
      (λ u. inner_same k w (omega arith) u))

  -- bytes that differ are told by any part that has them
  pub part_differs : (k m : ℕ) → k + m ≤ n → same (part (p + k) m s) (part (q + k) m t) ≡ false → false ≡ same (part p n s) (part q n t)
  part_differs k m g e =
      by_test (same (part p n s) (part q n t))
      (λ w. true_false (same (part (p + k) m s) (part (q + k) m t)) (inner_same k m g (alike_same s t p q n w)) e)
      (λ w. sym w)

  -- the first m bytes and the last w
  pub two_parts : (m w a b : ℕ) → m ≤ n → w ≤ n → n ≤ m + w → a ≡ p + (n - w) → b ≡ q + (n - w)
      → (same (part p m s) (part q m t) && same (part a w s) (part b w t)) ≡ same (part p n s) (part q n t)
  two_parts m w a b g l o e f =
      let c = same (part p m s) (part q m t) in
      let d = same (part (p + (n - w)) w s) (part (q + (n - w)) w t) in
      let i : n - w + w ≡ n = omega arith in
      rw (e, f) (same_by s t p q n h room (c && d)
      (λ x. let u = alike_same s t p q m (and_left c d x) in
      let v = alike_same s t (p + (n - w)) (q + (n - w)) w (and_right c d x) in
      rw i at (alike_join s t p q (n - w) m w (omega arith) u v))
      (λ x. let u = same_alike s t p q m (omega arith) (omega arith) (alike_fewer s t p q m n g x) in
      and_true c d u (inner_same (n - w) w (omega arith) x)))

-- ---- numbers

-- two numbers alike, by their last byte and the rest
pub peel : (a b p q : ℕ) → a < 256 → b < 256 → a + 256 * p ≡ b + 256 * q → (a ≡ b) × (p ≡ q)
peel a b p q h k e = (omega arith, omega arith)

halves : (a b p q : ℕ) → a < 4294967296 → b < 4294967296 → a + 4294967296 * p ≡ b + 4294967296 * q → (a ≡ b) × (p ≡ q)
halves a b p q h k e = (omega arith, omega arith)

abbrev pub Bytes : List ℕ → Type 0
Bytes s = (i : ℕ) → get_or s i 0 < 256

four_small : (s : List ℕ) (p : ℕ) → Bytes s → four_at s p < 4294967296
four_small s p h = omega (arith, h p, h (p + 1), h (p + 2), h (p + 3))

module _ (s t : List ℕ) (bytes : Bytes s) (others : Bytes t) where
  four_alike : (p q : ℕ) → four_at s p ≡ four_at t q → Alike s t p q 4
  four_alike p q e =
      let a = peel (get_or s p 0) (get_or t q 0) _ _ (bytes p) (others q) e in
      let b = peel (get_or s (p + 1) 0) (get_or t (q + 1) 0) _ _ (bytes (p + 1)) (others (q + 1)) a.1 in
      let c = peel (get_or s (p + 2) 0) (get_or t (q + 2) 0) _ _ (bytes (p + 2)) (others (q + 2)) b.1 in
      each a.0 b.0 c.0 c.1
    where
      each : get_or s p 0 ≡ get_or t q 0 → get_or s (p + 1) 0 ≡ get_or t (q + 1) 0 → get_or s (p + 2) 0 ≡ get_or t (q + 2) 0
          → get_or s (p + 3) 0 ≡ get_or t (q + 3) 0 → Alike s t p q 4
      each a b c d zero h = rw (add-zero p, add-zero q) a
      each a b c d (suc zero) h = b
      each a b c d (suc (suc zero)) h = c
      each a b c d (suc (suc (suc zero))) h = d
      each a b c d (suc (suc (suc (suc i)))) h = absurd (omega arith)

  alike_four : (p q : ℕ) → Alike s t p q 4 → four_at s p ≡ four_at t q
  alike_four p q a =
      let e : get_or s p 0 ≡ get_or t q 0 = rw (add-zero p, add-zero q) at (a 0 (omega arith)) in
      rw (e, a 1 (omega arith), a 2 (omega arith), a 3 (omega arith))

  module _ (p q : ℕ) where
    pub four_same : p + 4 ≤ length s → q + 4 ≤ length t → eqb (four_at s p) (four_at t q) ≡ same (part p 4 s) (part q 4 t)
    four_same h k =
        same_by s t p q 4 h k (eqb (four_at s p) (four_at t q))
        (λ e. four_alike p q (eqb-true (four_at s p) (four_at t q) e))
        (λ a. eq-eqb (four_at s p) (four_at t q) (alike_four p q a))

    eight_alike : eight_at s p ≡ eight_at t q → Alike s t p q 8
    eight_alike e =
        let a = halves (four_at s p) (four_at t q) (four_at s (p + 4)) (four_at t (q + 4)) (four_small s p bytes) (four_small t q others) e in
        alike_join s t p q 4 4 4 (omega arith) (four_alike p q a.0) (four_alike (p + 4) (q + 4) a.1)

    alike_eight : Alike s t p q 8 → eight_at s p ≡ eight_at t q
    alike_eight a =
        let e = alike_four p q (alike_fewer s t p q 4 8 (omega arith) a) in
        let f = alike_four (p + 4) (q + 4) (alike_later s t p q 4 4 8 (omega arith) a) in
        omega arith

    pub eight_same : p + 8 ≤ length s → q + 8 ≤ length t → eqb (eight_at s p) (eight_at t q) ≡ same (part p 8 s) (part q 8 t)
    eight_same h k =
        same_by s t p q 8 h k (eqb (eight_at s p) (eight_at t q))
        (λ e. eight_alike (eqb-true (eight_at s p) (eight_at t q) e))
        (λ a. eq-eqb (eight_at s p) (eight_at t q) (alike_eight a))

-- ---- 16 bytes and more by three numbers, and by four

and_assoc : (a b c d : Bool) → (((a && b) && c) && d) ≡ ((a && b) && (c && d))
and_assoc true true c d = refl
and_assoc true false c d = refl
and_assoc false b c d = refl

module _ (s t : List ℕ) where
  sixteen : (p q a b : ℕ) → p + 16 ≤ length s → q + 16 ≤ length t → a ≡ p + 8 → b ≡ q + 8
      → (same (part p 8 s) (part q 8 t) && same (part a 8 s) (part b 8 t)) ≡ same (part p 16 s) (part q 16 t)
  sixteen p q a b k l e f = two_parts s t p q 16 k l 8 8 a b (omega arith) (omega arith) (omega arith) e f

  module _ (p q n : ℕ) (g : 16 ≤ n) where
    pub three_parts : n ≤ 24 → p + n ≤ length s → q + n ≤ length t → (a b c : Bool)
        → a ≡ same (part p 8 s) (part q 8 t) → b ≡ same (part (p + 8) 8 s) (part (q + 8) 8 t)
        → c ≡ same (part (p + n - 8) 8 s) (part (q + n - 8) 8 t)
        → ((a && b) && c) ≡ same (part p n s) (part q n t)
    three_parts h k l a b c ea eb ec =
        rw (ea, eb, ec, sixteen p q (p + 8) (q + 8) (omega arith) (omega arith) refl refl)
        (two_parts s t p q n k l 16 8 (p + n - 8) (q + n - 8) g (omega arith) (omega arith) (omega arith) (omega arith))

    pub four_parts : n ≤ 32 → p + n ≤ length s → q + n ≤ length t → (a b c d : Bool)
        → a ≡ same (part p 8 s) (part q 8 t) → b ≡ same (part (p + 8) 8 s) (part (q + 8) 8 t)
        → c ≡ same (part (p + n - 16) 8 s) (part (q + n - 16) 8 t) → d ≡ same (part (p + n - 8) 8 s) (part (q + n - 8) 8 t)
        → (((a && b) && c) && d) ≡ same (part p n s) (part q n t)
    four_parts h k l a b c d ea eb ec ed =
        let i = p + n - 16 in
        let j = q + n - 16 in
        let first = sixteen p q (p + 8) (q + 8) (omega arith) (omega arith) refl refl in
        let last = sixteen i j (p + n - 8) (q + n - 8) (omega arith) (omega arith) (omega arith) (omega arith) in
        and_assoc a b c d
        ∙ rw (ea, eb, ec, ed, first, last) (two_parts s t p q n k l 16 16 i j g g (omega arith) (omega arith) (omega arith))

-- ---- a whole text against a part as long

module _ (s text : List ℕ) (at : ℕ) (h : at + length text ≤ length s) where
  abbrev n : ℕ
  n = length text

  room : 0 + n ≤ length text
  room = omega arith

  against_all : same (part at n s) (part 0 n text) ≡ same (part at n s) text
  against_all = ap (same (part at n s)) (take_all n text (omega arith))

  pub text_two : (m : ℕ) → m ≤ n → n ≤ m + m
      → (same (part at m s) (part 0 m text) && same (part (at + n - m) m s) (part (n - m) m text)) ≡ same (part at n s) text
  text_two m g o = two_parts s text at 0 n h room m m (at + n - m) (n - m) g g o (omega arith) (omega arith) ∙ against_all

  module _ (i m : ℕ) where
    from_none : 0 + i ≡ i
    from_none = omega arith

    pub text_differs : i + m ≤ n → same (part (at + i) m s) (part i m text) ≡ false → false ≡ same (part at n s) text
    text_differs g e = part_differs s text at 0 n h room i m g (rw from_none e) ∙ against_all

    pub text_more : Alike s text at 0 i → same (part (at + i) m s) (part i m text) ≡ true → Alike s text at 0 (i + m)
    text_more a e = alike_join s text at 0 i i m (omega arith) a (alike_same s text (at + i) (0 + i) m (rw from_none e))

    pub text_last : n ≤ i + m → m ≤ n → Alike s text at 0 i → same (part (at + n - m) m s) (part (n - m) m text) ≡ same (part at n s) text
    text_last g o a =
        let e : 0 + (n - m) ≡ n - m = omega arith in
        rw e at (last_tells s text at 0 n h room (n - m) i m (at + n - m) (omega arith) (omega arith) (omega arith) a) ∙ against_all

  -- ---- words of eight bytes, one after another

  abbrev pub words : ℕ → Bool
  words k = same (part (at + 8 * k) 8 s) (part (8 * k) 8 text)

  pub words_alike : (m a : ℕ) → 8 * (a + m) ≤ n → Alike s text at 0 (8 * a) → list_all words (range_with_len a m) ≡ true
      → Alike s text at 0 (8 * (a + m))
  words_alike zero a g k e = rw add-zero k
  words_alike (suc m) a g k e =
      let f = and_left (words a) (list_all words (range_with_len (a + 1) m)) e in
      let r = and_right (words a) (list_all words (range_with_len (a + 1) m)) e in
      let q : 8 * a + 8 ≡ 8 * (a + 1) = omega arith in
      let o : a + 1 + m ≡ a + suc m = omega arith in
      rw o at (words_alike m (a + 1) (omega arith) (rw q at (text_more (8 * a) 8 k f)) r)

  pub words_differ : (m a : ℕ) → 8 * (a + m) ≤ n → list_all words (range_with_len a m) ≡ false → false ≡ same (part at n s) text
  words_differ zero a g e = absurd (false≢true (sym e))
  words_differ (suc m) a g e =
      by_test (words a)
      (λ t. words_differ m (a + 1) (omega arith) (rw t at e))
      (λ f. text_differs (8 * a) 8 (omega arith) f)
