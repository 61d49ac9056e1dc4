-- Texts put one after another into a buffer are their join put there.
use mathlib.Core.Path.{◌≡◌, refl, sym, ap, ◌∙◌}
use mathlib.Core.List.{List, [], ◌∷◌, ◌++◌, append_assoc}
use Prim.Native.Nat.{ℕ, suc, ◌+◌, ◌-◌, ◌≤◌}
use native.Mathlib.Nat.{add-zero}
use native.Mathlib.Omega.{arith}
use lib.ListN.{length, drop, set, length-append}
use lib.Seq.{sets, length-sets, sets-eq, drop-drop}
use borrow.Rule.Slice.PartMut.{put_mid}
use Rattle.writer.specs.Placing.{Placed}

pub sets_append : (xs ys l : List ℕ) (i : ℕ) → sets l i (xs ++ ys) ≡ sets (sets l i xs) (i + length xs) ys
sets_append [] ys l i = rw add-zero
sets_append (x ∷ xs) ys l i =
    let e : suc i + length xs ≡ i + suc (length xs) = omega arith in
    rw (← e) (sets_append xs ys (set l i x) (suc i))

-- ---- a text copied to its place

pub placed_copy : (l s b : List ℕ) (at : ℕ) → at + length s ≤ length l → b ≡ s → Placed l at s (put_mid at (at + length s - at) l b) (at + length s)
placed_copy l s b at h e =
    let n : at + length s - at ≡ length s = omega arith in
    record {
      holds = rw (n, e, drop-drop (length s) at l, ← append_assoc) (sym (sets-eq s l at h));
      follows = refl;
    }

-- ---- text by text

pub placed_none : (l : List ℕ) (at : ℕ) → Placed l at [] l at
placed_none l at = record { holds = refl; follows = sym (add-zero at) }

pub placed_length : {l : List ℕ} {at : ℕ} {s b : List ℕ} {n : ℕ} → Placed l at s b n → length b ≡ length l
placed_length {l} {at} {s} p = ap length p.holds ∙ length-sets l at s

pub placed_end : (l : List ℕ) (at : ℕ) (s b : List ℕ) (n x : ℕ) → Placed l at s b n → Placed l at (s ++ x ∷ []) (set b n x) (n + 1)
placed_end l at s b n x p =
    record {
      holds = rw (sets_append s (x ∷ []) l at, p.holds, p.follows);
      follows = omega (arith, p.follows, length-append s (x ∷ []));
    }

pub placed_join : {l : List ℕ} {at : ℕ} {s b : List ℕ} {n : ℕ} {t c : List ℕ} {m : ℕ}
    → Placed l at s b n → Placed b n t c m → Placed l at (s ++ t) c m
placed_join {l} {at} {s} {b} {n} {t} {c} {m} p q =
    record {
      holds = rw (sets_append s t l at, ← p.holds, ← p.follows) q.holds;
      follows = omega (arith, p.follows, q.follows, length-append s t);
    }

-- where two texts have room there is room for the first, and after it for the second
pub room_first : (at : ℕ) (s t : List ℕ) {n : ℕ} → at + length (s ++ t) ≤ n → at + length s ≤ n
room_first at s t h = omega (arith, length-append s t)

pub room_second : {l : List ℕ} {at : ℕ} {s b : List ℕ} {n : ℕ} (t : List ℕ) → Placed l at s b n → at + length (s ++ t) ≤ length l → n + length t ≤ length b
room_second {l} {at} {s} t p h = omega (arith, length-append s t, placed_length p, p.follows)

-- a text put at the beginning of a buffer that is long enough: the rest is untouched
pub placed_first : {l s b : List ℕ} {n : ℕ} → Placed l 0 s b n → length s ≤ length l → b ≡ s ++ drop (length s) l
placed_first {l} {s} p h =
    let z : 0 + length s ≡ length s = omega arith in
    p.holds ∙ (rw z at (sets-eq s l 0 (omega arith)))
