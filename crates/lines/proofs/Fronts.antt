-- Bytes moved to the front of a buffer.
use Rattle.std.proofs.Common.{◌≡◌, ℕ, zero, suc, ◌+◌, ◌-◌, ◌<◌, ◌≤◌, min, Bool, true, false, ◌&&◌, ltb, leb, List, [], ◌∷◌, ◌++◌, length, take, drop, set, sym, refl, ap, ◌∙◌, arith, length-drop, length-take, length-take-le, take_all, take-take, le-ltb, lt-ltb, le-leb, leb-false, leb-true}
use lib.Seq.{sets, sets-eq, take-nil}
use borrow.Author.Tests.{lt-leb}
use Rattle.std.specs.List.{copy_within}
use Rattle.lists.proofs.Tests.{by_test}
use Rattle.lines.specs.Walking.{held_of, is_last, ended, ended_at}

-- a part of the first entries is one of the list
pub drop_take : {A : Type 0} (m n : ℕ) (s : List A) → drop m (take n s) ≡ take (n - m) (drop m s)
drop_take zero n s = let e : n - 0 ≡ n = omega arith in rw e
drop_take (suc m) zero s = let e : 0 - suc m ≡ 0 = omega arith in rw e
drop_take (suc m) (suc n) [] = sym (take-nil (suc n - suc m))
drop_take (suc m) (suc n) (x ∷ s) = let e : suc n - suc m ≡ n - m = omega arith in rw e (drop_take m n s)

-- what is put at the front, and the rest behind it
module _ (s : List ℕ) where
  pub put_front : (v : List ℕ) → length v ≤ length s → sets s 0 v ≡ v ++ drop (length v) s
  put_front v h = let e : 0 + length v ≡ length v = omega arith in rw e at (sets-eq v s 0 (omega arith))

  -- a part of a list copied to its front
  pub copied_front : (start n : ℕ) → start + n ≤ length s → copy_within s start (start + n) 0 ≡ sets s 0 (take n (drop start s))
  copied_front start n h =
      let v = take n (drop start s) in
      let l : length v ≡ n = length-take-le n (drop start s) (rw length-drop (omega arith)) in
      let e : start + n - start ≡ n = omega arith in
      let z : 0 + n ≡ n = omega arith in
      rw (e, z) (sym (put_front v (omega (arith, l)) ∙ ap (λ (i : ℕ). v ++ drop i s) l))

-- the first of the first entries, and as many as there are
pub take_least : (m n : ℕ) (s : List ℕ) → take m (take n s) ≡ take (min m n) s
take_least m n s =
    by_test (leb m n)
    (λ t. let e : min m n ≡ m = omega (arith, leb-true m n t) in rw e (take-take m n s (leb-true m n t)))
    (λ t.
    let e : min m n ≡ n = omega (arith, leb-false m n t) in
    rw e (take_all m (take n s) (rw length-take (omega (arith, leb-false m n t)))))

pub take_within : (m n : ℕ) (s : List ℕ) → n ≡ min m (length s) → take m s ≡ take n s
take_within m n s e =
    by_test (leb m (length s))
    (λ t. let f : n ≡ m = omega (arith, e, leb-true m (length s) t) in rw f)
    (λ t.
    let h : length s ≤ m = omega (arith, leb-false m (length s) t) in
    let k : length s ≤ n = omega (arith, e, h) in
    take_all m s h ∙ sym (take_all n s k))

least_first : (k a b n : ℕ) → n ≡ min k a → a ≤ b → n ≡ min (min k a) b
least_first k a b n e h = omega (arith, e, h)

least_second : (k a b n : ℕ) → n ≡ min k b → b ≤ a → n ≡ min (min k a) b
least_second k a b n e h = omega (arith, e, h)

held_count : (to l from n : ℕ) → n ≡ min 513 (min to l - from) → n ≡ min (min 513 (to - from)) (l - from)
held_count to l from n f =
    by_test (leb to l)
    (λ t.
    let e : min to l ≡ to = omega (arith, leb-true to l t) in
    let h : to - from ≤ l - from = omega (arith, leb-true to l t) in
    least_first 513 (to - from) (l - from) n (rw e at f) h)
    (λ t.
    let e : min to l ≡ l = omega (arith, leb-false to l t) in
    let h : l - from ≤ to - from = omega (arith, leb-false to l t) in
    least_second 513 (to - from) (l - from) n (rw e at f) h)

-- as many bytes as are moved are those that are held
module _ (s : List ℕ) (from to end n : ℕ) (e : end ≡ min to (length s)) (f : n ≡ min 513 (end - from)) where
  pub held_front : take n (drop from s) ≡ held_of s from to
  held_front =
      let xs = drop from s in
      let l : length xs ≡ length s - from = length-drop from s in
      let a : held_of s from to ≡ take 513 (take (to - from) xs) = ap (take 513) (drop_take from to s) in
      let b : take 513 (take (to - from) xs) ≡ take (min 513 (to - from)) xs = take_least 513 (to - from) xs in
      sym (a ∙ b ∙ take_within (min 513 (to - from)) n xs (rw l (held_count to (length s) from n (rw e at f))))

  pub held_many : n ≡ length (held_of s from to)
  held_many = sym (ap length (sym held_front) ∙ length-take-le n (drop from s) (rw length-drop (omega (arith, e, f))))

-- what is left in front when so many are moved
pub held_all : (s : List ℕ) (from to end n : ℕ) (moved : List ℕ) → end ≡ min to (length s) → n ≡ min 513 (end - from) →
    moved ≡ sets s 0 (take n (drop from s)) →
    (moved ≡ sets s 0 (held_of s from to)) × (n ≡ length (held_of s from to)) × (n ≤ 513) × (n ≤ length s)
held_all s from to end n moved e f m =
    (m ∙ ap (sets s 0) (held_front s from to end n e f), held_many s from to end n e f, omega (arith, f), omega (arith, e, f))

-- the same where they are copied from a place that lies in the input
pub held_moved : (s : List ℕ) (from to : ℕ) {end start n : ℕ} {moved : List ℕ} → end ≡ min to (length s) → start ≡ min from end → n ≡ min 513 (end - start) →
    moved ≡ copy_within s start (start + n) 0 →
    (moved ≡ sets s 0 (held_of s from to)) × (n ≡ length (held_of s from to)) × (n ≤ 513) × (n ≤ length s)
held_moved s from to {end} {start} {n} {moved} e f g m =
    held_all s from to end n moved e (omega (arith, f, g))
    (m ∙ copied_front s start n (omega (arith, e, f, g))
    ∙ by_test (leb from end)
    (λ t. let k : start ≡ from = omega (arith, f, leb-true from end t) in rw k refl)
    (λ t. let k : n ≡ 0 = omega (arith, f, g, leb-false from end t) in rw k refl))

-- ---- a last line

either_false : (t : Bool) → (t && false) ≡ false
either_false true = refl
either_false false = refl

-- none: the input stays as it is and ends at once
none_last : (s : List ℕ) (held : ℕ) → is_last s held ≡ false → (s ≡ ended s held) × (0 ≡ ended_at s held)
unfolding ended ended_at
none_last s held e = rw e (refl, refl)

pub none_held : (s : List ℕ) (held : ℕ) → held ≡ 0 → (s ≡ ended s held) × (0 ≡ ended_at s held)
none_held s held e = none_last s held (rw e refl)

pub none_left : (s : List ℕ) (held : ℕ) → length s ≤ held → (s ≡ ended s held) × (0 ≡ ended_at s held)
none_left s held h = none_last s held (rw (le-ltb held (length s) h) (either_false (ltb 0 held)))

-- its LF is put behind what is held
pub some_last : (s : List ℕ) (held : ℕ) → 0 < held → held < length s → (set s held 10 ≡ ended s held) × (held + 1 ≡ ended_at s held)
unfolding ended ended_at
some_last s held h k = rw (lt-ltb 0 held h, lt-ltb held (length s) k) (refl, refl)

-- ---- room behind a place
