-- Bytes copied one after another: from a place of a text on, and a line in hand that goes on and ends.
use mathlib.Core.Path.{◌≡◌, sym, ap, ◌∙◌}
use mathlib.Core.List.{List, [], ◌∷◌, ◌++◌, append-nil, append_assoc}
use Prim.Native.Nat.{ℕ, suc, ◌+◌, ◌-◌, ◌≤◌, min}
use native.Mathlib.Omega.{arith}
use lib.Dec.{leb, ltb}
use lib.ListN.{length, take, drop, replicate, length-append, length-take, length-drop}
use lib.Seq.{take_all, take_at, drop_at, take-take, take-append-add, length-take-le}
use borrow.Rule.Slice.PartMut.{put_mid}
use borrow.Author.Tests.{leb-true, leb-false, ltb-true, ltb-false}
use Rattle.std.proofs.lemmas.List.{drop-replicate}
use Rattle.lists.proofs.Tests.{by_test}
use Rattle.reader.specs.InHand.{gone_on}

-- no more bytes than there are
pub take_least : (s : List ℕ) (n m : ℕ) → length s ≡ m → take (min n m) s ≡ take n s
take_least s n m l =
    by_test (leb n m)
    (λ t. let h = leb-true n m t in
    let e : min n m ≡ n = omega arith in
    rw e)
    (λ t. let h = leb-false n m t in take_all (min n m) s (omega arith) ∙ sym (take_all n s (omega arith)))

-- ---- the first bytes from a place on, put over 0s

pub first_copied : (s a : List ℕ) (from n : ℕ) → from ≤ length s → n ≡ min (length s - from) 64 → a ≡ take (from + n - from) (drop from s)
    → take (length s - from) (a ++ drop n (replicate 64 0)) ≡ take 64 (drop from s)
first_copied s a from n h m e =
    let p : length (drop from s) ≡ length s - from = length-drop from s in
    let i : from + n - from ≡ min 64 (length s - from) = omega (arith, m) in
    let f : a ≡ take 64 (drop from s) = e ∙ (ap (λ (j : ℕ). take j (drop from s)) i ∙ take_least (drop from s) 64 (length s - from) p) in
    let l : length a ≡ n = rw (f, length-take, p) (omega (arith, m)) in
    by_test (leb (length s - from) 64)
    (λ t. let k = leb-true (length s - from) 64 t in take_at a (drop n (replicate 64 0)) (length s - from) (omega arith) ∙ f)
    (λ t. let k = leb-false (length s - from) 64 t in
    let u : n ≡ 64 = omega arith in
    let v : a ++ drop n (replicate 64 0) ≡ a = rw (u, append-nil) in
    rw v (take_all (length s - from) a (omega arith) ∙ f))

-- ---- the line in hand, put over LFs

put_over : (a b : List ℕ) (n m most y : ℕ) → length a ≡ n
    → put_mid n (n + m - n) (a ++ drop n (replicate most y)) b ≡ (a ++ b) ++ replicate (most - (n + m)) y
put_over a b n m most y l =
    let k : n + m - n ≡ m = omega arith in
    let j : most - n - m ≡ most - (n + m) = omega arith in
    let d = drop n (replicate most y) in
    rw (k, take_at a d n l, drop_at a d n l, drop-replicate n most y, drop-replicate m (most - n) y, j) (sym (append_assoc a b (replicate (most - (n + m)) y)))

-- the line with its LF
whole_ended : (p text : List ℕ) (k : ℕ) → length p ≡ k → k ≤ 64 → text ≡ p ++ replicate (65 - k) 10 → take (k + 1) text ≡ p ++ 10 ∷ []
whole_ended p text k z h e =
    let m : 65 - k ≡ suc (64 - k) = omega arith in
    let n : k + 1 ≡ length p + 1 = omega arith in
    rw (e, m, n) (take-append-add p (10 ∷ replicate (64 - k) 10) 1)

-- as many bytes as are held
module _ (line piece : List ℕ) (held end i : ℕ) (l : length line ≡ 64) (g : end ≤ length piece) (h : i ≤ end) (o : min held 64 + i ≤ 64) where
  abbrev kept : List ℕ
  kept = take (min held 64) line ++ take i piece

  kept_long : length kept ≡ min held 64 + i
  kept_long = rw (length-append, length-take-le (min held 64) line (omega arith), length-take-le i piece (omega arith))

  kept_whole : end ≤ i → kept ≡ gone_on (take held line) piece end
  unfolding gone_on
  kept_whole k =
      let m : i ≡ end = omega arith in
      let e : kept ≡ take held line ++ take end piece = rw (take_least line held 64 l, m) in
      sym (take_all 64 kept (omega (arith, kept_long))) ∙ ap (take 64) e

  kept_held : 64 ≤ min held 64 + i → kept ≡ gone_on (take held line) piece end
  unfolding gone_on
  kept_held k =
      let p = take held line in
      let z : length p ≡ min held 64 = rw (length-take, l) in
      let n : 64 ≡ length p + i = omega arith in
      let e : kept ≡ p ++ take i piece = rw (take_least line held 64 l) in
      let f : take 64 (p ++ take end piece) ≡ p ++ take i piece =
      ap (λ (j : ℕ). take j (p ++ take end piece)) n
      ∙ (take-append-add p (take end piece) i ∙ ap (λ (q : List ℕ). p ++ q) (take-take i end piece h))
      in
      e ∙ sym f

pub whole_made : (line piece a b : List ℕ) (held end n m : ℕ) → length line ≡ 64 → end ≤ length piece → n ≡ min held 64 → m ≡ min end (64 - n)
    → a ≡ take n line → b ≡ take m piece
    → (take (n + m + 1) (put_mid n (n + m - n) (a ++ drop n (replicate 65 10)) b) ≡ gone_on (take held line) piece end ++ 10 ∷ [])
    × ((n + m ≡ length (gone_on (take held line) piece end)) × (n + m ≤ 64))
whole_made line piece a b held end n m l g o w e f =
    let h : m ≤ end = omega arith in
    let u : min held 64 + m ≤ 64 = omega arith in
    let u2 : n + m ≤ 64 = omega arith in
    let p = take (min held 64) line ++ take m piece in
    let r : length p ≡ n + m = kept_long line piece held end m l g h u ∙ (omega arith) in
    let q : a ++ b ≡ p = rw (e, f, o) in
    let y : p ≡ gone_on (take held line) piece end =
    by_test (ltb m end)
    (λ t. let v = ltb-true m end t in kept_held line piece held end m l g h u (omega arith))
    (λ t. kept_whole line piece held end m l g h u (ltb-false m end t))
    in
    let z : length a ≡ n = rw (e, length-take, l) (omega (arith, o)) in
    let x : put_mid n (n + m - n) (a ++ drop n (replicate 65 10)) b ≡ p ++ replicate (65 - (n + m)) 10 =
    put_over a b n m 65 10 z ∙ ap (λ (s : List ℕ). s ++ replicate (65 - (n + m)) 10) q
    in
    (rw (← y) (whole_ended p (put_mid n (n + m - n) (a ++ drop n (replicate 65 10)) b) (n + m) r u2 x), (rw (← y) (sym r), u2))
