-- A name is a key's text between `NER_` and `.csv`, a header one before `;`.
use mathlib.Core.Path.{◌≡◌, refl, sym, ap, ◌∙◌}
use mathlib.Core.Bool.{Bool, true, false, ◌&&◌}
use mathlib.Core.List.{List, [], ◌∷◌, ◌++◌}
use Prim.Native.Nat.{ℕ, ◌-◌}
use native.Mathlib.Omega.{arith}
use lib.Dec.{ltb, eqb}
use lib.Pointwise.{pointwise}
use lib.ListN.{length, take, drop, length-append, length-drop, take-append-drop}
use lib.Seq.{take_at, drop_at}
use Rattle.std.specs.Prelude.{Option, None, is_some}
use Rattle.lists.specs.Searches.{same}
use Rattle.lists.proofs.Tests.{by_test, true_false, and_left, and_right}
use Rattle.lists.proofs.Searches.{same_refl, same_true}
use Rattle.notification.specs.Writing.{key_text, name_of, header_of, formed}
use Rattle.notification.specs.Reading.{key_in, name_key, header_key, valid_key, is_name, is_header}
use Rattle.reader.specs.Parts.{is_key, key_read, name_read}
use Rattle.notification.specs.declared.Key.{Key}
use Rattle.notification.proofs.Names.{name_back}
use Rattle.reader.proofs.SameTexts.{same_slices}

-- ---- what ends two texts alike tells them apart nowhere

cancel : (s u t : List ℕ) → s ++ t ≡ u ++ t → s ≡ u
cancel s u t e =
    let n : length s ≡ length u = omega (arith, length-append s t, length-append u t, ap length e) in
    sym (take_at s t (length s) refl) ∙ (ap (take (length s)) e ∙ take_at u t (length s) (sym n))

pub same_ended : (s u t : List ℕ) → same (s ++ t) (u ++ t) ≡ same s u
same_ended s u t =
    by_test (same s u)
    (λ a. let e = same_true s u a in rw (a, e) (same_refl (u ++ t)))
    (λ a. by_test (same (s ++ t) (u ++ t))
    (λ b. let e = cancel s u t (same_true (s ++ t) (u ++ t) b) in true_false (same s u) (rw e (same_refl u)) a)
    (λ b. b ∙ sym a))

pub read_good : (by : ℕ) (s : List ℕ) → is_some (key_read by s) ≡ is_key by s
unfolding key_read
read_good by s = by_test (is_key by s) (λ t. rw t) (λ t. rw t)

-- what the library's test of two slices says
alike : (s t : List ℕ) → pointwise eqb s t ≡ true → s ≡ t
alike s t e = same_true s t (sym (same_slices s t (sym e)))

unlike : {P : Type 0} (s t : List ℕ) → s ≡ t → pointwise eqb s t ≡ false → P
unlike s t e f = true_false (same s t) (rw e (same_refl t)) (sym (same_slices s t (sym f)))

-- ---- a name

abbrev pub beginning : List ℕ
beginning = 78 ∷ 69 ∷ 82 ∷ 95 ∷ []

abbrev pub ending : List ℕ
ending = 46 ∷ 99 ∷ 115 ∷ 118 ∷ []

module _ (name : List ℕ) where
  name_parts : is_name name ≡ true → name ≡ beginning ++ (key_text 95 (name_key name) ++ ending)
  unfolding name_of
  name_parts t = (name_back name t).its_name

  pub name_unmarked : pointwise eqb (take 4 name) beginning ≡ false → None ≡ name_read name
  unfolding name_read
  name_unmarked e =
      by_test (is_name name)
      (λ t. unlike (take 4 name) beginning (ap (take 4) (name_parts t)) e)
      (λ t. rw t)

  module _ (rest : List ℕ) (p : rest ≡ drop 4 name) where
    pub name_unended : pointwise eqb (drop (length rest - 4) rest) ending ≡ false → None ≡ name_read name
    unfolding name_read
    name_unended e =
        by_test (is_name name)
        (λ t. let k = key_text 95 (name_key name) in
        let q : rest ≡ k ++ ending = p ∙ ap (drop 4) (name_parts t) in
        let n : length k ≡ length rest - 4 = omega (arith, ap length q, length-append k ending) in
        unlike (drop (length rest - 4) rest) ending (ap (drop (length rest - 4)) q ∙ drop_at k ending (length rest - 4) n) e)
        (λ t. rw t)

    module _ (inside : List ℕ) (q : inside ≡ take (length rest - 4) rest) (b : pointwise eqb (take 4 name) beginning ≡ true)
        (e : pointwise eqb (drop (length rest - 4) rest) ending ≡ true) where
      framed : name ≡ beginning ++ (inside ++ ending)
      framed =
          let u : rest ≡ inside ++ ending =
          sym (take-append-drop (length rest - 4) rest) ∙ rw (← q, alike (drop (length rest - 4) rest) ending e)
          in
          sym (take-append-drop 4 name) ∙ rw (alike (take 4 name) beginning b, ← p, u)

      inside_key : name_key name ≡ key_in inside
      unfolding name_key
      inside_key =
          let n : length name - 8 ≡ length rest - 4 = omega (arith, ap length p, length-drop 4 name) in
          rw (n, ← p, q)

      inside_name : is_name name ≡ is_key 95 inside
      unfolding is_name is_key name_of
      inside_name =
          let k = key_in inside in
          rw inside_key (ap (λ (b : Bool). valid_key k && b) (ap (λ (r : List ℕ). same r (name_of k)) framed ∙ same_framed k))
        where
          same_framed : (k : Key) → same (beginning ++ (inside ++ ending)) (name_of k) ≡ same inside (key_text 95 k)
          same_framed k = unfold name_of same in same_ended inside (key_text 95 k) ending

      pub name_marked : (r : Option Key) → r ≡ key_read 95 inside → r ≡ name_read name
      unfolding name_read key_read
      name_marked r f = f ∙ rw (inside_name, inside_key)

-- ---- a header

header_back : (l : List ℕ) → is_header l ≡ true → (formed (header_key l) ≡ true) × (l ≡ header_of (header_key l))
unfolding is_header
header_back l e =
    let k = header_key l in
    let v = valid_key k in
    let w = same l (header_of k) in
    (and_left (formed k) (ltb k.day 36525) (and_left v w e), same_true l (header_of k) (and_right v w e))

module _ (l : List ℕ) where
  abbrev end : ℕ
  end = length l - 1

  pub header_unended : pointwise eqb (drop end l) (59 ∷ []) ≡ false → false ≡ is_header l
  unfolding header_of
  header_unended e =
      by_test (is_header l)
      (λ t. let b = header_back l t in
      let k = key_text 59 (header_key l) in
      let n : length k ≡ end = omega (arith, length-append k (59 ∷ []), ap length b.1) in
      unlike (drop end l) (59 ∷ []) (ap (drop end) b.1 ∙ drop_at k (59 ∷ []) end n) e)
      (λ t. sym t)

  same_header : (k : Key) → same (take end l ++ 59 ∷ []) (header_of k) ≡ same (take end l) (key_text 59 k)
  unfolding header_of
  same_header k = same_ended (take end l) (key_text 59 k) (59 ∷ [])

  pub header_inside : (key : List ℕ) (b : Bool) → key ≡ take end l → pointwise eqb (drop end l) (59 ∷ []) ≡ true → b ≡ is_some (key_read 59 key) → b ≡ is_header l
  unfolding is_header is_key header_key
  header_inside key b q e p =
      let k = key_in (take end l) in
      let parts : l ≡ take end l ++ 59 ∷ [] = sym (take-append-drop end l) ∙ ap (λ (r : List ℕ). take end l ++ r) (alike (drop end l) (59 ∷ []) e) in
      let g : is_key 59 (take end l) ≡ is_header l = ap (λ (c : Bool). valid_key k && c) (sym (ap (λ (r : List ℕ). same r (header_of k)) parts ∙ same_header k)) in
      p ∙ (ap (λ (s : List ℕ). is_some (key_read 59 s)) q ∙ (read_good 59 (take end l) ∙ g))
