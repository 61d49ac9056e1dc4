-- The header's line that a name asks for, made of the bytes between its marks, and the key that the line gives.
use mathlib.Core.Path.{◌≡◌, sym, ap, ◌∙◌}
use mathlib.Core.Bool.{true}
use mathlib.Core.List.{List, [], ◌∷◌, ◌++◌, append_assoc}
use Prim.Native.Nat.{ℕ, ◌+◌, ◌-◌, ◌<◌, ◌≤◌}
use native.Mathlib.Omega.{arith}
use lib.ListN.{length, get_or, take, drop, set, length-append, length-take, length-drop, length-set}
use lib.Seq.{take-suc, take-suc-set, take_at, take-add, drop_at, take-set-lt, take-set-le, set_at, set-append_left, length-take-le, get_or-drop}
use Rattle.calendar.specs.Texts.{text_of}
use Rattle.notification.specs.Forms.{filled, six_bytes, category_text}
use Rattle.notification.specs.Writing.{key_text, name_of, header_of, formed}
use Rattle.notification.specs.Reading.{name_key, is_name}
use Rattle.notification.specs.declared.Key.{Key}
use Rattle.notification.proofs.Lengths.{date_length, formed_parts, key_length, name_length}
use Rattle.notification.proofs.Names.{name_back}
use Rattle.notification.proofs.Stored.{filled_all}
use Rattle.reader.specs.InHand.{key_of}

-- ---- the header's line that a name asks for

abbrev semicolons : List ℕ → List ℕ
semicolons s = set (set (set s 16 59) 33 59) 42 59

-- a byte after two parts
set_second : (p q r : List ℕ) (x y a n : ℕ) → length p + 1 + length q ≡ n → set (p ++ x ∷ (q ++ y ∷ r)) n a ≡ p ++ x ∷ (q ++ a ∷ r)
set_second p q r x y a n e =
    let l : length (p ++ x ∷ q) ≡ n = rw length-append (omega arith) in
    ap (λ (s : List ℕ). set s n a) (sym (append_assoc p (x ∷ q) (y ∷ r))) ∙ (set_at (p ++ x ∷ q) y r a n l ∙ append_assoc p (x ∷ q) (a ∷ r))

key_parted : (k : Key) → formed k ≡ true → semicolons (key_text 95 k) ≡ key_text 59 k
key_parted k f =
    let p = formed_parts k f in
    let a = k.ceder in
    let b = k.acquirer in
    let d = text_of k.day in
    let c = category_text k.category in
    let l : length (a ++ 59 ∷ b) ≡ 33 = rw length-append (omega arith) in
    let first : set (key_text 95 k) 16 59 ≡ a ++ 59 ∷ (b ++ 95 ∷ (d ++ 95 ∷ c)) = set_at a 95 (b ++ 95 ∷ (d ++ 95 ∷ c)) 59 16 p.ceder_length in
    let second = set_second a b (d ++ 95 ∷ c) 59 95 59 33 (omega arith) in
    let third = set_second (a ++ 59 ∷ b) d c 59 95 59 42 (omega (arith, date_length k.day)) in
    ap (λ (s : List ℕ). set (set s 33 59) 42 59) first
    ∙ (ap (λ (s : List ℕ). set s 42 59) second
    ∙ (ap (λ (s : List ℕ). set s 42 59) (sym (append_assoc a (59 ∷ b) (59 ∷ (d ++ 95 ∷ c))))
    ∙ (third ∙ append_assoc a (59 ∷ b) (59 ∷ (d ++ 59 ∷ c)))))

-- a byte behind what they are set in
last_kept : (s : List ℕ) (y : ℕ) → length s ≡ 48 → semicolons (s ++ y ∷ []) ≡ semicolons s ++ y ∷ []
last_kept s y l =
    let o : 33 < length (set s 16 59) = rw length-set (omega arith) in
    let p : 42 < length (set (set s 16 59) 33 59) = rw (length-set, length-set) (omega arith) in
    ap (λ (x : List ℕ). set x 42 59)
    (ap (λ (x : List ℕ). set x 33 59) (set-append_left s (y ∷ []) 16 59 (omega arith)) ∙ set-append_left (set s 16 59) (y ∷ []) 33 59 o)
    ∙ set-append_left (set (set s 16 59) 33 59) (y ∷ []) 42 59 p

module _ (name : List ℕ) (t : is_name name ≡ true) where
  abbrev its_key : Key
  its_key = name_key name

  name_rest : drop 4 name ≡ key_text 95 its_key ++ 46 ∷ 99 ∷ 115 ∷ 118 ∷ []
  unfolding name_of
  name_rest = ap (drop 4) (name_back name t).its_name

  text_long : length (key_text 95 its_key) + 8 ≡ length name
  unfolding name_of
  text_long =
      let b = name_back name t in
      omega (arith, name_length its_key b.its_form, key_length 95 its_key b.its_form, ap length b.its_name)

  pub name_long : (56 ≤ length name) × (length name ≤ 57)
  name_long =
      let b = name_back name t in
      let p = formed_parts its_key b.its_form in
      (omega (arith, text_long, key_length 95 its_key b.its_form), omega (arith, text_long, key_length 95 its_key b.its_form))

  -- the first bytes with the marks of a header
  text_parted : (n : ℕ) → n + 8 ≡ length name → semicolons (take n (drop 4 name)) ≡ key_text 59 its_key
  text_parted n e =
      let s = key_text 95 its_key in
      let z : List ℕ = 46 ∷ 99 ∷ 115 ∷ 118 ∷ [] in
      let q : take n (drop 4 name) ≡ s = ap (take n) name_rest ∙ take_at s z n (omega (arith, text_long)) in
      ap semicolons q ∙ key_parted its_key (name_back name t).its_form

  module _ (parts : List ℕ) (e : parts ≡ take 48 (drop 4 name)) where
    abbrev h : List ℕ
    h = parts ++ 0 ∷ 0 ∷ 0 ∷ []

    parts_long : length parts ≡ 48
    parts_long = let g = name_long in rw (e, length-take, length-drop) (omega (arith, g.0))

    l : length h ≡ 51
    l = rw length-append (omega (arith, parts_long))

    header_first : take 48 (semicolons h) ≡ semicolons (take 48 (drop 4 name))
    header_first =
        let q : take 48 h ≡ take 48 (drop 4 name) = take_at parts (0 ∷ 0 ∷ 0 ∷ []) 48 parts_long ∙ e in
        take-set-lt 48 (set (set h 16 59) 33 59) 42 59 (omega arith)
        ∙ (ap (λ (s : List ℕ). set s 42 59)
        (take-set-lt 48 (set h 16 59) 33 59 (omega arith) ∙ ap (λ (s : List ℕ). set s 33 59) (take-set-lt 48 h 16 59 (omega arith)))
        ∙ ap semicolons q)

    its_length : length (semicolons h) ≡ 51
    its_length = rw (length-set, length-set, length-set) l

    pub header_short : (length name ≡ 57 → ⊥) → take (length name - 6) (set (set (semicolons h) 48 59) 49 10) ≡ header_of its_key ++ 10 ∷ []
    unfolding header_of
    header_short f =
        let g = name_long in
        let n : length name - 6 ≡ 50 = omega arith in
        let j = its_length in
        let o : 49 < length (set (semicolons h) 48 59) = rw length-set (omega arith) in
        rw n
        (take-suc-set (set (semicolons h) 48 59) 49 10 o
        ∙ ap (λ (s : List ℕ). s ++ 10 ∷ []) (take-suc-set (semicolons h) 48 59 (omega arith)
        ∙ ap (λ (s : List ℕ). s ++ 59 ∷ []) (header_first ∙ text_parted 48 (omega arith))))

    pub header_full : length name ≡ 57
        → take (length name - 6) (set (set (set (set (set (semicolons h) 48 59) 49 10) 48 (get_or name 52 0)) 49 59) 50 10)
        ≡ header_of its_key ++ 10 ∷ []
    unfolding header_of
    header_full f =
        let n : length name - 6 ≡ 51 = omega arith in
        let j = its_length in
        let s = drop 4 name in
        let y = get_or name 52 0 in
        let p = set (set (semicolons h) 48 59) 49 10 in
        let z : length p ≡ 51 = rw (length-set, length-set) j in
        let o : 50 < length (set (set p 48 y) 49 59) = rw (length-set, length-set) (omega arith) in
        let q : 49 < length (set p 48 y) = rw length-set (omega arith) in
        let r : 48 < length s = rw length-drop (omega arith) in
        let v : length (take 48 s) ≡ 48 = length-take-le 48 s (omega arith) in
        let first : take 48 p ≡ semicolons (take 48 s) =
        take-set-le 48 (set (semicolons h) 48 59) 49 10 (omega arith) ∙ (take-set-le 48 (semicolons h) 48 59 (omega arith) ∙ header_first)
        in
        let whole : semicolons (take 48 s) ++ y ∷ [] ≡ semicolons (take 49 s) =
        sym (last_kept (take 48 s) y v)
        ∙ ap semicolons (ap (λ (x : ℕ). take 48 s ++ x ∷ []) (sym (get_or-drop 4 name 48 0)) ∙ sym (take-suc s 48 0 r))
        in
        rw n
        (take-suc-set (set (set p 48 y) 49 59) 50 10 o
        ∙ ap (λ (x : List ℕ). x ++ 10 ∷ []) (take-suc-set (set p 48 y) 49 59 q
        ∙ ap (λ (x : List ℕ). x ++ 59 ∷ []) (take-suc-set p 48 y (omega arith)
        ∙ (ap (λ (x : List ℕ). x ++ y ∷ []) first ∙ (whole ∙ text_parted 49 (omega arith))))))

-- ---- the key that a header's line gives

take_drop : (m n : ℕ) (s : List ℕ) → m ≤ length s → take n (drop m s) ≡ drop m (take (m + n) s)
take_drop m n s h = sym (ap (drop m) (take-add m n s) ∙ drop_at (take m s) (take n (drop m s)) m (length-take-le m s h))

pub key_made : (h : List ℕ) (day : ℕ) (a b c : List ℕ) → 50 ≤ length h → a ≡ filled 16 (take 16 h) → b ≡ filled 16 (take 16 (drop 17 h))
    → c ≡ six_bytes (take (length h - 2 - 43) (drop 43 h)) → record { ceder = a; acquirer = b; category = c; day = day } ≡ key_of h day
key_made h day a b c l p q r =
    let x : length (take 16 h) ≡ 16 = length-take-le 16 h (omega arith) in
    let y : length (take 16 (drop 17 h)) ≡ 16 = length-take-le 16 (drop 17 h) (rw length-drop (omega arith)) in
    let n : 43 + (length h - 2 - 43) ≡ length h - 2 = omega arith in
    let z : take (length h - 2 - 43) (drop 43 h) ≡ drop 43 (take (length h - 2) h) =
    take_drop 43 (length h - 2 - 43) h (omega arith) ∙ ap (λ (i : ℕ). drop 43 (take i h)) n
    in
    rw (p ∙ filled_all 16 (take 16 h) x, q ∙ filled_all 16 (take 16 (drop 17 h)) y, r ∙ ap six_bytes z)
