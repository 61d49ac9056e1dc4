-- Laws of the first places of a list, each with what is given for it.
use mathlib.Core.Path.{◌≡◌, refl, sym, ◌∙◌, ap}
use mathlib.Core.List.{List}
use Prim.Native.Nat.{ℕ, zero, suc, ◌+◌, ◌≤◌}
use native.Mathlib.Omega.{arith}
use native.Mathlib.Numerals.{add-one}
use lib.ListN.{length, get_or, set, length-set}
use lib.Seq.{get_or-set_other, set-get_or}
use Rattle.tables.specs.More.{put_to}

module _ {A : Type 0} (f : ℕ → A) (xs : List A) where
  pub put_length : (n : ℕ) → length (put_to f n xs) ≡ length xs
  unfolding put_to
  put_length zero = refl
  put_length (suc n) = length-set (put_to f n xs) n (f n) ∙ put_length n

  -- the places past them
  pub put_past : (n j : ℕ) (d : A) → n ≤ j → get_or (put_to f n xs) j d ≡ get_or xs j d
  unfolding put_to
  put_past zero j d h = refl
  put_past (suc n) j d h = get_or-set_other (put_to f n xs) n j (f n) d (λ e. omega arith) ∙ put_past n j d (omega arith)

  -- one place more
  pub put_more : (i : ℕ) (ys zs : List A) → ys ≡ put_to f i xs → zs ≡ set ys i (f i) → zs ≡ put_to f (i + 1) xs
  unfolding put_to
  put_more i ys zs e g = g ∙ ap (λ l. set l i (f i)) e ∙ ap (λ n. put_to f n xs) (sym (add-one i))

  -- one place more, with what is there
  pub put_same : (i : ℕ) (ys : List A) (d : A) → ys ≡ put_to f i xs → f i ≡ get_or xs i d → ys ≡ put_to f (i + 1) xs
  put_same i ys d e g =
      put_more i ys ys e
      (sym (ap (set ys i) (g ∙ sym (put_past i i d (omega arith)) ∙ ap (λ l. get_or l i d) (sym e)) ∙ set-get_or ys i d))
