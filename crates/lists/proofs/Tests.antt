-- A test is true or false; two tests joined are true where both are.
use mathlib.Core.Path.{◌≡◌, refl, sym, ◌∙◌}
use lib.Dec.{T}
use mathlib.Core.Bool.{Bool, true, false, ◌&&◌, ◌||◌, false≢true, true≢false}

-- a proof by the two values of a test
pub by_test : {P : Type 0} (t : Bool) → (t ≡ true → P) → (t ≡ false → P) → P
by_test true f g = f refl
by_test false f g = g refl

pub true_false : {P : Type 0} (t : Bool) → t ≡ true → t ≡ false → P
true_false t e f = absurd (true≢false (sym e ∙ f))

-- ---- and

pub and_left : (a b : Bool) → (a && b) ≡ true → a ≡ true
and_left true b e = refl
and_left false b e = e

pub and_right : (a b : Bool) → (a && b) ≡ true → b ≡ true
and_right true b e = e
and_right false b e = absurd (false≢true e)

pub and_true : (a b : Bool) → a ≡ true → b ≡ true → (a && b) ≡ true
and_true a b e f = rw (e, f)

pub both_true : (a b : Bool) → (a && b) ≡ true → (a ≡ true) × (b ≡ true)
both_true a b e = (and_left a b e, and_right a b e)

pub right_false : (a b : Bool) → (a && b) ≡ false → a ≡ true → b ≡ false
right_false true b e h = e
right_false false b e h = absurd (false≢true h)

pub left_false : (a b : Bool) → (a && b) ≡ false → b ≡ true → a ≡ false
left_false true b e h = absurd (true≢false (sym h ∙ e))
left_false false b e h = refl

-- ---- or

pub or_left : (a b : Bool) → (a || b) ≡ false → a ≡ false
or_left true b e = e
or_left false b e = refl

pub or_right : (a b : Bool) → (a || b) ≡ false → b ≡ false
or_right true b e = absurd (true≢false e)
or_right false b e = e

pub or_cases : {P : Type 0} (a b : Bool) → (a || b) ≡ true → (a ≡ true → P) → (b ≡ true → P) → P
or_cases true b e f g = f refl
or_cases false b e f g = g e

pub both_false : (a b : Bool) → (a || b) ≡ false → (a ≡ false) × (b ≡ false)
both_false a b e = (or_left a b e, or_right a b e)

-- ---- a test as a statement

pub true_of : (b : Bool) → T b → b ≡ true
true_of true t = refl
true_of false t = absurd t
