-- The line that answers has at most 64 bytes: a number has at most 20 digits, a refusal's number two, and of three values one is a letter and
-- one a step.
use Rattle.std.proofs.Common.{◌≡◌, ℕ, zero, suc, ◌+◌, ◌/◌, ◌<◌, ◌≤◌, Bool, true, false, eqb, ltb, List, [], ◌∷◌, length, refl, ap, arith, length-append}
use Rattle.lists.proofs.Tests.{by_test}
use Rattle.calendar.specs.Texts.{digit_of}
use Rattle.refusals.specs.Numbers.{input_number, state_number}
use Rattle.refusals.specs.declared.Refusal.{Refusal}
use Rattle.refusals.specs.declared.Refusal.TheVariants.{Input, State}
use Rattle.refusals.proofs.Tables.{number_two}
use Rattle.answers.specs.declared.Said.{Said}
use Rattle.answers.specs.Values.{no_letter, said_ok, said_refusal, said_no}
use Rattle.script.specs.Numbers.{decimal_in, decimal}
use Rattle.script.specs.Answers.{value_text, values_text, ok_text, no_text, said_text, answer_line}
use Rattle.script.proofs.Decimals.{few}

-- ---- the bytes of a value

digits_most : (k n : ℕ) → length (decimal_in k n) ≤ k
unfolding decimal_in
digits_most zero n = omega arith
digits_most (suc k) n =
    by_test (ltb n 10) (λ t. rw t (omega arith)) (λ t. rw t (omega (arith, digits_most k (n / 10), length-append (decimal_in k (n / 10)) (digit_of n ∷ []))))

digits_two : (n : ℕ) → n < 100 → length (decimal n) ≤ 2
digits_two n h = few 20 1 n (omega (arith, h))

value_most : (t : Bool) (v : ℕ) → length (value_text t v) ≤ 20
unfolding value_text
value_most true v = omega arith
value_most false v = digits_most 20 v

value_two : (t : Bool) (v : ℕ) → v < 100 → length (value_text t v) ≤ 2
unfolding value_text
value_two true v h = omega arith
value_two false v h = digits_two v h

letter_one : (v : ℕ) → length (value_text true v) ≡ 1
unfolding value_text
letter_one v = refl

values_more : (letter i v : ℕ) (vs : List ℕ) →
    length (values_text letter i (v ∷ vs)) ≡ suc (length (value_text (eqb i letter) v) + length (values_text letter (suc i) vs))
unfolding values_text
values_more letter i v vs = ap suc (length-append (value_text (eqb i letter) v) (values_text letter (suc i) vs))

values_none : (letter i : ℕ) → length (values_text letter i []) ≡ 0
unfolding values_text
values_none letter i = refl

-- ---- the bytes of what is said

-- what is said is short enough to stand behind any line's number
abbrev pub Short : Said → Type 0
Short said = length (said_text said) ≤ 44

module _ (letter : ℕ) where
  pub ok_none : (a b c : ℕ) → Short (said_ok 0 letter a b c)
  unfolding said_text
  ok_none a b c = omega (arith, values_none letter 0, length-append (ok_text (said_ok 0 letter a b c)) (10 ∷ []))

  pub ok_one : (a b c : ℕ) → Short (said_ok 1 letter a b c)
  unfolding said_text
  ok_one a b c =
      omega (arith, values_none letter 1, values_more letter 0 a [], value_most (eqb 0 letter) a, length-append (ok_text (said_ok 1 letter a b c)) (10 ∷ []))

-- an id, a letter and a step
pub ok_filed : (a b c : ℕ) → c < 100 → Short (said_ok 3 1 a b c)
unfolding said_text
ok_filed a b c h =
    omega (
      arith,
      values_none 1 3,
      values_more 1 2 c [],
      values_more 1 1 b (c ∷ []),
      values_more 1 0 a (b ∷ c ∷ []),
      value_most false a,
      letter_one b,
      value_two false c h,
      length-append (ok_text (said_ok 3 1 a b c)) (10 ∷ []),
    )

-- a letter and two steps
pub ok_shown : (a b c : ℕ) → b < 100 → Short (said_ok 3 0 a b c)
unfolding said_text
ok_shown a b c h =
    omega (
      arith,
      values_none 0 3,
      values_more 0 2 c [],
      values_more 0 1 b (c ∷ []),
      values_more 0 0 a (b ∷ c ∷ []),
      letter_one a,
      value_two false b h,
      value_most false c,
      length-append (ok_text (said_ok 3 0 a b c)) (10 ∷ []),
    )

pub no_short : (number place : ℕ) → number < 100 → Short (said_refusal number place)
unfolding said_text
no_short number place h =
    let s = said_refusal number place in
    by_test (eqb number 0)
    (λ t. rw t (omega (arith, values_none no_letter 0, length-append (ok_text s) (10 ∷ []))))
    (λ t. rw t (omega (arith, length-append (no_text s) (10 ∷ []), length-append (decimal number) (44 ∷ decimal place), digits_two number h, digits_most 20 place)))

pub refusal_short : (r : Refusal) → Short (said_no r)
refusal_short (Input f p) = no_short (input_number f) p (number_two (Input f p))
refusal_short (State f p) = no_short (state_number f) p (number_two (State f p))

-- AN ANSWER'S LINE, whatever its number
pub answer_short : (n : ℕ) (said : Said) → Short said → length (answer_line n said) ≤ 64
unfolding answer_line
answer_short n said h = omega (arith, h, digits_most 20 n, length-append (decimal n) (said_text said))
