-- How a step is laid out: the tokens up to its labels and its power, one after another, and the step that is read at those places.
use Rattle.std.specs.Prelude.{Option, Some, None}
use mathlib.Core.Path.{◌≡◌, ap, ◌∙◌}
use mathlib.Core.List.{List, [], ◌∷◌, ◌++◌}
use mathlib.Core.Bool.{Bool, true, false}
use Prim.Native.Nat.{ℕ, ◌+◌, ◌<◌, ◌≤◌}
use native.Mathlib.Omega.{arith}
use lib.Dec.{ltb}
use lib.ListN.{length, drop}
use borrow.Author.Tests.{lt-ltb}
use Rattle.lists.specs.Searches.{every, same}
use Rattle.lists.proofs.Tests.{true_false, and_true}
use Rattle.lists.proofs.Searches.{same_true}
use Rattle.notification.specs.Forms.{is_digit}
use Rattle.reader.specs.Walking.{starts_with}
use Rattle.request.specs.Tokens.{quoted}
use Rattle.request_reader.specs.declared.layouts.Layout.{Layout}
use Rattle.request_reader.specs.Walking.{part, Passed, is_quoted}
use Rattle.request_reader.specs.Steps.{before_from, before_until, before_power, LaidOut, LabelEntry, RunSays, OwnSays, FrontAt}
use Rattle.request_reader.proofs.Walks.{stands_inside, text_long}
use Rattle.request_reader.proofs.Passing.{passed_on, passed_tokens}
use Rattle.request_reader.proofs.LaidFronts.{label_again, run_token, run_length}

-- ---- up to a label or to the power

-- a text of so many bytes stands within the text
pub text_inside : (s t : List ℕ) (at n : ℕ) → is_quoted t ≡ true → length t ≡ n → starts_with t (drop at s) ≡ true → at + n ≤ length s
text_inside s t at n q long e = rw long at (stands_inside s t at (text_long t q) e)

-- a byte by itself, a member's name and its colon, and blanks
pub named_passed : (b : ℕ) (name s : List ℕ) (at mark text from : ℕ) → Passed ((b ∷ []) ∷ []) s at mark → Passed (name ∷ []) s mark text
    → Passed ((58 ∷ []) ∷ []) s text from → Passed ((b ∷ []) ∷ name ∷ (58 ∷ []) ∷ []) s at from
named_passed b name s at mark text from p q r =
    passed_on ((b ∷ []) ∷ []) (name ∷ (58 ∷ []) ∷ []) s at mark from p (passed_on (name ∷ []) ((58 ∷ []) ∷ []) s mark text from q r)

-- where no layout was found, nothing is claimed of one
pub no_claims : {A B : Type 0} (regular : Bool) → regular ≡ false → (regular ≡ true → A) × (regular ≡ true → B)
no_claims regular e = (λ r. true_false regular r e, λ r. true_false regular r e)

-- ---- a step by its own places

-- both labels stand there, and then the digits say what the step does
pub own_says : (s t : List ℕ) (i : ℕ) (l : Layout) (x : Option (ℕ × ℕ)) → same (part (l.first + 1) 4 s) (part (i + 4) 4 t) ≡ true
    → same (part (l.second + 1) 4 s) (part (i + 14) 4 t) ≡ true → RunSays s l.power x → OwnSays t i s l x
own_says s t i l (Some (v, n)) e f r =
    (same_true (part (l.first + 1) 4 s) (part (i + 4) 4 t) e, same_true (part (l.second + 1) 4 s) (part (i + 14) 4 t) f, r)
own_says s t i l None e f r = r

-- the labels stand within the text
pub laid_rooms : (s : List ℕ) (at : ℕ) (l : Layout) → LaidOut before_from s at l → (l.first + 7 ≤ length s) × (l.second + 7 ≤ length s)
laid_rooms s at l o =
    let h = o.to_until.on in
    let k = o.to_power.on in
    let w = o.to_power.within in
    (omega arith, omega arith)

pub own_front : (s t : List ℕ) (at i : ℕ) (l : Layout) (v n : ℕ) → LaidOut before_from s at l → LabelEntry t i → LabelEntry t (i + 10)
    → OwnSays t i s l (Some (v, n)) → FrontAt [] (part (i + 4) 5 t) (part (i + 14) 5 t) s at (l.power + n) v
own_front s t at i l v n o from until says =
    let (f1, f2, r) = says in
    let (m1, m2) = laid_rooms s at l o in
    let j8 : i + 4 + 4 ≡ i + 8 = omega arith in
    let j14 : i + 10 + 4 ≡ i + 14 = omega arith in
    let j18 : i + 14 + 4 ≡ i + 10 + 8 = omega arith in
    let t1 = passed_tokens before_from s at l.first o.to_from in
    let t2 = label_again s t l.first (i + 4) m1 (omega (arith, from.within)) f1
    o.from_label.opens o.from_label.last o.from_label.closes (rw j8 from.last) from.label in
    let t3 = passed_tokens before_until s (l.first + 7) l.second o.to_until in
    let t4 = label_again s t l.second (i + 14) m2 (omega (arith, until.within)) f2
    o.until_label.opens o.until_label.last o.until_label.closes (rw j18 until.last) (rw j14 at until.label) in
    let t5 = passed_tokens before_power s (l.second + 7) l.power o.to_power in
    let digits = part l.power n s in
    let long = run_length s l.power v n r in
    let some : 0 < length digits = omega (arith, long, r.some) in
    record {
      digits = digits;
      within = r.within;
      its_tokens =
          t1 ∙ ap (λ (x : List (List ℕ)). before_from ++ x)
          (t2 ∙ ap (λ (x : List (List ℕ)). quoted (part (i + 4) 5 t) ∷ x)
          (t3 ∙ ap (λ (x : List (List ℕ)). before_until ++ x)
          (t4 ∙ ap (λ (x : List (List ℕ)). quoted (part (i + 14) 5 t) ∷ x)
          (t5 ∙ ap (λ (x : List (List ℕ)). before_power ++ x) (run_token s l.power v n r)))));
      run = and_true (ltb 0 (length digits)) (every is_digit digits) (lt-ltb 0 (length digits) some) r.all;
      its_power = rw long r.its_power;
    }
