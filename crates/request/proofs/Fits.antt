-- Tokens that fit a list of tests: where tests ask for certain tokens, these stand there, and a token behind them passes its own test.
use mathlib.Core.Path.{◌≡◌, refl, ap, ◌∙◌}
use mathlib.Core.Bool.{Bool, true, false≢true}
use mathlib.Core.List.{List, [], ◌∷◌, ◌++◌, map}
use Prim.Native.Nat.{ℕ, suc, ◌-◌}
use native.Mathlib.Omega.{arith}
use lib.ListN.{length, length-append}
use lib.Seq.{take_at}
use Rattle.lists.specs.Searches.{same}
use Rattle.lists.proofs.Tests.{and_left, and_right, and_true}
use Rattle.lists.proofs.Searches.{same_refl, same_true}
use Rattle.request.specs.Tokens.{quote, quoted, inside, fits, is, quoted_by}

-- ---- certain tokens, then what the other tests ask

pub record After (asked : List (List ℕ)) (ps : List (List ℕ → Bool)) (ts : List (List ℕ)) : Type 0 where
  pub rest : List (List ℕ)
  pub all : ts ≡ asked ++ rest
  pub fit : fits ps rest ≡ true

pub asked_after : (asked : List (List ℕ)) (ps : List (List ℕ → Bool)) (ts : List (List ℕ))
    → fits (map is asked ++ ps) ts ≡ true → After asked ps ts
unfolding fits
asked_after [] ps ts e = record { rest = ts; all = refl; fit = e }
asked_after (a ∷ asked) ps [] e = absurd (false≢true e)
asked_after (a ∷ asked) ps (t ∷ ts) e =
    let more = fits (map is asked ++ ps) ts in
    let r = asked_after asked ps ts (and_right (same t a) more e) in
    let first = same_true t a (and_left (same t a) more e) in
    record { rest = r.rest; all = cc (first, r.all); fit = r.fit }

pub asked_all : (asked ts : List (List ℕ)) → fits (map is asked) ts ≡ true → ts ≡ asked
unfolding fits
asked_all [] [] e = refl
asked_all [] (t ∷ ts) e = absurd (false≢true e)
asked_all (a ∷ asked) [] e = absurd (false≢true e)
asked_all (a ∷ asked) (t ∷ ts) e =
    let more = fits (map is asked) ts in
    cc (same_true t a (and_left (same t a) more e), asked_all asked ts (and_right (same t a) more e))

-- ---- certain tokens, one that passes a test, then what the other tests ask

pub record Between (asked : List (List ℕ)) (p : List ℕ → Bool) (ps : List (List ℕ → Bool)) (ts : List (List ℕ)) : Type 0 where
  pub token : List ℕ
  pub rest : List (List ℕ)
  pub all : ts ≡ asked ++ token ∷ rest
  pub passes : p token ≡ true
  pub fit : fits ps rest ≡ true

first_passes : (p : List ℕ → Bool) (ps : List (List ℕ → Bool)) (ts : List (List ℕ)) → fits (p ∷ ps) ts ≡ true → Between [] p ps ts
unfolding fits
first_passes p ps [] e = absurd (false≢true e)
first_passes p ps (t ∷ ts) e =
    record { token = t; rest = ts; all = refl; passes = and_left (p t) (fits ps ts) e; fit = and_right (p t) (fits ps ts) e }

pub asked_between : (asked : List (List ℕ)) (p : List ℕ → Bool) (ps : List (List ℕ → Bool)) (ts : List (List ℕ))
    → fits (map is asked ++ (p ∷ ps)) ts ≡ true → Between asked p ps ts
asked_between asked p ps ts e =
    let a = asked_after asked (p ∷ ps) ts e in
    let f = first_passes p ps a.rest a.fit in
    record { token = f.token; rest = f.rest; all = a.all ∙ ap (λ r. asked ++ r) f.all; passes = f.passes; fit = f.fit }

-- ---- a quoted text

pub inside_quoted : (t : List ℕ) → inside (quoted t) ≡ t
inside_quoted t =
    let n : length t ≡ suc (length (t ++ quote ∷ [])) - 2 = simp length-append (omega arith) in
    take_at t (quote ∷ []) (suc (length (t ++ quote ∷ [])) - 2) n

pub quoted_made : (form : List ℕ → Bool) (t : List ℕ) → form t ≡ true → quoted_by form (quoted t) ≡ true
quoted_made form t e = rw (inside_quoted t, same_refl (quoted t)) e

-- what a token that passes says: it is the quoted text, and that has the form
pub quoted_back : (form : List ℕ → Bool) (t : List ℕ) → quoted_by form t ≡ true → (t ≡ quoted (inside t)) × (form (inside t) ≡ true)
quoted_back form t e =
    let a = same t (quoted (inside t)) in
    (same_true t (quoted (inside t)) (and_left a (form (inside t)) e), and_right a (form (inside t)) e)

-- of another form, which every text of the first has
pub quoted_other : (form other : List ℕ → Bool) → ((t : List ℕ) → form t ≡ true → other t ≡ true) → (t : List ℕ)
    → quoted_by form t ≡ true → quoted_by other t ≡ true
quoted_other form other f t e =
    let a = same t (quoted (inside t)) in
    and_true a (other (inside t)) (and_left a (form (inside t)) e) (f (inside t) (and_right a (form (inside t)) e))
