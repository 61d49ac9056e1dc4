-- `head::spaced_terms` meets its contract: three members stand there, or one of them is missing.
use mathlib.Core.Path.{refl, subst}
use mathlib.Core.Bool.{Bool}
use mathlib.Core.List.{List, [], ◌∷◌}
use Prim.Native.Nat.{ℕ}
use lib.ListN.{take, drop}
use Rattle.notification.specs.Forms.{is_category, six_bytes}
use Rattle.request.specs.Moments.{moment_in, is_moment_text, is_day_text}
use Rattle.request.specs.Objects.{category_name, day_name, submitted_name}
use Rattle.request.specs.Tokens.{is, quoted}
use Rattle.request_reader.specs.Walking.{Walked, Missing, Valued, value_tests}
use Rattle.request_reader.specs.Heads.{term_tests}
use Rattle.request_reader.proofs.Walks.{quoted_is, missing_first, missing_amid, walked_on}
use Rattle.request_reader.proofs.Heads.{day_form, moment_form, member_named, terms_joined}
use Rattle.request_reader.proofs.head.spaced_terms.Goals as goal
use Rattle.request_reader.proofs.head.spaced_terms.Goals.{In_ok-first, In_ok-exploitation, In_ok-second, In_ok-soumission, In_ok-third}

-- ---- the first tokens stand there

second-said : (c : In_ok-second) → Valued is_day_text moment_in c.args.s.now c.in_ok-exploitation.exploitation c.in_ok-second.second.next c.in_ok-second.second.value
second-said c =
    subst (λ (f : List ℕ → Bool). Valued f moment_in c.args.s.now c.in_ok-exploitation.exploitation c.in_ok-second.second.next c.in_ok-second.second.value)
    day_form c.in_ok-second.ensures

upto-first : (c : In_ok-first) → Walked (take 4 term_tests) c.args.s.now c.args.at c.in_ok-first.first.next
upto-first c = walked_on (take 1 term_tests) (value_tests is_category) c.args.s.now c.args.at _ c.in_ok-categorie.ensures.walked _ c.in_ok-first.ensures.walked

upto-exploitation : (c : In_ok-exploitation) → Walked (take 5 term_tests) c.args.s.now c.args.at c.in_ok-exploitation.exploitation
upto-exploitation c = walked_on (take 4 term_tests) (is (quoted day_name) ∷ []) c.args.s.now c.args.at _ (upto-first (goal.at.In_ok-exploitation c).In_ok-first) _ c.in_ok-exploitation.ensures.walked

upto-second : (c : In_ok-second) → Walked (take 8 term_tests) c.args.s.now c.args.at c.in_ok-second.second.next
upto-second c = walked_on (take 5 term_tests) (value_tests is_day_text) c.args.s.now c.args.at _ (upto-exploitation (goal.at.In_ok-second c).In_ok-exploitation) _ (second-said c).walked

upto-soumission : (c : In_ok-soumission) → Walked (take 9 term_tests) c.args.s.now c.args.at c.in_ok-soumission.soumission
upto-soumission c = walked_on (take 8 term_tests) (is (quoted submitted_name) ∷ []) c.args.s.now c.args.at _ (upto-second (goal.at.In_ok-soumission c).In_ok-second) _ c.in_ok-soumission.ensures.walked

-- ---- one after another

pub after_text-requires : goal.after_text-requires
after_text-requires c = (c.requires, quoted_is category_name refl)

pub returns-in_err-categorie : goal.returns-in_err-categorie
returns-in_err-categorie c =
    rw c.from_residual.ensures
    (missing_first (is (quoted category_name) ∷ []) (drop 1 term_tests) c.args.s.now c.args.at c.in_err-categorie.ensures.walked)

pub returns-in_err-first : goal.returns-in_err-first
returns-in_err-first c =
    rw c.from_residual-in_err-first.ensures
    (missing_amid (take 1 term_tests) (value_tests is_category) (drop 4 term_tests) c.args.s.now c.args.at _ c.in_ok-categorie.ensures.walked c.in_err-first.ensures)

pub after_text-requires-2 : goal.after_text-requires-2
after_text-requires-2 c = (c.in_ok-first.ensures.walked.within, quoted_is day_name refl)

pub returns-in_err-exploitation : goal.returns-in_err-exploitation
returns-in_err-exploitation c =
    rw c.from_residual-in_err-exploitation.ensures
    (missing_amid (take 4 term_tests) (is (quoted day_name) ∷ []) (drop 5 term_tests) c.args.s.now c.args.at _ (upto-first (goal.at.returns-in_err-exploitation c).In_ok-first) c.in_err-exploitation.ensures.walked)

pub returns-in_err-second : goal.returns-in_err-second
returns-in_err-second c =
    rw c.from_residual-in_err-second.ensures
    (missing_amid (take 5 term_tests) (value_tests is_day_text) (drop 8 term_tests) c.args.s.now c.args.at _ (upto-exploitation (goal.at.returns-in_err-second c).In_ok-exploitation) (subst (λ (f : List ℕ → Bool). Missing (value_tests f) c.args.s.now c.in_ok-exploitation.exploitation) day_form c.in_err-second.ensures))

pub after_text-requires-3 : goal.after_text-requires-3
after_text-requires-3 c = (c.in_ok-second.ensures.walked.within, quoted_is submitted_name refl)

pub returns-in_err-soumission : goal.returns-in_err-soumission
returns-in_err-soumission c =
    rw c.from_residual-in_err-soumission.ensures
    (missing_amid (take 8 term_tests) (is (quoted submitted_name) ∷ []) (drop 9 term_tests) c.args.s.now c.args.at _ (upto-second (goal.at.returns-in_err-soumission c).In_ok-second) c.in_err-soumission.ensures.walked)

pub returns-in_err-third : goal.returns-in_err-third
returns-in_err-third c =
    rw c.from_residual-in_err-third.ensures
    (missing_amid (take 9 term_tests) (value_tests is_moment_text) (drop 12 term_tests) c.args.s.now c.args.at _ (upto-soumission (goal.at.returns-in_err-third c).In_ok-soumission) (subst (λ (f : List ℕ → Bool). Missing (value_tests f) c.args.s.now c.in_ok-soumission.soumission) moment_form c.in_err-third.ensures))

pub returns : goal.returns
returns c =
    let s = c.args.s.now in
    terms_joined s c.args.at _ _ _
    (member_named category_name is_category s _ _ c.in_ok-categorie.ensures.walked six_bytes _ _ c.in_ok-first.ensures)
    (member_named day_name is_day_text s _ _ c.in_ok-exploitation.ensures.walked moment_in _ _ (second-said (goal.at.returns c).In_ok-second))
    (member_named submitted_name is_moment_text s _ _ c.in_ok-soumission.ensures.walked moment_in _ _
    (subst (λ (f : List ℕ → Bool). Valued f moment_in s c.in_ok-soumission.soumission c.in_ok-third.third.next c.in_ok-third.third.value)
    moment_form c.in_ok-third.ensures))
