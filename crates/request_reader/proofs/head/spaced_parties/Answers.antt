-- `head::spaced_parties` meets its contract: `{` and three members stand there, or one of them is missing.
use mathlib.Core.Path.{refl}
use mathlib.Core.List.{[], ◌∷◌}
use native.Mathlib.Omega.{arith}
use lib.ListN.{take, drop}
use Rattle.notification.specs.Forms.{is_code}
use Rattle.request.specs.Objects.{ceder_name, acquirer_name, origin_name}
use Rattle.request.specs.Tokens.{is, quoted}
use Rattle.request_reader.specs.Walking.{Walked, value_tests}
use Rattle.request_reader.specs.Heads.{party_tests}
use Rattle.request_reader.proofs.Walks.{brace, quoted_is, missing_first, missing_amid, walked_on}
use Rattle.request_reader.proofs.Heads.{member_named, parties_joined}
use Rattle.request_reader.proofs.head.spaced_parties.Goals as goal
use Rattle.request_reader.proofs.head.spaced_parties.Goals.{In_ok-cedant, In_ok-first, In_ok-acquereur, In_ok-second, In_ok-origine}

-- ---- the first tokens stand there

upto-cedant : (c : In_ok-cedant) → Walked (take 2 party_tests) c.args.s.now 0 c.in_ok-cedant.cedant
upto-cedant c = walked_on (take 1 party_tests) (is (quoted ceder_name) ∷ []) c.args.s.now 0 _ c.in_ok-open.ensures.walked _ c.in_ok-cedant.ensures.walked

upto-first : (c : In_ok-first) → Walked (take 5 party_tests) c.args.s.now 0 c.in_ok-first.first.next
upto-first c = walked_on (take 2 party_tests) (value_tests is_code) c.args.s.now 0 _ (upto-cedant (goal.at.In_ok-first c).In_ok-cedant) _ c.in_ok-first.ensures.walked

upto-acquereur : (c : In_ok-acquereur) → Walked (take 6 party_tests) c.args.s.now 0 c.in_ok-acquereur.acquereur
upto-acquereur c = walked_on (take 5 party_tests) (is (quoted acquirer_name) ∷ []) c.args.s.now 0 _ (upto-first (goal.at.In_ok-acquereur c).In_ok-first) _ c.in_ok-acquereur.ensures.walked

upto-second : (c : In_ok-second) → Walked (take 9 party_tests) c.args.s.now 0 c.in_ok-second.second.next
upto-second c = walked_on (take 6 party_tests) (value_tests is_code) c.args.s.now 0 _ (upto-acquereur (goal.at.In_ok-second c).In_ok-acquereur) _ c.in_ok-second.ensures.walked

upto-origine : (c : In_ok-origine) → Walked (take 10 party_tests) c.args.s.now 0 c.in_ok-origine.origine
upto-origine c = walked_on (take 9 party_tests) (is (quoted origin_name) ∷ []) c.args.s.now 0 _ (upto-second (goal.at.In_ok-origine c).In_ok-second) _ c.in_ok-origine.ensures.walked

-- ---- one after another

pub after_mark-requires : goal.after_mark-requires
after_mark-requires c = (omega arith, brace)

pub returns-in_err-open : goal.returns-in_err-open
returns-in_err-open c =
    rw c.from_residual.ensures (missing_first (is (123 ∷ []) ∷ []) (drop 1 party_tests) c.args.s.now 0 c.in_err-open.ensures.walked)

pub after_text-requires : goal.after_text-requires
after_text-requires c = (c.in_ok-open.ensures.walked.within, quoted_is ceder_name refl)

pub returns-in_err-cedant : goal.returns-in_err-cedant
returns-in_err-cedant c =
    rw c.from_residual-in_err-cedant.ensures
    (missing_amid (take 1 party_tests) (is (quoted ceder_name) ∷ []) (drop 2 party_tests) c.args.s.now 0 _ c.in_ok-open.ensures.walked c.in_err-cedant.ensures.walked)

pub returns-in_err-first : goal.returns-in_err-first
returns-in_err-first c =
    rw c.from_residual-in_err-first.ensures
    (missing_amid (take 2 party_tests) (value_tests is_code) (drop 5 party_tests) c.args.s.now 0 _ (upto-cedant (goal.at.returns-in_err-first c).In_ok-cedant) c.in_err-first.ensures)

pub after_text-requires-2 : goal.after_text-requires-2
after_text-requires-2 c = (c.in_ok-first.ensures.walked.within, quoted_is acquirer_name refl)

pub returns-in_err-acquereur : goal.returns-in_err-acquereur
returns-in_err-acquereur c =
    rw c.from_residual-in_err-acquereur.ensures
    (missing_amid (take 5 party_tests) (is (quoted acquirer_name) ∷ []) (drop 6 party_tests) c.args.s.now 0 _ (upto-first (goal.at.returns-in_err-acquereur c).In_ok-first) c.in_err-acquereur.ensures.walked)

pub returns-in_err-second : goal.returns-in_err-second
returns-in_err-second c =
    rw c.from_residual-in_err-second.ensures
    (missing_amid (take 6 party_tests) (value_tests is_code) (drop 9 party_tests) c.args.s.now 0 _ (upto-acquereur (goal.at.returns-in_err-second c).In_ok-acquereur) c.in_err-second.ensures)

pub after_text-requires-3 : goal.after_text-requires-3
after_text-requires-3 c = (c.in_ok-second.ensures.walked.within, quoted_is origin_name refl)

pub returns-in_err-origine : goal.returns-in_err-origine
returns-in_err-origine c =
    rw c.from_residual-in_err-origine.ensures
    (missing_amid (take 9 party_tests) (is (quoted origin_name) ∷ []) (drop 10 party_tests) c.args.s.now 0 _ (upto-second (goal.at.returns-in_err-origine c).In_ok-second) c.in_err-origine.ensures.walked)

pub returns-in_err-third : goal.returns-in_err-third
returns-in_err-third c =
    rw c.from_residual-in_err-third.ensures
    (missing_amid (take 10 party_tests) (value_tests is_code) (drop 13 party_tests) c.args.s.now 0 _ (upto-origine (goal.at.returns-in_err-third c).In_ok-origine) c.in_err-third.ensures)

pub returns : goal.returns
returns c =
    let s = c.args.s.now in
    parties_joined s _ _ _ _ c.in_ok-open.ensures.walked
    (member_named ceder_name is_code s _ _ c.in_ok-cedant.ensures.walked (λ t. t) _ _ c.in_ok-first.ensures)
    (member_named acquirer_name is_code s _ _ c.in_ok-acquereur.ensures.walked (λ t. t) _ _ c.in_ok-second.ensures)
    (member_named origin_name is_code s _ _ c.in_ok-origine.ensures.walked (λ t. t) _ _ c.in_ok-third.ensures)
