-- `head::series_from` meets its contract: seven tokens stand there, or one of them is missing.
use mathlib.Core.Path.{refl, sym, ◌∙◌}
use mathlib.Core.List.{[], ◌∷◌}
use lib.ListN.{take, drop}
use Rattle.request.specs.Objects.{status_name, created, series_name}
use Rattle.request.specs.Tokens.{is, quoted}
use Rattle.request_reader.specs.Walking.{Walked}
use Rattle.request_reader.specs.Heads.{begin_tests}
use Rattle.request_reader.proofs.Walks.{comma, colon, bracket, quoted_is, missing_first, missing_amid, walked_on, says_on}
use Rattle.request_reader.proofs.PlainMembers.{plain_begin}
use Rattle.request_reader.proofs.head.series_from.Goals as goal
use Rattle.request_reader.proofs.head.series_from.Goals.{In_ok-first_colon, In_ok-created, In_ok-comma, In_ok-chronique, In_ok-second_colon}

-- ---- the first tokens stand there

two : (c : In_ok-first_colon) → Walked (take 2 begin_tests) c.args.s.now c.args.at c.in_ok-first_colon.first_colon
two c =
    walked_on (take 1 begin_tests) (is (58 ∷ []) ∷ []) c.args.s.now c.args.at _ c.in_ok-statut.ensures.walked _ c.in_ok-first_colon.ensures.walked

three : (c : In_ok-created) → Walked (take 3 begin_tests) c.args.s.now c.args.at c.in_ok-created.created
three c =
    walked_on (take 2 begin_tests) (is (quoted created) ∷ []) c.args.s.now c.args.at _ (two (goal.at.In_ok-created c).In_ok-first_colon) _
    c.in_ok-created.ensures.walked

four : (c : In_ok-comma) → Walked (take 4 begin_tests) c.args.s.now c.args.at c.in_ok-comma.comma
four c =
    walked_on (take 3 begin_tests) (is (44 ∷ []) ∷ []) c.args.s.now c.args.at _ (three (goal.at.In_ok-comma c).In_ok-created) _
    c.in_ok-comma.ensures.walked

five : (c : In_ok-chronique) → Walked (take 5 begin_tests) c.args.s.now c.args.at c.in_ok-chronique.chronique
five c =
    walked_on (take 4 begin_tests) (is (quoted series_name) ∷ []) c.args.s.now c.args.at _ (four (goal.at.In_ok-chronique c).In_ok-comma) _
    c.in_ok-chronique.ensures.walked

six : (c : In_ok-second_colon) → Walked (take 6 begin_tests) c.args.s.now c.args.at c.in_ok-second_colon.second_colon
six c =
    walked_on (take 5 begin_tests) (is (58 ∷ []) ∷ []) c.args.s.now c.args.at _ (five (goal.at.In_ok-second_colon c).In_ok-chronique) _
    c.in_ok-second_colon.ensures.walked

-- ---- where nothing stands between them

pub returns-then-stands : goal.returns-then-stands
returns-then-stands c = plain_begin c.args.s.now c.args.at (sym c.stands.ensures ∙ c.if-stands.true)

-- ---- one after another

pub after_text-requires : goal.after_text-requires
after_text-requires c = (c.requires, quoted_is status_name refl)

pub returns-in_err-statut : goal.returns-in_err-statut
returns-in_err-statut c =
    rw c.from_residual.ensures (missing_first (is (quoted status_name) ∷ []) (drop 1 begin_tests) c.args.s.now c.args.at c.in_err-statut.ensures.walked)

pub after_mark-requires : goal.after_mark-requires
after_mark-requires c = (c.in_ok-statut.ensures.walked.within, colon)

pub returns-in_err-first_colon : goal.returns-in_err-first_colon
returns-in_err-first_colon c =
    rw c.from_residual-in_err-first_colon.ensures
    (missing_amid (take 1 begin_tests) (is (58 ∷ []) ∷ []) (drop 2 begin_tests) c.args.s.now c.args.at _ c.in_ok-statut.ensures.walked
    c.in_err-first_colon.ensures.walked)

pub after_text-requires-2 : goal.after_text-requires-2
after_text-requires-2 c = (c.in_ok-first_colon.ensures.walked.within, quoted_is created refl)

pub returns-in_err-created : goal.returns-in_err-created
returns-in_err-created c =
    rw c.from_residual-in_err-created.ensures
    (missing_amid (take 2 begin_tests) (is (quoted created) ∷ []) (drop 3 begin_tests) c.args.s.now c.args.at _
    (two (goal.at.returns-in_err-created c).In_ok-first_colon) c.in_err-created.ensures.walked)

pub after_mark-requires-2 : goal.after_mark-requires-2
after_mark-requires-2 c = (c.in_ok-created.ensures.walked.within, comma)

pub returns-in_err-comma : goal.returns-in_err-comma
returns-in_err-comma c =
    rw c.from_residual-in_err-comma.ensures
    (missing_amid (take 3 begin_tests) (is (44 ∷ []) ∷ []) (drop 4 begin_tests) c.args.s.now c.args.at _
    (three (goal.at.returns-in_err-comma c).In_ok-created) c.in_err-comma.ensures.walked)

pub after_text-requires-3 : goal.after_text-requires-3
after_text-requires-3 c = (c.in_ok-comma.ensures.walked.within, quoted_is series_name refl)

pub returns-in_err-chronique : goal.returns-in_err-chronique
returns-in_err-chronique c =
    rw c.from_residual-in_err-chronique.ensures
    (missing_amid (take 4 begin_tests) (is (quoted series_name) ∷ []) (drop 5 begin_tests) c.args.s.now c.args.at _
    (four (goal.at.returns-in_err-chronique c).In_ok-comma) c.in_err-chronique.ensures.walked)

pub after_mark-requires-3 : goal.after_mark-requires-3
after_mark-requires-3 c = (c.in_ok-chronique.ensures.walked.within, colon)

pub returns-in_err-second_colon : goal.returns-in_err-second_colon
returns-in_err-second_colon c =
    rw c.from_residual-in_err-second_colon.ensures
    (missing_amid (take 5 begin_tests) (is (58 ∷ []) ∷ []) (drop 6 begin_tests) c.args.s.now c.args.at _
    (five (goal.at.returns-in_err-second_colon c).In_ok-chronique) c.in_err-second_colon.ensures.walked)

pub after_mark-requires-4 : goal.after_mark-requires-4
after_mark-requires-4 c = (c.in_ok-second_colon.ensures.walked.within, bracket)

pub returns : goal.returns
returns c =
    says_on (take 6 begin_tests) (is (91 ∷ []) ∷ []) c.args.s.now c.args.at _ (six (goal.at.returns c).In_ok-second_colon) _ c.after_mark-4.ensures.walked
