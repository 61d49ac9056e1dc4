-- `tokens::value_at` meets its contract: a colon, then blanks.
use mathlib.Core.Path.{refl}
use mathlib.Core.List.{[], ◌∷◌}
use Rattle.request_reader.specs.Walking.{is_mark}
use Rattle.request_reader.proofs.Passing.{passed_on}
use Rattle.request_reader.proofs.tokens.value_at.Goals as goal

pub after_mark-requires : goal.after_mark-requires
unfolding is_mark
after_mark-requires c = (c.requires, refl)

pub returns-clause-passed : goal.returns-clause-passed
returns-clause-passed c =
    passed_on ((58 ∷ []) ∷ []) [] c.args.s.now c.args.at c.in_ok-colon.colon _ c.in_ok-colon.ensures.passed c.past_blanks.ensures.passed
