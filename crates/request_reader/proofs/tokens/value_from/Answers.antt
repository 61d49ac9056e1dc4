-- `tokens::value_from` meets its contract: the name, and past a colon.
use mathlib.Core.List.{[], ◌∷◌}
use Rattle.request.specs.Tokens.{is}
use Rattle.request_reader.proofs.Walks.{missing_first}
use Rattle.request_reader.proofs.Values.{opened_on}
use Rattle.request_reader.proofs.tokens.value_from.Goals as goal

pub returns-in_err-named : goal.returns-in_err-named
returns-in_err-named c =
    rw c.from_residual.ensures (missing_first (is c.args.name.now ∷ []) (is (58 ∷ []) ∷ []) c.args.s.now c.args.at c.in_err-named.ensures.walked)

pub returns : goal.returns
returns c = opened_on (is c.args.name.now ∷ []) (is (58 ∷ []) ∷ []) c.args.s.now c.args.at _ c.in_ok-named.ensures.walked _ c.value_at.ensures.opened
