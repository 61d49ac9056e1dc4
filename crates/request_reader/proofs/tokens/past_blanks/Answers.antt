-- `tokens::past_blanks` meets its contract: as many bytes as are blanks are passed.
use mathlib.Core.Path.{refl}
use Rattle.std.proofs.Common.{rules, tests}
use Rattle.request.specs.Tokens.{is_blank}
use Rattle.request_reader.specs.Walking.{RunTo}
use Rattle.request_reader.proofs.Passing.{run_passed, past_passed}
use Rattle.request_reader.proofs.tokens.past_blanks.Goals as goal
use Rattle.request_reader.proofs.tokens.past_blanks.Goals.{After-run_to}

run : (c : After-run_to) → RunTo is_blank c.args.s.now c.args.at c.run_to.result
run c = c.run_to.ensures is_blank refl (λ b r k. search (rules, tests))

pub returns : goal.returns
returns c =
    let r = run c in
    let p = run_passed c.args.s.now c.args.at _ r in
    record { past = past_passed c.args.s.now c.args.at _ r.stop p; passed = p }
