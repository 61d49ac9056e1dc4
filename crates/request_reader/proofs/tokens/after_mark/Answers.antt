-- `tokens::after_mark` meets its contract: past the blanks the byte stands, or another token does.
use mathlib.Core.Path.{sym, ◌∙◌}
use Rattle.request_reader.proofs.Walks.{mark_found, mark_lost}
use Rattle.request_reader.proofs.Passing.{mark_passed}
use Rattle.request_reader.proofs.tokens.after_mark.Goals as goal

pub returns-then-byte_at-b : goal.returns-then-byte_at-b
returns-then-byte_at-b c =
    let past = c.past_blanks-from.ensures in
    let stands = sym c.byte_at.ensures ∙ c.if-byte_at-b.true in record {
      walked = mark_found c.args.s.now c.args.at _ c.args.b past.past c.requires.1 stands;
      passed = mark_passed c.args.s.now c.args.at _ past.past past.passed c.args.b c.requires.1 stands;
    }

pub returns-else-byte_at-b-clause-walked : goal.returns-else-byte_at-b-clause-walked
returns-else-byte_at-b-clause-walked c =
    mark_lost c.args.s.now c.args.at _ c.args.b c.past_blanks-from.ensures.past c.requires.1 (λ e. c.if-byte_at-b.false (c.byte_at.ensures ∙ e))
