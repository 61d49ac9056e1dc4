-- `tokens::after_text` meets its contract: past the blanks the text stands, or another token does.
use mathlib.Core.Path.{sym, ◌∙◌}
use Rattle.request_reader.proofs.Walks.{text_long, text_found, text_lost}
use Rattle.request_reader.proofs.Passing.{text_passed}
use Rattle.request_reader.proofs.tokens.after_text.Goals as goal

pub stands-requires : goal.stands-requires
stands-requires c = (c.past_blanks-from.ensures.passed.within, text_long c.args.text.now c.requires.1)

pub returns-then-stands : goal.returns-then-stands
returns-then-stands c =
    let past = c.past_blanks-from.ensures in
    let there = sym c.stands.ensures ∙ c.if-stands.true in record {
      walked = text_found c.args.s.now c.args.at _ c.args.text.now past.past c.requires.1 there;
      passed = text_passed c.args.s.now c.args.at _ past.past past.passed c.args.text.now c.requires.1 there;
    }

pub returns-else-stands-clause-walked : goal.returns-else-stands-clause-walked
returns-else-stands-clause-walked c =
    text_lost c.args.s.now c.args.at _ c.args.text.now c.past_blanks-from.ensures.past c.requires.1 (sym c.stands.ensures ∙ c.if-stands.false)
