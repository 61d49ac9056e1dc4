-- `head::is_plain` meets its contract: four texts stand around three codes.
use Rattle.request_reader.proofs.PlainMembers.{around_codes}
use Rattle.request_reader.proofs.head.is_plain.Goals as goal

pub returns : goal.returns
returns c =
    around_codes c.args.s.now c.if-s-lt128.false _ _ _ _ _ _ _ _ _
    c.same_text.ensures c.if-not-same_text.false (
      c.eight_at.ensures,
      c.eight_at-2.ensures,
      c.eight_at-3.ensures,
      c.eight_at-4.ensures,
      c.if-not-eight_at.false,
    ) (
      c.eight_at-5.ensures,
      c.eight_at-6.ensures,
      c.eight_at-7.ensures,
      c.eight_at-8.ensures,
      c.if-not-eight_at-2.false,
    )
