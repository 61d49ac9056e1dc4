-- `head::plain_parties` meets its contract: three codes stand where those of an object without blanks do.
use Rattle.request_reader.proofs.PlainMembers.{plain_parties}
use Rattle.request_reader.proofs.head.plain_parties.Goals as goal

pub returns : goal.returns
returns c =
    plain_parties c.args.s.now (c.is_plain.ensures c.if-not-is_plain.false) _ _ _ _ _ _
    c.is_code.ensures c.is_code-2.ensures c.is_code-3.ensures c.if-not-is_code.false
    c.in_bytes.ensures c.in_bytes-2.ensures c.in_bytes-3.ensures
