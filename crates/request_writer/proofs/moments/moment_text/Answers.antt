-- `moments::moment_text` meets its contract: the date's digits and the time's, with the bytes between them.
use Rattle.request_writer.proofs.Terms.{moment_made}
use Rattle.request_writer.proofs.moments.moment_text.Goals as goal

pub returns : goal.returns
returns c =
    moment_made c.args.m _ _ _ _ _ _ _ c.text_of-d.ensures c.digit.ensures
    c.digit-2.ensures c.digit-3.ensures c.digit-4.ensures c.digit-5.ensures c.digit-6.ensures
