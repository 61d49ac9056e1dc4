-- `members::put_terms` meets its contract: the category, the two dates and the status, one after the other.
use Rattle.request_writer.proofs.Terms.{terms_placed}
use Rattle.request_writer.proofs.members.put_terms.Goals as goal

pub returns : goal.returns
returns c =
    terms_placed c.args.r _ _ _ c.category_length-n.ensures.0 c.moment_text-day.ensures c.moment_text-submitted.ensures
    c.args.buffer.now c.args.at c.requires _ _ c.put_value-second.ensures _ _ c.put_value-third.ensures
    _ _ c.put_value-last.ensures _ _ c.put_text.ensures
