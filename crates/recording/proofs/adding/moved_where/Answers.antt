-- `adding::moved_where` meets its contract: the power counts where it is wanted.
use Rattle.recording.proofs.adding.moved_where.Goals as goal

pub returns-then-on : goal.returns-then-on
returns-then-on c = ((λ ids. rw c.if-on.true (c.moved_by.ensures.0 ids)), c.moved_by.ensures.1)
