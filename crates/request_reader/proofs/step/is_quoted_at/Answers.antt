-- `step::is_quoted_at` meets its contract: quotes around as many bytes, and these are the text.
use mathlib.Core.Path.{sym, ◌∙◌}
use native.Mathlib.Omega.{arith}
use lib.ListN.{length}
use Rattle.request_reader.proofs.Values.{framed_parts}
use Rattle.request_reader.proofs.step.is_quoted_at.Goals as goal

pub same_text-requires : goal.same_text-requires
same_text-requires c =
    let framed = sym c.is_framed.ensures ∙ c.if-not-is_framed.false in
    omega (arith, (framed_parts c.args.s.now c.args.from (length c.args.text.now) framed).0)
