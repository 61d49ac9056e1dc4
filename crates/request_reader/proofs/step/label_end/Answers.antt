-- `step::label_end` meets its contract: a quote, bytes of a label, and a quote.
use mathlib.Core.Path.{refl, sym, ◌∙◌}
use Rattle.std.proofs.Common.{rules, tests}
use Rattle.request.specs.Reading.{is_label_byte}
use Rattle.request_reader.proofs.ByteRuns.{loose_unquoted, loose_found, loose_other}
use Rattle.request_reader.proofs.step.label_end.Goals as goal

pub returns-then-byte_at-ne34 : goal.returns-then-byte_at-ne34
returns-then-byte_at-ne34 c =
    loose_unquoted c.args.s.now c.args.from c.requires.1 (λ e. c.if-byte_at-ne34.true (c.byte_at.ensures ∙ e))

pub returns-then-byte_at-ne34-2 : goal.returns-then-byte_at-ne34-2
returns-then-byte_at-ne34-2 c =
    loose_other c.args.s.now c.args.from c.requires.1 (sym c.byte_at.ensures ∙ c.if-byte_at-ne34.false) _ (c.run_to-end.ensures is_label_byte refl (λ b r k. search (rules, tests)))
    (λ e. c.if-byte_at-ne34-2.true (c.byte_at-2.ensures ∙ e))

pub returns : goal.returns
returns c =
    loose_found c.args.s.now c.args.from c.requires.1 (sym c.byte_at.ensures ∙ c.if-byte_at-ne34.false) _ (c.run_to-end.ensures is_label_byte refl (λ b r k. search (rules, tests)))
    (sym c.byte_at-2.ensures ∙ c.if-byte_at-ne34-2.false)
