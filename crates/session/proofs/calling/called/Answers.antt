-- Each call, by the texts and the powers of its line.
use mathlib.Core.Path.{refl, ◌∙◌}
use Rattle.script.proofs.Powers.{powers_first}
use Rattle.session.proofs.Spans.{called_by, counted, settled}
use Rattle.session.proofs.calling.called.Goals as goal

pub slice_bounds-given-end : goal.slice_bounds-given-end
slice_bounds-given-end c = (powers_first _ _ c.powers_of-powers.ensures).1

pub slice_bounds-load-end : goal.slice_bounds-load-end
slice_bounds-load-end c = counted _ _ (powers_first _ _ c.powers_of-powers.ensures).1

pub returns-in-Advance : goal.returns-in-Advance
returns-in-Advance c = settled c.advance-reply.result c.settle.ensures (c.advance-reply.ensures _ _) ∙ called_by _ _ _ c.in-Advance.is refl refl refl

pub returns-in-EnrolActor : goal.returns-in-EnrolActor
returns-in-EnrolActor c = settled c.enrol_actor-reply.result c.settle-in-EnrolActor.ensures (c.enrol_actor-reply.ensures _ _) ∙ called_by _ _ _ c.in-EnrolActor.is c.first_text-code.ensures refl refl

pub returns-in-EnrolCategory : goal.returns-in-EnrolCategory
returns-in-EnrolCategory c = settled c.enrol_category-reply.result c.settle-in-EnrolCategory.ensures (c.enrol_category-reply.ensures _ _) ∙ called_by _ _ _ c.in-EnrolCategory.is c.first_text-text.ensures refl refl

pub returns-in-Load : goal.returns-in-Load
returns-in-Load c = settled c.load-reply.result c.settle-in-Load.ensures (c.load-reply.ensures _) ∙ called_by _ _ _ c.in-Load.is c.first_text.ensures c.second_text.ensures (powers_first _ _ c.powers_of-powers.ensures).0
