-- `Head::advance` meets its contract: what the clock answers decides, and the head has the new clock.
use Rattle.std.specs.Prelude.{Ok}
use mathlib.Core.Path.{refl, sym, ◌∙◌, ap}
use Rattle.calendar.specs.declared.clock.Clock.{Clock}
use Rattle.calendar.proofs.Clocks.{advanced_moved, advanced_refused}
use Rattle.ledger.specs.Call.{advance}
use Rattle.ledger.specs.Calls.{verdict_of, effect, moment}
use Rattle.ledger.specs.declared.Answer.TheVariants.{Moved}
use Rattle.register.specs.View.{lent, view}
use Rattle.register.specs.Written.{with_clock, writes, seen}
use Rattle.register.specs.declared.Reply.{Reply}
use Rattle.register.proofs.Steps.{does_refused, does_passed}
use Rattle.register.proofs.Head.advance.Goals as goal

pub returns-in-Err : goal.returns-in-Err
unfolding verdict_of view
returns-in-Err c =
    let a = c.args in
    let v = advanced_refused a.self.clock (moment a.day a.minute) _ (sym c.in-Err.is ∙ c.advanced.ensures) in
    λ columns loads.
    ap (λ (y : Reply). seen (lent y.head columns loads) y.answer) c.refused.ensures
    ∙ does_refused (lent a.self columns loads) (advance a.day a.minute) _ _ (sym v) refl

pub returns-in-Ok : goal.returns-in-Ok
unfolding verdict_of effect view writes
returns-in-Ok c =
    let a = c.args in
    let m = advanced_moved a.self.clock (moment a.day a.minute) _ (sym c.in-Ok.is ∙ c.advanced.ensures) in
    λ columns loads.
    ap (λ (t : Clock). seen (lent (with_clock a.self t) columns loads) (Ok Moved)) m.0
    ∙ does_passed (lent a.self columns loads) _ (advance a.day a.minute) (Ok Moved) _ (sym m.1) refl refl refl
