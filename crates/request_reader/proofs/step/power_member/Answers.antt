-- `step::power_member` meets its contract: a name, a colon and a run of digits.
use mathlib.Core.Path.{refl}
use mathlib.Core.List.{[], ◌∷◌}
use Rattle.std.proofs.Common.{rules, tests}
use Rattle.notification.specs.Forms.{is_digit}
use Rattle.request.specs.Reading.{is_run}
use Rattle.request.specs.Tokens.{is}
use Rattle.request_reader.proofs.Walks.{missing_first}
use Rattle.request_reader.proofs.StepReads.{power_lost, power_read}
use Rattle.request_reader.proofs.step.power_member.Goals as goal

pub returns-in_err-from : goal.returns-in_err-from
returns-in_err-from c =
    rw c.from_residual.ensures
    (missing_first (is c.args.name.now ∷ is (58 ∷ []) ∷ []) (is_run ∷ []) c.args.s.now c.args.at c.in_err-from.ensures)

pub returns-then-end-from : goal.returns-then-end-from
returns-then-end-from c =
    power_lost c.args.name.now c.args.s.now c.args.at _ c.in_ok-from.ensures _ (c.run_to-end.ensures is_digit refl (λ b r k. search (rules, tests))) c.if-end-from.true

pub digits_power-requires : goal.digits_power-requires
digits_power-requires c =
    let r = c.run_to-end.ensures is_digit refl (λ b r k. search (rules, tests)) in (r.on, r.within)

pub returns : goal.returns
returns c =
    power_read c.args.name.now c.args.s.now c.args.at _ c.in_ok-from.ensures _
    (c.run_to-end.ensures is_digit refl (λ b r k. search (rules, tests))) _ c.if-end-from.false c.digits_power.ensures
