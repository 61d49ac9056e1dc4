-- Before each step, what is kept and the tokens from there on say what the whole series says.
use mathlib.Core.Path.{◌≡◌, refl, sym, ap, ◌∙◌}
use mathlib.Core.List.{[], ◌∷◌}
use mathlib.Core.Bool.{false}
use Prim.Native.Nat.{◌+◌}
use native.Mathlib.Omega.{arith}
use lib.ListN.{length}
use Rattle.std.proofs.lemmas.Option.{none-some}
use Rattle.reader.specs.Folding.{no_steps}
use Rattle.request.specs.Tokens.{is}
use Rattle.request_reader.specs.Walking.{Passed, first_token, is_mark}
use Rattle.request_reader.specs.Steps.{label_list}
use Rattle.request_reader.specs.Series.{between_steps, Told}
use Rattle.request_reader.proofs.Passing.{passed_tokens}
use Rattle.request_reader.proofs.StepRuns.{told_on}
use Rattle.request_reader.proofs.SeriesReads.{due_told, due_missing, due_next, next_less, laid_for, kept_where, none_lost, no_steps_lem, not_none, between-passed, no_end_told, last_lost, last_step}
use Rattle.request_reader.proofs.series.take_series.Goals as goal
use Rattle.request_reader.proofs.series.take_series.Goals.{Else-byte_at-eq93, Else-byte_at-ne44, After-steps_run-run, then-lead-at, else-lead-at}

pub returns-then-byte_at-eq93 : goal.returns-then-byte_at-eq93
returns-then-byte_at-eq93 c =
    let a = c.args in
    let first = c.past_blanks-first.ensures.past in
    let ends = sym c.byte_at.ensures ∙ c.if-byte_at-eq93.true in
    rw c.then_some.ensures
    (kept_where _ _ c.is_closed.result _
    (λ e. no_steps_lem a.s.now a.from _ first ends a.steps _ (sym c.is_closed.ensures ∙ e))
    (λ e. none_lost a.s.now a.from _ first ends (sym c.is_closed.ensures ∙ e)))

some : (c : Else-byte_at-eq93) → is (93 ∷ []) (first_token c.args.s.now c.past_blanks-first.result) ≡ false
some c = not_none c.args.s.now c.args.from _ c.past_blanks-first.ensures.past (λ e. c.if-byte_at-eq93.false (c.byte_at.ensures ∙ e))

pub next_step-requires : goal.next_step-requires
unfolding label_list
next_step-requires c = (c.loop-step.invariant.within, c.requires.1, c.requires.2, refl)

pub returns-in_err-step : goal.returns-in_err-step
returns-in_err-step c =
    let a = c.args in
    rw c.from_residual.ensures
    (rw c.past_blanks-first.ensures.past.same_tokens at
    (due_missing a.steps a.s.now c.past_blanks-first.result _ _ _ _ (some (goal.at.returns-in_err-step c).Else-byte_at-eq93) c.loop-step.invariant
    c.in_err-step.ensures.told))

pub steps_run-run-requires : goal.steps_run-run-requires
unfolding label_list
steps_run-run-requires c = (
  c.in_ok-step.ensures.told.walked.within,
  c.requires.2,
  refl,
  elim c.if-lead-at.branch [
    | then-lead-at w ↦ rw w.layout-is (laid_for c.args.s.now _ _ (c.loop-step.invariant.goes w.if-lead-at.true).1 _ c.in_ok-step.ensures.laid_out)
    | else-lead-at w ↦ rw w.layout-is (λ l e. absurd (none-some l e))
  ],
)

-- what is kept after the steps taken at once
told : (c : After-steps_run-run)
    → Told c.args.steps c.args.s.now c.past_blanks-first.result (record { tally = no_steps; powers = c.args.powers.now }) c.steps_run-run.result.at
    (record { tally = c.steps_run-run.result.tally; powers = c.steps_run-run.new.powers })
told c =
    let a = c.args in
    told_on a.steps a.s.now _ _ _ _ _ _ (due_told a.steps a.s.now _ _ _ _ _ _ _ c.loop-step.invariant c.in_ok-step.ensures.told) c.steps_run-run.ensures.onward

pub after_mark-requires : goal.after_mark-requires
unfolding is_mark
after_mark-requires c = (c.steps_run-run.ensures.at_in_bounds, refl)

pub returns-in_err-end : goal.returns-in_err-end
returns-in_err-end c =
    let a = c.args in
    rw c.from_residual-in_err-end.ensures
    (rw c.past_blanks-first.ensures.past.same_tokens at
    (no_end_told a.steps a.s.now c.past_blanks-first.result _ _ _ (told (goal.at.returns-in_err-end c).After-steps_run-run) c.in_err-end.ensures.walked))

pub returns-then-byte_at-ne44 : goal.returns-then-byte_at-ne44
returns-then-byte_at-ne44 c =
    let a = c.args in
    let mark = c.past_blanks-mark.ensures.past in
    let other = λ (e : _ ≡ 44). c.if-byte_at-ne44.true (c.byte_at-in-loop-step.ensures ∙ e) in
    let t = told (goal.at.returns-then-byte_at-ne44 c).After-steps_run-run in
    let first = c.past_blanks-first.ensures.past in
    rw c.then_some-then-byte_at-ne44.ensures
    (kept_where _ _ c.is_closed-then-byte_at-ne44.result _
    (λ e. last_step a.s.now _ _ _ mark c.in_ok-end.ensures.walked other a.steps a.from _ _ _ first t (sym c.is_closed-then-byte_at-ne44.ensures ∙ e))
    (λ e. last_lost a.s.now _ _ _ mark c.in_ok-end.ensures.walked other a.steps a.from _ _ _ first t (sym c.is_closed-then-byte_at-ne44.ensures ∙ e)))

passed-on : (c : Else-byte_at-ne44) → Passed between_steps c.args.s.now c.steps_run-run.result.at (c.past_blanks-mark.result + 1)
passed-on c =
    between-passed c.args.s.now _ _ _ c.in_ok-end.ensures.passed c.past_blanks-mark.ensures.past c.past_blanks-mark.ensures.passed
    (sym c.byte_at-in-loop-step.ensures ∙ c.if-byte_at-ne44.false)

pub loop-step-smaller : goal.loop-step-smaller
loop-step-smaller c =
    let a = c.args in
    omega (
      arith,
      ap length (passed_tokens between_steps a.s.now _ _ (passed-on (goal.at.loop-step-smaller c).Else-byte_at-ne44)),
      c.steps_run-run.ensures.onward.fewer,
      next_less a.steps a.s.now _ _ _ _ c.in_ok-step.ensures.told,
    )

pub loop-step-preserved : goal.loop-step-preserved
loop-step-preserved c =
    due_next c.args.steps c.args.s.now _ _ _ _ _ (told (goal.at.loop-step-preserved c).After-steps_run-run)
    (passed-on (goal.at.loop-step-preserved c).Else-byte_at-ne44)
