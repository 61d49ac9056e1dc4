-- The name's header first; after it the steps, else no more than a first line.
use mathlib.Core.Path.{◌∙◌}
use Rattle.reader.proofs.Heads.{Past, text_taken, steps_taken, rest_taken, rest_within}
use Rattle.reader.proofs.lines.take_lines.Goals as goal

pub returns-then-first-ne-NAMES_HEADER : goal.returns-then-first-ne-NAMES_HEADER
returns-then-first-ne-NAMES_HEADER c =
    let a = c.args in
    let h = a.header.now in
    let s = a.body.now in
    let u = c.take_header-first.result.tally in
    let at = c.take_header-first.result.at in
    let e = c.take_header-first.ensures in
    let p : Past h s a.from a.t u at = (e.tally_value, (e.body_value, e.at_in_bounds)) in
    let r = c.pass_lines.result.at in
    let q = c.pass_lines.ensures in record {
      powers_after = q.by_index a.steps a.powers.now ∙ text_taken h s a.from a.t u at p a.steps a.powers.now;
      body_value = rest_taken h s a.from a.t u at p r q.at_value;
      at_in_bounds = rest_within h s a.from a.t u at p r q.at_value;
    }

pub returns : goal.returns
returns c =
    let run = c.take_steps-run in
    let a = c.args in
    let h = a.header.now in
    let s = a.body.now in
    let u = c.take_header-first.result.tally in
    let at = c.take_header-first.result.at in
    let e = c.take_header-first.ensures in
    let p : Past h s a.from a.t u at = (e.tally_value, (e.body_value, e.at_in_bounds)) in
    let r = run.result.at in
    let q = run.ensures in record {
      powers_after = steps_taken h s a.from a.t u at p a.steps a.powers.now _ run.result.tally c.if-first-ne-NAMES_HEADER.false q.powers_after;
      body_value = rest_taken h s a.from a.t u at p r q.at_value;
      at_in_bounds = rest_within h s a.from a.t u at p r q.at_value;
    }
