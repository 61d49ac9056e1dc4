-- What the lines from here on come to is what all lines come to: each line that is answered is one step of the walk.
use Rattle.std.proofs.Common.{◌≡◌, ◌-◌, length}
use Rattle.session.specs.Stores.{register_in}
use Rattle.lines.specs.Walking.{stands}
use Rattle.lines.specs.declared.answering.Wants.TheVariants.{Input}
use Rattle.lines.proofs.Walks.{Going}
use Rattle.lines.proofs.answering.answer_lines.Given as goal

abbrev pub invariant-loop-stop : goal.invariant-loop-stop
invariant-loop-stop l =
    (l.wants ≡ Input)
    × Going l.input l.initial.given (stands (register_in l.initial.store) l.initial.number l.initial.at l.initial.output l.initial.out Input)
    l.given (stands (register_in l.store) l.number l.at l.output l.out Input)

abbrev pub decreases-loop-stop : goal.decreases-loop-stop
decreases-loop-stop l = length l.input - l.at
