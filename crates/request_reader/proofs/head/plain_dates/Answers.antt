-- `head::plain_dates` meets its contract: three texts stand around two moments.
use mathlib.Core.Path.{refl}
use Prim.Native.Nat.{◌+◌, ◌-◌}
use native.Mathlib.Omega.{arith}
use Rattle.request_reader.proofs.PlainMembers.{plain_dates}
use Rattle.request_reader.proofs.head.plain_dates.Goals as goal

pub returns : goal.returns
returns c =
    let a = c.args in
    plain_dates a.s.now a.from (a.from + 84 - a.from) (omega arith) (omega (arith, c.requires, c.if-s-from-lt84.false)) a.category _ refl refl _ _ _
    c.same_text.ensures c.same_text-2.ensures c.same_text-3.ensures
    c.if-not-same_text.false c.in_ok-day.ensures c.in_ok-submitted.ensures c.if-day-ne0.false
