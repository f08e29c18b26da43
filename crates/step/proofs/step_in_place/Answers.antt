-- `step::step_in_place` meets its contract.
use Rattle.std.proofs.Common.{arith}
use Rattle.machine.proofs.Validity.{valid_count}
use Rattle.step.proofs.Steps.{step_done}
use Rattle.step.proofs.step_in_place.Goals as goal

pub bounds-m-w : goal.bounds-m-w
bounds-m-w c = omega (arith, valid_count _ _ c.requires, c.if-m-w.false)

pub returns : goal.returns
returns c = step_done _ _ _ _ c.requires c.if-m-w.false c.in_ok-refused.ensures _ _ _ _ _ c.effect-went.ensures.landed c.others.ensures
