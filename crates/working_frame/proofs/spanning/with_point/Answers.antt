use Rattle.std.proofs.Common.{refl, ap, Some}
use Rattle.working_frame.specs.Walk.{reach_over}
use Rattle.working_frame.proofs.spanning.with_point.Goals as goal

pub returns-in-None : goal.returns-in-None
unfolding reach_over
returns-in-None c = rw c.in-None.is refl

pub returns-in-Some : goal.returns-in-Some
unfolding reach_over
returns-in-Some c = rw c.in-Some.is (ap Some c.joined.ensures)
