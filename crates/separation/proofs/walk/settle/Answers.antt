use Rattle.std.proofs.Common.{arith}
use Rattle.separation.proofs.LinesLemmas.{lines_start, lines_more, lines_end}
use Rattle.separation.proofs.walk.settle.Goals as goal

pub loop-d-init : goal.loop-d-init
loop-d-init c = lines_start _ _ _ _ c.requires.at_floors

pub loop-d-preserved : goal.loop-d-preserved
loop-d-preserved c = lines_more _ _ _ _ _ _ _ _ c.requires.ready c.loop-d-test.true c.loop-d.invariant c.relax.ensures

pub returns : goal.returns
returns c = lines_end _ _ _ _ _ _ c.requires.ready (omega arith) c.loop-d.invariant
