use Rattle.cross_reduce.proofs.FanLemmas.{empty_at}
use Rattle.cross_reduce.proofs.fans.empty_fans.Goals as goal

pub returns-clause-empty : goal.returns-clause-empty
returns-clause-empty c = empty_at (λ v. v.items) c.loop.lists.items c.loop.invariant.1
