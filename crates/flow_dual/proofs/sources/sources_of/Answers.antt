use Rattle.std.proofs.Common.{length}
use Rattle.flow_dual.proofs.Waiting.{waiting_moved}
use Rattle.flow_dual.proofs.sources.sources_of.Goals as goal

pub returns : goal.returns
returns c = waiting_moved (length c.args.layer.now) c.args.excess.now c.in_ok-sources.sources.items c.sort_by_key.new.self.items c.in_ok-sort_by_key.ensures.permutation c.in_ok-sources.ensures
