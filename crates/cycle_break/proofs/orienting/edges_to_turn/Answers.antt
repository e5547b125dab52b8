use Rattle.std.proofs.lemmas.Result.{IfOk-weaker}
use Rattle.cycle_break.specs.Ways.{edge_keys}
use Rattle.cycle_break.proofs.Listing.{settled_all}
use Rattle.cycle_break.proofs.orienting.edges_to_turn.Goals as goal

pub returns : goal.returns
returns c = IfOk-weaker c.settle.result _ _ (λ v fact. settled_all c.args.arena.now c.settle.new.kept (edge_keys v.items) fact) c.settle.ensures
