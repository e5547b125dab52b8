use Rattle.level_nets.specs.Read.{net_named}
use Rattle.level_nets.proofs.PinLemmas.{net_from}
use Rattle.level_nets.proofs.reading.loop_net.Goals as goal

pub returns : goal.returns
unfolding net_named
returns c = net_from _ _ _ _ c.loop_pin.ensures c.loop_pin-2.ensures
