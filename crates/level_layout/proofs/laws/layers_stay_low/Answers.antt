use Rattle.level_layout.proofs.LowLayers.{layers_low}
use Rattle.level_layout.proofs.laws.layers_stay_low.Goals as goal

pub returns : goal.returns
returns c = layers_low
