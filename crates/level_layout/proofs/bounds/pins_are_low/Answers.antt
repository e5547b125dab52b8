use Rattle.level_layout.proofs.PinLemmas.{pins_low}
use Rattle.level_layout.proofs.bounds.pins_are_low.Goals as goal

pub returns : goal.returns
returns c = pins_low
