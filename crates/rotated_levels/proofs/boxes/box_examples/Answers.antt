use Rattle.rotated_levels.proofs.BoxExampleLemmas.{upward_fits}
use Rattle.rotated_levels.proofs.boxes.box_examples.Goals as goal

pub returns : goal.returns
returns c = upward_fits
