use Rattle.drawing_laws.proofs.FrameLaws.{distances}
use Rattle.drawing_laws.proofs.rotating.distances_rotate.Goals as goal

pub returns : goal.returns
returns c = distances
