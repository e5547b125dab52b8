use Rattle.drawing_laws.proofs.FrameLaws.{paths}
use Rattle.drawing_laws.proofs.rotating.paths_rotate.Goals as goal

pub returns : goal.returns
returns c = paths
