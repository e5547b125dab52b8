use Rattle.drawing_laws.proofs.FrameLaws.{docks}
use Rattle.drawing_laws.proofs.rotating.docks_rotate.Goals as goal

pub returns : goal.returns
returns c = docks
