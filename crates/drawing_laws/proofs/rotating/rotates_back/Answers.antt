use Rattle.drawing_laws.proofs.FrameLaws.{backs}
use Rattle.drawing_laws.proofs.rotating.rotates_back.Goals as goal

pub returns : goal.returns
returns c = backs
