use Rattle.drawing_laws.proofs.RotatingLaws.{boxes}
use Rattle.drawing_laws.proofs.rotating.boxes_rotate.Goals as goal

pub returns : goal.returns
returns c = boxes
