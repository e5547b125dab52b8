use Rattle.drawing_laws.proofs.RotatingLaws.{sides}
use Rattle.drawing_laws.proofs.rotating.sides_rotate.Goals as goal

pub returns : goal.returns
returns c = sides
