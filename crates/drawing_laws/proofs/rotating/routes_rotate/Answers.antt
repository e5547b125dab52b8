use Rattle.drawing_laws.proofs.RotatingLaws.{routes}
use Rattle.drawing_laws.proofs.rotating.routes_rotate.Goals as goal

pub returns : goal.returns
returns c = routes
