use Rattle.working_frame.proofs.DrawingMoves.{drawing_moves}
use Rattle.working_frame.proofs.moves.drawings_move.Goals as goal

pub returns : goal.returns
returns c = λ l p o d x y has drawn. drawing_moves l p o d x y has drawn
