use Rattle.layout_check.proofs.ParallelDrawing as laws
use Rattle.layout_check.proofs.drawings.parallel_edges.Goals as goal

pub returns : goal.returns
returns c = laws.parallel_edges
