use Rattle.layout_check.proofs.BreakInside.{fault_breaks}
use Rattle.layout_check.proofs.box_laws.fault_breaks_inside.Goals as goal

pub returns : goal.returns
returns c = fault_breaks
