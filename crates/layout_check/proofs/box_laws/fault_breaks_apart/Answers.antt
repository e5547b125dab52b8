use Rattle.layout_check.proofs.BoxBreakLaws.{fault_breaks}
use Rattle.layout_check.proofs.box_laws.fault_breaks_apart.Goals as goal

pub returns : goal.returns
returns c = fault_breaks
