use Rattle.layout_check.proofs.PortBreakLaws.{fault_breaks}
use Rattle.layout_check.proofs.port_laws.fault_breaks_ports.Goals as goal

pub returns : goal.returns
returns c = fault_breaks
