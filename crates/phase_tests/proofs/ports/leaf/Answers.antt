use Rattle.std.proofs.Common.{◌∙◌, refl}
use Rattle.port_order.proofs.ExampleLemmas.{three_ports}
use Rattle.phase_tests.proofs.ports.leaf.Goals as goal

pub returns : goal.returns
returns c = record {
  child = three_ports _ _ _ _ (c.from_vec.ensures ∙ c.in_ok-ports.ensures.items) refl c.requires c.port.ensures c.port-2.ensures c.port-3.ensures;
  ports = rw (c.from_vec.ensures, c.in_ok-ports.ensures.items) refl;
}
