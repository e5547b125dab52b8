use Rattle.elk_json.specs.Document.{port_of}
use Rattle.elk_json.specs.Members.{is_port}
use Rattle.elk_json.specs.Words.{IsWord}
use Rattle.elk_json.specs.Seen.{seen_list}
use Rattle.elk_json.proofs.BuildLaws.{AreMade}
use Rattle.elk_json.proofs.build.ports_of.Given as goal

abbrev pub invariant-loop-element : goal.invariant-loop-element
invariant-loop-element l = AreMade (port_of (seen_list l.list.elements.now)) is_port (λ p. IsWord p.id) l.list.elements.now l.element-index l.ports.items
