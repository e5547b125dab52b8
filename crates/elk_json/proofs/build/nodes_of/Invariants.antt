use Rattle.elk_json.specs.Document.{node_of}
use Rattle.elk_json.specs.Members.{is_node}
use Rattle.elk_json.specs.Words.{IsWordIfAny}
use Rattle.elk_json.specs.Seen.{seen_list}
use Rattle.elk_json.proofs.BuildLaws.{AreMade}
use Rattle.elk_json.proofs.build.nodes_of.Given as goal

abbrev pub invariant-loop-element : goal.invariant-loop-element
invariant-loop-element l = AreMade (node_of (seen_list l.list.elements.now)) is_node (λ n. IsWordIfAny n.id) l.list.elements.now l.element-index l.nodes.items
