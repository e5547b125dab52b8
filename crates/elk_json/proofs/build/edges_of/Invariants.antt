use Rattle.elk_json.specs.Document.{edge_of}
use Rattle.elk_json.specs.Members.{is_edge}
use Rattle.elk_json.specs.Words.{IsWord}
use Rattle.elk_json.specs.Seen.{seen_list}
use Rattle.elk_json.proofs.BuildLaws.{AreMade}
use Rattle.elk_json.proofs.build.edges_of.Given as goal

abbrev pub invariant-loop-element : goal.invariant-loop-element
invariant-loop-element l = AreMade (edge_of (seen_list l.list.elements.now)) is_edge (λ e. IsWord e.id) l.list.elements.now l.element-index l.edges.items
