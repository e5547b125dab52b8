use Rattle.serde_json.specs.View.{view}
use Rattle.elk_json.specs.Seen.{seen_list}
use Rattle.elk_json.proofs.BuildLaws.{ready, sound_built}
use Rattle.elk_json.proofs.document.document_of.Goals as goal

pub nodes_of-requires : goal.nodes_of-requires
nodes_of-requires c = ready (seen_list c.args.list.now.elements.now) (view c.args.value.now) c.requires.all c.requires.accepted

pub ports_of-requires : goal.ports_of-requires
ports_of-requires c = ready (seen_list c.args.list.now.elements.now) (view c.args.value.now) c.requires.all c.requires.accepted

pub edges_of-requires : goal.edges_of-requires
edges_of-requires c = ready (seen_list c.args.list.now.elements.now) (view c.args.value.now) c.requires.all c.requires.accepted

pub new-requires : goal.new-requires
new-requires c = sound_built c.args.list.now.elements.now (view c.args.value.now) _ _ _ c.requires.all c.requires.accepted c.in_ok-nodes.ensures.value c.in_ok-ports.ensures.value c.in_ok-edges.ensures.value
