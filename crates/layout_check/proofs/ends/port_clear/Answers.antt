use Rattle.std.proofs.Common.{◌≡◌, ◌↔◌, subst, IsTrue, rules}
use Rattle.elk_doc.specs.Document.{node_of_port}
use Rattle.elk_doc.specs.PortsKept.{a_port, an_end}
use Rattle.layout_check.specs.declared.spots.SideSpot.{SideSpot}
use Rattle.layout_check.specs.Spots.{KeepApart, port_spot}
use Rattle.layout_check.proofs.SpotLaws.{apart_if, differ_if, node_at_end}
use Rattle.layout_check.proofs.ends.port_clear.Goals as goal

pub returns : goal.returns
returns c =
    let d = c.args.scene.now.doc.now in
    let p = c.args.scene.now.placed.now in
    let P : SideSpot → Type 0 = λ x. IsTrue c.are_apart.result ↔ KeepApart c.args.roomy x c.end_spot-second.result in
    let Q : SideSpot → Type 0 = λ y. IsTrue c.are_apart.result ↔ KeepApart c.args.roomy (port_spot d p c.args.port) y in
    let says = subst Q c.end_spot-second.ensures (subst P c.port_spot-first.ensures c.are_apart.ensures) in
    let node = node_at_end d c.args.edge c.args.at_source c.args.node c.requires.at_node in
    let differ = differ_if d p c.args.node c.args.roomy (a_port c.args.port) (an_end c.args.edge c.args.at_source) c.requires.roomy in
    let apart = apart_if d p c.args.node c.args.roomy (a_port c.args.port) (an_end c.args.edge c.args.at_source) c.requires.port_in c.requires.edge_in node in
    let here : node_of_port d c.args.port ≡ c.args.node = search rules in
    record { holds = λ t _. differ (says.0 t); fails = λ room h. says.1 (apart room (h here)) }
