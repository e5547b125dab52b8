use Rattle.std.proofs.Common.{◌↔◌, subst, IsTrue}
use Rattle.elk_doc.specs.PortsKept.{an_end}
use Rattle.layout_check.specs.declared.spots.SideSpot.{SideSpot}
use Rattle.layout_check.specs.Spots.{KeepApart, end_spot}
use Rattle.layout_check.proofs.SpotLaws.{apart_if, differ_if, node_at_end}
use Rattle.layout_check.proofs.ends.end_clear.Goals as goal

pub returns : goal.returns
returns c =
    let d = c.args.scene.now.doc.now in
    let p = c.args.scene.now.placed.now in
    let P : SideSpot → Type 0 = λ x. IsTrue c.are_apart.result ↔ KeepApart c.args.roomy x c.end_spot-second.result in
    let Q : SideSpot → Type 0 = λ y. IsTrue c.are_apart.result ↔ KeepApart c.args.roomy (end_spot d p c.args.other c.args.other_source) y in
    let says = subst Q c.end_spot-second.ensures (subst P c.end_spot-first.ensures c.are_apart.ensures) in
    let node = node_at_end d c.args.edge c.args.at_source c.args._node c.requires.at_node in
    let one = an_end c.args.other c.args.other_source in
    let other = an_end c.args.edge c.args.at_source in
    record {
      holds = λ t. differ_if d p c.args._node c.args.roomy one other c.requires.roomy (says.0 t);
      fails = λ room h. says.1 (apart_if d p c.args._node c.args.roomy one other c.requires.other_in c.requires.edge_in node room h);
    }
