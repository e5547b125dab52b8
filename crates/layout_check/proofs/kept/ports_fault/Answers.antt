use Rattle.std.proofs.Common.{ℕ, inr}
use Rattle.layout_check.specs.FirstPorts.{PortHolds, EndsHold}
use Rattle.layout_check.proofs.LevelLaws.{kept_by_sentences}
use Rattle.layout_check.proofs.kept.ports_fault.Goals as goal

pub returns-in-Some-first_edge : goal.returns-in-Some-first_edge
returns-in-Some-first_edge c =
    let ports : (k : ℕ) → PortHolds c.args.scene.now.doc.now c.args.scene.now.placed.now c.args.node k = c.in_default.ensures in
    inr (ports, (c.in-Some-first_edge.edge, c.lone-in-Some-first_edge.ensures, c.in-Some-first_edge.ensures))

pub returns-in-None : goal.returns-in-None
returns-in-None c =
    let ports : (k : ℕ) → PortHolds c.args.scene.now.doc.now c.args.scene.now.placed.now c.args.node k = c.in_default.ensures in
    let ends : (e : ℕ) → EndsHold c.args.scene.now.doc.now c.args.scene.now.placed.now c.args.node e = c.in-None.ensures in
    kept_by_sentences c.args.scene.now.doc.now c.args.scene.now.placed.now c.args.node c.node-node.ensures.sound ports ends
