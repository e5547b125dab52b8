use Rattle.std.proofs.Common.{◌≡◌, ℕ, ◌<◌, ap, sym, subst, below_more, IsTrue, rules}
use Rattle.std.proofs.lemmas.Bool.{both_ways}
use Rattle.elk_doc.specs.declared.document.Port.{Port}
use Rattle.elk_doc.specs.Document.{node_of_port}
use Rattle.layout_check.specs.FirstPorts.{PairHolds}
use Rattle.layout_check.proofs.ports.lower_hold.Goals as goal

pub loop-other-preserved : goal.loop-other-preserved
loop-other-preserved c =
    let t : IsTrue c.pair_holds.result = search rules in
    below_more (λ j. PairHolds c.args.scene.now.doc.now c.args.scene.now.placed.now c.port.result.now.node j c.args.port) _ c.loop-other.invariant (c.pair_holds.ensures.0 t)

pub returns-then-not-pair_holds : goal.returns-then-not-pair_holds
returns-then-not-pair_holds c =
    let node : c.port.result.now.node ≡ node_of_port c.args.scene.now.doc.now c.args.port = ap (λ (q : Port). q.node) c.port.ensures.value in
    let below : c.loop-other.other < c.args.port = search rules in
    let P : ℕ → Type 0 = λ m. PairHolds c.args.scene.now.doc.now c.args.scene.now.placed.now m c.loop-other.other c.args.port in
    (λ t. absurd (search rules), λ h. absurd (both_ways c.pair_holds.result c.if-not-pair_holds.true (c.pair_holds.ensures.1 (subst P (sym node) (h c.loop-other.other below)))))
