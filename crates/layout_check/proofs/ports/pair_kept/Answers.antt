use Rattle.std.proofs.Common.{◌↔◌, subst, IsTrue, rules}
use Rattle.std.proofs.lemmas.Bool.{both_ways}
use Rattle.elk_doc.specs.PortsKept.{a_port}
use Rattle.layout_check.specs.declared.spots.SideSpot.{SideSpot}
use Rattle.layout_check.specs.Spots.{KeepApart, port_spot}
use Rattle.layout_check.proofs.SpotLaws.{apart_if, differ_if}
use Rattle.layout_check.proofs.ports.pair_kept.Goals as goal

pub returns-then-not-order_holds : goal.returns-then-not-order_holds
returns-then-not-order_holds c =
    (λ t. absurd (search rules), λ h. absurd (both_ways c.order_holds.result c.if-not-order_holds.true (c.order_holds.ensures.1 h.forth)))

pub returns-then-not-order_holds-2 : goal.returns-then-not-order_holds-2
returns-then-not-order_holds-2 c =
    (λ t. absurd (search rules), λ h. absurd (both_ways c.order_holds-2.result c.if-not-order_holds-2.true (c.order_holds-2.ensures.1 h.back)))

pub returns : goal.returns
returns c =
    let d = c.args.scene.now.doc.now in
    let p = c.args.scene.now.placed.now in
    let P : SideSpot → Type 0 = λ x. IsTrue c.are_apart.result ↔ KeepApart c.args.roomy x c.port_spot-second.result in
    let Q : SideSpot → Type 0 = λ y. IsTrue c.are_apart.result ↔ KeepApart c.args.roomy (port_spot d p c.args.one) y in
    let says = subst Q c.port_spot-second.ensures (subst P c.port_spot-first.ensures c.are_apart.ensures) in
    let differ = differ_if d p c.args.node c.args.roomy (a_port c.args.one) (a_port c.args.other) c.requires.roomy.1 in
    let apart = apart_if d p c.args.node c.args.roomy (a_port c.args.one) (a_port c.args.other) c.requires.one_in c.requires.other_in c.requires.other_of c.requires.roomy.0 in (
      λ t. record { forth = c.order_holds.ensures.0 c.if-not-order_holds.false; back = c.order_holds-2.ensures.0 c.if-not-order_holds-2.false; differ = differ (says.0 t) },
      λ h. says.1 (apart h.differ),
    )
