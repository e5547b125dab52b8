use Rattle.std.proofs.Common.{◌≡◌, arith, ◌∙◌, sym, rules, refl}
use Rattle.std.proofs.lemmas.Int.{ints}
use Rattle.elk_doc.specs.declared.document.PortRule.TheVariants.{FixedOrder}
use Rattle.elk_doc.specs.Document.{node_at}
use Rattle.elk_doc.specs.Sides.{side_of_port}
use Rattle.layout_check.proofs.SpotLaws.{is_side-same}
use Rattle.layout_check.proofs.order.order_holds.Goals as goal

pub returns-then-place-most : goal.returns-then-place-most
returns-then-place-most c =
    let ea = c.offset_clockwise-place.ensures in
    let eb = c.offset_clockwise-most.ensures in
    let more = c.if-place-most.true in
    let rule : (node_at c.args.scene.now.doc.now c.args.node).rule ≡ FixedOrder = search rules in
    let one_side = is_side-same _ _ (sym c.is_side.ensures ∙ c.if-not-is_side.false) in
    let side : side_of_port c.args.scene.now.doc.now c.args.scene.now.placed.now c.args.one ≡ side_of_port c.args.scene.now.doc.now c.args.scene.now.placed.now c.args.other = sym c.side_at-first.ensures ∙ one_side ∙ c.side_at-second.ensures in
    let before = c.comes_before.ensures.0 c.if-not-comes_before.false in
    (λ t. absurd (search rules), λ h. let most = h rule side before in absurd (omega (arith, ints, ea, eb, more, most)))

pub returns : goal.returns
returns c =
    let ea = c.offset_clockwise-place.ensures in
    let eb = c.offset_clockwise-most.ensures in
    let no_more = c.if-place-most.false in
    (λ _ _ _ _. omega (arith, ints, ea, eb, no_more), λ _. refl)
