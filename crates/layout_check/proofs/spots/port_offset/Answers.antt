use Rattle.std.proofs.Common.{◌≡◌, ◌∙◌, ℤ, ◌+ℤ◌, ap, sym, subst, arith, w64, to_z, of_z}
use Rattle.std.proofs.lemmas.Int.{ints}
use Rattle.drawing_types.specs.declared.shape.Point.{Point}
use Rattle.drawing_types.specs.declared.shape.Side.{Side}
use Rattle.elk_doc.specs.declared.document.Port.{Port}
use Rattle.elk_doc.specs.Document.{node_of_port, port_at}
use Rattle.elk_doc.specs.Drawing.{box_of, port_place}
use Rattle.elk_doc.specs.PortsKept.{size_along}
use Rattle.drawing_types.specs.Shapes.{half_of}
use Rattle.elk_doc.specs.Sides.{side_of_port}
use Rattle.elk_doc.specs.Sound.{IsSoundSize, along}
use Rattle.layout_check.proofs.SpotLaws.{offset_of_middle}
use Rattle.layout_check.proofs.spots.port_offset.Goals as goal

pub middle_along-requires-clause-small : goal.middle_along-requires-clause-small
middle_along-requires-clause-small c =
    subst (λ (q : Port). IsSoundSize q.size) (sym c.port.ensures.value) (c.port.ensures.sound.ports.each c.args.port c.requires.port_in).size

pub returns : goal.returns
returns c =
    let d = c.args.scene.now.doc.now in
    let p = c.args.scene.now.placed.now in
    let k = c.args.port in
    let side = side_of_port d p k in
    let middle : Side → Point → Port → ℤ = λ s q r. along s q +ℤ half_of (size_along s r.size) in
    let says : c.middle_along.result ≡ middle side (port_place p k) (port_at d k) =
    c.middle_along.ensures ∙ ap (λ s. middle s c.port_place.result c.port.result.now) c.side_at-side.ensures ∙ ap (λ q. middle side q c.port.result.now) c.port_place.ensures ∙ ap (λ r. middle side (port_place p k) r) c.port.ensures.value
    in
    let same : to_z w64 (of_z w64 c.middle_along.result) ≡ c.middle_along.result = omega (arith, ints) in
    same ∙ says ∙ sym (offset_of_middle side (box_of p (node_of_port d k)) (port_place p k) (port_at d k).size)
