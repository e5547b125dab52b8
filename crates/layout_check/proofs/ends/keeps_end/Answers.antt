use Rattle.std.proofs.Common.{◌↔◌, ℤ, Bool, true, pos, refl, sym, subst, IsTrue, rules}
use Rattle.std.proofs.lemmas.Bool.{both_ways}
use Rattle.drawing_types.specs.declared.shape.Point.{Point}
use Rattle.drawing_types.specs.declared.shape.Rect.{Rect}
use Rattle.elk_doc.specs.Drawing.{box_of}
use Rattle.elk_doc.specs.PortsKept.{IsOnSide, side_length}
use Rattle.elk_doc.specs.Sides.{side_of_end}
use Rattle.drawing_types.specs.Ranges.{IsWithin}
use Rattle.layout_check.specs.declared.spots.SideSpot.{SideSpot}
use Rattle.layout_check.specs.Spots.{LiesOn}
use Rattle.layout_check.proofs.SpotLaws.{end_offset, subst4}
use Rattle.layout_check.proofs.ends.keeps_end.Goals as goal

pub returns-then-not-is_on_side : goal.returns-then-not-is_on_side
returns-then-not-is_on_side c =
    let line = subst4 (λ (x : SideSpot) (r : Rect) (q : Point) (b : Bool). IsTrue c.is_on_side.result ↔ IsOnSide x.side r q) _ _ _ _ _ _ true true c.end_spot-spot.ensures c.box_of-outer.ensures c.section_end-point.ensures.value refl c.is_on_side.ensures in
    (λ t. absurd (search rules), λ h. absurd (both_ways c.is_on_side.result c.if-not-is_on_side.true (line.1 h.on_line)))

pub returns : goal.returns
returns c =
    let d = c.args.scene.now.doc.now in
    let p = c.args.scene.now.placed.now in
    let m = c.args.node in
    let e = c.args.edge in
    let s = c.args.at_source in
    let line = subst4 (λ (x : SideSpot) (r : Rect) (q : Point) (b : Bool). IsTrue c.is_on_side.result ↔ IsOnSide x.side r q) _ _ _ _ _ _ true true c.end_spot-spot.ensures c.box_of-outer.ensures c.section_end-point.ensures.value refl c.is_on_side.ensures in
    let lies = subst4 (λ (x : SideSpot) (r : Rect) (a b : Bool). IsTrue c.lies_on.result ↔ LiesOn true r x) _ _ _ _ true true true true c.end_spot-spot.ensures c.box_of-outer.ensures refl refl c.lies_on.ensures in
    let same = end_offset d p e s m c.requires.at_node in
    let P : ℤ → Type 0 = λ z. IsWithin (pos 0) (side_length (side_of_end d p e s) (box_of p m)) z in (
      λ t. record { on_line = line.0 c.if-not-is_on_side.false; on_side = subst P same (lies.0 t refl) },
      λ h. lies.1 (λ _. subst P (sym same) h.on_side),
    )
