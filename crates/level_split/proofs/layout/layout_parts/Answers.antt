use Rattle.std.proofs.Common.{◌≤◌, List, length, subst, subst₂, sym, w64}
use Rattle.std.proofs.lemmas.Int.{to_z-of_z}
use Rattle.box_pack.specs.Boxes.{AreSizes}
use Rattle.drawing_types.specs.declared.shape.Point.{Point}
use Rattle.level_draw.specs.declared.drawing.LevelOut.{LevelOut}
use Rattle.level_parts.specs.declared.levels.PartLevel.{PartLevel}
use Rattle.level_split.specs.Gathered.{AreLayouts, ArePartDrawings, AreSeated, drawing_at, extents_of}
use Rattle.level_split.specs.Steps.{CanCertify, IsCertificateIn, IsDrawingIn, IsStanding}
use Rattle.level_split.proofs.SeatLemmas.{box_seats, can_certify, few_parts, given, part_drawings, parts_layout, port_seats, section_seats, sizes}
use Rattle.level_split.proofs.layout.layout_parts.Goals as goal

pub rows_of-requires-clause-sizes : goal.rows_of-requires-clause-sizes
rows_of-requires-clause-sizes c =
    let level = c.args.level.now in
    let split = c.in_ok-split.split in
    let outs = c.in_ok-outs.outs.items in
    let is = c.in_ok-split.ensures.split in
    let laid : AreLayouts split.parts (length split.parts) outs = subst (λ (ps : List PartLevel). AreLayouts ps (length ps) outs) c.as_slice.ensures.value c.in_ok-outs.ensures in
    subst (λ (os : List LevelOut). AreSizes (extents_of os)) (sym c.as_slice-2.ensures.value) (sizes level split outs c.requires.level is laid)

pub rows_of-requires-clause-count : goal.rows_of-requires-clause-count
rows_of-requires-clause-count c =
    let level = c.args.level.now in
    let split = c.in_ok-split.split in
    let outs = c.in_ok-outs.outs.items in
    let is = c.in_ok-split.ensures.split in
    let laid : AreLayouts split.parts (length split.parts) outs = subst (λ (ps : List PartLevel). AreLayouts ps (length ps) outs) c.as_slice.ensures.value c.in_ok-outs.ensures in
    subst (λ (os : List LevelOut). length os ≤ 2048) (sym c.as_slice-2.ensures.value) (few_parts level split outs c.requires.level is laid)

pub drawing_of-requires-clause-drawings : goal.drawing_of-requires-clause-drawings
drawing_of-requires-clause-drawings c =
    let level = c.args.level.now in
    let split = c.in_ok-split.split in
    let outs = c.in_ok-outs.outs.items in
    let is = c.in_ok-split.ensures.split in
    let laid : AreLayouts split.parts (length split.parts) outs = subst (λ (ps : List PartLevel). AreLayouts ps (length ps) outs) c.as_slice.ensures.value c.in_ok-outs.ensures in
    let standing : IsStanding outs c.args.component c.in_ok-rows.rows =
    subst (λ (os : List LevelOut). IsStanding os c.args.component c.in_ok-rows.rows) c.as_slice-2.ensures.value (rw (to_z-of_z w64 c.args.component c.ranges.component) at c.in_ok-rows.ensures)
    in
    subst₂ (λ (os : List LevelOut) (ps : List Point). ArePartDrawings os ps) (sym c.as_slice-3.ensures.value) (sym c.as_slice-4.ensures.value)
    (part_drawings level split outs c.requires.level is laid c.args.component standing.limit c.in_ok-rows.rows c.requires.component standing.rows_are)

pub drawing_of-requires-clause-boxes : goal.drawing_of-requires-clause-boxes
drawing_of-requires-clause-boxes c =
    let level = c.args.level.now in
    let split = c.in_ok-split.split in
    let outs = c.in_ok-outs.outs.items in
    let is = c.in_ok-split.ensures.split in
    let laid : AreLayouts split.parts (length split.parts) outs = subst (λ (ps : List PartLevel). AreLayouts ps (length ps) outs) c.as_slice.ensures.value c.in_ok-outs.ensures in
    subst (λ (os : List LevelOut). AreSeated split.children.parts split.children.places (length os) (λ k. length (drawing_at os k).boxes)) (sym c.as_slice-3.ensures.value)
    (box_seats level split outs c.requires.level is laid)

pub drawing_of-requires-clause-ports : goal.drawing_of-requires-clause-ports
drawing_of-requires-clause-ports c =
    let level = c.args.level.now in
    let split = c.in_ok-split.split in
    let outs = c.in_ok-outs.outs.items in
    let is = c.in_ok-split.ensures.split in
    let laid : AreLayouts split.parts (length split.parts) outs = subst (λ (ps : List PartLevel). AreLayouts ps (length ps) outs) c.as_slice.ensures.value c.in_ok-outs.ensures in
    subst (λ (os : List LevelOut). AreSeated split.children.parts split.children.places (length os) (λ k. length (drawing_at os k).ports)) (sym c.as_slice-3.ensures.value)
    (port_seats level split outs c.requires.level is laid)

pub drawing_of-requires-clause-sections : goal.drawing_of-requires-clause-sections
drawing_of-requires-clause-sections c =
    let level = c.args.level.now in
    let split = c.in_ok-split.split in
    let outs = c.in_ok-outs.outs.items in
    let is = c.in_ok-split.ensures.split in
    let laid : AreLayouts split.parts (length split.parts) outs = subst (λ (ps : List PartLevel). AreLayouts ps (length ps) outs) c.as_slice.ensures.value c.in_ok-outs.ensures in
    subst (λ (os : List LevelOut). AreSeated split.edges.parts split.edges.places (length os) (λ k. length (drawing_at os k).sections)) (sym c.as_slice-3.ensures.value)
    (section_seats level split outs c.requires.level is laid)

pub joined_certificate-requires : goal.joined_certificate-requires
joined_certificate-requires c =
    let level = c.args.level.now in
    let split = c.in_ok-split.split in
    let outs = c.in_ok-outs.outs.items in
    let is = c.in_ok-split.ensures.split in
    let laid : AreLayouts split.parts (length split.parts) outs = subst (λ (ps : List PartLevel). AreLayouts ps (length ps) outs) c.as_slice.ensures.value c.in_ok-outs.ensures in
    subst (CanCertify split) (sym c.as_slice-5.ensures.value) (can_certify level split outs c.requires.level is laid)

pub returns : goal.returns
returns c =
    let level = c.args.level.now in
    let split = c.in_ok-split.split in
    let outs = c.in_ok-outs.outs.items in
    let is = c.in_ok-split.ensures.split in
    let laid : AreLayouts split.parts (length split.parts) outs = subst (λ (ps : List PartLevel). AreLayouts ps (length ps) outs) c.as_slice.ensures.value c.in_ok-outs.ensures in
    let standing : IsStanding outs c.args.component c.in_ok-rows.rows =
    subst (λ (os : List LevelOut). IsStanding os c.args.component c.in_ok-rows.rows) c.as_slice-2.ensures.value (rw (to_z-of_z w64 c.args.component c.ranges.component) at c.in_ok-rows.ensures)
    in
    let drawing : IsDrawingIn split outs c.in_ok-rows.rows.at c.in_ok-drawing.drawing =
    subst₂ (λ (os : List LevelOut) (ps : List Point). IsDrawingIn split os ps c.in_ok-drawing.drawing) c.as_slice-3.ensures.value c.as_slice-4.ensures.value c.in_ok-drawing.ensures
    in
    let certificate : IsCertificateIn split outs c.in_ok-certificate.certificate =
    subst (λ (os : List LevelOut). IsCertificateIn split os c.in_ok-certificate.certificate) c.as_slice-5.ensures.value c.in_ok-certificate.ensures
    in
    given level c.args.component split.children.parts outs c.in_ok-rows.rows c.in_ok-drawing.drawing c.in_ok-certificate.certificate _ _ _ _ c.from_vec.ensures c.from_vec-2.ensures c.from_vec-3.ensures c.from_vec-4.ensures
    (parts_layout level split outs c.requires.level is laid c.args.component c.in_ok-rows.rows c.in_ok-drawing.drawing c.in_ok-certificate.certificate standing drawing certificate)
