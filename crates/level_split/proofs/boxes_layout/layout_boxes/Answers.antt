use Rattle.std.proofs.Common.{List, length, map, sym, subst, w64, FitsSigned}
use Rattle.std.proofs.lemmas.Int.{to_z-of_z}
use Rattle.drawing_types.specs.declared.shape.Point.{Point}
use Rattle.drawing_types.specs.declared.shape.Rect.{Rect}
use Rattle.port_order.specs.declared.children.Child.{Child}
use Rattle.box_pack.specs.Boxes.{AreSizes}
use Rattle.box_pack.specs.Squareness.{IsSquarest}
use Rattle.level_split.specs.Outlines.{AreOutlines, ArePorted, outline_size}
use Rattle.level_split.specs.Placing.{StandInRows, AreRoomy}
use Rattle.level_split.proofs.LayoutLemmas.{distance, has_room, laid_out, rows_roomy, sizes}
use Rattle.level_split.proofs.BoxesOutLemmas.{ported}
use Rattle.level_split.proofs.RoomLemmas.{distance_fits}
use Rattle.level_split.proofs.boxes_layout.layout_boxes.Goals as goal

pub outlines_of-requires : goal.outlines_of-requires
outlines_of-requires c =
    subst (λ (cs : List Child). ArePorted cs c.as_slice-2.result.now) (sym c.as_slice.ensures.value)
    (subst (ArePorted c.alone-level.result.children) (sym c.as_slice-2.ensures.value) (ported c.alone-level.result c.in_ok-out.out c.in_ok-out.ensures))

pub rows_of-requires-clause-sizes : goal.rows_of-requires-clause-sizes
rows_of-requires-clause-sizes c =
    let outlines = c.in_ok-outlines.outlines.items in
    let are : AreOutlines c.alone-level.result.children c.in_ok-out.out.ports (length c.alone-level.result.children) outlines =
    subst (λ (cs : List Child). AreOutlines cs c.in_ok-out.out.ports (length cs) outlines) c.as_slice.ensures.value
    (subst (λ (ps : List (List Point)). AreOutlines c.as_slice.result.now ps (length c.as_slice.result.now) outlines) c.as_slice-2.ensures.value c.in_ok-outlines.ensures)
    in
    subst (λ (rs : List Rect). AreSizes (map (outline_size c.args.way) rs)) (sym c.as_slice-3.ensures.value)
    (sizes c.args.level c.alone-level.result c.args.way c.in_ok-out.out outlines c.requires c.alone-level.ensures c.in_ok-out.ensures are)

pub boxes_of-requires : goal.boxes_of-requires
boxes_of-requires c =
    let outlines = c.in_ok-outlines.outlines.items in
    let are : AreOutlines c.alone-level.result.children c.in_ok-out.out.ports (length c.alone-level.result.children) outlines =
    subst (λ (cs : List Child). AreOutlines cs c.in_ok-out.out.ports (length cs) outlines) c.as_slice.ensures.value
    (subst (λ (ps : List (List Point)). AreOutlines c.as_slice.result.now ps (length c.as_slice.result.now) outlines) c.as_slice-2.ensures.value c.in_ok-outlines.ensures)
    in
    let gap = c.alone-level.result.spacing.node_node in
    let fits : FitsSigned w64 gap = distance_fits gap (distance c.args.level c.alone-level.result c.args.way c.in_ok-out.out outlines c.requires c.alone-level.ensures c.in_ok-out.ensures are) in
    let best : IsSquarest (map (outline_size c.args.way) outlines) c.alone-level.result.spacing.node_node c.in_ok-squarest.squarest =
    subst (λ (rs : List Rect). IsSquarest (map (outline_size c.args.way) rs) c.alone-level.result.spacing.node_node c.in_ok-squarest.squarest) c.as_slice-3.ensures.value
    (rw (to_z-of_z w64 gap fits) at c.in_ok-squarest.ensures)
    in
    subst (λ (rs : List Rect). AreRoomy c.in_ok-squarest.squarest.rows rs) (sym c.as_slice-4.ensures.value)
    (rows_roomy c.args.level c.alone-level.result c.args.way c.in_ok-out.out outlines c.requires c.alone-level.ensures c.in_ok-out.ensures are c.in_ok-squarest.squarest best)

pub returns-clause-boxes : goal.returns-clause-boxes
returns-clause-boxes c =
    let outlines = c.in_ok-outlines.outlines.items in
    let are : AreOutlines c.alone-level.result.children c.in_ok-out.out.ports (length c.alone-level.result.children) outlines =
    subst (λ (cs : List Child). AreOutlines cs c.in_ok-out.out.ports (length cs) outlines) c.as_slice.ensures.value
    (subst (λ (ps : List (List Point)). AreOutlines c.as_slice.result.now ps (length c.as_slice.result.now) outlines) c.as_slice-2.ensures.value c.in_ok-outlines.ensures)
    in
    let gap = c.alone-level.result.spacing.node_node in
    let fits : FitsSigned w64 gap = distance_fits gap (distance c.args.level c.alone-level.result c.args.way c.in_ok-out.out outlines c.requires c.alone-level.ensures c.in_ok-out.ensures are) in
    let best : IsSquarest (map (outline_size c.args.way) outlines) c.alone-level.result.spacing.node_node c.in_ok-squarest.squarest =
    subst (λ (rs : List Rect). IsSquarest (map (outline_size c.args.way) rs) c.alone-level.result.spacing.node_node c.in_ok-squarest.squarest) c.as_slice-3.ensures.value
    (rw (to_z-of_z w64 gap fits) at c.in_ok-squarest.ensures)
    in
    let placed : StandInRows c.args.way c.in_ok-squarest.squarest.rows outlines (length outlines) c.from_vec.result =
    subst (StandInRows c.args.way c.in_ok-squarest.squarest.rows outlines (length outlines)) (sym c.from_vec.ensures)
    (subst (λ (rs : List Rect). StandInRows c.args.way c.in_ok-squarest.squarest.rows rs (length rs) c.in_ok-boxes.boxes.items) c.as_slice-4.ensures.value c.in_ok-boxes.ensures)
    in
    laid_out c.args.level c.alone-level.result c.args.way c.in_ok-out.out outlines c.requires c.alone-level.ensures c.in_ok-out.ensures are c.in_ok-squarest.squarest best c.from_vec.result c.rotated_size.result placed c.rotated_size.ensures

pub returns-clause-room : goal.returns-clause-room
returns-clause-room c =
    let outlines = c.in_ok-outlines.outlines.items in
    let are : AreOutlines c.alone-level.result.children c.in_ok-out.out.ports (length c.alone-level.result.children) outlines =
    subst (λ (cs : List Child). AreOutlines cs c.in_ok-out.out.ports (length cs) outlines) c.as_slice.ensures.value
    (subst (λ (ps : List (List Point)). AreOutlines c.as_slice.result.now ps (length c.as_slice.result.now) outlines) c.as_slice-2.ensures.value c.in_ok-outlines.ensures)
    in
    let gap = c.alone-level.result.spacing.node_node in
    let fits : FitsSigned w64 gap = distance_fits gap (distance c.args.level c.alone-level.result c.args.way c.in_ok-out.out outlines c.requires c.alone-level.ensures c.in_ok-out.ensures are) in
    let best : IsSquarest (map (outline_size c.args.way) outlines) c.alone-level.result.spacing.node_node c.in_ok-squarest.squarest =
    subst (λ (rs : List Rect). IsSquarest (map (outline_size c.args.way) rs) c.alone-level.result.spacing.node_node c.in_ok-squarest.squarest) c.as_slice-3.ensures.value
    (rw (to_z-of_z w64 gap fits) at c.in_ok-squarest.ensures)
    in
    let placed : StandInRows c.args.way c.in_ok-squarest.squarest.rows outlines (length outlines) c.from_vec.result =
    subst (StandInRows c.args.way c.in_ok-squarest.squarest.rows outlines (length outlines)) (sym c.from_vec.ensures)
    (subst (λ (rs : List Rect). StandInRows c.args.way c.in_ok-squarest.squarest.rows rs (length rs) c.in_ok-boxes.boxes.items) c.as_slice-4.ensures.value c.in_ok-boxes.ensures)
    in
    has_room c.args.level c.alone-level.result c.args.way c.in_ok-out.out outlines c.requires c.alone-level.ensures c.in_ok-out.ensures are c.in_ok-squarest.squarest best c.from_vec.result c.rotated_size.result placed c.rotated_size.ensures
