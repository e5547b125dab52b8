-- A level whose children have their sizes can be laid out, and its layout can be written.
use Rattle.std.proofs.Common.{◌≡◌, inl, inr, ℕ, suc, ◌<◌, ◌≤◌, List, [], length, get_or, pos, sym, ap, ◌∙◌, subst, arith}
use Rattle.std.specs.Prelude.{Option, Some, IfSome, IsTrue}
use Rattle.std.proofs.lemmas.Bool.{cases_Bool}
use Rattle.std.proofs.lemmas.Int.{ints}
use Rattle.drawing_types.specs.declared.shape.Rect.{Rect}
use Rattle.drawing_types.specs.declared.shape.Size.{Size}
use Rattle.elk_doc.specs.declared.document.LevelOptions.{LevelOptions}
use Rattle.elk_doc.specs.declared.drawing.Placed.{Placed}
use Rattle.elk_doc.specs.Document.{Document, node_at}
use Rattle.elk_doc.specs.Level.{children, edges_of, IsChild}
use Rattle.elk_doc.specs.Drawing.{box_of}
use Rattle.elk_doc.specs.Sound.{IsDistance, IsSound, IsSoundLevel, IsSoundSpacing}
use Rattle.port_order.specs.Conditions.{IsSmall}
use Rattle.level_model.specs.declared.level.LevelIn.{LevelIn}
use Rattle.level_model.specs.Conditions.{IsLevel, plain_level}
use Rattle.level_model.specs.FromPlan.{IsDrawnFrom}
use Rattle.level_model.specs.Level.{PlainLevel, PlainPlan}
use Rattle.level_model.proofs.Lists.{has_at}
use Rattle.level_nets.specs.Held.{plain_gaps}
use Rattle.level_draw.specs.Traced.{plain_traces}
use Rattle.level_split.specs.Boxes.{alone}
use Rattle.level_draw.specs.declared.drawing.LevelOut.{LevelOut}
use Rattle.level_draw.specs.Drawing.{IsTight, drawn_in, plan_from}
use Rattle.working_frame.specs.Rotated.{level_of}
use Rattle.working_frame.proofs.NumberedLemmas.{levels_are_listed}
use Rattle.rotated_levels.proofs.EdgeLemmas.{has_holds}
use Rattle.rotated_levels.proofs.Bounded.{extents_small}
use Rattle.level_io.specs.Levels.{HasRoom}
use Rattle.level_io.specs.Read.{AreSizes, HasSizes}
use Rattle.level_io.proofs.LevelLemmas.{levels_are_levels}
use Rattle.level_io.specs.Back.{size_of}
use Rattle.level_io.specs.Ranges.{IsLongBox, IsLongSize}
use Rattle.level_io.specs.declared.figure.LevelFigure.{LevelFigure}
use Rattle.level_io.specs.Figure.{figure_of}
use Rattle.level_io.specs.Room.{HasPlaces}
use Rattle.level_io.specs.Written.{ArePortPlaces, IsWritable}
use Rattle.level_io.proofs.RoomLemmas.{writable}
use Rattle.level_layout.specs.Layout.{IsLaidOut}
use Rattle.compound.specs.Planned.{ArePlannedFrom}
use Rattle.compound.proofs.EdgeLemmas.{edges_none}
use Rattle.compound.specs.Nested.{IsSmallBox}
use Rattle.compound.proofs.NestedLemmas.{planned_boxes_are_small, planned_levels_have_room}
use Rattle.rotated_levels.specs.Joined.{with_gaps}
use Rattle.level_split.specs.declared.layout.PartsOut.{PartsOut}
use Rattle.level_split.specs.Laws.{IsPartedDrawing}
use Rattle.level_split.specs.Parts.{IsPartsLayout, whole_drawing}
use Rattle.level_split.proofs.WholeLemmas.{parts_are_drawn}
use Rattle.level_split.proofs.BoundLemmas.{parts_are_bounded}
use Rattle.compound.specs.Figures.{IsBoxed, figure_of_parts}
use Rattle.compound.specs.Work.{IsFigureOf, IsWork}
use Rattle.compound.proofs.BoxLemmas.{alone_is}
use Rattle.compound.proofs.TreeLemmas.{child_after}

planned_later : (d : Document) (p : Placed) (m k : ℕ) → m ≤ k → ArePlannedFrom d p m → ArePlannedFrom d p k
planned_later d p m k after h =
    record {
      leaves = λ n from. h.leaves n (omega (arith, after, from));
      levels = λ n o from. h.levels n o (omega (arith, after, from));
    }

small_size : (r : Rect) → IsSmallBox r → IsSmall (size_of r)
small_size r h =
    let wide = h.width.below in
    let high = h.height.below in
    record { width = record { above = h.width.above; below = omega (arith, ints, wide) }; height = record { above = h.height.above; below = omega (arith, ints, high) } }

long_box : (r : Rect) → IsSmallBox r → IsLongBox r
long_box r h =
    let wide = h.width.below in
    let high = h.height.below in
    record { width = record { above = h.width.above; below = omega (arith, ints, wide) }; height = record { above = h.height.above; below = omega (arith, ints, high) } }

module _ (d : Document) (p : Placed) (sizes : List Size) (n : ℕ) (o : LevelOptions)
    (sound : IsSound d) (there : n < length d.nodes) (options : (node_at d n).level ≡ Some o) (work : IsWork d p sizes (suc n)) where
  small_child : (c : ℕ) → IsChild d n c → IsSmallBox (box_of p c)
  small_child c h =
      let after = child_after d n c sound h in
      planned_boxes_are_small d p c sound h.node_in (planned_later d p (suc n) c (omega (arith, after)) work.planned)

  -- ---- reading

  pub has_sizes : HasSizes d p n sizes
  has_sizes c h = work.known c h.node_in

  pub are_sizes : AreSizes d n sizes
  are_sizes =
      record { as_many = work.as_many; small = λ c h. subst IsSmall (has_sizes c h) (small_size (box_of p c) (small_child c h)) }

  pub level_read : (l : LevelIn) (s : List Size) → s ≡ sizes → ((q : Placed) → HasSizes d q n s → plain_level l ≡ level_of d q n o) → plain_level l ≡ level_of d p n o
  level_read l s same read = read p (subst (HasSizes d p n) (sym same) has_sizes)

  room : HasRoom d p n o
  room = planned_levels_have_room d p n o sound there options work.planned

  level_sound : IsSoundLevel d n o
  level_sound = subst (λ (level : Option LevelOptions). IfSome level (IsSoundLevel d n)) options (sound.levels.options n there)

  spacing : IsSoundSpacing o.spacing
  spacing = level_sound.spacing

  pub component : IsDistance o.component
  component = level_sound.component

  pub is_level : (l : LevelIn) → plain_level l ≡ level_of d p n o → IsLevel (plain_level l)
  is_level l is = subst IsLevel (sym is) (levels_are_levels d p n o sound spacing room)

  -- ---- writing

  long_child : (c : ℕ) → IsChild d n c → IsLongBox (box_of p c)
  long_child c child = long_box (box_of p c) (small_child c child)

  -- what comes from a layout of this level can be written
  layout_writable : (l : LevelIn) (v : LevelOut) → plain_level l ≡ level_of d p n o → IsLaidOut l v → IsWritable d p n (figure_of v)
  layout_writable l v is laid =
      let left = laid.drawn.left in
      let top = laid.drawn.top in
      let small = extents_small l v laid in
      let wide = small.width.below in
      let high = small.height.below in
      let long : IsLongSize v.extent =
      record { width = record { above = small.width.above; below = omega (arith, ints, wide) }; height = record { above = small.height.above; below = omega (arith, ints, high) } } in
      let plan : PlainPlan = plan_from v.certificate v.plan.layered v.plan.order v.plan.lines in
      let drawn : IsDrawnFrom (level_of d p n o) plan laid.orders (drawn_in v left top) =
      subst (λ (m : PlainLevel). IsDrawnFrom m plan laid.orders (drawn_in v left top)) is (laid.drawn.drawing.from_plan laid.orders laid.ready)
      in
      let places : HasPlaces (level_of d p n o) (drawn_in v left top) =
      record { box_count = drawn.box_count; port_lists = drawn.port_lists; port_counts = λ c h. (drawn.children c h).as_many; section_count = drawn.section_count } in
      let tight : IsTight (level_of d p n o) (drawn_in v left top) = subst (λ (m : PlainLevel). IsTight m (drawn_in v left top)) is laid.drawn.drawing.tight in
      let edges : length (plain_level l).edges ≡ length (edges_of d n) = ap (λ (m : PlainLevel). length m.edges) is ∙ (levels_are_listed d p n o).edge_count in
      writable d p n o (figure_of v) (plain_gaps v.plan.gaps) (plain_traces v.plan.traces) left top sound places tight long long_child
      (λ i z below.
      let closes = laid.certificate.reversed.closes (get_or v.certificate.reversed i z) (has_holds v.certificate.reversed (get_or v.certificate.reversed i z) (has_at v.certificate.reversed i z below)) in
      let of_level = closes.of_level in
      omega (arith, of_level, edges))

  -- so can what comes from a layout as boxes
  boxes_writable : (l : LevelIn) (v : LevelFigure) → plain_level l ≡ level_of d p n o → IsTrue o.boxes → IsBoxed l o v → IsWritable d p n v
  boxes_writable l v is boxes h =
      let out = h.out in
      let none = edges_none d n o sound there options boxes in
      let ports : ArePortPlaces d (children d n) out.ports =
      subst (ArePortPlaces d (children d n)) (sym h.layout.ports) (layout_writable (alone l) h.layout.out (alone_is d p n o l sound there options boxes is) h.layout.laid_out).ports
      in
      let many : length (plain_level l).children ≡ length (children d n) = ap (λ (m : PlainLevel). length m.children) is ∙ (levels_are_listed d p n o).child_count in
      subst (IsWritable d p n) (sym h.is)
      (record {
        extent = record { width = h.room.extent.width; height = h.room.extent.height };
        box_count = h.layout.box_count ∙ many;
        boxes = h.room.boxes;
        sizes = long_child;
        ports = ports;
        section_count = sym none;
        sections = λ i z below. absurd (omega (arith, below));
        reversed = λ i z below. absurd (omega (arith, below));
      })

  -- and what comes from a layout part by part
  parted_writable : (l : LevelIn) (v : PartsOut) → plain_level l ≡ level_of d p n o → IsPartsLayout l o.component v → IsWritable d p n (figure_of_parts v)
  parted_writable l v is laid =
      let drawn = subst (λ (m : PlainLevel). IsPartedDrawing m o.component v) is (parts_are_drawn l o.component v component.above laid) in
      let places : HasPlaces (level_of d p n o) (with_gaps (whole_drawing v) drawn.rules.gaps) =
      record {
        box_count = laid.drawing.box_count ∙ ap (λ (m : PlainLevel). length m.children) is;
        port_lists = laid.drawing.port_lists ∙ ap (λ (m : PlainLevel). length m.children) is;
        port_counts = drawn.ports;
        section_count = laid.drawing.section_count ∙ ap (λ (m : PlainLevel). length m.edges) is;
      } in
      let long = parts_are_bounded l o.component v component laid in
      let edges : length (plain_level l).edges ≡ length (edges_of d n) = ap (λ (m : PlainLevel). length m.edges) is ∙ (levels_are_listed d p n o).edge_count in
      writable d p n o (figure_of_parts v) drawn.rules.gaps [] (pos 0) (pos 0) sound places drawn.rules.tight
      (record { width = long.wide; height = long.high }) long_child
      (λ i z below.
      let closes = drawn.proof.reversed.closes (get_or v.certificate.reversed i z) (has_holds v.certificate.reversed (get_or v.certificate.reversed i z) (has_at v.certificate.reversed i z below)) in
      let of_level = closes.of_level in
      let count = (levels_are_listed d p n o).edge_count in
      omega (arith, of_level, count))

  -- a drawing of the level can be written
  pub figure_writable : (v : LevelFigure) → IsFigureOf d p n o v → IsWritable d p n v
  figure_writable v h =
      elim (cases_Bool o.boxes) [
        | inl boxes ↦ boxes_writable h.level v h.is boxes (h.figure.boxed boxes)
        | inr layered ↦
            elim (cases_Bool o.split) [
              | inl split ↦
                  (let figure = h.figure.parted layered split in
                  subst (IsWritable d p n) (sym figure.is) (parted_writable h.level figure.out h.is figure.laid_out))
              | inr whole ↦
                  (let figure = h.figure.layered layered whole in
                  subst (IsWritable d p n) (sym figure.is) (layout_writable h.level figure.out h.is figure.laid_out))
            ]
      ]
