-- Ports of the root that stand as in a layout of the root alone are kept.
use Rattle.std.proofs.Common.{◌≡◌, ℕ, zero, suc, ◌<◌, List, [], ◌∷◌, map, length, get_or, ℤ, ◌+ℤ◌, ◌-ℤ◌, None, Some, IsTrue, refl, sym, ap, subst, ◌∙◌, arith, rules}
use Rattle.std.proofs.lemmas.Int.{ints}
use Rattle.std.specs.Prelude.{Option, IsNone, IsSome}
use Rattle.drawing_types.specs.declared.shape.Point.{Point}
use Rattle.drawing_types.specs.declared.shape.Rect.{Rect}
use Rattle.elk_doc.specs.declared.document.Direction.{Direction}
use Rattle.elk_doc.specs.declared.document.Direction.TheVariants.{Right, Left, Down, Up}
use Rattle.elk_doc.specs.declared.document.LevelOptions.{LevelOptions}
use Rattle.elk_doc.specs.declared.document.Port.{Port}
use Rattle.elk_doc.specs.declared.drawing.Certificate.{Certificate}
use Rattle.elk_doc.specs.declared.drawing.Placed.{Placed}
use Rattle.elk_doc.specs.Document.{Document, node_at, port_at}
use Rattle.elk_doc.specs.Drawing.{box_of, port_place}
use Rattle.elk_doc.specs.Fits.{LeavesKept}
use Rattle.elk_doc.specs.Level.{IsChild}
use Rattle.elk_doc.specs.PortsKept.{KeepsPorts}
use Rattle.elk_doc.specs.Shapes.{rotated}
use Rattle.drawing_types.specs.Shapes.{rect_at}
use Rattle.elk_doc.specs.Sound.{IsSound}
use Rattle.level_model.specs.declared.level.LevelIn.{LevelIn}
use Rattle.level_model.specs.Conditions.{plain_level}
use Rattle.level_model.specs.FromPlan.{LevelDrawing, IsDrawnFrom, point_or}
use Rattle.level_model.specs.Level.{Orders, PlainLevel, PlainPlan, holds}
use Rattle.level_model.specs.Apart.{drawn_port}
use Rattle.level_model.specs.Ready.{IsReady}
use Rattle.level_draw.specs.declared.drawing.LevelOut.{LevelOut}
use Rattle.level_draw.specs.Drawing.{IsDrawing, drawn_in, plan_from}
use Rattle.level_layout.specs.Layout.{IsLaidOut}
use Rattle.working_frame.specs.Drawing.{IsRotatedChild, IsRotatedDrawing, plus}
use Rattle.working_frame.specs.Rotated.{box_size, edge_number, port_number, ports_of, rotated_place, rotated_size}
use Rattle.working_frame.proofs.NumberedLemmas.{numbers_match}
use Rattle.rotated_levels.specs.DockLaws.{IsAnchored, IsFromLevel}
use Rattle.rotated_levels.specs.PortLaws.{AllKeepPorts}
use Rattle.rotated_levels.proofs.SpreadLemmas.{ports_rotate_back}
use Rattle.compound.specs.Planned.{root_level}
use Rattle.compound.specs.Rooted.{RootPortsAreKept}
use Rattle.compound.proofs.LoweredLemmas.{lowered, lowered_sound, root_port_at}
use Rattle.compound.proofs.BackLemmas.{lowered_drawing, root_keeps}
use Rattle.drawing_types.proofs.SmallNumbers.{below1}
use Rattle.compound.proofs.LevelLemmas.{level_is, no_edges, only_child, ports_are}
use Rattle.drawing_types.proofs.SameShapes.{same_rect}

-- how far a point is moved to the corner of a rectangle in the frame
abbrev shift : Direction → Rect → Point → Point
shift way r a = record { x = (rotated way r).x -ℤ a.x; y = (rotated way r).y -ℤ a.y }

there : (z a : ℤ) → z ≡ (z -ℤ a) +ℤ a
there z a = omega (arith, ints)

box_there : (way : Direction) (r : Rect) (a : Point) → rotated way r ≡ rect_at (plus (shift way r a) a) (rotated_size way (record { width = r.width; height = r.height }))
box_there Right r a = same_rect _ _ (there _ _) (there _ _) refl refl
box_there Left r a = same_rect _ _ (there _ _) (there _ _) refl refl
box_there Down r a = same_rect _ _ (there _ _) (there _ _) refl refl
box_there Up r a = same_rect _ _ (there _ _) (there _ _) refl refl

some_or_none : (level : Option LevelOptions) → IsSome level → IsNone level → ⊥
some_or_none None h k = absurd (search rules)
some_or_none (Some o) h k = absurd (search rules)

module _ (d : Document) (p : Placed) (o : LevelOptions) (plan : PlainPlan) (orders : Orders) (v : LevelDrawing)
    (sound : IsSound d) (level : (node_at d 0).level ≡ Some o)
    (drawn : IsDrawnFrom (root_level d p o) plan orders v)
    (kept : AllKeepPorts (root_level d p o) plan orders v)
    (unrotated : (i : ℕ) → IsTrue (holds plan.reversed i) → ⊥)
    (stand : (j : ℕ) → j < length (ports_of d 0)
    → rotated_place o.direction (box_size p 0) (port_at d (port_number d 0 j)).size (port_place p (port_number d 0 j)) ≡ drawn_port v 0 j) where
  abbrev w : Document
  w = lowered d

  abbrev c : Certificate
  c = record { layers = []; reversed = map (edge_number (lowered d) 0) plan.reversed; flow = []; span = 0; parts = [] }

  abbrev q : Placed
  q = lowered_drawing p c

  abbrev by : Point
  by = shift o.direction (box_of p 0) (point_or v.boxes 0)

  leaves : LeavesKept w q
  leaves zero h leaf = absurd (some_or_none (node_at d 0).level sound.levels.root leaf)
  leaves (suc zero) h leaf = absurd (some_or_none (node_at d 0).level sound.levels.root leaf)
  leaves (suc (suc zero)) h leaf = record { width = refl; height = refl }
  leaves (suc (suc (suc n))) h leaf = absurd (omega (arith, h))

  abbrev PortsStand : List ℕ → Type 0
  PortsStand ks =
      (j : ℕ) → j < length ks → rotated_place o.direction (box_size p 0) (port_at w (get_or ks j 0)).size (port_place p (get_or ks j 0)) ≡ drawn_port v 0 j

  ports_stand : PortsStand (ports_of d 0)
  ports_stand j h =
      let k = port_number d 0 j in
      let own = (numbers_match d 0).ports.meant j h in
      ap (λ (x : Port). rotated_place o.direction (box_size p 0) x.size (port_place p k)) (root_port_at d k own.port_in own.of_node) ∙ stand j h

  child_rotated : IsRotatedChild w q o.direction v by 0 1
  child_rotated =
      record { box = box_there o.direction (box_of p 0) (point_or v.boxes 0); ports = subst PortsStand (sym (ports_are d)) ports_stand }

  abbrev ChildrenRotated : List ℕ → Type 0
  ChildrenRotated cs = (i : ℕ) → i < length cs → IsRotatedChild w q o.direction v by i (get_or cs i 0)

  abbrev alone : List ℕ
  alone = 1 ∷ []

  children_rotated : ChildrenRotated alone
  children_rotated = below1 (λ i. IsRotatedChild w q o.direction v by i (get_or alone i 0)) child_rotated

  rotated_back : IsRotatedDrawing w q 0 o.direction v by
  rotated_back =
      record {
        children = subst ChildrenRotated (sym (only_child d)) children_rotated;
        sections = λ i h. absurd (let none = ap length (no_edges d) in omega (arith, h, none));
      }

  from : IsFromLevel w q 0 o plan v by
  from =
      record {
        sound = lowered_sound d sound;
        options = level;
        leaves = leaves;
        drawn = rotated_back;
        certificate = c;
        written = refl;
        numbered = refl;
        reversed_in = λ i h. absurd (unrotated i h);
      }

  anchored : IsAnchored (root_level d p o) plan orders v
  anchored =
      record {
        placed = record { ports = λ b k inside h. (drawn.children b inside).ports k h; boxes = λ e t h. absurd (omega (arith, h)) };
        from_source = λ i h. absurd (omega (arith, h));
        to_target = λ i h. absurd (omega (arith, h));
      }

  child : IsChild w 0 1
  child = record { node_in = omega arith; child = search rules }

  pub root_kept : KeepsPorts d p 0
  root_kept =
      let same = level_is d p c o in
      root_keeps d p c sound
      (ports_rotate_back w q 0 o plan orders v by from
      (subst (λ l. IsAnchored l plan orders v) (sym same) anchored) (subst (λ l. AllKeepPorts l plan orders v) (sym same) kept) 1 child)

-- ---- what is laid out, at a level that is that level

abbrev pub plan_in : LevelOut → PlainPlan
plan_in v = plan_from v.certificate v.plan.layered v.plan.order v.plan.lines

pub ready_at : (l : LevelIn) (v : LevelOut) (r : PlainLevel) (laid : IsLaidOut l v) → plain_level l ≡ r → IsReady r (plan_in v) laid.orders v.certificate.layers
ready_at l v r laid is = subst (λ x. IsReady x (plan_in v) laid.orders v.certificate.layers) is laid.ready

pub drawing_at : (l : LevelIn) (v : LevelOut) (r : PlainLevel) (laid : IsLaidOut l v) → plain_level l ≡ r → IsDrawing r (plan_in v) v.certificate.layers (drawn_in v laid.drawn.left laid.drawn.top)
drawing_at l v r laid is =
    subst (λ x. IsDrawing x (plan_in v) v.certificate.layers (drawn_in v laid.drawn.left laid.drawn.top)) is laid.drawn.drawing

pub root_ports_are_kept : RootPortsAreKept
root_ports_are_kept d p o sound level stands =
    let l = stands.level in
    let v = stands.out in
    let laid = stands.laid_out in
    let ready = ready_at l v (root_level d p o) laid stands.is in
    let drawing = drawing_at l v (root_level d p o) laid stands.is in
    let no_edge : length (plain_level l).edges ≡ 0 = ap (λ (x : PlainLevel). length x.edges) stands.is in
    root_kept d p o (plan_in v) laid.orders (drawn_in v laid.drawn.left laid.drawn.top) sound level (drawing.from_plan laid.orders ready) (drawing.ports laid.orders ready)
    (λ i h. let turned_round = (laid.certificate.reversed.closes i h).of_level in absurd (omega (arith, turned_round, no_edge)))
    stands.ports
