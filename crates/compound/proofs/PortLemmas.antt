-- The ports of boxes stand as in a layout without edges, and so they are kept.
use Rattle.std.proofs.Common.{◌≡◌, inl, ℕ, ◌<◌, List, [], ◌∷◌, map, length, ℤ, pos, ◌+ℤ◌, Some, IsTrue, refl, sym, ap, ◌∙◌, subst, arith}
use Rattle.std.proofs.lemmas.Int.{ints}
use Rattle.std.proofs.lemmas.List.{get_or-map}
use Rattle.drawing_types.specs.declared.shape.Point.{Point}
use Rattle.drawing_types.specs.declared.shape.Rect.{Rect}
use Rattle.elk_doc.specs.declared.document.Direction.{Direction}
use Rattle.elk_doc.specs.declared.document.Direction.TheVariants.{Right, Left, Down, Up}
use Rattle.elk_doc.specs.declared.document.LevelOptions.{LevelOptions}
use Rattle.elk_doc.specs.declared.drawing.Placed.{Placed}
use Rattle.elk_doc.specs.Document.{Document, node_at}
use Rattle.drawing_types.specs.Shapes.{origin}
use Rattle.elk_doc.specs.Drawing.{box_of}
use Rattle.elk_doc.specs.Level.{IsChild, children}
use Rattle.elk_doc.specs.PortsKept.{KeepsPorts}
use Rattle.elk_doc.specs.Shapes.{rotated}
use Rattle.drawing_types.specs.Shapes.{rect_at}
use Rattle.elk_doc.specs.Sound.{IsSound}
use Rattle.elk_doc.specs.Fits.{LeavesKept}
use Rattle.drawing_types.proofs.SameShapes.{same_rect}
use Rattle.level_model.specs.Conditions.{plain_level}
use Rattle.level_model.specs.FromPlan.{LevelDrawing, IsDrawnFrom}
use Rattle.level_model.specs.Level.{Orders, PlainLevel, PlainPlan, holds}
use Rattle.level_model.specs.declared.level.LevelEdge.{LevelEdge}
use Rattle.level_model.specs.PortsKept.{ArePortsPlaced}
use Rattle.level_model.specs.Ready.{IsReady}
use Rattle.plan_laws.proofs.PortLemmas.{ports_are_kept}
use Rattle.level_draw.specs.Drawing.{drawn_in, plan_from}
use Rattle.working_frame.specs.Drawing.{IsRotatedDrawing, plus}
use Rattle.working_frame.specs.Rotated.{box_size, child_number, edge_number, level_edge, level_of, rotated_size}
use Rattle.working_frame.proofs.NumberedLemmas.{levels_are_listed}
use Rattle.rotated_levels.proofs.EdgeLemmas.{has_holds}
use Rattle.rotated_levels.specs.DockLaws.{IsAnchored, IsFromLevel}
use Rattle.rotated_levels.proofs.SpreadLemmas.{ports_rotate_back}
use Rattle.compound.specs.Boxed.{IsBoxedPlan, boxes_certificate, corner_of, edgeless}
use Rattle.compound.proofs.EdgeLemmas.{edges_none, no_edges}

-- a rectangle that stands where it stands
from_zero : (a : ℤ) → a ≡ pos 0 +ℤ a
from_zero a = omega (arith, ints)

in_place : (way : Direction) (r : Rect) → rotated way r ≡ rect_at (plus origin (corner_of (rotated way r))) (rotated_size way (record { width = r.width; height = r.height }))
in_place Right r = same_rect _ _ (from_zero _) (from_zero _) refl refl
in_place Left r = same_rect _ _ (from_zero _) (from_zero _) refl refl
in_place Down r = same_rect _ _ (from_zero _) (from_zero _) refl refl
in_place Up r = same_rect _ _ (from_zero _) (from_zero _) refl refl

-- a list that holds nothing is empty
none_held : (xs : List ℕ) → ((i : ℕ) → IsTrue (holds xs i) → ⊥) → xs ≡ []
none_held [] none = refl
none_held (x ∷ xs) none = absurd (none x (has_holds (x ∷ xs) x (inl refl)))

module _ (d : Document) (p : Placed) (n : ℕ) (o : LevelOptions) (sound : IsSound d) (there : n < length d.nodes) (options : (node_at d n).level ≡ Some o) (boxes : IsTrue o.boxes)
    (planned : IsBoxedPlan d p n o) where
  abbrev pub plan : PlainPlan
  plan = plan_from planned.out.certificate planned.out.plan.layered planned.out.plan.order planned.out.plan.lines

  abbrev orders : Orders
  orders = planned.laid_out.orders

  bare : edgeless d p n o ≡ level_of d p n o
  bare =
      let f : List LevelEdge → PlainLevel = λ es. record { children = (level_of d p n o).children; edges = es; spacing = o.spacing; choices = o.choices } in
      ap f (sym (ap (map (level_edge d n)) (no_edges d n o sound there options boxes)))

  pub level_is : plain_level planned.level ≡ level_of d p n o
  level_is = planned.is ∙ bare

  pub ready : IsReady (level_of d p n o) plan orders planned.out.certificate.layers
  ready = subst (λ l. IsReady l plan orders planned.out.certificate.layers) level_is planned.laid_out.ready

  pub drawn : IsDrawnFrom (level_of d p n o) plan orders (drawn_in planned.out planned.laid_out.drawn.left planned.laid_out.drawn.top)
  drawn =
      subst (λ l. IsDrawnFrom l plan orders (drawn_in planned.out planned.laid_out.drawn.left planned.laid_out.drawn.top)) level_is
      (planned.laid_out.drawn.drawing.from_plan planned.laid_out.orders planned.laid_out.ready)

  edge_count : length (level_of d p n o).edges ≡ 0
  edge_count = (levels_are_listed d p n o).edge_count ∙ edges_none d n o sound there options boxes

  -- ---- a drawing of the level whose boxes stand where they stand in the document

  abbrev box_corner : ℕ → Point
  box_corner c = corner_of (rotated o.direction (box_of p c))

  abbrev pub drawing : LevelDrawing
  drawing =
      record {
        gaps = [];
        traces = [];
        boxes = map box_corner (children d n);
        ports = planned.out.ports;
        sections = [];
        extent = rotated_size o.direction planned.squarest.rows.extent;
        left = pos 0;
        top = pos 0;
      }

  pub rotated_back : IsRotatedDrawing d p n o.direction drawing origin
  rotated_back =
      record {
        children = λ i h. record {
          box = in_place o.direction (box_of p (child_number d n i))
              ∙ ap (λ q. rect_at (plus origin q) (rotated_size o.direction (box_size p (child_number d n i)))) (sym (get_or-map box_corner (children d n) i 0 origin h));
          ports = λ j k. planned.ports i j h k;
        };
        sections = λ i h. absurd (let none = edges_none d n o sound there options boxes in omega (arith, h, none));
      }

  unrotated : (i : ℕ) → IsTrue (holds planned.out.certificate.reversed i) → ⊥
  unrotated i h =
      let of_level = (planned.laid_out.certificate.reversed.closes i h).of_level in
      let none : length (plain_level planned.level).edges ≡ 0 = ap (λ (l : PlainLevel). length l.edges) planned.is in
      omega (arith, of_level, none)

  placed : ArePortsPlaced (level_of d p n o) plan orders drawing
  placed = record { ports = λ b k inside h. (drawn.children b inside).ports k h; boxes = λ e t h. absurd (omega (arith, h, edge_count)) }

  anchored : IsAnchored (level_of d p n o) plan orders drawing
  anchored = record { placed = placed; from_source = λ i h. absurd (omega (arith, h, edge_count)); to_target = λ i h. absurd (omega (arith, h, edge_count)) }

  module _ (leaves : LeavesKept d p) where
    from : IsFromLevel d p n o plan drawing origin
    from =
        record {
          sound = sound;
          options = options;
          leaves = leaves;
          drawn = rotated_back;
          certificate = boxes_certificate d n;
          written = planned.certificate;
          numbered = sym (ap (map (edge_number d n)) (none_held planned.out.certificate.reversed unrotated));
          reversed_in = λ i h. absurd (unrotated i h);
        }

    pub ports_kept : (m : ℕ) → IsChild d n m → KeepsPorts d p m
    ports_kept =
        ports_rotate_back d p n o plan orders drawing origin from anchored
        (λ i h. ports_are_kept.placed (level_of d p n o) plan orders drawing ready.level ready.units.orders placed i h)
