-- The ports of the root stand where they are written.
use Rattle.std.proofs.Common.{◌≡◌, ℕ, ◌<◌, List, [], length, get_or, unwrap_or, Some, refl, sym, ap, subst, subst₂, ◌∙◌, arith}
use Rattle.std.proofs.lemmas.List.{length-map}
use Rattle.std.specs.List.{All}
use Rattle.drawing_types.specs.declared.shape.Point.{Point}
use Rattle.drawing_types.specs.declared.shape.Rect.{Rect}
use Rattle.elk_doc.specs.declared.document.LevelOptions.{LevelOptions}
use Rattle.elk_doc.specs.declared.drawing.Placed.{Placed}
use Rattle.elk_doc.specs.Document.{Document, node_at, node_of_port, port_at}
use Rattle.drawing_types.specs.Shapes.{origin}
use Rattle.elk_doc.specs.Drawing.{box_of, no_rect, port_place}
use Rattle.level_model.specs.declared.level.LevelIn.{LevelIn}
use Rattle.level_model.specs.Conditions.{plain_level}
use Rattle.level_model.specs.FromPlan.{IsDrawnFrom, point_or}
use Rattle.level_model.specs.Level.{PlainLevel, child_at}
use Rattle.working_frame.specs.Ranges.{IsFarPoint}
use Rattle.level_model.specs.PortsKept.{port_side}
use Rattle.level_draw.specs.declared.drawing.LevelOut.{LevelOut}
use Rattle.level_draw.specs.Drawing.{drawn_in}
use Rattle.level_layout.specs.Layout.{IsLaidOut}
use Rattle.working_frame.specs.Rotated.{box_size, level_port, port_number, ports_of, rotated_place}
use Rattle.level_io.specs.Back.{size_of}
use Rattle.level_io.specs.Canvas.{IsDrawingOf}
use Rattle.level_io.specs.Changed.{AreChanged}
use Rattle.level_io.specs.Written.{port_change}
use Rattle.level_io.proofs.BackLemmas.{place_there}
use Rattle.level_io.proofs.NumberLemmas.{node_of_listed}
use Rattle.level_io.proofs.PartLemmas.{any_default}
use Rattle.compound.specs.Planned.{RootPortsStand, root_level}
use Rattle.compound.specs.Rooted.{AreRootPortsPlaced}
use Rattle.compound.proofs.FarLemmas.{kept_far}
use Rattle.compound.proofs.KeptLemmas.{drawing_at, plan_in, ready_at}

-- the box of the root, its size and the places of its ports, as they are read
pub box_read : (p : Placed) (boxes : List Rect) → boxes ≡ p.boxes → get_or boxes 0 no_rect ≡ box_of p 0
box_read p boxes e = ap (λ (rs : List Rect). get_or rs 0 no_rect) e

pub size_read : (p : Placed) (boxes : List Rect) → boxes ≡ p.boxes → box_size p 0 ≡ size_of (get_or boxes 0 no_rect)
size_read p boxes e = ap size_of (sym (box_read p boxes e))

pub places_read : (v : LevelOut) (lists : List (List Point)) (places none : List Point) → lists ≡ v.ports → length v.ports ≡ 1 → places ≡ get_or lists 0 none → places ≡ get_or v.ports 0 []
places_read v lists places none e one is =
    let many = ap length e in
    is ∙ any_default lists 0 none [] (omega (arith, many, one)) ∙ ap (λ (qs : List (List Point)). get_or qs 0 []) e

-- a layout of the root alone
module _ (d : Document) (o : LevelOptions) (l : LevelIn) (v : LevelOut) (old : Placed) (is : plain_level l ≡ root_level d old o) (laid : IsLaidOut l v) where
  abbrev root : PlainLevel
  root = root_level d old o

  abbrev placed_in : List Point
  placed_in = get_or v.ports 0 []

  drawn : IsDrawnFrom root (plan_in v) laid.orders (drawn_in v laid.drawn.left laid.drawn.top)
  drawn = (drawing_at l v root laid is).from_plan laid.orders (ready_at l v root laid is)

  pub one_list : length v.ports ≡ 1
  one_list = drawn.port_lists

  child_ports : length (child_at root 0).ports ≡ length (ports_of d 0)
  child_ports = length-map (ports_of d 0) (level_port d o.direction (box_size old 0))

  pub as_many : length placed_in ≡ length (ports_of d 0)
  as_many = (drawn.children 0 (omega arith)).as_many ∙ child_ports

  pub far : All IsFarPoint placed_in
  far j z h =
      let many = as_many in
      let own = child_ports in
      let inside : j < length (child_at root 0).ports = omega (arith, h, many, own) in
      let ready = ready_at l v root laid is in
      let kept = (drawing_at l v root laid is).ports laid.orders ready 0 (omega arith) in
      subst IsFarPoint (any_default placed_in j origin z h)
      (kept_far (child_at root 0) (port_side root (plan_in v) 0 j) j (point_or placed_in j) (ready.level.children 0 (omega arith)).sound inside (kept.ports j inside))

  -- these ports are written into the drawing
  module _ (numbers : List ℕ) (places : List Point) (outer : Rect) (before after ports : List Point)
      (level : (node_at d 0).level ≡ Some o) (complete : IsDrawingOf d old)
      (are_numbers : numbers ≡ ports_of d 0) (are_places : places ≡ placed_in) (is_outer : outer ≡ box_of old 0) (are_old : before ≡ old.ports) (are_new : ports ≡ after)
      (changed : AreChanged numbers (port_change d o.direction outer numbers places) origin before after) where
    abbrev now : Placed
    now = record { boxes = old.boxes; ports = ports; sections = old.sections; levels = old.levels }

    written : AreChanged (ports_of d 0) (port_change d o.direction (box_of old 0) (ports_of d 0) placed_in) origin old.ports ports
    written =
        subst₂ (λ ps qs. AreChanged (ports_of d 0) (port_change d o.direction (box_of old 0) (ports_of d 0) placed_in) origin ps qs) are_old (sym are_new)
        (subst₂ (λ r ps. AreChanged (ports_of d 0) (port_change d o.direction r (ports_of d 0) ps) origin before after) is_outer are_places
        (subst (λ ks. AreChanged ks (port_change d o.direction outer ks places) origin before after) are_numbers changed))

    stand_there : (j : ℕ) → j < length (ports_of d 0)
        → rotated_place o.direction (box_size now 0) (port_at d (port_number d 0 j)).size (port_place now (port_number d 0 j)) ≡ point_or placed_in j
    stand_there j h =
        ap (rotated_place o.direction (box_size old 0) (port_at d (port_number d 0 j)).size) (written.at j h)
        ∙ place_there o.direction (box_of old 0) (port_at d (port_number d 0 j)).size (point_or placed_in j)

    stand : RootPortsStand d now o
    stand = record { level = l; out = v; is = is; laid_out = laid; ports = stand_there }

    pub are_placed : AreRootPortsPlaced d old now
    are_placed =
        record {
          stand = λ x same. let one : o ≡ x = ap (λ y. unwrap_or y o) (sym level ∙ same) in subst (RootPortsStand d now) one stand;
          boxes = refl;
          sections = refl;
          levels = refl;
          others = λ k other. written.others k (λ i h e. other (sym (ap (node_of_port d) e) ∙ node_of_listed d 0 i h));
          complete = record { boxes = complete.boxes; ports = written.as_many ∙ complete.ports; sections = complete.sections; levels = complete.levels };
        }
