-- Routes, clearance and sharing come back from the frame.
use Rattle.std.proofs.Common.{◌≡◌, ◌≢◌, ℕ, ◌<◌, Bool, true, false, List, [], ◌∷◌, ◌++◌, map, length, refl, sym, subst, subst₂, ap, ◌∙◌, arith}
use Rattle.std.proofs.lemmas.List.{map-append}
use Rattle.drawing_types.specs.declared.shape.Point.{Point}
use Rattle.elk_doc.specs.declared.document.Direction.{Direction}
use Rattle.elk_doc.specs.declared.document.LevelOptions.{LevelOptions}
use Rattle.drawing_types.specs.declared.section.Section.{Section}
use Rattle.elk_doc.specs.declared.drawing.Placed.{Placed}
use Rattle.elk_doc.specs.Document.{Document}
use Rattle.elk_doc.specs.Level.{children, edges_of, place_of_child, place_of_edge, source_node, target_node}
use Rattle.elk_doc.specs.Drawing.{box_of, section_of, path_of, points_of}
use Rattle.elk_doc.specs.Shapes.{rotated}
use Rattle.drawing_types.specs.Shapes.{rect_at}
use Rattle.elk_doc.specs.Sides.{end_node, side_of_end}
use Rattle.elk_doc.specs.Places.{anchor_of as document_anchor, outline_of}
use Rattle.elk_doc.specs.Route.{IsOrthogonal, Route}
use Rattle.elk_doc.specs.Clear.{Clear, IsClear}
use Rattle.elk_doc.specs.Sharing.{PathsShare, Sharing}
use Rattle.elk_doc.proofs.PathLemmas.{some_points, clear_numbered}
use Rattle.drawing_laws.specs.Rotating.{rotated_point, rotated_side}
use Rattle.drawing_laws.specs.Frames.{point_back}
use Rattle.drawing_laws.proofs.FrameLaws.{backs, paths}
use Rattle.port_order.specs.declared.children.Child.{Child}
use Rattle.level_model.specs.Level.{PlainLevel, PlainPlan, Orders}
use Rattle.level_model.specs.FromPlan.{LevelDrawing, point_or, section_at}
use Rattle.level_model.specs.Apart.{drawn_box, drawn_outline}
use Rattle.level_model.specs.PortsKept.{ArePortsPlaced}
use Rattle.plan_laws.specs.Routes.{RoutesKept, end_child, end_dock, route_path}
use Rattle.working_frame.specs.Rotated.{level_of, child_number, edge_number}
use Rattle.working_frame.specs.Drawing.{plus, IsRotatedSection}
use Rattle.working_frame.proofs.NumberedLemmas.{levels_are_listed}
use Rattle.rotated_levels.specs.Outlines.{shifted}
use Rattle.rotated_levels.proofs.OutlineLemmas.{outlines_rotate_back}
use Rattle.rotated_levels.specs.DockLaws.{IsFromLevel, IsAnchored}
use Rattle.rotated_levels.proofs.Numbering.{child_back, child_place, edge_back}
use Rattle.rotated_levels.proofs.SideLemmas.{end_side_rotates}
use Rattle.rotated_levels.proofs.DockLemmas.{anchor_rotates, docks_agree, spoke_in, spoke_number}
use Rattle.rotated_levels.specs.RouteLaws.{RoutesDrawn, RoutesRotateBack}
use Rattle.rotated_levels.proofs.MoveLemmas.{orthogonal_moved, clear_moved, sharing_unmoved}

-- the points of a section, each rotated or moved
map_points : (f : Point → Point) (s : Section) → map f (points_of s) ≡ f s.start ∷ (map f s.bends ++ f s.end ∷ [])
map_points f s = ap (λ ps. f s.start ∷ ps) (map-append f s.bends (s.end ∷ []))

pub points_rotated : (way : Direction) (by : Point) (s t : Section) → IsRotatedSection way by s t → map (rotated_point way) (points_of s) ≡ map (plus by) (points_of t)
points_rotated way by s t h =
    map_points (rotated_point way) s
    ∙ ap (λ a. a ∷ (map (rotated_point way) s.bends ++ rotated_point way s.end ∷ [])) h.start
    ∙ ap (λ bs. plus by t.start ∷ (bs ++ rotated_point way s.end ∷ [])) h.bends
    ∙ ap (λ b. plus by t.start ∷ (map (plus by) t.bends ++ b ∷ [])) h.end
    ∙ sym (map_points (plus by) t)

none_rotated : (f : Point → Point) (ps : List Point) → map f ps ≡ [] → ps ≡ []
none_rotated f [] e = refl
none_rotated f (p ∷ ps) e = absurd cc

point_injective : (way : Direction) (p q : Point) → rotated_point way p ≡ rotated_point way q → p ≡ q
point_injective way p q e = sym (backs.point way p).0 ∙ ap (point_back way) e ∙ (backs.point way q).0

module _ (d : Document) (p : Placed) (n : ℕ) (o : LevelOptions) (plan : PlainPlan) (orders : Orders) (v : LevelDrawing) (by : Point) (from : IsFromLevel d p n o plan v by)
    (placed : ArePortsPlaced (level_of d p n o) plan orders v) (kept : RoutesKept (level_of d p n o) plan orders v) where
  abbrev l : PlainLevel
  l = level_of d p n o

  abbrev way : Direction
  way = o.direction

  edge_in : (i : ℕ) → i < length (edges_of d n) → i < length l.edges
  edge_in i h = let many = (levels_are_listed d p n o).edge_count in omega (arith, h, many)

  child_in : (i : ℕ) → i < length (children d n) → i < length l.children
  child_in i h = let many = (levels_are_listed d p n o).child_count in omega (arith, h, many)

  anchored : IsAnchored l plan orders v
  anchored =
      record { placed = placed; from_source = λ i h. (kept.routes i h).from_source; to_target = λ i h. (kept.routes i h).to_target }

  -- the path of a route, in the frame
  path_is : (i : ℕ) → i < length (edges_of d n) → map (rotated_point way) (path_of p (edge_number d n i)) ≡ map (plus by) (route_path v i)
  path_is i h = points_rotated way by (section_of p (edge_number d n i)) (section_at v i) (from.drawn.sections i h)

  -- ---- routes

  orthogonal : (i : ℕ) → i < length (edges_of d n) → IsOrthogonal (route_path v i) (end_dock l plan orders i true).side (end_dock l plan orders i false).side
      → IsOrthogonal (path_of p (edge_number d n i)) (side_of_end d p (edge_number d n i) true) (side_of_end d p (edge_number d n i) false)
  orthogonal i h q =
      let e = edge_number d n i in
      let s = side_of_end d p e true in
      let t = side_of_end d p e false in
      (paths.orthogonal way (path_of p e) s t (some_points (section_of p e))).1
      (subst (λ ps. IsOrthogonal ps (rotated_side way s) (rotated_side way t)) (sym (path_is i h))
      (subst₂ (IsOrthogonal (map (plus by) (route_path v i))) (sym (end_side_rotates d p n o plan v by from orders i true h)) (sym (end_side_rotates d p n o plan v by from orders i false h))
      (orthogonal_moved by (route_path v i) (end_dock l plan orders i true).side (end_dock l plan orders i false).side (some_points (section_at v i)) q)))

  route : (i : ℕ) → i < length (edges_of d n) → Route d p (edge_number d n i)
  route i h =
      let e = edge_number d n i in
      let routed = kept.routes i (edge_in i h) in
      let section = from.drawn.sections i h in
      let agree = docks_agree d p n o plan v by from orders anchored i i true false h h in
      record {
        from_source = point_injective way (section_of p e).start (document_anchor d p e true) (section.start ∙ ap (plus by) routed.from_source ∙ sym (anchor_rotates d p n o plan v by from orders anchored i true h));
        to_target = point_injective way (section_of p e).end (document_anchor d p e false) (section.end ∙ ap (plus by) routed.to_target ∙ sym (anchor_rotates d p n o plan v by from orders anchored i false h));
        one_dock = λ one. none_rotated (rotated_point way) (section_of p e).bends (section.bends ∙ ap (map (plus by)) (routed.one_dock (agree.0 one)));
        orthogonal = λ other. orthogonal i h (routed.orthogonal (λ one. other (agree.1 one)));
      }

  -- ---- clearance

  box_is : (c : ℕ) → c < length (children d n) → rotated way (box_of p (child_number d n c)) ≡ shifted by (drawn_box l v c)
  box_is c h = (from.drawn.children c h).box ∙ ap (λ s. shifted by (rect_at (point_or v.boxes c) s)) (sym (ap (λ (k : Child). k.size) ((levels_are_listed d p n o).child c h)))

  other_end : (i c : ℕ) (t : Bool) → i < length (edges_of d n) → end_node d (edge_number d n i) t ≢ child_number d n c → end_child l i t ≢ c
  other_end i c t h differ same = differ (sym (spoke_number d p n o plan v by from orders anchored i t h) ∙ ap (child_number d n) same)

  same_end : (i c : ℕ) (t : Bool) → i < length (edges_of d n) → c < length (children d n) → end_node d (edge_number d n i) t ≡ child_number d n c → end_child l i t ≡ c
  same_end i c t h hc at =
      sym (child_place d n (end_child l i t) (spoke_in d p n o plan v by from orders anchored i t h))
      ∙ ap (place_of_child d n) (spoke_number d p n o plan v by from orders anchored i t h ∙ at)
      ∙ child_place d n c hc

  clear : (i c : ℕ) → i < length (edges_of d n) → c < length (children d n) → Clear d p (edge_number d n i) (child_number d n c)
  clear i c h hc =
      let e = edge_number d n i in
      let m = child_number d n c in
      let source = source_node d e in
      let target = target_node d e in
      let outline = shifted by (drawn_outline l v c) in
      let box = shifted by (drawn_box l v c) in
      (paths.clear way (path_of p e) source target m (outline_of d p m) (box_of p m)).1
      (subst₂ (IsClear (map (rotated_point way) (path_of p e)) source target m) (sym (outlines_rotate_back d p n o v by from.drawn c hc)) (sym (box_is c hc))
      (subst (λ ps. IsClear ps source target m outline box) (sym (path_is i h))
      (clear_numbered (map (plus by) (route_path v i)) (end_child l i true) (end_child l i false) c source target m outline box (other_end i c true h) (other_end i c false h) (same_end i c true h hc) (same_end i c false h hc)
      (clear_moved by (route_path v i) (end_child l i true) (end_child l i false) c (drawn_outline l v c) (drawn_box l v c) (kept.clear i c (edge_in i h) (child_in c hc))))))

  -- ---- sharing

  sharing : (i j : ℕ) → i < length (edges_of d n) → j < length (edges_of d n) → i ≢ j → Sharing d p (edge_number d n i) (edge_number d n j)
  sharing i j hi hj differ share =
      let e = edge_number d n i in
      let f = edge_number d n j in
      let moved = subst₂ PathsShare (path_is i hi) (path_is j hj) ((paths.sharing way (path_of p e) (path_of p f)).0 share) in
      let docks = kept.sharing i j (edge_in i hi) (edge_in j hj) differ (sharing_unmoved by (route_path v i) (route_path v j) moved) in
      (docks.0, docks.1, (docks_agree d p n o plan v by from orders anchored i j docks.0 docks.1 hi hj).1 docks.2)

  -- ---- the edges and children of the level, by their numbers

  drawn : RoutesDrawn d p n
  drawn =
      record {
        routes = λ e h. let q = edge_back d n e h in subst (Route d p) q.1 (route _ q.0);
        clear = λ e a h k. let q = edge_back d n e h in
            let c = child_back d n a k in
            subst (λ x. Clear d p x a) q.1 (subst (λ y. Clear d p (edge_number d n (place_of_edge d n e)) y) c.1 (clear _ _ q.0 c.0));
        sharing = λ e f h k differ. let q = edge_back d n e h in
            let r = edge_back d n f k in
            subst (λ x. Sharing d p x f) q.1 (subst (λ y. Sharing d p (edge_number d n (place_of_edge d n e)) y) r.1 (sharing _ _ q.0 r.0 (λ same. differ (sym q.1 ∙ ap (edge_number d n) same ∙ r.1))));
      }

pub routes_rotate_back : RoutesRotateBack
routes_rotate_back d p n o plan orders v by from placed kept = drawn d p n o plan orders v by from placed kept
