-- Boxes, outlines and routes of the whole are those of the parts, moved.
use Rattle.std.proofs.Common.{◌≡◌, ℕ, ◌<◌, List, [], ◌∷◌, map, length, slice_index, get_or, refl, sym, ap, ap₂, ◌∙◌, subst}
use Rattle.std.specs.List.{range_with_len}
use Rattle.std.proofs.lemmas.List.{get_or-map, length-map}
use Rattle.drawing_types.specs.declared.shape.Point.{Point}
use Rattle.drawing_types.specs.Shapes.{origin}
use Rattle.elk_doc.specs.Drawing.{point_in, points_of}
use Rattle.drawing_types.specs.Shapes.{hull, moved_by, rect_at}
use Rattle.port_order.specs.declared.children.Child.{Child}
use Rattle.port_order.specs.Child.{port_at}
use Rattle.level_model.specs.Conditions.{IsLevel}
use Rattle.level_model.specs.FromPlan.{LevelDrawing, point_or, section_at}
use Rattle.level_model.specs.Level.{PlainLevel, child_at}
use Rattle.plan_laws.specs.Routes.{route_count, route_path, route_point}
use Rattle.level_model.specs.Apart.{drawn_box, drawn_outline, drawn_outline_from, drawn_port}
use Rattle.network_parts.specs.Divided.{place_of}
use Rattle.network_parts.proofs.PlaceLemmas.{node_in, node_place, place_less, place_node}
use Rattle.level_parts.specs.Divided.{child_number, edge_keys, edge_number, members, part_level}
use Rattle.level_parts.specs.Parts.{AreParts}
use Rattle.level_parts.proofs.LevelLemmas.{child_in, child_is, edge_in, many_edges, many_children, many_keys, place_back, place_in}
use Rattle.rotated_levels.specs.Outlines.{shifted}
use Rattle.rotated_levels.proofs.HullLemmas.{hull_moved, place_moved}
use Rattle.working_frame.specs.Drawing.{plus}
use Rattle.rotated_levels.specs.Joined.{IsJoinedDrawing, moved_section}
use Rattle.rotated_levels.proofs.JoinedMoveLemmas.{points_moved}

module _ (l : PlainLevel) (numbers : List ℕ) (at : ℕ → Point) (own : ℕ → LevelDrawing) (v : LevelDrawing) (level : IsLevel l) (numbered : AreParts l numbers) (joined : IsJoinedDrawing l numbers at own v) where
  abbrev pub keys : List ℕ
  keys = edge_keys l numbers

  abbrev pub part : ℕ → PlainLevel
  part k = part_level l numbers k

  abbrev pub some : ℕ → ℕ
  some k = length (members numbers k)

  abbrev pub many : ℕ → ℕ
  many k = length (members keys k)

  abbrev pub child_of : ℕ → ℕ → ℕ
  child_of k i = child_number numbers k i

  abbrev pub edge_of : ℕ → ℕ → ℕ
  edge_of k j = edge_number l numbers k j

  -- ---- by parts

  pub in_keys : (e : ℕ) → e < length l.edges → e < length keys
  in_keys e h = subst (λ n. e < n) (sym (many_keys l numbers 0 level numbered)) h

  pub by_child : (F : ℕ → Type 0) → ((k i : ℕ) → k ≡ slice_index numbers (child_of k i) → i < some k → F (child_of k i)) → (c : ℕ) → c < length l.children → F c
  by_child F all c h =
      let k = slice_index numbers c in
      let back = place_back l numbers k level numbered c h refl in
      subst F back (all k (place_of numbers c) (ap (slice_index numbers) (sym back)) (place_in l numbers k level numbered c h refl))

  pub by_edge : (F : ℕ → Type 0) → ((k j : ℕ) → k ≡ slice_index keys (edge_of k j) → j < many k → F (edge_of k j)) → (e : ℕ) → e < length l.edges → F e
  by_edge F all e h =
      let k = slice_index keys e in
      let back = node_place keys k e (in_keys e h) refl in
      subst F back (all k (place_of keys e) (ap (slice_index keys) (sym back)) (place_less keys k e (in_keys e h) refl))

  -- ---- children

  module _ (k i : ℕ) (h : i < some k) where
    pub there : child_of k i < length l.children
    there = (child_in l numbers k level numbered i h).0

    pub part_is : slice_index numbers (child_of k i) ≡ k
    part_is = (child_in l numbers k level numbered i h).1

    pub place_is : place_of numbers (child_of k i) ≡ i
    place_is = place_node numbers k i h

    pub in_part : i < length (part k).children
    in_part = subst (λ n. i < n) (sym (many_children l numbers k level numbered)) h

    pub same_child : child_at (part k) i ≡ child_at l (child_of k i)
    same_child = child_is l numbers k level numbered i h

    pub box_at : point_or v.boxes (child_of k i) ≡ plus (at k) (point_or (own k).boxes i)
    box_at = joined.boxes (child_of k i) there ∙ ap₂ (λ q x. plus (at q) (point_or (own q).boxes x)) part_is place_is

    pub ports_at : get_or v.ports (child_of k i) [] ≡ get_or (own k).ports i []
    ports_at = joined.ports (child_of k i) there ∙ ap₂ (λ q x. get_or (own q).ports x []) part_is place_is

    pub port_at_is : (q : ℕ) → drawn_port v (child_of k i) q ≡ drawn_port (own k) i q
    port_at_is q = ap (λ ps. point_or ps q) ports_at

    pub drawn_box_at : drawn_box l v (child_of k i) ≡ shifted (at k) (drawn_box (part k) (own k) i)
    drawn_box_at = ap₂ (λ p (c : Child). rect_at p c.size) box_at (sym same_child)

    port_box : (q : ℕ)
        → rect_at (moved_by (drawn_box l v (child_of k i)) (drawn_port v (child_of k i) q)) (port_at (child_at l (child_of k i)) q).size
        ≡ shifted (at k) (rect_at (moved_by (drawn_box (part k) (own k) i) (drawn_port (own k) i q)) (port_at (child_at (part k) i) q).size)
    port_box q =
        ap₂ (λ r p. rect_at (moved_by r p) (port_at (child_at l (child_of k i)) q).size) drawn_box_at (port_at_is q)
        ∙ ap (λ (c : Child). rect_at (moved_by (shifted (at k) (drawn_box (part k) (own k) i)) (drawn_port (own k) i q)) (port_at c q).size) (sym same_child)
        ∙ place_moved (at k) (drawn_box (part k) (own k) i) (drawn_port (own k) i q) (port_at (child_at (part k) i) q).size

    outline_from_at : (qs : List ℕ) → drawn_outline_from l v (child_of k i) qs ≡ shifted (at k) (drawn_outline_from (part k) (own k) i qs)
    outline_from_at [] = drawn_box_at
    outline_from_at (q ∷ qs) = ap₂ hull (outline_from_at qs) (port_box q) ∙ sym (hull_moved (at k) (drawn_outline_from (part k) (own k) i qs) _)

    pub outline_at : drawn_outline l v (child_of k i) ≡ shifted (at k) (drawn_outline (part k) (own k) i)
    outline_at =
        ap (λ (c : Child). drawn_outline_from l v (child_of k i) (range_with_len 0 (length c.ports))) (sym same_child)
        ∙ outline_from_at (range_with_len 0 (length (child_at (part k) i).ports))

  -- ---- edges

  module _ (k j : ℕ) (h : j < many k) where
    pub edge_there : edge_of k j < length l.edges
    edge_there = edge_in l numbers k level numbered j h

    pub key_is : slice_index keys (edge_of k j) ≡ k
    key_is = (node_in keys k j h).1

    pub edge_place : place_of keys (edge_of k j) ≡ j
    edge_place = place_node keys k j h

    pub edge_in_part : j < length (part k).edges
    edge_in_part = subst (λ n. j < n) (sym (many_edges l numbers k level numbered)) h

    pub section_is : section_at v (edge_of k j) ≡ moved_section (at k) (section_at (own k) j)
    section_is = joined.sections (edge_of k j) edge_there ∙ ap₂ (λ q x. moved_section (at q) (section_at (own q) x)) key_is edge_place

    pub path_is : route_path v (edge_of k j) ≡ map (plus (at k)) (route_path (own k) j)
    path_is = ap (λ s. points_of s) section_is ∙ points_moved (at k) (section_at (own k) j)

    pub count_is : route_count v (edge_of k j) ≡ route_count (own k) j
    count_is =
        ap length path_is ∙ length-map (route_path (own k) j) (plus (at k))

    pub point_is : (x : ℕ) → x < route_count (own k) j → route_point v (edge_of k j) x ≡ plus (at k) (route_point (own k) j x)
    point_is x less =
        ap (λ ps. point_in ps x) path_is ∙ get_or-map (plus (at k)) (route_path (own k) j) x origin origin less
