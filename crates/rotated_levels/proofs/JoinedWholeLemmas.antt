-- Drawings that are put together are a drawing of the level.
use Rattle.std.proofs.Common.{◌≡◌, ◌≢◌, inl, inr, ⊎_elim, ℕ, ◌<◌, List, length, slice_index, ℤ, refl, sym, ap, ap₂, ◌∙◌, subst, subst₂}
use Rattle.drawing_types.specs.declared.shape.Point.{Point}
use Rattle.drawing_types.specs.declared.shape.Rect.{Rect}
use Rattle.drawing_types.specs.declared.shape.Side.{Side}
use Rattle.drawing_types.specs.Clearance.{IsAboveBy, IsLeftBy}
use Rattle.drawing_types.specs.Shapes.{Holds, point_rect}
use Rattle.box_pack.specs.declared.packing.Rows.{Rows}
use Rattle.box_pack.specs.Boxes.{point_at}
use Rattle.level_model.specs.FromPlan.{LevelDrawing}
use Rattle.level_model.specs.Level.{Orders, PlainLevel, PlainPlan}
use Rattle.plan_laws.specs.Routes.{route_count, route_point}
use Rattle.level_model.specs.Apart.{ChildrenApart, drawn_outline}
use Rattle.network_parts.specs.Divided.{place_of}
use Rattle.network_parts.proofs.PlaceLemmas.{place_node}
use Rattle.level_parts.specs.Divided.{child_number, edge_keys, edge_number, members, part_level}
use Rattle.rotated_levels.specs.Joined.{AreDrawn, AreInRows, DrawingsJoin, IsJoinedDrawing, KeepsParts, KeepsRules, part_rect, with_gaps}
use Rattle.rotated_levels.proofs.JoinedMoveLemmas.{above_moved, left_moved}
use Rattle.rotated_levels.proofs.PartLemmas as parts
use Rattle.rotated_levels.proofs.PlanLemmas.{boxes_are, gaps, made}
use Rattle.rotated_levels.proofs.JoinedReachLemmas as reach
use Rattle.rotated_levels.proofs.RuleLemmas.{LiesInParts, Places, ports_kept, ports_placed, routes_kept}

module _ (l : PlainLevel) (numbers : List ℕ) (count : ℕ) (plans : ℕ → PlainPlan) (orders : ℕ → Orders) (layers : ℕ → List ℕ) (own : ℕ → LevelDrawing) (listed : List ℕ) (gap limit : ℤ) (rows : Rows) (v : LevelDrawing)
    (are : AreDrawn l numbers count plans orders layers own listed) (placed : AreInRows count gap limit own rows) (joined : IsJoinedDrawing l numbers (point_at rows.at) own v) where
  abbrev at : ℕ → Point
  at k = point_at rows.at k

  -- sides have the orders of their parts
  abbrev whole_orders : Orders
  whole_orders c side = orders (slice_index numbers c) (place_of numbers c) side

  abbrev shown : LevelDrawing
  shown = with_gaps v (gaps l listed whole_orders v)

  again : IsJoinedDrawing l numbers (point_at rows.at) own shown
  again =
      record { box_count = joined.box_count; boxes = joined.boxes; port_lists = joined.port_lists; ports = joined.ports; section_count = joined.section_count; sections = joined.sections }

  orders_are : (k i : ℕ) (side : Side) → i < length (members numbers k) → orders k i side ≡ whole_orders (child_number numbers k i) side
  orders_are k i side h =
      sym (ap₂ (λ q x. orders q x side) (parts.part_is l numbers at own v are.level are.numbered joined k i h) (place_node numbers k i h))

  places : Places l numbers count orders listed shown (made l listed whole_orders v) whole_orders
  places = record { reversed_are = refl; orders_are = orders_are; boxes_are = boxes_are l listed whole_orders v }

  lies : LiesInParts l numbers count own shown gap (part_rect at own)
  lies =
      record {
        gap_above = placed.gap_above;
        clear = reach.clear l numbers count plans orders layers own listed gap limit rows shown are placed again;
        outlines = reach.outline_in l numbers count plans orders layers own listed gap limit rows shown are placed again;
        boxes = reach.box_in l numbers count plans orders layers own listed gap limit rows shown are placed again;
        points = reach.point_in l numbers count plans orders layers own listed gap limit rows shown are placed again;
      }

  rules : v.extent ≡ rows.extent → KeepsRules l listed v
  rules same =
      record {
        plan = made l listed whole_orders v;
        orders = whole_orders;
        gaps = gaps l listed whole_orders v;
        is_reversed = refl;
        placed = ports_placed l numbers count plans orders layers own listed at shown are again (made l listed whole_orders v) whole_orders places gap (part_rect at own) lies;
        ports = ports_kept l numbers count plans orders layers own listed at shown are again (made l listed whole_orders v) whole_orders places gap (part_rect at own) lies;
        routes = routes_kept l numbers count plans orders layers own listed at shown are again (made l listed whole_orders v) whole_orders places gap (part_rect at own) lies;
        tight = reach.is_tight l numbers count plans orders layers own listed gap limit rows shown are placed again same;
      }

  -- ---- children of one part

  module _ (written : List ℕ) (same : (c : ℕ) → c < length l.children → slice_index written c ≡ slice_index (layers (slice_index numbers c)) (place_of numbers c)) where
    layer_at : (k i : ℕ) → i < length (members numbers k) → slice_index written (child_number numbers k i) ≡ slice_index (layers k) i
    layer_at k i h =
        same (child_number numbers k i) (parts.there l numbers at own v are.level are.numbered joined k i h)
        ∙ ap₂ (λ q x. slice_index (layers q) x) (parts.part_is l numbers at own v are.level are.numbered joined k i h) (place_node numbers k i h)

    apart_at : (k i j : ℕ) → k < count → i < length (members numbers k) → j < length (members numbers k) → i ≢ j → ChildrenApart l v written (child_number numbers k i) (child_number numbers k j)
    apart_at k i j less hi hj differ =
        let inside = λ (x : ℕ) (h : x < length (members numbers k)). parts.in_part l numbers at own v are.level are.numbered joined k x h in
        let own_apart = (are.drawing k less).apart i j (inside i hi) (inside j hj) differ in
        let a = drawn_outline (part_level l numbers k) (own k) i in
        let b = drawn_outline (part_level l numbers k) (own k) j in
        let first = sym (parts.outline_at l numbers at own v are.level are.numbered joined k i hi) in
        let second = sym (parts.outline_at l numbers at own v are.level are.numbered joined k j hj) in
        record {
          same_layer = λ e. ⊎_elim
              (λ (h : IsAboveBy l.spacing.node_node a b). inl (subst₂ (λ (r s : Rect). IsAboveBy l.spacing.node_node r s) first second (above_moved l.spacing.node_node (at k) a b h)))
              (λ (h : IsAboveBy l.spacing.node_node b a). inr (subst₂ (λ (r s : Rect). IsAboveBy l.spacing.node_node r s) second first (above_moved l.spacing.node_node (at k) b a h)))
              (own_apart.same_layer (sym (layer_at k i hi) ∙ e ∙ layer_at k j hj));
          earlier_layer = λ e. subst₂ (λ (r s : Rect). IsLeftBy l.spacing.node_layers r s) first second
              (left_moved l.spacing.node_layers (at k) a b (own_apart.earlier_layer (subst₂ (λ x y. x < y) (layer_at k i hi) (layer_at k j hj) e)));
        }

    apart : (b c : ℕ) → b < length l.children → c < length l.children → b ≢ c → slice_index numbers b ≡ slice_index numbers c → ChildrenApart l v written b c
    apart b c hb hc =
        parts.by_child l numbers at own v are.level are.numbered joined (λ b. b ≢ c → slice_index numbers b ≡ slice_index numbers c → ChildrenApart l v written b c)
        (λ k i is less. parts.by_child l numbers at own v are.level are.numbered joined (λ c. child_number numbers k i ≢ c → slice_index numbers (child_number numbers k i) ≡ slice_index numbers c → ChildrenApart l v written (child_number numbers k i) c)
        (λ m j is_too there differ one.
        let part_same : m ≡ k = is_too ∙ sym one ∙ sym is in
        let inside : j < length (members numbers k) = subst (λ n. j < length (members numbers n)) part_same there in
        let low = reach.part_below l numbers count plans orders layers own listed gap limit rows v are placed joined k i is less in
        subst (λ n. ChildrenApart l v written (child_number numbers k i) (child_number numbers n j)) (sym part_same)
        (apart_at k i j low less inside (λ e. differ (ap (child_number numbers k) e ∙ ap (λ n. child_number numbers n j) (sym part_same))))) c hc) b hb

  kept_parts : KeepsParts l numbers count gap at layers own v
  kept_parts =
      record {
        outlines = parts.by_child l numbers at own v are.level are.numbered joined (λ c. Holds (part_rect at own (slice_index numbers c)) (drawn_outline l v c))
            (λ k i is less. subst (λ n. Holds (part_rect at own n) (drawn_outline l v (child_number numbers k i))) is
            (reach.outline_in l numbers count plans orders layers own listed gap limit rows v are placed joined k i
            (reach.part_below l numbers count plans orders layers own listed gap limit rows v are placed joined k i is less) less));
        points = λ e x he. parts.by_edge l numbers at own v are.level are.numbered joined
            (λ e. x < route_count v e → Holds (part_rect at own (slice_index (edge_keys l numbers) e)) (point_rect (route_point v e x)))
            (λ k j is less there. subst (λ n. Holds (part_rect at own n) (point_rect (route_point v (edge_number l numbers k j) x))) is
            (reach.point_in l numbers count plans orders layers own listed gap limit rows v are placed joined k j x
            (reach.key_below l numbers count plans orders layers own listed gap limit rows v are placed joined k j is less) less
            (subst (λ n. x < n) (parts.count_is l numbers at own v are.level are.numbered joined k j less) there))) e he;
        clear = reach.clear l numbers count plans orders layers own listed gap limit rows v are placed joined;
        children = apart;
      }

pub drawings_join : DrawingsJoin
drawings_join l numbers count plans orders layers own listed gap limit rows v are placed joined same =
    record {
      rules = rules l numbers count plans orders layers own listed gap limit rows v are placed joined same;
      parts = kept_parts l numbers count plans orders layers own listed gap limit rows v are placed joined;
    }
