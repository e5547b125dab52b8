-- Tables do not depend on which function gives the orders of the level's sides.
use Rattle.std.proofs.Common.{◌≡◌, ℕ, ◌+◌, ◌*◌, ◌<◌, ◌==◌, ◌&&◌, ◌++◌, ◌+ℤ◌, ◌-ℤ◌, ℤ, List, [], ◌∷◌, map, length, Bool, true, false, cond, IsTrue, refl, sym, ◌∙◌, ap, ap₂, subst, eqb-true}
use Rattle.std.specs.List.{filter, list_any, range_with_len}
use Rattle.std.proofs.lemmas.Bool.{and_parts}
use Rattle.drawing_types.specs.declared.shape.Point.{Point}
use Rattle.drawing_types.specs.declared.shape.Rect.{Rect}
use Rattle.drawing_types.specs.declared.shape.Side.{Side}
use Rattle.drawing_types.specs.declared.shape.Side.TheVariants.{North, East, South, West}
use Rattle.drawing_types.specs.declared.shape.Dock.{Dock}
use Rattle.drawing_types.specs.Shapes.{is_side}
use Rattle.drawing_types.specs.Shapes.{hull, rect_at}
use Rattle.port_order.specs.Child.{port_at}
use Rattle.port_order.proofs.AgreeLemmas.{one_order}
use Rattle.self_loops.specs.Loops.{sides_of_lanes}
use Rattle.level_model.specs.Stage.{Line, dock_lane, loop_lane}
use Rattle.level_model.specs.declared.table.EndAt.{EndAt}
use Rattle.level_model.specs.declared.table.LoopAt.{LoopAt}
use Rattle.level_model.specs.declared.table.ChildAt.{ChildAt}
use Rattle.level_model.specs.declared.table.Table.{Table}
use Rattle.level_model.specs.Conditions.{IsLevel}
use Rattle.level_model.specs.Level.{PlainLevel, PlainPlan, Orders, End, end_at, child_at, edge_at, is_loop, spoke, spots, spot_of, dock_of, anchor_of_spot, port_place, outline_from, outline}
use Rattle.level_model.specs.Lanes.{dock_eq, has_lane, docks_with_lane, lane_side, loops_of, loop_sides, lanes, lanes_room, place_of_line, body_top, lane_height, loop_lane_height}
use Rattle.level_model.specs.Nets.{below_top}
use Rattle.level_model.specs.Table.{IsTable, IsEndAt, IsLoopAt, IsChildAt, end_in, loop_in, child_in}
use Rattle.level_model.specs.Units.{AreOrders}
use Rattle.dock_table.specs.Agreeing.{NeedNoOrders}
use Rattle.dock_table.proofs.WholeLemmas.{spots_are}

-- the orders of a child's sides
abbrev OfSides : Type 0
OfSides = Side → List ℕ

-- two tests that agree where a third one passes
filter_where : (test f g : ℕ → Bool) (xs : List ℕ) → ((x : ℕ) → test x ≡ true → f x ≡ g x) → filter f (filter test xs) ≡ filter g (filter test xs)
filter_where test f g [] h = refl
filter_where test f g (x ∷ xs) h = step (test x) refl (filter_where test f g xs h)
  where
    step : (b : Bool) → test x ≡ b → filter f (filter test xs) ≡ filter g (filter test xs) → filter f (cond b (x ∷ filter test xs) (filter test xs)) ≡ filter g (cond b (x ∷ filter test xs) (filter test xs))
    step true t rest = ap (λ b. cond b (x ∷ filter f (filter test xs)) (filter f (filter test xs))) (h x t) ∙ ap (λ (ys : List ℕ). cond (g x) (x ∷ ys) ys) rest
    step false t rest = rest

-- a self-loop of a child has both ends there
loop_at : (l : PlainLevel) (c e : ℕ) → (is_loop l e && ((edge_at l e).source.child == c)) ≡ true → ((edge_at l e).source.child ≡ c) × ((edge_at l e).target.child ≡ c)
loop_at l c e t =
    let parts = and_parts (is_loop l e) ((edge_at l e).source.child == c) t in
    let at = eqb-true (edge_at l e).source.child c parts.1 in
    (at, sym (eqb-true (edge_at l e).source.child (edge_at l e).target.child parts.0) ∙ at)

-- What is read of the orders of one child alone. A definition at a child is the same whatever the orders of the others are.
module _ (l : PlainLevel) (p : PlainPlan) (o q : Orders) where
  dock_same : (n : End) → o (spoke l n).child ≡ q (spoke l n).child → dock_of l p o n ≡ dock_of l p q n
  dock_same n e = ap (λ (f : OfSides). dock_of l p (λ c. f) n) e

  anchor_same : (n : End) → o (spoke l n).child ≡ q (spoke l n).child → anchor_of_spot l o (spoke l n).child (spot_of l p n) ≡ anchor_of_spot l q (spoke l n).child (spot_of l p n)
  anchor_same n e = ap (λ (f : OfSides). anchor_of_spot l (λ c. f) (spoke l n).child (spot_of l p n)) e

  has_lane_same : (n : End) → o (spoke l n).child ≡ q (spoke l n).child → has_lane l p o (spoke l n).child (dock_of l p o n) ≡ has_lane l p q (spoke l n).child (dock_of l p q n)
  has_lane_same n e = ap (λ (f : OfSides). has_lane l p (λ c. f) (spoke l n).child (dock_of l p (λ c. f) n)) e

  port_same : (c k : ℕ) → o c ≡ q c → port_place l p o c k ≡ port_place l p q c k
  port_same c k e = ap (λ (f : OfSides). port_place l p (λ c. f) c k) e

  outline_from_same : (c : ℕ) (ks : List ℕ) → o c ≡ q c → outline_from l p o c ks ≡ outline_from l p q c ks
  outline_from_same c [] e = refl
  outline_from_same c (k ∷ ks) e =
      ap₂ (λ (r : Rect) (z : Point). hull r (rect_at z (port_at (child_at l c) k).size)) (outline_from_same c ks e) (port_same c k e)

  outline_same : (c : ℕ) → o c ≡ q c → outline l p o c ≡ outline l p q c
  outline_same c e = outline_from_same c (range_with_len 0 (length (child_at l c).ports)) e

  docks_same : (c : ℕ) → o c ≡ q c → docks_with_lane l p o c ≡ docks_with_lane l p q c
  docks_same c e = ap (λ (f : OfSides). docks_with_lane l p (λ c. f) c) e

  loop_sides_same : (e : ℕ) → o (edge_at l e).source.child ≡ q (edge_at l e).source.child → o (edge_at l e).target.child ≡ q (edge_at l e).target.child → loop_sides l p o e ≡ loop_sides l p q e
  loop_sides_same e source target =
      ap₂ (λ (d k : Dock). sides_of_lanes d.side k.side (dock_eq d k)) (dock_same (end_at e true) source) (dock_same (end_at e false) target)

  loops_same : (c : ℕ) (side : Side) → o c ≡ q c
      → filter (λ e. list_any (is_side side) (loop_sides l p o e)) (loops_of l c) ≡ filter (λ e. list_any (is_side side) (loop_sides l p q e)) (loops_of l c)
  loops_same c side e =
      filter_where (λ e. is_loop l e && ((edge_at l e).source.child == c)) (λ e. list_any (is_side side) (loop_sides l p o e)) (λ e. list_any (is_side side) (loop_sides l p q e)) (range_with_len 0 (length l.edges))
      (λ x t. let at = loop_at l c x t in
      ap (λ (ss : List Side). list_any (is_side side) ss) (loop_sides_same x (subst (λ k. o k ≡ q k) (sym at.0) e) (subst (λ k. o k ≡ q k) (sym at.1) e)))

  lanes_same : (c : ℕ) (side : Side) → o c ≡ q c → lanes l p o c side ≡ lanes l p q c side
  lanes_same c side e =
      ap₂ (λ (xs : List ℕ) (ds : List Dock). map (λ x. loop_lane x side) xs ++ map (λ d. dock_lane d) (filter (λ d. is_side (lane_side l d) side) ds)) (loops_same c side e) (docks_same c e)

  body_top_same : (c : ℕ) → o c ≡ q c → body_top l p o c ≡ body_top l p q c
  body_top_same c e = ap (λ (ms : List Line). lanes_room l (length ms)) (lanes_same c North e)

  lane_below : (c i : ℕ) → o c ≡ q c → lane_height l p o c South i ≡ lane_height l p q c South i
  lane_below c i e = ap₂ (λ (z : ℤ) (r : Rect). z +ℤ r.height +ℤ lanes_room l (i + 1)) (body_top_same c e) (outline_same c e)

  lane_height_same : (c : ℕ) (side : Side) (i : ℕ) → o c ≡ q c → lane_height l p o c side i ≡ lane_height l p q c side i
  lane_height_same c North i e = ap (λ (z : ℤ). z -ℤ lanes_room l (i + 1)) (body_top_same c e)
  lane_height_same c East i e = lane_below c i e
  lane_height_same c South i e = lane_below c i e
  lane_height_same c West i e = lane_below c i e

  line_height_same : (c : ℕ) (side : Side) (m : Line) → o c ≡ q c → loop_lane_height l p o c side m ≡ loop_lane_height l p q c side m
  line_height_same c side m e =
      ap (λ (ms : List Line). lane_height l p o c side (place_of_line ms m)) (lanes_same c side e) ∙ lane_height_same c side (place_of_line (lanes l p q c side) m) e

  dock_lane_same : (n : End) → o (spoke l n).child ≡ q (spoke l n).child → below_top l p o (dock_lane (dock_of l p o n)) ≡ below_top l p q (dock_lane (dock_of l p q n))
  dock_lane_same n e =
      ap (λ (d : Dock). below_top l p o (dock_lane d)) (dock_same n e)
      ∙ line_height_same (spoke l n).child (lane_side l (dock_of l p q n)) (dock_lane (dock_of l p q n)) e

  end_same : (n : End) (v : EndAt) → o (spoke l n).child ≡ q (spoke l n).child → IsEndAt l p o n v → IsEndAt l p q n v
  end_same n v e is =
      record {
        dock = is.dock ∙ dock_same n e;
        anchor = is.anchor ∙ anchor_same n e;
        lane = λ has. is.lane (subst IsTrue (sym (has_lane_same n e)) has) ∙ dock_lane_same n e;
      }

  loop_same : (e : ℕ) (v : LoopAt) → o (edge_at l e).source.child ≡ q (edge_at l e).source.child → o (edge_at l e).target.child ≡ q (edge_at l e).target.child → IsLoopAt l p o e v → IsLoopAt l p q e v
  loop_same e v source target is =
      let sides = loop_sides_same e source target in
      record {
        north = λ has. is.north (subst (λ (ss : List Side). IsTrue (list_any (is_side North) ss)) (sym sides) has) ∙ line_height_same (edge_at l e).source.child North (loop_lane e North) source;
        south = λ has. is.south (subst (λ (ss : List Side). IsTrue (list_any (is_side South) ss)) (sym sides) has) ∙ line_height_same (edge_at l e).source.child South (loop_lane e South) source;
      }

  child_same : (c : ℕ) (v : ChildAt) → o c ≡ q c → IsChildAt l p o c v → IsChildAt l p q c v
  child_same c v e is =
      record {
        unit = is.unit;
        outline_is = is.outline_is ∙ outline_same c e;
        as_many = is.as_many;
        ports = λ k h. is.ports k h ∙ port_same c k e;
        north = is.north ∙ ap (λ (ms : List Line). length ms) (lanes_same c North e);
        south = is.south ∙ ap (λ (ms : List Line). length ms) (lanes_same c South e);
      }

  -- the orders of a child's sides are determined
  orders_same : AreOrders l p o → AreOrders l p q → (c : ℕ) → c < length l.children → o c ≡ q c
  orders_same are also c h = λ i side. one_order (child_at l c) side (spots l p c) (o c side) (q c side) (spots_are l p c) (are c side h) (also c side h) i

  table_same : (t : Table) → IsLevel l → ((c : ℕ) → c < length l.children → o c ≡ q c) → IsTable l p o t → IsTable l p q t
  table_same t level same is =
      record {
        child_count = is.child_count;
        end_count = is.end_count;
        loop_count = is.loop_count;
        children = λ c h. child_same c (child_in t.children c) (same c h) (is.children c h);
        sources = λ e h. end_same (end_at e true) (end_in t.ends (2 * e)) (same (edge_at l e).source.child (level.edges e h).source.child) (is.sources e h);
        targets = λ e h. end_same (end_at e false) (end_in t.ends (2 * e + 1)) (same (edge_at l e).target.child (level.edges e h).target.child) (is.targets e h);
        loops = λ e h loop. loop_same e (loop_in t.loops e) (same (edge_at l e).source.child (level.edges e h).source.child) (same (edge_at l e).target.child (level.edges e h).target.child) (is.loops e h loop);
      }

pub need_no_orders : NeedNoOrders
need_no_orders l p o q t level are also is = table_same l p o q t level (orders_same l p o q are also) is
