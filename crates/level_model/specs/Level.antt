-- A level, its oriented ends, its spots and its docks, under the orders of its sides.
use Rattle.std.specs.Prelude.{ℕ, ◌+◌, ◌==◌, cond, Bool, true, false, not, ◌&&◌, List, [], ◌∷◌, ◌++◌, map, ℤ, pos, Option, None, Some}
use Rattle.std.specs.Prelude.{length, slice_index_or, is_none}
use Rattle.std.specs.List.{filter, list_any, range_with_len}
use Rattle.drawing_types.specs.declared.shape.Point.{Point}
use Rattle.drawing_types.specs.declared.shape.Rect.{Rect}
use Rattle.drawing_types.specs.declared.shape.Side.{Side}
use Rattle.drawing_types.specs.declared.shape.Dock.{Dock}
use Rattle.elk_doc.specs.declared.document.Choices.{Choices}
use Rattle.elk_doc.specs.declared.document.Spacing.{Spacing}
use Rattle.elk_doc.specs.declared.document.PortRule.TheVariants.{Free}
use Rattle.elk_doc.specs.declared.document.Direction.TheVariants.{Right}
use Rattle.drawing_types.specs.Shapes.{hull, rect_at}
use Rattle.elk_layers.specs.Layered.{Plain, link_at, place_of, is_child}
use Rattle.port_order.specs.declared.spots.Mean.{Mean}
use Rattle.port_order.specs.declared.spots.Spot.{Spot}
use Rattle.port_order.specs.declared.children.Child.{Child}
use Rattle.drawing_types.specs.Shapes.{no_size}
use Rattle.port_order.specs.Child.{port_at}
use Rattle.port_order.specs.Sides.{side_of}
use Rattle.port_order.specs.Places as places
use Rattle.level_model.specs.declared.level.EdgeEnd.{EdgeEnd}
use Rattle.level_model.specs.declared.level.LevelEdge.{LevelEdge}

pub record PlainLevel : Type 0 where
  pub children : List Child
  pub edges : List LevelEdge
  pub spacing : Spacing
  pub choices : Choices

-- what a drawing is made from: units and links, rows, tops, and the edges that are reversed
pub record PlainPlan : Type 0 where
  pub layers : ℕ
  pub layered : Plain
  pub rows : List (List ℕ)
  pub tops : List ℤ
  pub reversed : List ℕ

-- for each child and side, the numbers of its spread spots from the top or the left
abbrev pub Orders : Type 0
Orders = ℕ → Side → List ℕ

abbrev pub child_at : PlainLevel → ℕ → Child
child_at l c = slice_index_or l.children c (record { size = no_size; compound = false; rule = Free; direction = Right; position = None; ports = [] })

abbrev pub edge_at : PlainLevel → ℕ → LevelEdge
edge_at l e = slice_index_or l.edges e (record {
  source = record { child = 0; port = None };
  target = record { child = 0; port = None };
  weight = 1;
})

abbrev pub holds : List ℕ → ℕ → Bool
holds ns n = list_any (λ m. m == n) ns

-- an end of an edge
pub record End : Type 0 where
  pub edge : ℕ
  pub at_source : Bool

abbrev pub end_at : ℕ → Bool → End
end_at e t = record { edge = e; at_source = t }

abbrev pub spoke : PlainLevel → End → EdgeEnd
spoke l n = cond n.at_source (edge_at l n.edge).source (edge_at l n.edge).target

abbrev pub is_loop : PlainLevel → ℕ → Bool
is_loop l e = (edge_at l e).source.child == (edge_at l e).target.child

-- whether the oriented edge enters its child at this end
abbrev pub enters : PlainPlan → End → Bool
enters p n = cond n.at_source (holds p.reversed n.edge) (not (holds p.reversed n.edge))

-- the end at which the oriented edge leaves, and the one at which it enters
abbrev pub tail_end : PlainPlan → ℕ → End
tail_end p e = end_at e (not (holds p.reversed e))

abbrev pub head_end : PlainPlan → ℕ → End
head_end p e = end_at e (holds p.reversed e)

-- all ends in document order
abbrev pub ends_of_edges : List ℕ → List End
ends_of_edges [] = []
ends_of_edges (e ∷ es) = end_at e true ∷ end_at e false ∷ ends_of_edges es

abbrev pub all_ends : PlainLevel → List End
all_ends l = ends_of_edges (range_with_len 0 (length l.edges))

abbrev pub is_port : Option ℕ → ℕ → Bool
is_port None k = false
is_port (Some j) k = j == k

-- the ends at a port of a child, and the implicit ends at the child
abbrev pub ends_at_port : PlainLevel → ℕ → ℕ → List End
ends_at_port l c k = filter (λ n. ((spoke l n).child == c) && is_port (spoke l n).port k) (all_ends l)

abbrev pub implicit_ends : PlainLevel → ℕ → List End
implicit_ends l c = filter (λ n. ((spoke l n).child == c) && is_none (spoke l n).port) (all_ends l)

-- the ends of links: those whose edge is no self-loop
abbrev pub linked : PlainLevel → List End → List End
linked l ns = filter (λ n. not (is_loop l n.edge)) ns

-- the number of an end's link: that of its edge which has a child at the end's side
abbrev pub is_link_of : PlainPlan → End → ℕ → Bool
is_link_of p n k =
    ((link_at p.layered.links k).edge == n.edge)
    && is_child p.layered (cond (enters p n) (link_at p.layered.links k).head (link_at p.layered.links k).tail)

abbrev pub first_or : List ℕ → ℕ → ℕ
first_or [] d = d
first_or (n ∷ ns) d = n

abbrev pub link_of : PlainPlan → End → ℕ
link_of p n = first_or (filter (is_link_of p n) (range_with_len 0 (length p.layered.links))) 0

-- the unit at the far end of an end's link
abbrev pub far_unit : PlainPlan → End → ℕ
far_unit p n = cond (enters p n) (link_at p.layered.links (link_of p n)).tail (link_at p.layered.links (link_of p n)).head

abbrev pub sum_of : List ℕ → ℕ
sum_of [] = 0
sum_of (n ∷ ns) = n + sum_of ns

-- the mean of the positions of the units at the far ends of links
abbrev pub mean_of : PlainPlan → List End → Option Mean
mean_of p [] = None
mean_of p (n ∷ ns) = Some (record { sum = sum_of (map (λ m. place_of p.layered p.rows (far_unit p m)) (n ∷ ns)); count = length (n ∷ ns) })

-- the spot of these ends
abbrev pub spot : PlainLevel → PlainPlan → Option ℕ → ℕ → List End → Spot
spot l p port number ns =
    record {
      port = port;
      number = number;
      leaves = list_any (λ n. not (enters p n)) (linked l ns);
      enters = list_any (λ n. enters p n) (linked l ns);
      mean = mean_of p (linked l ns);
    }

abbrev pub end_eq : End → End → Bool
end_eq m n = (m.edge == n.edge) && (cond m.at_source n.at_source (not n.at_source))

abbrev pub place_of_end : List End → End → ℕ
place_of_end [] n = 0
place_of_end (m ∷ ms) n = cond (end_eq m n) 0 (1 + place_of_end ms n)

-- the spots of a child in document order: its ports, then its implicit ends
abbrev pub port_spot : PlainLevel → PlainPlan → ℕ → ℕ → Spot
port_spot l p c k = spot l p (Some k) k (ends_at_port l c k)

abbrev pub implicit_spot : PlainLevel → PlainPlan → ℕ → End → Spot
implicit_spot l p c n = spot l p None (length (child_at l c).ports + place_of_end (implicit_ends l c) n) (n ∷ [])

abbrev pub spots : PlainLevel → PlainPlan → ℕ → List Spot
spots l p c =
    map (port_spot l p c) (range_with_len 0 (length (child_at l c).ports)) ++ map (implicit_spot l p c) (implicit_ends l c)

abbrev pub spot_at_port : PlainLevel → PlainPlan → ℕ → End → Option ℕ → Spot
spot_at_port l p c n None = implicit_spot l p c n
spot_at_port l p c n (Some k) = port_spot l p c k

abbrev pub spot_of : PlainLevel → PlainPlan → End → Spot
spot_of l p n = spot_at_port l p (spoke l n).child n (spoke l n).port

-- the dock of a spot of a child, and of an end
abbrev pub dock_of_spot : PlainLevel → Orders → ℕ → Spot → Dock
dock_of_spot l o c s =
    record { node = c; side = side_of (child_at l c) s; offset = places.dock_of (child_at l c) s (o c (side_of (child_at l c) s)) }

abbrev pub dock_of : PlainLevel → PlainPlan → Orders → End → Dock
dock_of l p o n = dock_of_spot l o (spoke l n).child (spot_of l p n)

-- the anchor of a spot, relative to its child's box
abbrev pub anchor_of_spot : PlainLevel → Orders → ℕ → Spot → Point
anchor_of_spot l o c s = places.anchor_at (child_at l c) (side_of (child_at l c) s) s.port (dock_of_spot l o c s).offset

-- the place of a port relative to its child's box
abbrev pub port_place : PlainLevel → PlainPlan → Orders → ℕ → ℕ → Point
port_place l p o c k =
    places.place_of_port (child_at l c) (side_of (child_at l c) (port_spot l p c k)) k (dock_of_spot l o c (port_spot l p c k)).offset

-- the outline of a child relative to its box, from the ports that are numbered
abbrev pub outline_from : PlainLevel → PlainPlan → Orders → ℕ → List ℕ → Rect
outline_from l p o c [] = rect_at (record { x = pos 0; y = pos 0 }) (child_at l c).size
outline_from l p o c (k ∷ ks) = hull (outline_from l p o c ks) (rect_at (port_place l p o c k) (port_at (child_at l c) k).size)

abbrev pub outline : PlainLevel → PlainPlan → Orders → ℕ → Rect
outline l p o c = outline_from l p o c (range_with_len 0 (length (child_at l c).ports))
