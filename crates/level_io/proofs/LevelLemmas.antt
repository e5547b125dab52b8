-- The level of a node of a document is a level.
use Rattle.std.proofs.Common.{◌≡◌, ℕ, ◌+◌, ◌*◌, ◌<◌, ◌≤◌, ◌^◌, ℤ, pos, ◌≤ℤ◌, map, length, get_or, [], None, false, arith, refl, sym, ap, subst, ◌∙◌, rules}
use Rattle.std.specs.Prelude.{IsNone}
use Rattle.std.proofs.lemmas.Int.{ints}
use Rattle.std.proofs.lemmas.List.{get_or-map, length-map}
use Rattle.drawing_types.specs.declared.shape.Size.{Size}
use Rattle.elk_doc.specs.declared.document.Direction.{Direction}
use Rattle.elk_doc.specs.declared.document.Direction.TheVariants.{Right, Left, Down, Up}
use Rattle.elk_doc.specs.declared.document.PortRule.TheVariants.{Free}
use Rattle.elk_doc.specs.declared.document.End.{End}
use Rattle.elk_doc.specs.declared.document.End.TheVariants.{Node as AtNode, Port as AtPort}
use Rattle.elk_doc.specs.declared.document.LevelOptions.{LevelOptions}
use Rattle.elk_doc.specs.declared.drawing.Placed.{Placed}
use Rattle.elk_doc.specs.Document.{Document, edge_at, node_at, node_of_port, port_at}
use Rattle.elk_doc.specs.Drawing.{box_of}
use Rattle.elk_doc.specs.Fits.{IsSolid, KeepsSize}
use Rattle.elk_doc.specs.Level.{children, edges_of, IsChild, is_child, is_edge_of, node_of_end, place_of_child}
use Rattle.elk_doc.specs.Sound.{IsEndIn, IsSound, IsSoundSize, IsSoundSpacing}
use Rattle.port_order.specs.declared.children.ChildPort.{ChildPort}
use Rattle.port_order.specs.declared.children.Child.{Child}
use Rattle.port_order.specs.Child as laid
use Rattle.port_order.specs.Conditions.{IsSmall}
use Rattle.level_model.specs.declared.level.LevelEdge.{LevelEdge}
use Rattle.level_model.specs.Conditions.{IsLevel, IsLevelChild, IsLevelEdge, IsSpoke, total_ports}
use Rattle.level_model.specs.Level as plan
use Rattle.working_frame.specs.Rotated.{box_size, child_number, edge_number, level_child, level_edge, level_of, level_port, port_number, ports_of, spoke_of, rotated_size}
use Rattle.working_frame.specs.Numbered.{IsPortOf}
use Rattle.working_frame.proofs.NumberedLemmas.{ends_match, levels_are_listed, numbers_match}
use Rattle.level_io.specs.Levels.{HasLeavesAlone, HasRoom, KeepsLeaves}
use Rattle.level_io.proofs.ChildLemmas.{child_sound, kept_size}
use Rattle.level_io.proofs.CountLemmas.{few_numbers, few_ports}
use Rattle.level_io.proofs.ReadLemmas.{rotated_sound}
use Rattle.level_io.proofs.TotalLemmas.{AreCounted, IsCounted, Measure, height_by, part_below, total_by, total_short, width_by}

-- ---- lengths

box_solid : (way : Direction) (p : Placed) (c : ℕ) → IsSolid (box_of p c) → (pos 0 ≤ℤ (rotated_size way (box_size p c)).width) × (pos 0 ≤ℤ (rotated_size way (box_size p c)).height)
box_solid Right p c h = (h.width, h.height)
box_solid Left p c h = (h.width, h.height)
box_solid Down p c h = (h.height, h.width)
box_solid Up p c h = (h.height, h.width)

-- what a size rotated from is within where its parts there are
back_small : (way : Direction) (s : Size) → IsSmall (rotated_size way s) → IsSmall s
back_small Right s h = h
back_small Left s h = h
back_small Down s h = record { width = h.height; height = h.width }
back_small Up s h = record { width = h.height; height = h.width }

pub port_short : (d : Document) (way : Direction) (box : Size) (c j : ℕ) → IsSound d → j < length (map (level_port d way box) (ports_of d c))
    → IsSoundSize (get_or (map (level_port d way box) (ports_of d c)) j laid.no_port).size
port_short d way box c j s h =
    let long = length-map (ports_of d c) (level_port d way box) in
    let inside : j < length (ports_of d c) = omega (arith, h, long) in
    let of = (numbers_match d c).ports.meant j inside in
    let e = get_or-map (level_port d way box) (ports_of d c) j 0 laid.no_port inside in
    subst (λ (q : ChildPort). IsSoundSize q.size) (sym e) (rotated_sound way (port_at d (port_number d c j)).size (s.ports.each (port_number d c j) of.port_in).size)

abbrev wide : Measure
wide s = s.width

abbrev high : Measure
high s = s.height

abbrev nobody : Child
nobody = record { size = record { width = pos 0; height = pos 0 }; compound = false; rule = Free; direction = Right; position = None; ports = [] }

child_is : (d : Document) (p : Placed) (n i : ℕ) (way : Direction) → i < length (map (level_child d p way) (children d n))
    → (get_or (map (level_child d p way) (children d n)) i nobody ≡ level_child d p way (child_number d n i)) × IsChild d n (child_number d n i)
child_is d p n i way h =
    let long = length-map (children d n) (level_child d p way) in
    let inside : i < length (children d n) = omega (arith, h, long) in
    (get_or-map (level_child d p way) (children d n) i 0 nobody inside, (numbers_match d n).children.meant i inside)

counted_wide : (d : Document) (p : Placed) (n : ℕ) (way : Direction) → IsSound d → ((c : ℕ) → IsChild d n c → IsSolid (box_of p c)) → AreCounted wide nobody (map (level_child d p way) (children d n))
counted_wide d p n way s solid i h =
    let is = child_is d p n i way h in
    subst (IsCounted wide) (sym is.0)
    (record { box = (box_solid way p (child_number d n i) (solid (child_number d n i) is.1)).0; ports = λ j l. (port_short d way (box_size p (child_number d n i)) (child_number d n i) j s l).width })

counted_high : (d : Document) (p : Placed) (n : ℕ) (way : Direction) → IsSound d → ((c : ℕ) → IsChild d n c → IsSolid (box_of p c)) → AreCounted high nobody (map (level_child d p way) (children d n))
counted_high d p n way s solid i h =
    let is = child_is d p n i way h in
    subst (IsCounted high) (sym is.0)
    (record { box = (box_solid way p (child_number d n i) (solid (child_number d n i) is.1)).1; ports = λ j l. (port_short d way (box_size p (child_number d n i)) (child_number d n i) j s l).height })

-- no child is longer than 2^46
child_small : (d : Document) (p : Placed) (n : ℕ) (o : LevelOptions) → IsSound d → HasRoom d p n o → (i : ℕ) → i < length (map (level_child d p o.direction) (children d n))
    → IsSmall (box_size p (child_number d n i))
child_small d p n o s room i h =
    let way = o.direction in
    let cs = map (level_child d p o.direction) (children d n) in
    let is = child_is d p n i o.direction h in
    let c = child_number d n i in
    let from = box_solid o.direction p c (room.solid c is.1) in
    let w = subst (λ (x : Child). x.size.width ≤ℤ total_by wide cs) is.0 (part_below wide nobody cs (counted_wide d p n o.direction s room.solid) i h) in
    let z = subst (λ (x : Child). x.size.height ≤ℤ total_by high cs) is.0 (part_below high nobody cs (counted_high d p n o.direction s room.solid) i h) in
    let all_w = subst (λ t. t ≤ℤ pos (2 ^ 46)) (width_by cs) room.widths in
    let all_z = subst (λ t. t ≤ℤ pos (2 ^ 46)) (height_by cs) room.heights in
    back_small o.direction (box_size p c)
    (record {
      width = record { above = from.0; below = omega (arith, ints, w, all_w) };
      height = record { above = from.1; below = omega (arith, ints, z, all_z) };
    })

level_child_sound : (d : Document) (p : Placed) (n : ℕ) (o : LevelOptions) → IsSound d → HasRoom d p n o → (i : ℕ) → i < length (level_of d p n o).children
    → IsLevelChild (plan.child_at (level_of d p n o) i)
level_child_sound d p n o s room i h =
    let is = child_is d p n i o.direction h in
    let c = child_number d n i in
    let sound = child_sound d p o.direction c s (child_small d p n o s room i h) (λ leaf. kept_size d p c (room.leaves c is.1 leaf)) in
    subst IsLevelChild (sym is.0) sound

-- ---- edges

spoke_sound : (d : Document) (p : Placed) (n : ℕ) (o : LevelOptions) (x : End) → IsEndIn d x → IsChild d n (node_of_end d x) → IsSpoke (level_of d p n o) (spoke_of d n x)
spoke_sound d p n o (AtNode c) here is =
    let long = length-map (children d n) (level_child d p o.direction) in
    let place = (numbers_match d n).children.place_in c is in
    record { child = omega (arith, long, place); port = search rules }
spoke_sound d p n o (AtPort k) here is =
    let long = length-map (children d n) (level_child d p o.direction) in
    let c = node_of_port d k in
    let match = (numbers_match d n).children in
    let place = match.place_in c is in
    let of : IsPortOf d c k = record { port_in = here; of_node = refl } in
    let ports = (numbers_match d c).ports.place_in k of in
    let own = length-map (ports_of d c) (level_port d o.direction (box_size p c)) in
    let child : plan.child_at (level_of d p n o) (place_of_child d n c) ≡ level_child d p o.direction c =
    (levels_are_listed d p n o).child (place_of_child d n c) place ∙ ap (level_child d p o.direction) (match.found c is) in
    let many : length (plan.child_at (level_of d p n o) (place_of_child d n c)).ports ≡ length (level_child d p o.direction c).ports = ap (λ (x : Child). length x.ports) child in
    record { child = omega (arith, long, place); port = omega (arith, many, own, ports) }

level_edge_sound : (d : Document) (p : Placed) (n : ℕ) (o : LevelOptions) → IsSound d → (i : ℕ) → i < length (level_of d p n o).edges → IsLevelEdge (level_of d p n o) i
level_edge_sound d p n o s i h =
    let long = length-map (edges_of d n) (level_edge d n) in
    let inside : i < length (edges_of d n) = omega (arith, h, long) in
    let e = edge_number d n i in
    let is = (numbers_match d n).edges.meant i inside in
    let at : plan.edge_at (level_of d p n o) i ≡ level_edge d n e = (levels_are_listed d p n o).edge i inside in
    let sound = s.edges e is.edge_in in
    let match = ends_match d n e s is in
    record {
      source = subst (λ (x : LevelEdge). IsSpoke (level_of d p n o) x.source) (sym at) (spoke_sound d p n o (edge_at d e).source sound.source_in match.source);
      target = subst (λ (x : LevelEdge). IsSpoke (level_of d p n o) x.target) (sym at) (spoke_sound d p n o (edge_at d e).target sound.target_in match.target);
      weight_above = subst (λ (x : LevelEdge). 1 ≤ x.weight) (sym at) sound.weight_above;
      weight_below = subst (λ (x : LevelEdge). x.weight ≤ 2 ^ 20) (sym at) sound.weight_below;
    }

-- ---- levels

few_children : (d : Document) (p : Placed) (n : ℕ) (o : LevelOptions) → IsSound d → length (level_of d p n o).children ≤ 2048
few_children d p n o s =
    let long = length-map (children d n) (level_child d p o.direction) in
    let few = few_numbers (is_child d n) (length d.nodes) in
    let all = s.few_nodes in
    omega (arith, long, few, all)

few_ports_in : (d : Document) (p : Placed) (n : ℕ) (o : LevelOptions) → IsSound d → total_ports (level_of d p n o).children ≤ 4096
few_ports_in d p n o s =
    let few = few_ports d p o.direction (is_child d n) (length d.nodes) in
    let all = s.few_ports in
    omega (arith, few, all)

few_edges : (d : Document) (p : Placed) (n : ℕ) (o : LevelOptions) → IsSound d → length (level_of d p n o).edges ≤ 2048
few_edges d p n o s =
    let long = length-map (edges_of d n) (level_edge d n) in
    let few = few_numbers (is_edge_of d n) (length d.edges) in
    let all = s.few_edges in
    omega (arith, long, few, all)

pub levels_are_levels : (d : Document) (p : Placed) (n : ℕ) (o : LevelOptions) → IsSound d → IsSoundSpacing o.spacing → HasRoom d p n o → IsLevel (level_of d p n o)
levels_are_levels d p n o s spacing room =
    record {
      few_children = few_children d p n o s;
      few_ports = few_ports_in d p n o s;
      few_edges = few_edges d p n o s;
      children = level_child_sound d p n o s room;
      edges = level_edge_sound d p n o s;
      spacing = spacing;
      widths = room.widths;
      heights = room.heights;
    }

-- ---- leaves alone

leaf_solid : (d : Document) (p : Placed) (c : ℕ) → IsSound d → c < length d.nodes → IsNone (node_at d c).level → KeepsSize d p c → IsSoundSize (box_size p c)
leaf_solid d p c s h leaf kept = subst IsSoundSize (sym (kept_size d p c kept)) ((s.nodes c h).leaf leaf)

leaves_solid : (d : Document) (p : Placed) (n : ℕ) → IsSound d → HasLeavesAlone d n → KeepsLeaves d p n → (c : ℕ) → IsChild d n c → IsSolid (box_of p c)
leaves_solid d p n s leaves kept c is =
    let size = leaf_solid d p c s is.node_in (leaves c is) (kept c is (leaves c is)) in
    record { width = size.width.above; height = size.height.above }

short_sum : (many ports : ℕ) (t : ℤ) → many ≤ 2048 → ports ≤ 4096 → t ≤ℤ pos (many * 2 ^ 20 + ports * 2 ^ 20) → t ≤ℤ pos (2 ^ 46)
short_sum many ports t a b h = omega (arith, ints, a, b, h)

leaf_sizes : (d : Document) (p : Placed) (n : ℕ) (way : Direction) → IsSound d → HasLeavesAlone d n → KeepsLeaves d p n → (i : ℕ) → i < length (map (level_child d p way) (children d n))
    → IsSoundSize (get_or (map (level_child d p way) (children d n)) i nobody).size
leaf_sizes d p n way s leaves kept i h =
    let is = child_is d p n i way h in
    let c = child_number d n i in
    subst (λ (x : Child). IsSoundSize x.size) (sym is.0) (rotated_sound way (box_size p c) (leaf_solid d p c s is.1.node_in (leaves c is.1) (kept c is.1 (leaves c is.1))))

pub levels_of_leaves_are_levels : (d : Document) (p : Placed) (n : ℕ) (o : LevelOptions) → IsSound d → IsSoundSpacing o.spacing → HasLeavesAlone d n → KeepsLeaves d p n → IsLevel (level_of d p n o)
levels_of_leaves_are_levels d p n o s spacing leaves kept =
    let cs = map (level_child d p o.direction) (children d n) in
    let solid = leaves_solid d p n s leaves kept in
    let sizes = leaf_sizes d p n o.direction s leaves kept in
    let many = few_children d p n o s in
    let ports = few_ports_in d p n o s in
    let wide_sum = total_short wide nobody cs (counted_wide d p n o.direction s solid) (λ i h. (sizes i h).width.below) in
    let high_sum = total_short high nobody cs (counted_high d p n o.direction s solid) (λ i h. (sizes i h).height.below) in
    levels_are_levels d p n o s spacing
    (record {
      leaves = kept;
      solid = solid;
      widths = subst (λ t. t ≤ℤ pos (2 ^ 46)) (sym (width_by cs)) (short_sum (length cs) (total_ports cs) (total_by wide cs) many ports wide_sum);
      heights = subst (λ t. t ≤ℤ pos (2 ^ 46)) (sym (height_by cs)) (short_sum (length cs) (total_ports cs) (total_by high cs) many ports high_sum);
    })
