-- Children and edges of a level as they are read.
use Rattle.std.proofs.Common.{◌≡◌, ℕ, suc, ◌<◌, List, [], ◌∷◌, map, length, get_or, slice_index, arith, refl, sym, ap, ap₂, subst, ◌∙◌}
use Rattle.drawing_types.specs.declared.shape.Size.{Size}
use Rattle.elk_doc.specs.declared.document.Direction.{Direction}
use Rattle.elk_doc.specs.declared.document.Direction.TheVariants.{Right, Left, Down, Up}
use Rattle.elk_doc.specs.declared.document.LevelOptions.{LevelOptions}
use Rattle.elk_doc.specs.declared.document.Edge.{Edge}
use Rattle.elk_doc.specs.declared.drawing.Placed.{Placed}
use Rattle.elk_doc.specs.Document.{Document, edge_at}
use Rattle.elk_doc.specs.Level.{children, edges_of, IsChild, IsEdge, node_of_end}
use Rattle.elk_doc.specs.Sound.{IsSound, IsSoundSize}
use Rattle.port_order.specs.declared.children.Child.{Child}
use Rattle.level_model.specs.declared.level.LevelEdge.{LevelEdge}
use Rattle.level_model.specs.declared.level.EdgeEnd.{EdgeEnd}
use Rattle.level_model.specs.Level.{PlainLevel}
use Rattle.working_frame.specs.Rotated.{level_child, level_edge, level_of, ports_of, spoke_of, rotated_size}
use Rattle.working_frame.proofs.NumberedLemmas.{ends_match, numbers_match}
use Rattle.level_io.specs.Read.{HasSizes, child_with, sized_child}

pub rotated_sound : (way : Direction) (s : Size) → IsSoundSize s → IsSoundSize (rotated_size way s)
rotated_sound Right s h = h
rotated_sound Left s h = h
rotated_sound Down s h = record { width = h.height; height = h.width }
rotated_sound Up s h = record { width = h.height; height = h.width }

-- the numbers of the ports of a node, of its children and of the edges of its level name these
pub port_numbers : (d : Document) (n : ℕ) (numbers : List ℕ) → numbers ≡ ports_of d n → (i : ℕ) → i < length numbers → slice_index numbers i < length d.ports
port_numbers d n numbers e i h =
    subst (λ (xs : List ℕ). slice_index xs i < length d.ports) (sym e) ((numbers_match d n).ports.meant i (subst (λ (xs : List ℕ). i < length xs) e h)).port_in

pub child_numbers : (d : Document) (n : ℕ) (numbers : List ℕ) → numbers ≡ children d n → (i : ℕ) → i < length numbers → IsChild d n (slice_index numbers i)
child_numbers d n numbers e i h =
    subst (λ (xs : List ℕ). IsChild d n (slice_index xs i)) (sym e) ((numbers_match d n).children.meant i (subst (λ (xs : List ℕ). i < length xs) e h))

pub edge_numbers : (d : Document) (n : ℕ) (numbers : List ℕ) → numbers ≡ edges_of d n → (i : ℕ) → i < length numbers → IsEdge d n (slice_index numbers i)
edge_numbers d n numbers e i h =
    subst (λ (xs : List ℕ). IsEdge d n (slice_index xs i)) (sym e) ((numbers_match d n).edges.meant i (subst (λ (xs : List ℕ). i < length xs) e h))

-- an edge by its ends
pub edge_same : (d : Document) (n e : ℕ) (x : Edge) (s t : EdgeEnd) → IsSound d → IsEdge d n e → x ≡ edge_at d e
    → (IsChild d n (node_of_end d x.source) → s ≡ spoke_of d n x.source) → (IsChild d n (node_of_end d x.target) → t ≡ spoke_of d n x.target)
    → record { source = s; target = t; weight = x.weight } ≡ level_edge d n e
edge_same d n e x s t sound is same source target =
    let m = ends_match d n e sound is in
    let s_is : s ≡ spoke_of d n (edge_at d e).source =
    subst (λ (y : Edge). s ≡ spoke_of d n y.source) same (source (subst (λ (y : Edge). IsChild d n (node_of_end d y.source)) (sym same) m.source)) in
    let t_is : t ≡ spoke_of d n (edge_at d e).target =
    subst (λ (y : Edge). t ≡ spoke_of d n y.target) same (target (subst (λ (y : Edge). IsChild d n (node_of_end d y.target)) (sym same) m.target)) in
    let with_source : EdgeEnd → LevelEdge = λ z. record { source = z; target = t; weight = x.weight } in
    let with_target : EdgeEnd → LevelEdge = λ z. record { source = spoke_of d n (edge_at d e).source; target = z; weight = x.weight } in
    let with_weight : ℕ → LevelEdge = λ w. record { source = spoke_of d n (edge_at d e).source; target = spoke_of d n (edge_at d e).target; weight = w } in
    ap with_source s_is ∙ ap with_target t_is ∙ ap with_weight (ap (λ (y : Edge). y.weight) same)

map_same : (f g : ℕ → Child) (xs : List ℕ) → ((i : ℕ) → i < length xs → f (get_or xs i 0) ≡ g (get_or xs i 0)) → map f xs ≡ map g xs
map_same f g [] same = refl
map_same f g (x ∷ xs) same = ap₂ (λ y ys. y ∷ ys) (same 0 (omega arith)) (map_same f g xs (λ i h. same (suc i) (omega (arith, h))))

children_same : (d : Document) (p : Placed) (n : ℕ) (way : Direction) (sizes : List Size) → HasSizes d p n sizes
    → map (sized_child d way sizes) (children d n) ≡ map (level_child d p way) (children d n)
children_same d p n way sizes has =
    map_same (sized_child d way sizes) (level_child d p way) (children d n)
    (λ i h. let c = get_or (children d n) i 0 in ap (λ s. child_with d way s c) (sym (has c ((numbers_match d n).children.meant i h))))

-- the level that is read
pub level_same : (d : Document) (p : Placed) (n : ℕ) (o : LevelOptions) (sizes : List Size) (numbers edges : List ℕ) (cs : List Child) (es : List LevelEdge)
    → numbers ≡ children d n → edges ≡ edges_of d n → cs ≡ map (sized_child d o.direction sizes) numbers → es ≡ map (level_edge d n) edges → HasSizes d p n sizes
    → record { children = cs; edges = es; spacing = o.spacing; choices = o.choices } ≡ level_of d p n o
level_same d p n o sizes numbers edges cs es are_children are_edges cs_are es_are has =
    let with_children : List Child → PlainLevel = λ xs. record { children = xs; edges = es; spacing = o.spacing; choices = o.choices } in
    let with_edges : List LevelEdge → PlainLevel = λ xs. record { children = map (level_child d p o.direction) (children d n); edges = xs; spacing = o.spacing; choices = o.choices } in
    ap with_children (cs_are ∙ ap (map (sized_child d o.direction sizes)) are_children ∙ children_same d p n o.direction sizes has)
    ∙ ap with_edges (es_are ∙ ap (map (level_edge d n)) are_edges)
