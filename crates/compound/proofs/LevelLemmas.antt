-- The level of the root alone: it can be drawn, and it is the level of the root's child in the document below another root.
use Rattle.std.proofs.Common.{◌≡◌, ⊎_elim, ℕ, zero, suc, ◌+◌, ◌*◌, ◌<◌, ◌≤◌, ◌^◌, ◌==◌, Bool, false, List, [], ◌∷◌, map, length, get_or, ℤ, pos, ◌+ℤ◌, ◌≤ℤ◌, refl, sym, ap, ap₂, subst, ◌∙◌, arith, rules, eq-eqb, ne_eqb}
use Rattle.std.proofs.lemmas.Bool.{cases_eq}
use Rattle.std.proofs.lemmas.Int.{ints}
use Rattle.std.proofs.lemmas.List.{length-map}
use Rattle.std.specs.Prelude.{Option, Some, IfSome, IsNone, is_some}
use Rattle.drawing_types.specs.declared.shape.Side.{Side}
use Rattle.drawing_types.specs.declared.shape.Size.{Size}
use Rattle.elk_doc.specs.declared.document.Direction.{Direction}
use Rattle.elk_doc.specs.declared.document.Direction.TheVariants.{Right, Left, Down, Up}
use Rattle.elk_doc.specs.declared.document.LevelOptions.{LevelOptions}
use Rattle.elk_doc.specs.declared.document.Port.{Port}
use Rattle.elk_doc.specs.declared.drawing.Certificate.{Certificate}
use Rattle.elk_doc.specs.declared.drawing.Placed.{Placed}
use Rattle.elk_doc.specs.Document.{Document, node_at, node_of_port}
use Rattle.elk_doc.specs.Drawing.{box_of}
use Rattle.elk_doc.specs.Level.{children, edges_of}
use Rattle.elk_doc.specs.Numbers.{numbers_below}
use Rattle.elk_doc.specs.Sound.{IsSound, IsSoundLevel}
use Rattle.port_order.specs.declared.children.ChildPort.{ChildPort}
use Rattle.port_order.specs.declared.children.Child.{Child}
use Rattle.port_order.specs.Conditions.{IsSmall}
use Rattle.port_order.specs.Sides.{side_else}
use Rattle.level_model.specs.Conditions.{IsLevel, IsLevelChild}
use Rattle.level_model.specs.Level.{PlainLevel, child_at}
use Rattle.working_frame.specs.Rotated.{box_size, half_along, is_port_of, level_child, level_edge, level_of, level_port, port_number, ports_of, rotated_given, rotated_place, rotated_size}
use Rattle.working_frame.proofs.NumberedLemmas.{numbers_match}
use Rattle.level_io.proofs.ChildLemmas.{child_sound}
use Rattle.level_io.proofs.CountLemmas.{few_numbers}
use Rattle.level_io.proofs.LevelLemmas.{port_short}
use Rattle.level_io.proofs.TotalLemmas.{Measure, port_sum, ports_short}
use Rattle.level_io.specs.Ranges.{IsLongBox}
use Rattle.compound.specs.Planned.{root_level}
use Rattle.compound.specs.Rooted.{IsRootBox}
use Rattle.compound.proofs.LoweredLemmas.{lowered, other_port_at, port_count, root_port_at}
use Rattle.compound.proofs.BackLemmas.{given_is, lowered_drawing}
use Rattle.drawing_types.proofs.SmallNumbers.{below1}

-- ---- the level in the lowered document

pub only_child : (d : Document) → children (lowered d) 0 ≡ 1 ∷ []
unfolding numbers_below
only_child d = refl

pub no_edges : (d : Document) → edges_of (lowered d) 0 ≡ []
unfolding numbers_below
no_edges d = refl

same_numbers : (test other : ℕ → Bool) (n : ℕ) → ((m : ℕ) → m < n → test m ≡ other m) → numbers_below test n ≡ numbers_below other n
unfolding numbers_below
same_numbers test other zero h = refl
same_numbers test other (suc n) h = rw (same_numbers test other n (λ m less. h m (omega (arith, less))), h n (omega arith)) refl

same_owner : (d : Document) (k : ℕ) → k < length d.ports → is_port_of (lowered d) 1 k ≡ is_port_of d 0 k
same_owner d k h =
    ⊎_elim
    (λ own. ap (λ (x : Port). x.node == 1) (root_port_at d k h own) ∙ sym (eq-eqb (node_of_port d k) 0 own))
    (λ other. ap (λ (x : Port). x.node == 1) (other_port_at d k h other) ∙ sym (ne_eqb (node_of_port d k) 0 other))
    (cases_eq (node_of_port d k) 0)

pub ports_are : (d : Document) → ports_of (lowered d) 1 ≡ ports_of d 0
ports_are d =
    ap (numbers_below (is_port_of (lowered d) 1)) (port_count d) ∙ same_numbers (is_port_of (lowered d) 1) (is_port_of d 0) (length d.ports) (same_owner d)

abbrev port_by : Direction → Size → Port → Option Side → ChildPort
port_by way box x given =
    record {
      size = rotated_size way x.size;
      place = rotated_place way box x.size x.place;
      half = half_along way (side_else (rotated_given way given) false) (rotated_size way x.size);
      side = rotated_given way x.side;
      index = x.index;
    }

port_is : (d : Document) (way : Direction) (box : Size) (k : ℕ) → k < length d.ports → node_of_port d k ≡ 0 → level_port (lowered d) way box k ≡ level_port d way box k
port_is d way box k h own = ap₂ (port_by way box) (root_port_at d k h own) (given_is d k h own)

map_same : (f g : ℕ → ChildPort) (xs : List ℕ) → ((i : ℕ) → i < length xs → f (get_or xs i 0) ≡ g (get_or xs i 0)) → map f xs ≡ map g xs
map_same f g [] same = refl
map_same f g (x ∷ xs) same = ap₂ (λ y ys. y ∷ ys) (same 0 (omega arith)) (map_same f g xs (λ i h. same (suc i) (omega (arith, h))))

level_ports_are : (d : Document) (way : Direction) (box : Size) → map (level_port (lowered d) way box) (ports_of (lowered d) 1) ≡ map (level_port d way box) (ports_of d 0)
level_ports_are d way box =
    ap (map (level_port (lowered d) way box)) (ports_are d)
    ∙ map_same (level_port (lowered d) way box) (level_port d way box) (ports_of d 0)
    (λ i h. let own = (numbers_match d 0).ports.meant i h in port_is d way box (port_number d 0 i) own.port_in own.of_node)

child_is : (d : Document) (p : Placed) (c : Certificate) (way : Direction) → level_child (lowered d) (lowered_drawing p c) way 1 ≡ level_child d p way 0
child_is d p c way =
    let with_ports : List ChildPort → Child = λ qs. record { size = rotated_size way (box_size p 0); compound = is_some (node_at d 0).level; rule = (node_at d 0).rule; direction = way; position = (node_at d 0).position; ports = qs } in
    ap with_ports (level_ports_are d way (box_size p 0))

pub level_is : (d : Document) (p : Placed) (c : Certificate) (o : LevelOptions) → level_of (lowered d) (lowered_drawing p c) 0 o ≡ root_level d p o
level_is d p c o =
    let w = lowered d in
    let q = lowered_drawing p c in
    let with_numbers : List ℕ → List ℕ → PlainLevel = λ cs es. record { children = map (level_child w q o.direction) cs; edges = map (level_edge w 0) es; spacing = o.spacing; choices = o.choices } in
    let with_child : Child → PlainLevel = λ x. record { children = x ∷ []; edges = []; spacing = o.spacing; choices = o.choices } in
    ap₂ with_numbers (only_child d) (no_edges d) ∙ ap with_child (child_is d p c o.direction)

-- ---- that level is one

pub root_small : (p : Placed) → IsRootBox (box_of p 0) → IsSmall (box_size p 0)
root_small p h =
    let w = h.width.below in
    let z = h.height.below in
    record { width = record { above = h.width.above; below = omega (arith, ints, w) }; height = record { above = h.height.above; below = omega (arith, ints, z) } }

pub root_long : (p : Placed) → IsRootBox (box_of p 0) → IsLongBox (box_of p 0)
root_long p h =
    let w = h.width.below in
    let z = h.height.below in
    record { width = record { above = h.width.above; below = omega (arith, ints, w) }; height = record { above = h.height.above; below = omega (arith, ints, z) } }

rotated_short : (way : Direction) (s : Size) → s.width ≤ℤ pos (2 ^ 45 + 2 ^ 37) → s.height ≤ℤ pos (2 ^ 45 + 2 ^ 37) → ((rotated_size way s).width ≤ℤ pos (2 ^ 45 + 2 ^ 37)) × ((rotated_size way s).height ≤ℤ pos (2 ^ 45 + 2 ^ 37))
rotated_short Right s w h = (w, h)
rotated_short Left s w h = (w, h)
rotated_short Down s w h = (h, w)
rotated_short Up s w h = (h, w)

no_leaf : (level : Option LevelOptions) (o : LevelOptions) → level ≡ Some o → IsNone level → ⊥
no_leaf level o is h = absurd (let none : IsNone (Some o) = subst IsNone is h in search rules)

few_ports : (d : Document) (p : Placed) (way : Direction) → IsSound d → length (level_child d p way 0).ports ≤ 4096
few_ports d p way s =
    let many = length-map (ports_of d 0) (level_port d way (box_size p 0)) in
    let few = few_numbers (is_port_of d 0) (length d.ports) in
    let all = s.few_ports in
    omega (arith, many, few, all)

-- a length of the root with those of its ports
short_sum : (box ports : ℤ) (count : ℕ) → box ≤ℤ pos (2 ^ 45 + 2 ^ 37) → ports ≤ℤ pos (count * 2 ^ 20) → count ≤ 4096 → ((box +ℤ ports) +ℤ pos 0) ≤ℤ pos (2 ^ 46)
short_sum box ports count short own few = omega (arith, ints, short, own, few)

abbrev wide : Measure
wide s = s.width

abbrev high : Measure
high s = s.height

pub root_is_level : (d : Document) (p : Placed) (o : LevelOptions) → IsSound d → (node_at d 0).level ≡ Some o → IsRootBox (box_of p 0) → IsLevel (root_level d p o)
root_is_level d p o s level box =
    let way = o.direction in
    let child = level_child d p o.direction 0 in
    let few = few_ports d p o.direction s in
    let short = rotated_short o.direction (box_size p 0) box.width.below box.height.below in
    let options : IsSoundLevel d 0 o = subst (λ x. IfSome x (IsSoundLevel d 0)) level (s.levels.options 0 s.tree.root) in
    let widths = ports_short wide child.ports (λ j h. (port_short d o.direction (box_size p 0) 0 j s h).width) in
    let heights = ports_short high child.ports (λ j h. (port_short d o.direction (box_size p 0) 0 j s h).height) in
    record {
      few_children = omega arith;
      few_ports = omega (arith, few);
      few_edges = omega arith;
      children = below1 (λ c. IsLevelChild (child_at (root_level d p o) c)) (child_sound d p o.direction 0 s (root_small p box) (λ leaf. absurd (no_leaf (node_at d 0).level o level leaf)));
      edges = λ e h. absurd (omega (arith, h));
      spacing = options.spacing;
      widths = short_sum child.size.width (port_sum wide child.ports) (length child.ports) short.0 widths.below few;
      heights = short_sum child.size.height (port_sum high child.ports) (length child.ports) short.1 heights.below few;
    }
