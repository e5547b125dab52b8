-- A part of a level is a level.
use Rattle.std.proofs.Common.{◌≡◌, ℕ, zero, suc, ◌<◌, ◌≤◌, ◌==◌, cond, Bool, ℤ, pos, ◌+ℤ◌, ◌≤ℤ◌, List, [], ◌∷◌, ◌++◌, length, map, get_or, slice_index, arith, refl, sym, ap, subst, inl, inr, ◌∙◌, append-nil}
use Rattle.std.specs.Prelude.{Option, IfSome}
use Rattle.std.specs.List.{filter, range_with_len}
use Rattle.std.proofs.lemmas.Bool.{cases_Bool}
use Rattle.std.proofs.lemmas.Int.{ints}
use Rattle.std.proofs.lemmas.List.{get_or-map, length-map, map_push}
use Rattle.std.proofs.lemmas.List.FromFn.{fill_by_all}
use Rattle.drawing_types.specs.declared.shape.Size.{Size}
use Rattle.drawing_types.specs.Shapes.{no_size}
use Rattle.port_order.specs.declared.children.ChildPort.{ChildPort}
use Rattle.port_order.specs.declared.children.Child.{Child}
use Rattle.port_order.specs.Child.{no_port}
use Rattle.port_order.specs.Conditions.{IsChild, IsSmall}
use Rattle.level_model.specs.declared.level.EdgeEnd.{EdgeEnd}
use Rattle.level_model.specs.declared.level.LevelEdge.{LevelEdge}
use Rattle.level_model.specs.Conditions.{IsLevel, IsLevelChild, IsLevelEdge, IsSpoke, sizes_of, sum_of_ints, total_height, total_ports, total_width}
use Rattle.level_model.specs.Level.{PlainLevel, child_at, edge_at}
use Rattle.network_parts.specs.Divided.{place_of}
use Rattle.network_parts.proofs.RangeLemmas.{few_picked, filter_next, range_next}
use Rattle.network_parts.proofs.PlaceLemmas.{node_in, node_place, place_less}
use Rattle.level_parts.specs.Divided.{child_number, edge_keys, edge_number, members, part_level, part_of_edge, placed_at}
use Rattle.level_parts.specs.Parts.{AreParts}
use Rattle.level_parts.proofs.PartLemmas.{one_part}

-- ---- sums over children

abbrev pub over : (Child → ℤ) → List Child → ℤ
over f [] = pos 0
over f (c ∷ cs) = f c +ℤ over f cs

over_append : (f : Child → ℤ) (xs ys : List Child) → over f (xs ++ ys) ≡ over f xs +ℤ over f ys
over_append f [] ys = omega (arith, ints)
over_append f (x ∷ xs) ys = let rest = over_append f xs ys in omega (arith, ints, rest)

over_next : (f : Child → ℤ) (at : ℕ → Child) (xs : List ℕ) (n : ℕ) → over f (map at (xs ++ n ∷ [])) ≡ over f (map at xs) +ℤ f (at n)
over_next f at xs n =
    let split = ap (over f) (map_push at xs n) ∙ over_append f (map at xs) (at n ∷ []) in
    omega (arith, ints, split)

-- those that pass a test come to no more than all
over_fewer : (f : Child → ℤ) (at : ℕ → Child) (test : ℕ → Bool) (n : ℕ) → ((c : ℕ) → c < n → pos 0 ≤ℤ f (at c))
    → over f (map at (filter test (range_with_len 0 n))) ≤ℤ over f (map at (range_with_len 0 n))
over_fewer f at test zero h = omega (arith, ints)
over_fewer f at test (suc n) h =
    let rest = over_fewer f at test n (λ c less. h c (omega (arith, less))) in
    let here = h n (omega arith) in
    let all = ap (λ (xs : List ℕ). over f (map at xs)) (range_next n) ∙ over_next f at (range_with_len 0 n) n in
    elim (cases_Bool (test n)) [
      | inl passes ↦
          let is =
          ap (λ (xs : List ℕ). over f (map at xs)) (filter_next test n ∙ ap (λ b. filter test (range_with_len 0 n) ++ cond b (n ∷ []) []) passes)
          ∙ over_next f at (filter test (range_with_len 0 n)) n
          in
          omega (arith, ints, rest, here, all, is)
      | inr fails ↦
          let is =
          ap (λ (xs : List ℕ). over f (map at xs))
          (filter_next test n ∙ ap (λ b. filter test (range_with_len 0 n) ++ cond b (n ∷ []) []) fails ∙ append-nil (filter test (range_with_len 0 n)))
          in
          omega (arith, ints, rest, here, all, is)
    ]

abbrev measure : (Size → ℤ) → Child → ℤ
measure m c = sum_of_ints (map m (sizes_of c))

width_over : (cs : List Child) → total_width cs ≡ over (measure (λ (s : Size). s.width)) cs
width_over [] = refl
width_over (c ∷ cs) = ap (λ z. measure (λ (s : Size). s.width) c +ℤ z) (width_over cs)

height_over : (cs : List Child) → total_height cs ≡ over (measure (λ (s : Size). s.height)) cs
height_over [] = refl
height_over (c ∷ cs) = ap (λ z. measure (λ (s : Size). s.height) c +ℤ z) (height_over cs)

ports_over : (cs : List Child) → pos (total_ports cs) ≡ over (λ (c : Child). pos (length c.ports)) cs
ports_over [] = refl
ports_over (c ∷ cs) = let rest = ports_over cs in omega (arith, ints, rest)

sum_least : (m : Size → ℤ) (ss : List Size) → ((k : ℕ) → k < length ss → pos 0 ≤ℤ m (get_or ss k no_size)) → pos 0 ≤ℤ sum_of_ints (map m ss)
sum_least m [] h = omega (arith, ints)
sum_least m (s ∷ ss) h =
    let here = h 0 (omega arith) in
    let rest = sum_least m ss (λ k l. h (suc k) (omega (arith, l))) in
    omega (arith, ints, here, rest)

size_least : (m : Size → ℤ) → ((s : Size) → IsSmall s → pos 0 ≤ℤ m s) → (c : Child) → IsChild c → (k : ℕ) → k < length (sizes_of c) → pos 0 ≤ℤ m (get_or (sizes_of c) k no_size)
size_least m low c child zero h = low c.size child.size
size_least m low c child (suc k) h =
    let long = length-map c.ports (λ (q : ChildPort). q.size) in
    let inside : k < length c.ports = omega (arith, h, long) in
    subst (λ s. pos 0 ≤ℤ m s) (sym (get_or-map (λ (q : ChildPort). q.size) c.ports k no_port no_size inside)) (low _ (child.ports k inside).size)

-- ---- the children of a level, by number

children_are : (l : PlainLevel) → l.children ≡ map (child_at l) (range_with_len 0 (length l.children))
children_are l = fill_by_all (child_at l) l.children (length l.children) (child_at (record { children = []; edges = []; spacing = l.spacing; choices = l.choices }) 0) refl (λ k h. refl)

module _ (l : PlainLevel) (numbers : List ℕ) (k : ℕ) (level : IsLevel l) (parts : AreParts l numbers) where
  abbrev part : PlainLevel
  part = part_level l numbers k

  abbrev keys : List ℕ
  keys = edge_keys l numbers

  pub many_children : length part.children ≡ length (members numbers k)
  many_children = length-map (members numbers k) (child_at l)

  pub many_edges : length part.edges ≡ length (members keys k)
  many_edges = length-map (members keys k) (λ e. placed_at (place_of numbers) (edge_at l e))

  pub many_keys : length keys ≡ length l.edges
  many_keys = length-map l.edges (part_of_edge numbers)

  pub child_is : (i : ℕ) → i < length (members numbers k) → child_at part i ≡ child_at l (child_number numbers k i)
  child_is i h = get_or-map (child_at l) (members numbers k) i 0 (child_at (record { children = []; edges = []; spacing = l.spacing; choices = l.choices }) 0) h

  pub edge_is : (j : ℕ) → j < length (members keys k) → edge_at part j ≡ placed_at (place_of numbers) (edge_at l (edge_number l numbers k j))
  edge_is j h =
      get_or-map (λ e. placed_at (place_of numbers) (edge_at l e)) (members keys k) j 0 (edge_at (record { children = []; edges = []; spacing = l.spacing; choices = l.choices }) 0) h

  -- a child and an edge of the part by their numbers in the level
  pub child_in : (i : ℕ) → i < length (members numbers k) → (child_number numbers k i < length l.children) × (slice_index numbers (child_number numbers k i) ≡ k)
  child_in i h =
      let found = node_in numbers k i h in
      (subst (λ n. child_number numbers k i < n) parts.as_many found.0, found.1)

  pub edge_part : (e : ℕ) → e < length l.edges → slice_index keys e ≡ slice_index numbers (edge_at l e).source.child
  edge_part e h = get_or-map (part_of_edge numbers) l.edges e (edge_at (record { children = []; edges = []; spacing = l.spacing; choices = l.choices }) 0) 0 h

  pub edge_in : (j : ℕ) → j < length (members keys k) → edge_number l numbers k j < length l.edges
  edge_in j h = subst (λ n. edge_number l numbers k j < n) many_keys (node_in keys k j h).0

  pub source_in : (j : ℕ) → j < length (members keys k) → slice_index numbers (edge_at l (edge_number l numbers k j)).source.child ≡ k
  source_in j h = sym (edge_part (edge_number l numbers k j) (edge_in j h)) ∙ (node_in keys k j h).1

  pub target_in : (j : ℕ) → j < length (members keys k) → slice_index numbers (edge_at l (edge_number l numbers k j)).target.child ≡ k
  target_in j h = sym (one_part l numbers level parts (edge_number l numbers k j) (edge_in j h)) ∙ source_in j h

  pub place_in : (c : ℕ) → c < length l.children → slice_index numbers c ≡ k → place_of numbers c < length (members numbers k)
  place_in c h is = place_less numbers k c (subst (λ n. c < n) (sym parts.as_many) h) is

  pub place_back : (c : ℕ) → c < length l.children → slice_index numbers c ≡ k → child_number numbers k (place_of numbers c) ≡ c
  place_back c h is = node_place numbers k c (subst (λ n. c < n) (sym parts.as_many) h) is

  -- ---- the part is a level

  abbrev placed : EdgeEnd → EdgeEnd
  placed s = record { child = place_of numbers s.child; port = s.port }

  port_in : (c d : Child) → d ≡ c → (port : Option ℕ) → IfSome port (λ q. q < length c.ports) → IfSome port (λ q. q < length d.ports)
  port_in c d same port h = subst (λ (x : Child). IfSome port (λ q. q < length x.ports)) (sym same) h

  spoke_in : (s : EdgeEnd) → IsSpoke l s → slice_index numbers s.child ≡ k → IsSpoke part (placed s)
  spoke_in s spoke is =
      let low = place_in s.child spoke.child is in
      record {
        child = subst (λ n. place_of numbers s.child < n) (sym many_children) low;
        port = port_in (child_at l s.child) (child_at part (place_of numbers s.child)) (child_is (place_of numbers s.child) low ∙ ap (child_at l) (place_back s.child spoke.child is)) s.port spoke.port;
      }

  edge_of_part : (j : ℕ) → j < length part.edges → IsLevelEdge part j
  edge_of_part j h =
      let inside : j < length (members keys k) = subst (λ n. j < n) many_edges h in
      let e = edge_number l numbers k j in
      let edge = level.edges e (edge_in j inside) in
      let is = edge_is j inside in
      record {
        source = subst (λ (x : LevelEdge). IsSpoke part x.source) (sym is) (spoke_in (edge_at l e).source edge.source (source_in j inside));
        target = subst (λ (x : LevelEdge). IsSpoke part x.target) (sym is) (spoke_in (edge_at l e).target edge.target (target_in j inside));
        weight_above = subst (λ (x : LevelEdge). 1 ≤ x.weight) (sym is) edge.weight_above;
        weight_below = subst (λ (x : LevelEdge). x.weight ≤ 1048576) (sym is) edge.weight_below;
      }

  child_of_part : (i : ℕ) → i < length part.children → IsLevelChild (child_at part i)
  child_of_part i h =
      let inside : i < length (members numbers k) = subst (λ n. i < n) many_children h in
      subst IsLevelChild (sym (child_is i inside)) (level.children (child_number numbers k i) (child_in i inside).0)

  sums_less : (f : Child → ℤ) → ((c : ℕ) → c < length l.children → pos 0 ≤ℤ f (child_at l c)) → over f part.children ≤ℤ over f l.children
  sums_less f low =
      let some = over_fewer f (child_at l) (λ c. slice_index numbers c == k) (length numbers) (λ c h. low c (subst (λ n. c < n) parts.as_many h)) in
      subst (λ (cs : List Child). over f part.children ≤ℤ over f cs) (ap (λ n. map (child_at l) (range_with_len 0 n)) parts.as_many ∙ sym (children_are l)) some

  pub is_level : IsLevel part
  is_level =
      let few = few_picked (λ c. slice_index numbers c == k) (length numbers) in
      let all = parts.as_many in
      let children = level.few_children in
      let some = many_children in
      let few_edges = few_picked (λ e. slice_index keys e == k) (length keys) in
      let edges = level.few_edges in
      let keyed = many_keys in
      let linked = many_edges in
      let wide = sums_less (measure (λ (s : Size). s.width)) (λ c h. sum_least (λ (s : Size). s.width) (sizes_of (child_at l c)) (size_least (λ (s : Size). s.width) (λ s small. small.width.above) (child_at l c) (level.children c h).sound)) in
      let high = sums_less (measure (λ (s : Size). s.height)) (λ c h. sum_least (λ (s : Size). s.height) (sizes_of (child_at l c)) (size_least (λ (s : Size). s.height) (λ s small. small.height.above) (child_at l c) (level.children c h).sound)) in
      let ported = sums_less (λ (c : Child). pos (length c.ports)) (λ c h. omega (arith, ints)) in
      let widths = level.widths in
      let heights = level.heights in
      let ports = level.few_ports in
      let a = width_over part.children in
      let b = width_over l.children in
      let c = height_over part.children in
      let d = height_over l.children in
      let p = ports_over part.children in
      let q = ports_over l.children in
      record {
        few_children = omega (arith, few, all, children, some);
        few_ports = omega (arith, ints, ported, ports, p, q);
        few_edges = omega (arith, few_edges, edges, keyed, linked);
        children = child_of_part;
        edges = edge_of_part;
        spacing = level.spacing;
        widths = omega (arith, ints, wide, widths, a, b);
        heights = omega (arith, ints, high, heights, c, d);
      }
