-- Ports, docks and anchors of a part are those of the level.
use Rattle.std.proofs.Common.{◌≡◌, ℕ, suc, ◌+◌, ◌<◌, ◌==◌, cond, Bool, true, false, not, ◌&&◌, ℤ, pos, List, [], ◌∷◌, ◌++◌, length, map, slice_index, arith, refl, sym, ap, subst, inl, inr, ◌∙◌, eq-eqb}
use Rattle.std.specs.Prelude.{Option, None, Some, is_none}
use Rattle.std.specs.List.{filter, list_any, range_with_len}
use Rattle.std.proofs.lemmas.Bool.{cases_eq, eqb-true, ne_eqb}
use Rattle.std.proofs.lemmas.List.{map-append}
use Rattle.std.proofs.lemmas.List.FromFn.{fill_by_all, length-range_with_len, get_or-range_with_len}
use Rattle.drawing_types.specs.declared.shape.Point.{Point}
use Rattle.drawing_types.specs.declared.shape.Side.{Side}
use Rattle.drawing_types.specs.Shapes.{hull, rect_at}
use Rattle.port_order.specs.declared.spots.Spot.{Spot}
use Rattle.port_order.specs.declared.children.Child.{Child}
use Rattle.port_order.specs.Child.{port_at}
use Rattle.port_order.specs.Sides.{side_of}
use Rattle.port_order.specs.Places as places
use Rattle.port_order.specs.Ranks.{is_spread_on}
use Rattle.level_model.specs.declared.level.EdgeEnd.{EdgeEnd}
use Rattle.level_model.specs.declared.level.LevelEdge.{LevelEdge}
use Rattle.level_model.specs.Conditions.{IsLevel}
use Rattle.level_model.specs.Level.{PlainLevel, PlainPlan, Orders, End, all_ends, child_at, dock_of, end_at, ends_at_port, ends_of_edges, enters, implicit_ends, implicit_spot, is_loop, is_port, linked, outline_from, place_of_end, port_place, port_spot, spoke, spot_at_port, spot_of, spots}
use Rattle.level_model.proofs.SameLines.{same_dock}
use Rattle.level_model.specs.PortsKept.{spread_count}
use Rattle.network_parts.specs.Divided.{place_of}
use Rattle.network_parts.proofs.PlaceLemmas.{place_node}
use Rattle.level_parts.specs.Divided.{child_number, edge_keys, edge_number, members, part_level}
use Rattle.level_parts.specs.Laws.{AreAlike, IsSameChild, IsSameEnd, PartsSayTheSame, numbered_dock}
use Rattle.level_parts.specs.Parts.{AreParts}
use Rattle.level_parts.proofs.EndLemmas.{AllBelow, EndsBelow, all_below, any_up, ends_below, ends_up, filter_up, kept_below, only_there, place_up}
use Rattle.level_parts.proofs.LevelLemmas.{child_in, child_is, edge_in, edge_is, edge_part, many_edges, many_keys, place_back, place_in, source_in, target_in}
use Rattle.level_parts.proofs.PartLemmas.{one_part}

-- ---- a spot without its mean: sides, docks and places do not read it

abbrev pub bare : Spot → Spot
bare s = record { port = s.port; number = s.number; leaves = s.leaves; enters = s.enters; mean = None }

same_bare : (s t : Spot) → s.port ≡ t.port → s.number ≡ t.number → s.leaves ≡ t.leaves → s.enters ≡ t.enters → bare s ≡ bare t
same_bare s t p n e f =
    let a : Option ℕ → Spot = λ z. record { port = z; number = s.number; leaves = s.leaves; enters = s.enters; mean = None } in
    let b : ℕ → Spot = λ z. record { port = t.port; number = z; leaves = s.leaves; enters = s.enters; mean = None } in
    let c : Bool → Spot = λ z. record { port = t.port; number = t.number; leaves = z; enters = s.enters; mean = None } in
    let d : Bool → Spot = λ z. record { port = t.port; number = t.number; leaves = t.leaves; enters = z; mean = None } in
    ap a p ∙ ap b n ∙ ap c e ∙ ap d f

-- the offset, the anchor and the port's place of a spot, by its child and the orders of its sides
abbrev offset_in : Child → (Side → List ℕ) → Spot → ℤ
offset_in c o s = places.dock_of c s (o (side_of c s))

abbrev anchor_in : Child → (Side → List ℕ) → Spot → Point
anchor_in c o s = places.anchor_at c (side_of c s) s.port (offset_in c o s)

abbrev place_in_child : Child → (Side → List ℕ) → ℕ → Spot → Point
place_in_child c o q s = places.place_of_port c (side_of c s) q (offset_in c o s)

-- as many spots are spread on a side
spread_bare : (c : Child) (side : Side) (xs : List Spot) → length (filter (is_spread_on c side) xs) ≡ length (filter (is_spread_on c side) (map bare xs))
spread_bare c side [] = refl
spread_bare c side (s ∷ xs) = step (is_spread_on c side s) (spread_bare c side xs)
  where
    step : (b : Bool) → length (filter (is_spread_on c side) xs) ≡ length (filter (is_spread_on c side) (map bare xs))
        → length (cond b (s ∷ filter (is_spread_on c side) xs) (filter (is_spread_on c side) xs)) ≡ length (cond b (bare s ∷ filter (is_spread_on c side) (map bare xs)) (filter (is_spread_on c side) (map bare xs)))
    step true rest = ap suc rest
    step false rest = rest

map_twice : {X Y Z : Type 0} (f : X → Y) (g : Y → Z) (xs : List X) → map g (map f xs) ≡ map (λ x. g (f x)) xs
map_twice f g [] = refl
map_twice f g (x ∷ xs) = ap (λ ys. g (f x) ∷ ys) (map_twice f g xs)

map_alike : {X Y : Type 0} (f g : X → Y) (xs : List X) → ((x : X) → f x ≡ g x) → map f xs ≡ map g xs
map_alike f g [] h = refl
map_alike f g (x ∷ xs) h = ap (λ y. y ∷ map f xs) (h x) ∙ ap (λ ys. g x ∷ ys) (map_alike f g xs h)

map_ends : {Y : Type 0} (f g : End → Y) (n : ℕ) (ms : List End) → EndsBelow n ms → ((m : End) → m.edge < n → f m ≡ g m) → map f ms ≡ map g ms
map_ends f g n [] below h = refl
map_ends f g n (m ∷ ms) below h = ap (λ y. y ∷ map f ms) (h m below.0) ∙ ap (λ ys. g m ∷ ys) (map_ends f g n ms below.1 h)

module _ (l : PlainLevel) (numbers : List ℕ) (k : ℕ) (pp pl : PlainPlan) (inner outer : Orders) (level : IsLevel l) (parts : AreParts l numbers) (alike : AreAlike l numbers k pp pl inner outer) where
  abbrev part : PlainLevel
  part = part_level l numbers k

  abbrev keys : List ℕ
  keys = edge_keys l numbers

  -- how many children and edges the part has
  abbrev some : ℕ
  some = length (members numbers k)

  abbrev many : ℕ
  many = length (members keys k)

  abbrev child_of : ℕ → ℕ
  child_of i = child_number numbers k i

  abbrev edge_of : ℕ → ℕ
  edge_of j = edge_number l numbers k j

  abbrev lifted : End → End
  lifted n = end_at (edge_of n.edge) n.at_source

  abbrev placed : EdgeEnd → EdgeEnd
  placed s = record { child = place_of numbers s.child; port = s.port }

  -- ---- one end

  spoke_is : (j : ℕ) (t : Bool) → j < many → spoke part (end_at j t) ≡ placed (spoke l (end_at (edge_of j) t))
  spoke_is j true h = ap (λ (e : LevelEdge). e.source) (edge_is l numbers k level parts j h)
  spoke_is j false h = ap (λ (e : LevelEdge). e.target) (edge_is l numbers k level parts j h)

  -- the child of an end, in the level
  end_in : (j : ℕ) (t : Bool) → j < many → ((spoke l (end_at (edge_of j) t)).child < length l.children) × (slice_index numbers (spoke l (end_at (edge_of j) t)).child ≡ k)
  end_in j true h = ((level.edges (edge_of j) (edge_in l numbers k level parts j h)).source.child, source_in l numbers k level parts j h)
  end_in j false h = ((level.edges (edge_of j) (edge_in l numbers k level parts j h)).target.child, target_in l numbers k level parts j h)

  child_below : (j : ℕ) (t : Bool) → j < many → (spoke part (end_at j t)).child < some
  child_below j t h =
      let found = end_in j t h in
      subst (λ (s : EdgeEnd). s.child < some) (sym (spoke_is j t h)) (place_in l numbers k level parts (spoke l (end_at (edge_of j) t)).child found.0 found.1)

  child_up : (j : ℕ) (t : Bool) → j < many → child_of (spoke part (end_at j t)).child ≡ (spoke l (end_at (edge_of j) t)).child
  child_up j t h =
      let found = end_in j t h in
      ap (λ (s : EdgeEnd). child_of s.child) (spoke_is j t h) ∙ place_back l numbers k level parts (spoke l (end_at (edge_of j) t)).child found.0 found.1

  port_up : (j : ℕ) (t : Bool) → j < many → (spoke part (end_at j t)).port ≡ (spoke l (end_at (edge_of j) t)).port
  port_up j t h = ap (λ (s : EdgeEnd). s.port) (spoke_is j t h)

  enters_up : (j : ℕ) (t : Bool) → j < many → enters pp (end_at j t) ≡ enters pl (lifted (end_at j t))
  enters_up j true h = alike.is_reversed j h
  enters_up j false h = ap not (alike.is_reversed j h)

  child_back : (i : ℕ) → i < some → place_of numbers (child_of i) ≡ i
  child_back i h = place_node numbers k i h

  -- whether an end is at a child
  at_child : (j : ℕ) (t : Bool) (i : ℕ) → j < many → i < some → ((spoke part (end_at j t)).child == i) ≡ ((spoke l (end_at (edge_of j) t)).child == child_of i)
  at_child j t i h there =
      elim (cases_eq (spoke part (end_at j t)).child i) [
        | inl same ↦
            eq-eqb (spoke part (end_at j t)).child i same
            ∙ sym (eq-eqb (spoke l (end_at (edge_of j) t)).child (child_of i) (sym (child_up j t h) ∙ ap child_of same))
        | inr other ↦
            ne_eqb (spoke part (end_at j t)).child i other
            ∙ sym (ne_eqb (spoke l (end_at (edge_of j) t)).child (child_of i)
            (λ e. other (ap (λ (s : EdgeEnd). s.child) (spoke_is j t h) ∙ ap (place_of numbers) e ∙ child_back i there)))
      ]

  loop_up : (j : ℕ) → j < many → is_loop part j ≡ is_loop l (edge_of j)
  loop_up j h =
      at_child j true (spoke part (end_at j false)).child h (child_below j false h)
      ∙ ap (λ c. (spoke l (end_at (edge_of j) true)).child == c) (child_up j false h)

  -- an end at a child of the part is one of the part's
  in_part : (c e : ℕ) (t : Bool) → slice_index numbers c ≡ k → e < length l.edges → (spoke l (end_at e t)).child ≡ c → slice_index keys e ≡ k
  in_part c e true is h at = edge_part l numbers k level parts e h ∙ ap (slice_index numbers) at ∙ is
  in_part c e false is h at = edge_part l numbers k level parts e h ∙ one_part l numbers level parts e h ∙ ap (slice_index numbers) at ∙ is

  -- ---- the ends that pass a test

  numbered : filter (λ e. slice_index keys e == k) (range_with_len 0 (length l.edges)) ≡ map edge_of (range_with_len 0 many)
  numbered =
      ap (λ n. filter (λ e. slice_index keys e == k) (range_with_len 0 n)) (sym (many_keys l numbers k level parts))
      ∙ fill_by_all edge_of (members keys k) many 0 refl (λ j h. refl)

  range_below : (n : ℕ) → AllBelow n (range_with_len 0 n)
  range_below n =
      all_below n (range_with_len 0 n)
      (λ i h. let long = length-range_with_len 0 n in
      let is = get_or-range_with_len 0 n i 0 (omega (arith, h, long)) in
      omega (arith, h, long, is))

  part_ends : all_ends part ≡ ends_of_edges (range_with_len 0 many)
  part_ends = ap (λ n. ends_of_edges (range_with_len 0 n)) (many_edges l numbers k level parts)

  part_ends_below : EndsBelow many (all_ends part)
  part_ends_below = subst (EndsBelow many) (sym part_ends) (ends_below many (range_with_len 0 many) (range_below many))

  picked : (outside inside : End → Bool) → ((e : ℕ) (t : Bool) → e < length l.edges → outside (end_at e t) ≡ true → slice_index keys e ≡ k)
      → ((m : End) → m.edge < many → inside m ≡ outside (lifted m)) → filter outside (all_ends l) ≡ map lifted (filter inside (all_ends part))
  picked outside inside only same =
      only_there outside (λ e. slice_index keys e == k) (range_with_len 0 (length l.edges)) (length l.edges) (range_below (length l.edges)) (λ e t h is. eq-eqb (slice_index keys e) k (only e t h is))
      ∙ ap (λ es. filter outside (ends_of_edges es)) numbered
      ∙ ap (filter outside) (ends_up edge_of (range_with_len 0 many))
      ∙ ap (λ (ms : List End). filter outside (map lifted ms)) (sym part_ends)
      ∙ filter_up edge_of outside inside many (all_ends part) part_ends_below same

  and_true : (a b : Bool) → (a && b) ≡ true → a ≡ true
  and_true true b h = refl
  and_true false b h = h

  port_ends : (i q : ℕ) → i < some → ends_at_port l (child_of i) q ≡ map lifted (ends_at_port part i q)
  port_ends i q h =
      picked (λ n. ((spoke l n).child == child_of i) && is_port (spoke l n).port q) (λ n. ((spoke part n).child == i) && is_port (spoke part n).port q)
      (λ e t less is. in_part (child_of i) e t (child_in l numbers k level parts i h).1 less
      (eqb-true (spoke l (end_at e t)).child (child_of i) (and_true ((spoke l (end_at e t)).child == child_of i) (is_port (spoke l (end_at e t)).port q) is)))
      (λ m less. ap (λ b. b && is_port (spoke part m).port q) (at_child m.edge m.at_source i less h) ∙ ap (λ o. ((spoke l (lifted m)).child == child_of i) && is_port o q) (port_up m.edge m.at_source less))

  no_port_ends : (i : ℕ) → i < some → implicit_ends l (child_of i) ≡ map lifted (implicit_ends part i)
  no_port_ends i h =
      picked (λ n. ((spoke l n).child == child_of i) && is_none (spoke l n).port) (λ n. ((spoke part n).child == i) && is_none (spoke part n).port)
      (λ e t less is. in_part (child_of i) e t (child_in l numbers k level parts i h).1 less
      (eqb-true (spoke l (end_at e t)).child (child_of i) (and_true ((spoke l (end_at e t)).child == child_of i) (is_none (spoke l (end_at e t)).port) is)))
      (λ m less. ap (λ b. b && is_none (spoke part m).port) (at_child m.edge m.at_source i less h) ∙ ap (λ o. ((spoke l (lifted m)).child == child_of i) && is_none o) (port_up m.edge m.at_source less))

  -- ---- spots

  linked_up : (ms : List End) → EndsBelow many ms → linked l (map lifted ms) ≡ map lifted (linked part ms)
  linked_up ms below = filter_up edge_of (λ n. not (is_loop l n.edge)) (λ n. not (is_loop part n.edge)) many ms below (λ m less. ap not (loop_up m.edge less))

  leaves_up : (ms : List End) → EndsBelow many ms → list_any (λ n. not (enters pl n)) (linked l (map lifted ms)) ≡ list_any (λ n. not (enters pp n)) (linked part ms)
  leaves_up ms below =
      ap (list_any (λ n. not (enters pl n))) (linked_up ms below)
      ∙ any_up edge_of (λ n. not (enters pl n)) (λ n. not (enters pp n)) many (linked part ms) (kept_below many (λ n. not (is_loop part n.edge)) ms below) (λ m less. ap not (enters_up m.edge m.at_source less))

  comes_up : (ms : List End) → EndsBelow many ms → list_any (λ n. enters pl n) (linked l (map lifted ms)) ≡ list_any (λ n. enters pp n) (linked part ms)
  comes_up ms below =
      ap (list_any (λ n. enters pl n)) (linked_up ms below)
      ∙ any_up edge_of (λ n. enters pl n) (λ n. enters pp n) many (linked part ms) (kept_below many (λ n. not (is_loop part n.edge)) ms below) (λ m less. enters_up m.edge m.at_source less)

  at_port_below : (i q : ℕ) → EndsBelow many (ends_at_port part i q)
  at_port_below i q = kept_below many (λ n. ((spoke part n).child == i) && is_port (spoke part n).port q) (all_ends part) part_ends_below

  implicit_below : (i : ℕ) → EndsBelow many (implicit_ends part i)
  implicit_below i = kept_below many (λ n. ((spoke part n).child == i) && is_none (spoke part n).port) (all_ends part) part_ends_below

  port_spot_up : (i q : ℕ) → i < some → bare (port_spot part pp i q) ≡ bare (port_spot l pl (child_of i) q)
  port_spot_up i q h =
      let ends = port_ends i q h in
      same_bare (port_spot part pp i q) (port_spot l pl (child_of i) q) refl refl
      (sym (ap (λ ms. list_any (λ n. not (enters pl n)) (linked l ms)) ends ∙ leaves_up (ends_at_port part i q) (at_port_below i q)))
      (sym (ap (λ ms. list_any (λ n. enters pl n) (linked l ms)) ends ∙ comes_up (ends_at_port part i q) (at_port_below i q)))

  -- edges of the part have different numbers
  once : (a b : ℕ) → a < many → b < many → edge_of a ≡ edge_of b → a ≡ b
  once a b ha hb e = sym (place_node keys k a ha) ∙ ap (place_of keys) e ∙ place_node keys k b hb

  implicit_spot_up : (i : ℕ) (m : End) → i < some → m.edge < many → bare (implicit_spot part pp i m) ≡ bare (implicit_spot l pl (child_of i) (lifted m))
  implicit_spot_up i m h less =
      same_bare (implicit_spot part pp i m) (implicit_spot l pl (child_of i) (lifted m)) refl
      (ap (λ (c : Child). length c.ports + place_of_end (implicit_ends part i) m) (child_is l numbers k level parts i h)
      ∙ sym (ap (λ ms. length (child_at l (child_of i)).ports + place_of_end ms (lifted m)) (no_port_ends i h)
      ∙ ap (λ n. length (child_at l (child_of i)).ports + n) (place_up edge_of many once (implicit_ends part i) m (implicit_below i) less)))
      (sym (leaves_up (m ∷ []) (less, tt)))
      (sym (comes_up (m ∷ []) (less, tt)))

  spot_at_up : (i : ℕ) (m : End) (port : Option ℕ) → i < some → m.edge < many → bare (spot_at_port part pp i m port) ≡ bare (spot_at_port l pl (child_of i) (lifted m) port)
  spot_at_up i m None h less = implicit_spot_up i m h less
  spot_at_up i m (Some q) h less = port_spot_up i q h

  spot_up : (j : ℕ) (t : Bool) → j < many → bare (spot_of part pp (end_at j t)) ≡ bare (spot_of l pl (end_at (edge_of j) t))
  spot_up j t h =
      let m = end_at j t in
      spot_at_up (spoke part m).child m (spoke part m).port (child_below j t h) h
      ∙ ap (λ c. bare (spot_at_port l pl c (lifted m) (spoke part m).port)) (child_up j t h)
      ∙ ap (λ o. bare (spot_at_port l pl (spoke l (lifted m)).child (lifted m) o)) (port_up j t h)

  -- ---- sides, offsets and places

  side_up : (i : ℕ) (s t : Spot) → i < some → bare s ≡ bare t → side_of (child_at part i) s ≡ side_of (child_at l (child_of i)) t
  side_up i s t h e = ap (λ c. side_of c s) (child_is l numbers k level parts i h) ∙ ap (λ x. side_of (child_at l (child_of i)) x) e

  offset_up : (i : ℕ) (s t : Spot) → i < some → bare s ≡ bare t → offset_in (child_at part i) (inner i) s ≡ offset_in (child_at l (child_of i)) (outer (child_of i)) t
  offset_up i s t h e =
      ap (λ c. offset_in c (inner i) s) (child_is l numbers k level parts i h)
      ∙ ap (λ x. offset_in (child_at l (child_of i)) (inner i) x) e
      ∙ ap (places.dock_of (child_at l (child_of i)) t) (alike.orders i (side_of (child_at l (child_of i)) t) h)

  anchor_up : (i : ℕ) (s t : Spot) → i < some → bare s ≡ bare t → anchor_in (child_at part i) (inner i) s ≡ anchor_in (child_at l (child_of i)) (outer (child_of i)) t
  anchor_up i s t h e =
      let c = child_at l (child_of i) in
      ap (λ z. places.anchor_at (child_at part i) (side_of (child_at part i) s) s.port z) (offset_up i s t h e)
      ∙ ap (λ d. places.anchor_at d (side_of d s) s.port (offset_in c (outer (child_of i)) t)) (child_is l numbers k level parts i h)
      ∙ ap (λ (x : Spot). places.anchor_at c (side_of c x) x.port (offset_in c (outer (child_of i)) t)) e

  place_up_at : (i q : ℕ) (s t : Spot) → i < some → bare s ≡ bare t → place_in_child (child_at part i) (inner i) q s ≡ place_in_child (child_at l (child_of i)) (outer (child_of i)) q t
  place_up_at i q s t h e =
      let c = child_at l (child_of i) in
      ap (λ z. places.place_of_port (child_at part i) (side_of (child_at part i) s) q z) (offset_up i s t h e)
      ∙ ap (λ d. places.place_of_port d (side_of d s) q (offset_in c (outer (child_of i)) t)) (child_is l numbers k level parts i h)
      ∙ ap (λ (x : Spot). places.place_of_port c (side_of c x) q (offset_in c (outer (child_of i)) t)) e

  port_place_up : (i q : ℕ) → i < some → port_place part pp inner i q ≡ port_place l pl outer (child_of i) q
  port_place_up i q h = place_up_at i q (port_spot part pp i q) (port_spot l pl (child_of i) q) h (port_spot_up i q h)

  outline_up : (i : ℕ) (qs : List ℕ) → i < some → outline_from part pp inner i qs ≡ outline_from l pl outer (child_of i) qs
  outline_up i [] h = ap (λ (c : Child). rect_at (record { x = pos 0; y = pos 0 }) c.size) (child_is l numbers k level parts i h)
  outline_up i (q ∷ qs) h =
      ap (λ r. hull r (rect_at (port_place part pp inner i q) (port_at (child_at part i) q).size)) (outline_up i qs h)
      ∙ ap (λ p. hull (outline_from l pl outer (child_of i) qs) (rect_at p (port_at (child_at part i) q).size)) (port_place_up i q h)
      ∙ ap (λ c. hull (outline_from l pl outer (child_of i) qs) (rect_at (port_place l pl outer (child_of i) q) (port_at c q).size)) (child_is l numbers k level parts i h)

  -- ---- spots of a child

  spots_up : (i : ℕ) → i < some → map bare (spots part pp i) ≡ map bare (spots l pl (child_of i))
  spots_up i h =
      let ports = range_with_len 0 (length (child_at part i).ports) in
      map-append bare (map (port_spot part pp i) ports) (map (implicit_spot part pp i) (implicit_ends part i))
      ∙ ap (λ xs. xs ++ map bare (map (implicit_spot part pp i) (implicit_ends part i))) (
      map_twice (port_spot part pp i) bare ports
      ∙ map_alike (λ q. bare (port_spot part pp i q)) (λ q. bare (port_spot l pl (child_of i) q)) ports (λ q. port_spot_up i q h)
      ∙ sym (map_twice (port_spot l pl (child_of i)) bare ports)
      ∙ ap (λ (c : Child). map bare (map (port_spot l pl (child_of i)) (range_with_len 0 (length c.ports)))) (child_is l numbers k level parts i h)
      )
      ∙ ap (λ xs. map bare (map (port_spot l pl (child_of i)) (range_with_len 0 (length (child_at l (child_of i)).ports))) ++ xs) (
      map_twice (implicit_spot part pp i) bare (implicit_ends part i)
      ∙ map_ends (λ m. bare (implicit_spot part pp i m)) (λ m. bare (implicit_spot l pl (child_of i) (lifted m))) many (implicit_ends part i) (implicit_below i) (λ m less. implicit_spot_up i m h less)
      ∙ sym (map_twice lifted (λ n. bare (implicit_spot l pl (child_of i) n)) (implicit_ends part i))
      ∙ ap (map (λ n. bare (implicit_spot l pl (child_of i) n))) (sym (no_port_ends i h))
      ∙ sym (map_twice (implicit_spot l pl (child_of i)) bare (implicit_ends l (child_of i)))
      )
      ∙ sym (map-append bare (map (port_spot l pl (child_of i)) (range_with_len 0 (length (child_at l (child_of i)).ports))) (map (implicit_spot l pl (child_of i)) (implicit_ends l (child_of i))))

  spread_up : (i : ℕ) (side : Side) → i < some → spread_count part pp i side ≡ spread_count l pl (child_of i) side
  spread_up i side h =
      spread_bare (child_at part i) side (spots part pp i)
      ∙ ap (λ c. length (filter (is_spread_on c side) (map bare (spots part pp i)))) (child_is l numbers k level parts i h)
      ∙ ap (λ xs. length (filter (is_spread_on (child_at l (child_of i)) side) xs)) (spots_up i h)
      ∙ sym (spread_bare (child_at l (child_of i)) side (spots l pl (child_of i)))

  -- ---- the laws

  same_child : (i : ℕ) → i < some → IsSameChild l numbers k pp pl inner outer i
  same_child i h =
      record {
        child = child_is l numbers k level parts i h;
        side = λ q. side_up i (port_spot part pp i q) (port_spot l pl (child_of i) q) h (port_spot_up i q h);
        port = λ q. port_place_up i q h;
        outline_is = outline_up i (range_with_len 0 (length (child_at part i).ports)) h ∙ ap (λ (c : Child). outline_from l pl outer (child_of i) (range_with_len 0 (length c.ports))) (child_is l numbers k level parts i h);
        spread = λ side. spread_up i side h;
      }

  same_end : (j : ℕ) (t : Bool) → j < many → IsSameEnd l numbers k pp pl inner outer j t
  same_end j t h =
      let n = end_at j t in
      let c = (spoke part n).child in
      let s = spot_of part pp n in
      let o = spot_of l pl (lifted n) in
      let there = child_below j t h in
      let is = child_up j t h in
      record {
        child_in = there;
        child = is;
        port = port_up j t h;
        dock = same_dock (numbered_dock numbers k (dock_of part pp inner n)) (dock_of l pl outer (lifted n)) is
            (side_up c s o there (spot_up j t h) ∙ ap (λ d. side_of (child_at l d) o) is)
            (offset_up c s o there (spot_up j t h) ∙ ap (λ d. offset_in (child_at l d) (outer d) o) is);
        anchor = anchor_up c s o there (spot_up j t h) ∙ ap (λ d. anchor_in (child_at l d) (outer d) o) is;
      }

pub says_the_same : PartsSayTheSame
says_the_same l numbers k pp pl inner outer level parts alike =
    record { children = same_child l numbers k pp pl inner outer level parts alike; ends = same_end l numbers k pp pl inner outer level parts alike }
