-- The blocks stacked one below the other keep all bounds; so the least values exist and end within the stack.
use Rattle.std.proofs.Common.{◌≡◌, ◌≢◌, ℕ, zero, suc, ◌+◌, ◌<◌, ◌≤◌, ◌^◌, ◌==◌, cond, nat_le, nat_lt, ℤ, pos, ◌+ℤ◌, ◌-ℤ◌, ◌≤ℤ◌, ◌<ℤ◌, List, length, map, get_or, arith, refl, sym, ◌∙◌, ap, subst, inl, inr, Option, Bool, true, false, eq-eqb, ne_eqb, lt-ltb, le-ltb, le-leb}
use Rattle.std.proofs.lemmas.Int.{ints, clamps}
use Rattle.std.proofs.lemmas.Bool.{cases_eq, cases_lt, lt-leb}
use Rattle.std.specs.List.{All, filter, range_with_len}
use Rattle.std.proofs.lemmas.List.FromFn.{get_or-map-range_with_len}
use Rattle.std.proofs.lemmas.List.Elements.{All-append, All-filter, All-from_get_or, filter_passes}
use Rattle.elk_layers.specs.Layered.{Plain, IsSound, AreRows, layer_of, row_at, unit_at, is_child}
use Rattle.elk_layers.specs.Lines.{room, body_room, facing, lane_below, lane_above}
use Rattle.elk_layers.proofs.HeightLemmas.{height_below}
use Rattle.separation.specs.declared.bounds.Bound.{Bound}
use Rattle.separation.specs.Lines.{value_at, KeepsBound, Keeps, Settled, CanKeep, IsWithin}
use Rattle.unit_blocks.specs.Constraints.{block_at, offset_at, bounds_along, IsPosed, AreTops, greatest_spacing, stacked_height, EndsWithinStack, Counts, CanBePlaced}
use Rattle.unit_blocks.proofs.LeastLemmas.{all_from_rows, pairs_from, bound_of_pair}
use Rattle.unit_blocks.proofs.SumLemmas.{sum_to, sum_gain, sum_below, sum_nothing, sum_heights, sum_stacked, stacked_bound}
use Rattle.elk_layers.specs.Straight.{chosen_link, AreStraight}

pub facing_within : (l : Plain) (a b : Bool) → facing l a b ≤ℤ greatest_spacing l
facing_within l true true = omega (arith, ints, clamps)
facing_within l true false = omega (arith, ints, clamps)
facing_within l false true = omega (arith, ints, clamps)
facing_within l false false = omega (arith, ints, clamps)

pub facing_from_zero : (l : Plain) → IsSound l → (a b : Bool) → pos 0 ≤ℤ facing l a b
facing_from_zero l s true true = let h = s.edge_edge_is.low in omega (arith, ints, h)
facing_from_zero l s true false = let h = s.edge_node_is.low in omega (arith, ints, h)
facing_from_zero l s false true = let h = s.edge_node_is.low in omega (arith, ints, h)
facing_from_zero l s false false = let h = s.node_node_is.low in omega (arith, ints, h)

module _ (l : Plain) (rows : List (List ℕ)) (chosen blocks roots : List ℕ) (offsets floor : List ℤ) (bounds : List Bound) (sound : IsSound l) (are : AreRows l rows) (straight : AreStraight l rows chosen) (posed : IsPosed l rows chosen blocks roots offsets floor bounds) where
  abbrev count : ℕ
  count = length l.units

  abbrev height : ℕ → ℤ
  height u = (unit_at l.units u).height

  abbrev block : ℕ → ℕ
  block u = block_at blocks u

  abbrev offset : ℕ → ℤ
  offset u = offset_at offsets u

  abbrev spacing : ℤ
  spacing = greatest_spacing l

  spacing_from_one : pos 1 ≤ℤ spacing
  spacing_from_one = let a = sound.node_node_is.low in omega (arith, ints, clamps, a)

  spacing_small : spacing ≤ℤ pos (2 ^ 20)
  spacing_small = let a = sound.node_node_is.high in let b = sound.edge_node_is.high in let c = sound.edge_edge_is.high in omega (arith, ints, clamps, a, b, c)

  -- a unit's height where it is in the block and not right of the layer, else 0
  abbrev piece : ℕ → ℕ → ℕ → ℤ
  piece b g w = cond (block w == b) (cond (nat_le (layer_of l w) g) (height w) (pos 0)) (pos 0)

  abbrev weight : ℕ → ℕ → ℤ
  weight b g = sum_to count (piece b g)

  piece_in : (b g w : ℕ) → block w ≡ b → layer_of l w ≤ g → piece b g w ≡ height w
  piece_in b g w e k = rw (eq-eqb (block w) b e, le-leb (layer_of l w) g k) refl

  piece_right : (b g w : ℕ) → g < layer_of l w → piece b g w ≡ pos 0
  piece_right b g w k = elim (cases_eq (block w) b) [
    | inl e ↦ rw (eq-eqb (block w) b e, lt-leb (layer_of l w) g k) refl
    | inr ne ↦ rw (ne_eqb (block w) b ne) refl
  ]

  piece_other : (b g w : ℕ) → block w ≢ b → piece b g w ≡ pos 0
  piece_other b g w ne = rw (ne_eqb (block w) b ne) refl

  piece_from_zero : (b g w : ℕ) → w < count → pos 0 ≤ℤ piece b g w
  piece_from_zero b g w h = elim (cases_eq (block w) b) [
    | inl e ↦ elim (cases_lt g (layer_of l w)) [
      | inl k ↦ rw (piece_right b g w k) (omega (arith, ints))
      | inr k ↦ rw (piece_in b g w e k) (sound.heights w h)
    ]
    | inr ne ↦ rw (piece_other b g w ne) (omega (arith, ints))
  ]

  piece_within : (b g w : ℕ) → w < count → piece b g w ≤ℤ height w
  piece_within b g w h = let z = sound.heights w h in elim (cases_eq (block w) b) [
    | inl e ↦ elim (cases_lt g (layer_of l w)) [
      | inl k ↦ rw (piece_right b g w k) z
      | inr k ↦ rw (piece_in b g w e k) (omega (arith, ints))
    ]
    | inr ne ↦ rw (piece_other b g w ne) z
  ]

  piece_grows : (b g w : ℕ) → w < count → piece b g w ≤ℤ piece b (suc g) w
  piece_grows b g w h = elim (cases_eq (block w) b) [
    | inr ne ↦ rw (piece_other b g w ne, piece_other b (suc g) w ne) (omega (arith, ints))
    | inl e ↦ elim (cases_lt g (layer_of l w)) [
      | inl k ↦ rw (piece_right b g w k) (piece_from_zero b (suc g) w h)
      | inr k ↦ rw (piece_in b g w e k, piece_in b (suc g) w e (omega (arith, k))) (omega (arith, ints))
    ]
  ]

  weight_one : (b g u : ℕ) → u < count → block u ≡ b → layer_of l u ≤ g → height u ≤ℤ weight b g
  weight_one b g u h e k =
      let zero = sum_nothing count in
      let more = sum_gain count (λ w. pos 0) (λ w. pos 0) (piece b g) u (height u) h
      (λ w q. let z = piece_from_zero b g w q in omega (arith, ints, z))
      (let i = piece_in b g u e k in omega (arith, ints, i)) in
      omega (arith, ints, zero, more)

  weight_more : (b g u : ℕ) → u < count → block u ≡ b → layer_of l u ≡ suc g → (weight b g +ℤ height u) ≤ℤ weight b (suc g)
  weight_more b g u h e k =
      let zero = sum_nothing count in
      let more = sum_gain count (piece b g) (λ w. pos 0) (piece b (suc g)) u (height u) h
      (λ w q. let z = piece_grows b g w q in omega (arith, ints, z))
      (let i = piece_in b (suc g) u e (omega (arith, k)) in let o = piece_right b g u (omega (arith, k)) in omega (arith, ints, i, o)) in
      omega (arith, ints, zero, more)

  weight_grows : (b g : ℕ) → weight b g ≤ℤ weight b (suc g)
  weight_grows b g = sum_below count (piece b g) (piece b (suc g)) (piece_grows b g)

  weight_small : (b g : ℕ) → weight b g <ℤ pos (2 ^ 56)
  weight_small b g =
      let a = sum_below count (piece b g) height (piece_within b g) in
      let c = sum_heights l.units in
      let d = sound.together in
      omega (arith, ints, a, c, d)

  -- the ends of a link of the block overlap
  record Overlaps (u t : ℕ) : Type 0 where
    in_range : t < count
    in_block : block t ≡ block u
    before : layer_of l u ≡ layer_of l t + 1
    above : offset u ≤ℤ (offset t +ℤ height t)
    below : offset t ≤ℤ (offset u +ℤ height u)

  link_overlaps : (j : ℕ) → j < length chosen → Overlaps (chosen_link l chosen j).head (chosen_link l chosen j).tail
  link_overlaps j h =
      let s = sound.links_are _ (straight.known j h) in
      let o = posed.offsets_are.horizontal j h in
      let t = s.tail_at in
      let a = s.head_at in
      record {
        in_range = s.tail;
        in_block = posed.blocks_are.joined j h;
        before = s.next_layer;
        above = omega (arith, ints, o, t.0, t.1, a.0, a.1);
        below = omega (arith, ints, o, t.0, t.1, a.0, a.1);
      }

  overlaps : (u v g : ℕ) → u < count → v < count → block u ≡ block v → layer_of l u ≡ suc g → layer_of l v ≤ g → (t : ℕ) × Overlaps u t
  overlaps u v g hu hv same k kv = elim (posed.blocks_are.first u hu) [
    | inl own ↦
        let low = posed.blocks_are.leftmost v hv in
        let is : layer_of l (get_or roots (block v) 0) ≡ layer_of l u = ap (λ b. layer_of l (get_or roots b 0)) (sym same) ∙ ap (layer_of l) own in
        absurd (omega (arith, low, is, k, kv))
    | inr e ↦ ((chosen_link l chosen e.number).tail, subst (λ x. Overlaps x (chosen_link l chosen e.number).tail) e.head_is (link_overlaps e.number e.within))
  ]

  -- from the top of one unit of a block to the end of another there are at most the block's heights
  span : (b g u v : ℕ) → u < count → v < count → block u ≡ b → block v ≡ b → layer_of l u ≤ g → layer_of l v ≤ g → (offset u +ℤ height u -ℤ offset v) ≤ℤ weight b g
  span b zero u v hu hv eu ev ku kv =
      let same : u ≡ v = posed.blocks_are.one_in_layer u v hu hv (omega (arith, ku, kv)) (eu ∙ sym ev) in
      let one = weight_one b 0 u hu eu ku in
      let o : offset u ≡ offset v = ap offset same in
      omega (arith, ints, one, o)
  span b (suc g) u v hu hv eu ev ku kv = elim (cases_lt g (layer_of l u)) [
    | inl right_u ↦ elim (cases_lt g (layer_of l v)) [
      | inl right_v ↦
          let same : u ≡ v = posed.blocks_are.one_in_layer u v hu hv (omega (arith, ku, kv, right_u, right_v)) (eu ∙ sym ev) in
          let one = weight_one b (suc g) u hu eu ku in
          let o : offset u ≡ offset v = ap offset same in
          omega (arith, ints, one, o)
      | inr left_v ↦
          let p = overlaps u v g hu hv (eu ∙ sym ev) (omega (arith, ku, right_u)) left_v in
          let rest = span b g p.0 v p.1.in_range hv (p.1.in_block ∙ eu) ev (let n = p.1.before in omega (arith, n, ku)) left_v in
          let more = weight_more b g u hu eu (omega (arith, ku, right_u)) in
          let a = p.1.above in
          omega (arith, ints, rest, more, a)
    ]
    | inr left_u ↦ elim (cases_lt g (layer_of l v)) [
      | inl right_v ↦
          let p = overlaps v u g hv hu (ev ∙ sym eu) (omega (arith, kv, right_v)) left_u in
          let rest = span b g u p.0 hu p.1.in_range eu (p.1.in_block ∙ ev) left_u (let n = p.1.before in omega (arith, n, kv)) in
          let more = weight_more b g v hv ev (omega (arith, kv, right_v)) in
          let a = p.1.below in
          omega (arith, ints, rest, more, a)
      | inr left_v ↦
          let rest = span b g u v hu hv eu ev left_u left_v in
          let more = weight_grows b g in
          omega (arith, ints, rest, more)
    ]
  ]

  span_all : (u v : ℕ) → u < count → v < count → block u ≡ block v → (offset u +ℤ height u -ℤ offset v) ≤ℤ weight (block u) l.layers
  span_all u v hu hv e =
      let a = sound.layers_are u hu in
      let b = sound.layers_are v hv in
      span (block u) l.layers u v hu hv refl (sym e) (omega (arith, a)) (omega (arith, b))

  -- what stands before a block: the heights of all units of earlier blocks, and a spacing for each
  abbrev part : ℕ → ℕ → ℤ
  part p w = cond (nat_lt (block w) p) (height w +ℤ spacing) (pos 0)

  abbrev depth : ℕ → ℤ
  depth p = sum_to count (part p)

  part_in : (p w : ℕ) → block w < p → part p w ≡ height w +ℤ spacing
  part_in p w k = rw (lt-ltb (block w) p k) refl

  part_out : (p w : ℕ) → p ≤ block w → part p w ≡ pos 0
  part_out p w k = rw (le-ltb (block w) p k) refl

  part_from_zero : (p w : ℕ) → w < count → pos 0 ≤ℤ part p w
  part_from_zero p w h = elim (cases_lt (block w) p) [
    | inl k ↦ let z = sound.heights w h in let s = spacing_from_one in rw (part_in p w k) (omega (arith, ints, z, s))
    | inr k ↦ rw (part_out p w k) (omega (arith, ints))
  ]

  depth_from_zero : (p : ℕ) → pos 0 ≤ℤ depth p
  depth_from_zero p =
      let zero = sum_nothing count in
      let more = sum_below count (λ w. pos 0) (part p) (part_from_zero p) in
      omega (arith, ints, zero, more)

  part_joins : (p q w : ℕ) → p < q → w < count → (part p w +ℤ piece p l.layers w) ≤ℤ part q w
  part_joins p q w less h =
      let z = sound.heights w h in
      let s = spacing_from_one in
      elim (cases_lt (block w) p) [
        | inl k ↦ rw (part_in p w k, part_in q w (omega (arith, k, less)), piece_other p l.layers w (λ e. omega (arith, e, k))) (omega (arith, ints))
        | inr k ↦ elim (cases_eq (block w) p) [
          | inl e ↦
              let i = piece_within p l.layers w h in
              let a = part_out p w k in
              let b = part_in q w (omega (arith, e, less)) in
              omega (arith, ints, i, a, b, s)
          | inr ne ↦
              let a = part_out p w k in
              let b = piece_other p l.layers w ne in
              let c = part_from_zero q w h in
              omega (arith, ints, a, b, c)
        ]
      ]

  -- a later block stands below an earlier one and a spacing
  depth_more : (u q : ℕ) → u < count → block u < q → (depth (block u) +ℤ weight (block u) l.layers +ℤ spacing) ≤ℤ depth q
  depth_more u q h less =
      sum_gain count (part (block u)) (piece (block u) l.layers) (part q) u spacing h
      (λ w k. part_joins (block u) q w less k)
      (let a = part_out (block u) u (omega arith) in
      let b = part_in q u less in
      let c = piece_within (block u) l.layers u h in
      omega (arith, ints, a, b, c))

  depth_within : (p : ℕ) → depth p ≤ℤ stacked_height spacing l.units
  depth_within p =
      let all = sum_stacked spacing l.units in
      let less = sum_below count (part p) (λ w. height w +ℤ spacing) (λ w h. elim (cases_lt (block w) p) [
        | inl k ↦ rw (part_in p w k) (omega (arith, ints))
        | inr k ↦ let z = sound.heights w h in let s = spacing_from_one in rw (part_out p w k) (omega (arith, ints, z, s))
      ]) in
      omega (arith, ints, all, less)

  -- the block's floor lifts each of its units to 0 or below, and none ends below the block's heights
  floor_span : (u : ℕ) → u < count → (value_at floor (block u) +ℤ offset u +ℤ height u) ≤ℤ weight (block u) l.layers
  floor_span u h =
      let held = posed.floors_are.held (block u) (posed.blocks_are.numbers u h) in
      let z = held.at_zero in
      let s = span_all u held.unit h held.in_range (sym held.in_block) in
      omega (arith, ints, z, s)

  abbrev stack : List ℤ
  stack = map (λ b. depth b +ℤ value_at floor b) (range_with_len 0 (length roots))

  stack_at : (b : ℕ) → b < length roots → value_at stack b ≡ depth b +ℤ value_at floor b
  stack_at b h = get_or-map-range_with_len (λ b. depth b +ℤ value_at floor b) 0 (length roots) b b (pos 0) h (omega arith)

  stack_keeps_pair : (distance : ℕ → ℕ → ℤ) (u v : ℕ) → u < count → v < count → block u < block v → distance u v ≤ℤ (height u +ℤ spacing) → KeepsBound stack (bound_of_pair distance blocks offsets u v)
  stack_keeps_pair distance u v hu hv less d =
      let a = stack_at (block u) (posed.blocks_are.numbers u hu) in
      let b = stack_at (block v) (posed.blocks_are.numbers v hv) in
      let f = floor_span u hu in
      let z = posed.floors_are.from_zero v hv in
      let m = depth_more u (block v) hu less in
      omega (arith, ints, a, b, f, z, m, d)

  room_within : (u v : ℕ) → room l u v ≤ℤ (height u +ℤ spacing)
  room_within u v = let f = facing_within l (lane_below l u) (lane_above l v) in omega (arith, ints, f)

  body_room_within : (u v : ℕ) → u < count → v < count → is_child l u ≡ true → is_child l v ≡ true → body_room l u v ≤ℤ (height u +ℤ spacing)
  body_room_within u v hu hv cu cv =
      let a = sound.bodies u hu cu in
      let b = sound.bodies v hv cv in
      let s : l.node_node ≤ℤ spacing = omega (arith, ints, clamps) in
      omega (arith, ints, s, a.bottom, b.top)

  children_within : (r : ℕ) → r < length rows → (i : ℕ) → i < length (filter (is_child l) (row_at rows r)) → (get_or (filter (is_child l) (row_at rows r)) i 0 < count) × (is_child l (get_or (filter (is_child l) (row_at rows r)) i 0) ≡ true)
  children_within r h i k = (
    All-filter (is_child l) (λ u. u < count) (row_at rows r) (All-from_get_or (λ u. u < count) (row_at rows r) 0 (are.in_range r h)) i 0 k,
    filter_passes (is_child l) (row_at rows r) i 0 k,
  )

  -- what holds at each pair of units that a bound is made of
  over_pairs : (P : Bound → Type 0)
      → ((u v : ℕ) → u < count → v < count → block u < block v → P (bound_of_pair (room l) blocks offsets u v))
      → ((u v : ℕ) → u < count → v < count → is_child l u ≡ true → is_child l v ≡ true → block u < block v → P (bound_of_pair (body_room l) blocks offsets u v))
      → All P bounds
  over_pairs P of_units of_children = subst (All P) (sym posed.bounds_are) (all_from_rows l blocks offsets P rows (λ r h.
      All-append P (bounds_along (room l) blocks offsets (row_at rows r)) (bounds_along (body_room l) blocks offsets (filter (is_child l) (row_at rows r)))
      (pairs_from (room l) blocks offsets P (row_at rows r) (λ i k.
      of_units _ _ (are.in_range r h i (omega (arith, k))) (are.in_range r h (i + 1) k) (posed.blocks_are.rising r h i k)))
      (pairs_from (body_room l) blocks offsets P (filter (is_child l) (row_at rows r)) (λ i k.
      let a = children_within r h i (omega (arith, k)) in
      let b = children_within r h (i + 1) k in
      of_children _ _ a.0 b.0 a.1 b.1 (posed.blocks_are.children_rising r h i k)))))

  pub stack_keeps : Keeps floor bounds stack
  stack_keeps =
      record {
        floors = λ b h.
            let hb : b < length roots = rw posed.floors_are.as_many at h in
            let a = stack_at b hb in
            let z = depth_from_zero b in
            omega (arith, ints, a, z);
        bounds = λ k h. over_pairs (KeepsBound stack)
            (λ u v hu hv less. stack_keeps_pair (room l) u v hu hv less (room_within u v))
            (λ u v hu hv cu cv less. stack_keeps_pair (body_room l) u v hu hv less (body_room_within u v hu hv cu cv)) k _ h;
      }

  -- offsets and floors are small

  offset_bounds : (u : ℕ) → u < count → (offset u <ℤ pos (2 ^ 56)) × (pos 0 ≤ℤ (offset u +ℤ pos (2 ^ 56)))
  offset_bounds u h =
      let hb = posed.blocks_are.numbers u h in
      let x = get_or roots (block u) 0 in
      let hx = posed.blocks_are.roots_in_range (block u) hb in
      let same = posed.blocks_are.of_roots (block u) hb in
      let zero = posed.offsets_are.at_roots (block u) hb in
      let a = span_all u x h hx (sym same) in
      let b = span (block u) l.layers x u hx h same refl (let q = sound.layers_are x hx in omega (arith, q)) (let q = sound.layers_are u h in omega (arith, q)) in
      let w = weight_small (block u) l.layers in
      let hu = sound.heights u h in
      let hh = sound.heights x hx in
      (omega (arith, ints, a, zero, w, hu), omega (arith, ints, b, zero, w, hh))

  floor_bounds : (b : ℕ) → b < length roots → (value_at floor b ≤ℤ pos (2 ^ 56)) × (pos 0 ≤ℤ (value_at floor b +ℤ pos (2 ^ 56)))
  floor_bounds b h =
      let held = posed.floors_are.held b h in
      let o = offset_bounds held.unit held.in_range in
      let z = held.at_zero in
      (omega (arith, ints, o.0, o.1, z), omega (arith, ints, o.0, o.1, z))

  stack_small : (b : ℕ) → b < length roots → value_at stack b <ℤ pos (2 ^ 60)
  stack_small b h =
      let a = stack_at b h in
      let f = floor_bounds b h in
      let d = depth_within b in
      let s = stacked_bound spacing l.units spacing_small in
      let t = sound.together in
      let n = sound.few_units in
      omega (arith, ints, a, f.0, d, s, t, n)

  pub can_keep : CanKeep floor bounds
  can_keep = record { values = stack; kept = stack_keeps; small = λ b h. stack_small b (rw posed.floors_are.as_many at h) }

  pub floors_within : (b : ℕ) → b < length floor → IsWithin (value_at floor b)
  floors_within b h =
      let f = floor_bounds b (rw posed.floors_are.as_many at h) in
      record { low = omega (arith, ints, f.1); high = omega (arith, ints, f.0) }

  pub gaps_within : All (λ b. IsWithin b.gap) bounds
  gaps_within = over_pairs (λ b. IsWithin b.gap)
      (λ u v hu hv less.
      let a = offset_bounds u hu in
      let b = offset_bounds v hv in
      let d = room_within u v in
      let z = facing_from_zero l sound (lane_below l u) (lane_above l v) in
      let hh = height_below l sound u hu in
      let hl = sound.heights u hu in
      let s = spacing_small in
      record { low = omega (arith, ints, a.0, a.1, b.0, b.1, z, hl); high = omega (arith, ints, a.0, a.1, b.0, b.1, d, hh, s) })
      (λ u v hu hv cu cv less.
      let a = offset_bounds u hu in
      let b = offset_bounds v hv in
      let d = body_room_within u v hu hv cu cv in
      let hh = height_below l sound u hu in
      let hv' = height_below l sound v hv in
      let s = spacing_small in
      let bu = sound.bodies u hu cu in
      let bv = sound.bodies v hv cv in
      let nn = sound.node_node_is.low in
      record { low = omega (arith, ints, a.0, a.1, b.0, b.1, bu.top, bu.height, bv.height, bv.bottom, hv', nn); high = omega (arith, ints, a.0, a.1, b.0, b.1, d, hh, s) })

  pub bounds_rise : All (λ b. b.before < b.after × (b.after < length roots)) bounds
  bounds_rise = over_pairs (λ b. b.before < b.after × (b.after < length roots))
      (λ u v hu hv less. (less, posed.blocks_are.numbers v hv))
      (λ u v hu hv cu cv less. (less, posed.blocks_are.numbers v hv))

  pub ends_within : (values tops : List ℤ) (holds : List (Option ℕ)) → Settled floor bounds values holds → AreTops l blocks offsets values tops → EndsWithinStack l tops
  ends_within values tops holds settled are_tops u h =
      let hb = posed.blocks_are.numbers u h in
      let low = settled.least stack stack_keeps (block u) (rw posed.floors_are.as_many hb) in
      let a = stack_at (block u) hb in
      let t = are_tops.top_is u h in
      let f = floor_span u h in
      let d = depth_more u (length roots) h hb in
      let w = depth_within (length roots) in
      let s = spacing_from_one in
      omega (arith, ints, low, a, t, f, d, w, s)

  pub can_be_placed : (order : List ℕ) → Counts order (length roots) → length bounds < 2 ^ 32 → CanBePlaced l blocks offsets floor bounds order
  can_be_placed order counts few =
      record {
        solvable = record {
          is_order = record {
            as_long = counts.as_long ∙ sym posed.floors_are.as_many;
            in_range = λ p h.
                let hp : p < length roots = rw counts.as_long at h in
                let long = posed.floors_are.as_many in
                let is = counts.number_is p hp in
                omega (arith, hp, is, long);
            distinct = λ p q less h e.
                let hq : q < length roots = rw counts.as_long at h in
                let a = counts.number_is p (omega (arith, hq, less)) in
                let b = counts.number_is q hq in
                omega (arith, a, b, e, less);
          };
          forward = λ k h.
              let r = bounds_rise k _ h in
              record {
                from = _;
                to = _;
                forward = r.0;
                within = let long = counts.as_long in let to = r.1 in omega (arith, to, long);
                from_is = counts.number_is _ (let less = r.0 in let to = r.1 in omega (arith, less, to));
                to_is = counts.number_is _ r.1;
              };
          few = few;
          gaps = λ k h. gaps_within k _ h;
          floors = floors_within;
          can_keep = can_keep;
        };
        within = ends_within;
      }
