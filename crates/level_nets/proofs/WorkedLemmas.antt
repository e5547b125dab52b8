-- Two parallel edges meet what is asked of a level.
use Rattle.std.proofs.Common.{◌≡◌, ◌≢◌, ◌⊎◌, inr, ℕ, zero, suc, ◌+◌, ◌*◌, ◌<◌, ◌≤◌, ◌^◌, eqb, true, false, List, [], ◌∷◌, length, ℤ, pos, ◌+ℤ◌, ◌≤ℤ◌, ◌<ℤ◌, refl, sym, subst, arith}
use Rattle.std.proofs.lemmas.Int.{ints}
use Rattle.std.proofs.lemmas.List.Sums.{count_by-le-length}
use Rattle.std.specs.Prelude.{Some, slice_index, slice_index_or}
use Rattle.drawing_types.specs.declared.shape.Side.{Side}
use Rattle.drawing_types.specs.declared.shape.Side.TheVariants.{North, East, South, West}
use Rattle.elk_doc.specs.Sound.{IsDistance, IsSoundSpacing}
use Rattle.drawing_types.specs.Ranges.{IsWithin}
use Rattle.elk_layers.specs.declared.units.Unit.{Unit as LayerUnit}
use Rattle.elk_layers.specs.Layered.{unit_at, link_at, layer_of, is_lane, is_child, IsSpacing, IsFromZero, HasBodyWithin, IsSoundLink, IsSound, HasUnit, AreRows, row_at}
use Rattle.elk_layers.specs.Lines.{AreApart, Keeps, room, body_room, top_of}
use Rattle.port_order.specs.Child.{spot_at}
use Rattle.port_order.specs.Places.{HoldsOnce}
use Rattle.port_order.specs.Order.{ComesFirst, IsOrderOfSide, IsSpreadOn}
use Rattle.level_model.specs.Level.{PlainLevel, end_at, child_at, spots, is_loop}
use Rattle.level_model.specs.Conditions.{IsLevel, IsLevelChild, IsLevelEdge}
use Rattle.level_model.specs.Units.{AreUnits, AreLinked, AreOrders, IsUnitOf, HasRoom, HasChain, IsLinkOf, HasPins, IsLaneUnit}
use Rattle.level_model.specs.Nets.{unit_of}
use Rattle.level_model.specs.Table.{IsEndAt, IsLoopAt, IsChildAt, IsTable, end_in, loop_in, child_in}
use Rattle.level_model.specs.Examples.{parallel, parallel_plan, parallel_orders}
use Rattle.level_nets.specs.Parts.{Parts, IsGiven}
use Rattle.elk_layers.specs.Layered.{Plain}
use Rattle.level_model.specs.declared.table.Table.{Table}
use Rattle.level_nets.specs.Worked.{parallel_table, parallel_parts}
use Rattle.drawing_types.proofs.SmallNumbers.{below1, below2}

distance : (n : ℕ) → 1 ≤ n → n ≤ 20 → IsDistance (pos n)
distance n h k = record { above = omega (arith, ints, h); below = omega (arith, ints, k) }

spaces : (n : ℕ) → 1 ≤ n → n ≤ 20 → IsSpacing (pos n)
spaces n h k = record { low = omega (arith, ints, h); high = omega (arith, ints, k) }

small : (z : ℤ) → z ≡ pos 30 → IsWithin (pos 0) (pos (2 ^ 47)) z
small z e = record { above = omega (arith, ints, e); below = omega (arith, ints, e) }

square_is : (c : ℕ) → c < 2 → IsLevelChild (child_at parallel c)
square_is =
    below2 (λ c. IsLevelChild (child_at parallel c))
    (record { sound = record { size = record { width = small _ refl; height = small _ refl }; ports = λ k h. absurd (omega (arith, h)) }; near = λ k h. absurd (omega (arith, h)) })
    (record { sound = record { size = record { width = small _ refl; height = small _ refl }; ports = λ k h. absurd (omega (arith, h)) }; near = λ k h. absurd (omega (arith, h)) })

edge_is : (e : ℕ) → e < 2 → IsLevelEdge parallel e
edge_is =
    below2 (λ e. IsLevelEdge parallel e)
    (record { source = record { child = omega arith; port = tt }; target = record { child = omega arith; port = tt }; weight_above = omega arith; weight_below = omega arith })
    (record { source = record { child = omega arith; port = tt }; target = record { child = omega arith; port = tt }; weight_above = omega arith; weight_below = omega arith })

spacing_is : IsSoundSpacing parallel.spacing
spacing_is =
    record {
      node_node = distance 20 (omega arith) (omega arith);
      edge_node = distance 10 (omega arith) (omega arith);
      edge_edge = distance 10 (omega arith) (omega arith);
      node_layers = distance 20 (omega arith) (omega arith);
      edge_node_layers = distance 10 (omega arith) (omega arith);
      edge_edge_layers = distance 10 (omega arith) (omega arith);
    }

level_is : IsLevel parallel
level_is =
    record {
      few_children = omega arith;
      few_ports = omega arith;
      few_edges = omega arith;
      children = square_is;
      edges = edge_is;
      spacing = spacing_is;
      widths = omega (arith, ints);
      heights = omega (arith, ints);
    }

from_zero : (a b : ℕ) → a ≤ b → IsFromZero (pos a) (pos b)
from_zero a b h = (omega (arith, ints), omega (arith, ints, h))

body_is : (u : ℕ) → u < 2 → HasBodyWithin (unit_at parallel_plan.layered.units u)
body_is = below2 (λ u. HasBodyWithin (unit_at parallel_plan.layered.units u)) (record { top = omega (arith, ints); height = omega (arith, ints); bottom = omega (arith, ints) }) (record { top = omega (arith, ints); height = omega (arith, ints); bottom = omega (arith, ints) })

sound_link : (k : ℕ) → k < 2 → IsSoundLink parallel_plan.layered (link_at parallel_plan.layered.links k)
sound_link =
    below2 (λ k. IsSoundLink parallel_plan.layered (link_at parallel_plan.layered.links k))
    (record { tail = omega arith; head = omega arith; next_layer = refl; tail_rank = omega arith; head_rank = omega arith; tail_at = from_zero 10 30 (omega arith); head_at = from_zero 10 30 (omega arith) })
    (record { tail = omega arith; head = omega arith; next_layer = refl; tail_rank = omega arith; head_rank = omega arith; tail_at = from_zero 20 30 (omega arith); head_at = from_zero 20 30 (omega arith) })

no_lane : (u : ℕ) → u < 2 → is_lane parallel_plan.layered u ≡ true → (unit_at parallel_plan.layered.units u).height ≡ pos 0
no_lane = below2 (λ u. is_lane parallel_plan.layered u ≡ true → (unit_at parallel_plan.layered.units u).height ≡ pos 0) (λ e. absurd (let bad : false ≡ true = e in cc)) (λ e. absurd (let bad : false ≡ true = e in cc))

sound_is : IsSound parallel_plan.layered
sound_is =
    record {
      node_node_is = spaces 20 (omega arith) (omega arith);
      edge_node_is = spaces 10 (omega arith) (omega arith);
      edge_edge_is = spaces 10 (omega arith) (omega arith);
      few_units = omega arith;
      few_links = omega arith;
      layers_are = below2 (λ u. layer_of parallel_plan.layered u < 2) (omega arith) (omega arith);
      few_in_layer = λ g. let few = count_by-le-length (λ (u : LayerUnit). eqb u.layer g) parallel_plan.layered.units in omega (arith, few);
      links_are = sound_link;
      heights = below2 (λ u. pos 0 ≤ℤ (unit_at parallel_plan.layered.units u).height) (omega (arith, ints)) (omega (arith, ints));
      together = omega (arith, ints);
      lanes_are_flat = no_lane;
      bodies = λ u h child. body_is u h;
    }

rows_are : AreRows parallel_plan.layered parallel_plan.rows
rows_are =
    record {
      as_many = refl;
      in_range = below2 (λ r. (i : ℕ) → i < length (row_at parallel_plan.rows r) → slice_index (row_at parallel_plan.rows r) i < 2) (below1 (λ i. slice_index (0 ∷ []) i < 2) (omega arith)) (below1 (λ i. slice_index (1 ∷ []) i < 2) (omega arith));
      in_layer = below2 (λ r. (i : ℕ) → i < length (row_at parallel_plan.rows r) → layer_of parallel_plan.layered (slice_index (row_at parallel_plan.rows r) i) ≡ r)
          (below1 (λ i. layer_of parallel_plan.layered (slice_index (0 ∷ []) i) ≡ 0) refl) (below1 (λ i. layer_of parallel_plan.layered (slice_index (1 ∷ []) i) ≡ 1) refl);
      complete = below2 (λ u. HasUnit (row_at parallel_plan.rows (layer_of parallel_plan.layered u)) u) (record { place = 0; within = omega arith; unit_is = refl }) (record { place = 0; within = omega arith; unit_is = refl });
      once = below2 (λ r. (i j : ℕ) → i < j → j < length (row_at parallel_plan.rows r) → slice_index (row_at parallel_plan.rows r) i ≢ slice_index (row_at parallel_plan.rows r) j)
          (λ i j less h. absurd (omega (arith, less, h))) (λ i j less h. absurd (omega (arith, less, h)));
    }

apart_is : AreApart parallel_plan.layered parallel_plan.rows parallel_plan.tops
apart_is =
    record {
      as_many = refl;
      from_zero = below2 (λ u. pos 0 ≤ℤ top_of parallel_plan.tops u) (omega (arith, ints)) (omega (arith, ints));
      room = below2 (λ r. Keeps (room parallel_plan.layered) parallel_plan.tops (row_at parallel_plan.rows r)) (λ i h. absurd (omega (arith, h))) (λ i h. absurd (omega (arith, h)));
      body_room = below2 (λ r. Keeps (body_room parallel_plan.layered) parallel_plan.tops (Rattle.std.specs.List.filter (is_child parallel_plan.layered) (row_at parallel_plan.rows r))) (λ i h. absurd (omega (arith, h))) (λ i h. absurd (omega (arith, h)));
    }

-- the orders of sides
first_held : HoldsOnce (0 ∷ 1 ∷ []) 0
first_held = record { place = 0; inside = omega arith; there = refl; alone = below2 (λ j. slice_index (0 ∷ 1 ∷ []) j ≡ 0 → j ≡ 0) (λ e. refl) (λ e. absurd (omega (arith, e))) }

second_held : HoldsOnce (0 ∷ 1 ∷ []) 1
second_held = record { place = 1; inside = omega arith; there = refl; alone = below2 (λ j. slice_index (0 ∷ 1 ∷ []) j ≡ 1 → j ≡ 1) (λ e. absurd (omega (arith, e))) (λ e. refl) }

-- a side on which no spot lies
none_on : (c : ℕ) (side : Side) → length (spots parallel parallel_plan c) ≡ 2 → (IsSpreadOn (child_at parallel c) side (spot_at (spots parallel parallel_plan c) 0) → ⊥) → (IsSpreadOn (child_at parallel c) side (spot_at (spots parallel parallel_plan c) 1) → ⊥)
    → IsOrderOfSide (child_at parallel c) side (spots parallel parallel_plan c) []
none_on c side many first second =
    record {
      spread = λ i h. absurd (omega (arith, h));
      once = λ k h on. absurd (below2 (λ k. IsSpreadOn (child_at parallel c) side (spot_at (spots parallel parallel_plan c) k) → ⊥) first second k (omega (arith, h, many)) on);
      sorted = λ i j k l less h. absurd (omega (arith, h));
    }

-- spots with the i-th and the j-th number of the order stand in this order
abbrev IsSorted : ℕ → Side → ℕ → ℕ → ℕ → ℕ → Type 0
IsSorted c side i j k l =
    (spot_at (spots parallel parallel_plan c) k).number ≡ slice_index (0 ∷ 1 ∷ []) i → (spot_at (spots parallel parallel_plan c) l).number ≡ slice_index (0 ∷ 1 ∷ []) j
    → ComesFirst (child_at parallel c).rule (child_at parallel c) side (spot_at (spots parallel parallel_plan c) k) (spot_at (spots parallel parallel_plan c) l)

-- a side on which both lie
both_on : (c : ℕ) (side : Side) → length (spots parallel parallel_plan c) ≡ 2 → (spot_at (spots parallel parallel_plan c) 0).number ≡ 0 → (spot_at (spots parallel parallel_plan c) 1).number ≡ 1
    → IsSpreadOn (child_at parallel c) side (spot_at (spots parallel parallel_plan c) 0) → IsSpreadOn (child_at parallel c) side (spot_at (spots parallel parallel_plan c) 1)
    → ComesFirst (child_at parallel c).rule (child_at parallel c) side (spot_at (spots parallel parallel_plan c) 0) (spot_at (spots parallel parallel_plan c) 1)
    → IsOrderOfSide (child_at parallel c) side (spots parallel parallel_plan c) (0 ∷ 1 ∷ [])
both_on c side many zeroth first on0 on1 before =
    record {
      spread = below2 (λ i. (k : ℕ) × (k < length (spots parallel parallel_plan c)) × ((spot_at (spots parallel parallel_plan c) k).number ≡ slice_index (0 ∷ 1 ∷ []) i) × IsSpreadOn (child_at parallel c) side (spot_at (spots parallel parallel_plan c) k))
          (0, omega (arith, many), zeroth, on0) (1, omega (arith, many), first, on1);
      once = λ k h on. below2 (λ k. HoldsOnce (0 ∷ 1 ∷ []) (spot_at (spots parallel parallel_plan c) k).number) (subst (HoldsOnce (0 ∷ 1 ∷ [])) (sym zeroth) first_held) (subst (HoldsOnce (0 ∷ 1 ∷ [])) (sym first) second_held) k (omega (arith, h, many));
      sorted = λ i j k l less h hk hl ek el. sorted i j k l less h (omega (arith, hk, many)) (omega (arith, hl, many)) ek el;
    }
  where
    in_order : (k l : ℕ) → k < 2 → l < 2 → IsSorted c side 0 1 k l
    in_order zero (suc zero) hk hl ek el = before
    in_order zero zero hk hl ek el = absurd (omega (arith, el, zeroth))
    in_order (suc zero) l hk hl ek el = absurd (omega (arith, ek, first))
    in_order zero (suc (suc l)) hk hl ek el = absurd (omega (arith, hl))
    in_order (suc (suc k)) l hk hl ek el = absurd (omega (arith, hk))

    sorted : (i j k l : ℕ) → i < j → j < 2 → k < 2 → l < 2 → IsSorted c side i j k l
    sorted zero (suc zero) k l less h hk hl = in_order k l hk hl
    sorted i zero k l less h hk hl = absurd (omega (arith, less))
    sorted (suc i) (suc zero) k l less h hk hl = absurd (omega (arith, less))
    sorted i (suc (suc j)) k l less h hk hl = absurd (omega (arith, h))

orders_are : AreOrders parallel parallel_plan parallel_orders
orders_are c side h = below2 (λ c. (side : Side) → IsOrderOfSide (child_at parallel c) side (spots parallel parallel_plan c) (parallel_orders c side)) left right c h side
  where
    left : (side : Side) → IsOrderOfSide (child_at parallel 0) side (spots parallel parallel_plan 0) (parallel_orders 0 side)
    left North = none_on 0 North refl (λ on. let e : East ≡ North = on.on_side in absurd cc) (λ on. let e : East ≡ North = on.on_side in absurd cc)
    left East = both_on 0 East refl refl refl (record { spread = refl; on_side = refl }) (record { spread = refl; on_side = refl }) (inr (refl, omega arith))
    left South = none_on 0 South refl (λ on. let e : East ≡ South = on.on_side in absurd cc) (λ on. let e : East ≡ South = on.on_side in absurd cc)
    left West = none_on 0 West refl (λ on. let e : East ≡ West = on.on_side in absurd cc) (λ on. let e : East ≡ West = on.on_side in absurd cc)

    right : (side : Side) → IsOrderOfSide (child_at parallel 1) side (spots parallel parallel_plan 1) (parallel_orders 1 side)
    right North = none_on 1 North refl (λ on. let e : West ≡ North = on.on_side in absurd cc) (λ on. let e : West ≡ North = on.on_side in absurd cc)
    right East = none_on 1 East refl (λ on. let e : West ≡ East = on.on_side in absurd cc) (λ on. let e : West ≡ East = on.on_side in absurd cc)
    right South = none_on 1 South refl (λ on. let e : West ≡ South = on.on_side in absurd cc) (λ on. let e : West ≡ South = on.on_side in absurd cc)
    right West = both_on 1 West refl refl refl (record { spread = refl; on_side = refl }) (record { spread = refl; on_side = refl }) (inr (refl, omega arith))

-- units and links
unit_is : (c : ℕ) → c < 2 → IsUnitOf parallel_plan (slice_index_or (0 ∷ 1 ∷ []) c 0) c
unit_is =
    below2 (λ c. IsUnitOf parallel_plan (slice_index_or (0 ∷ 1 ∷ []) c 0) c)
    (record { in_range = omega arith; child = refl; alone = below2 (λ u. (unit_at parallel_plan.layered.units u).child ≡ Some 0 → u ≡ 0) (λ e. refl) (λ e. let bad : Some 1 ≡ Some 0 = e in absurd cc); layer_is = refl })
    (record { in_range = omega arith; child = refl; alone = below2 (λ u. (unit_at parallel_plan.layered.units u).child ≡ Some 1 → u ≡ 1) (λ e. let bad : Some 0 ≡ Some 1 = e in absurd cc) (λ e. refl); layer_is = refl })

chain_is : (e : ℕ) → e < 2 → HasChain parallel parallel_plan e
chain_is =
    below2 (λ e. HasChain parallel parallel_plan e)
    (record { long = refl; some = omega arith; from = refl; to = refl; joined = λ i h. absurd (omega (arith, h)); lanes = λ i h. absurd (omega (arith, h)) })
    (record { long = refl; some = omega arith; from = refl; to = refl; joined = λ i h. absurd (omega (arith, h)); lanes = λ i h. absurd (omega (arith, h)) })

linked_is : AreLinked parallel parallel_plan (0 ∷ 1 ∷ [])
linked_is =
    record {
      children = unit_is;
      units = below2 (λ u. (IsLaneUnit parallel_plan u) ⊎ ((c : ℕ) × (c < 2) × (u ≡ unit_of parallel_plan c))) (inr (0, omega arith, refl)) (inr (1, omega arith, refl));
      chains = λ e h loop. chain_is e h;
      links = below2 (λ k. IsLinkOf parallel parallel_plan k) (record { edge_in = omega arith; no_loop = refl }) (record { edge_in = omega arith; no_loop = refl });
    }

units_are : AreUnits parallel parallel_plan parallel_orders (0 ∷ 1 ∷ [])
units_are =
    record {
      orders = orders_are;
      linked = linked_is;
      rooms = below2 (λ c. HasRoom parallel parallel_plan parallel_orders c) (record { height = refl; top = refl; body = refl; north = refl; south = refl }) (record { height = refl; top = refl; body = refl; north = refl; south = refl });
      pins = below2 (λ k. HasPins parallel parallel_plan parallel_orders k) (record { tail_at = refl; head_at = refl; tail_rank_is = refl; head_rank_is = refl }) (record { tail_at = refl; head_at = refl; tail_rank_is = refl; head_rank_is = refl });
      node_node = refl;
      edge_node = refl;
      edge_edge = refl;
    }

table_is : IsTable parallel parallel_plan parallel_orders parallel_table
table_is =
    record {
      child_count = refl;
      end_count = refl;
      loop_count = refl;
      children = below2 (λ c. IsChildAt parallel parallel_plan parallel_orders c (child_in parallel_table.children c))
          (record { unit = refl; outline_is = refl; as_many = refl; ports = λ k h. absurd (omega (arith, h)); north = refl; south = refl })
          (record { unit = refl; outline_is = refl; as_many = refl; ports = λ k h. absurd (omega (arith, h)); north = refl; south = refl });
      sources = below2 (λ e. IsEndAt parallel parallel_plan parallel_orders (end_at e true) (end_in parallel_table.ends (2 * e)))
          (record { dock = refl; anchor = refl; lane = λ h. let bad : false ≡ true = h in absurd cc })
          (record { dock = refl; anchor = refl; lane = λ h. let bad : false ≡ true = h in absurd cc });
      targets = below2 (λ e. IsEndAt parallel parallel_plan parallel_orders (end_at e false) (end_in parallel_table.ends (2 * e + 1)))
          (record { dock = refl; anchor = refl; lane = λ h. let bad : false ≡ true = h in absurd cc })
          (record { dock = refl; anchor = refl; lane = λ h. let bad : false ≡ true = h in absurd cc });
      loops = below2 (λ e. is_loop parallel e ≡ true → IsLoopAt parallel parallel_plan parallel_orders e (loop_in parallel_table.loops e))
          (λ h. let bad : false ≡ true = h in absurd cc) (λ h. let bad : false ≡ true = h in absurd cc);
    }

pub parallel_given : IsGiven parallel_parts
parallel_given =
    record {
      few_layers = omega arith;
      bottoms = below2 (λ u. (top_of parallel_plan.tops u +ℤ (unit_at parallel_plan.layered.units u).height) <ℤ pos (2 ^ 49)) (omega (arith, ints)) (omega (arith, ints));
      plan = record {
        rows = parallel_plan.rows;
        orders = parallel_orders;
        layers = 0 ∷ 1 ∷ [];
        planned = record {
          ready = record { level = level_is; units = units_are; sound = sound_is; rows = rows_are; apart = apart_is; layers_are = refl };
          table = table_is;
        };
      };
    }

-- parts that are those of the worked level
abbrev parts_from : PlainLevel → Plain → List ℤ → List ℕ → Table → Parts
parts_from l q tops reversed t = record { level = l; layered = q; tops = tops; reversed = reversed; table = t }

pub worked_parts : (P : Parts → Type 0) (l : PlainLevel) (q : Plain) (tops : List ℤ) (reversed : List ℕ) (t : Table) → l ≡ parallel → q ≡ parallel_plan.layered → tops ≡ pos 0 ∷ pos 0 ∷ [] → reversed ≡ [] → t ≡ parallel_table
    → P parallel_parts → P (record { level = l; layered = q; tops = tops; reversed = reversed; table = t })
worked_parts P l q tops reversed t el eq et er e h =
    subst (λ z. P (parts_from z q tops reversed t)) (sym el)
    (subst (λ z. P (parts_from parallel z tops reversed t)) (sym eq)
    (subst (λ z. P (parts_from parallel parallel_plan.layered z reversed t)) (sym et)
    (subst (λ z. P (parts_from parallel parallel_plan.layered (pos 0 ∷ pos 0 ∷ []) z t)) (sym er)
    (subst (λ z. P (parts_from parallel parallel_plan.layered (pos 0 ∷ pos 0 ∷ []) [] z)) (sym e) h))))
