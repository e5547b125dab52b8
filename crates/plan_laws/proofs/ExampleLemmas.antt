-- The example of three children meets what is asked of a level and its plan.
use Rattle.std.proofs.Common.{◌≡◌, ◌≢◌, ◌⊎◌, inl, inr, ℕ, zero, suc, ◌+◌, ◌<◌, ◌≤◌, true, pos, ◌≤ℤ◌, List, [], ◌∷◌, length, eqb, refl, sym, ◌∙◌, arith}
use Rattle.std.proofs.lemmas.Int.{ints}
use Rattle.std.proofs.lemmas.List.Sums.{count_by-le-length}
use Rattle.std.specs.Prelude.{slice_index, Some}
use Rattle.std.specs.List.{filter, count_by}
use Rattle.drawing_types.specs.declared.shape.Side.{Side}
use Rattle.drawing_types.specs.declared.shape.Side.TheVariants.{North, East, South, West}
use Rattle.elk_doc.specs.declared.document.PortRule.TheVariants.{Free}
use Rattle.elk_doc.specs.Sound.{IsSoundSpacing}
use Rattle.port_order.specs.declared.children.Child.{Child}
use Rattle.port_order.specs.declared.spots.Spot.{Spot}
use Rattle.port_order.specs.Child.{spot_at}
use Rattle.port_order.specs.Sides.{side_of}
use Rattle.port_order.specs.Places.{HoldsOnce}
use Rattle.port_order.specs.Order.{IsSpreadOn, IsOrderOfSide, ComesFirst}
use Rattle.elk_layers.specs.declared.units.Unit.{Unit as LayerUnit}
use Rattle.elk_layers.specs.Layered.{IsSound, AreRows, HasUnit, HasBodyWithin, IsSoundLink, link_at, unit_at, layer_of, row_at, is_child, is_lane}
use Rattle.elk_layers.specs.Lines.{AreApart, Keeps, room, body_room, top_of}
use Rattle.level_model.specs.Level.{child_at, spots}
use Rattle.level_model.specs.Nets.{unit_of}
use Rattle.level_model.specs.Units.{AreOrders, AreLinked, AreUnits, IsUnitOf, IsLaneUnit, IsLinkOf, HasChain, chain_at, HasPins, HasRoom}
use Rattle.level_model.specs.Conditions.{IsLevel, IsLevelChild, IsLevelEdge}
use Rattle.level_model.specs.Examples.{spacing, square}
use Rattle.level_model.specs.Ready.{IsReady}
use Rattle.plan_laws.specs.Chained.{chained, chained_plan, chained_orders, child_unit}
use Rattle.drawing_types.proofs.SmallNumbers.{below1, below2, below3}

pub below4 : (P : ℕ → Type 0) → P 0 → P 1 → P 2 → P 3 → (k : ℕ) → k < 4 → P k
below4 P a b c d zero h = a
below4 P a b c d (suc zero) h = b
below4 P a b c d (suc (suc zero)) h = c
below4 P a b c d (suc (suc (suc zero))) h = d
below4 P a b c d (suc (suc (suc (suc k)))) h = absurd (omega (arith, h))

-- orders of no spot, of one and of two
no_order : (c : Child) (side : Side) (ss : List Spot) → ((k : ℕ) → k < length ss → side_of c (spot_at ss k) ≡ side → ⊥) → IsOrderOfSide c side ss []
no_order c side ss none =
    record { spread = λ i h. absurd (omega (arith, h)); once = λ k h on. absurd (none k h on.on_side); sorted = λ i j k l less h. absurd (omega (arith, h)) }

held_alone : (n : ℕ) → HoldsOnce (n ∷ []) n
held_alone n = record { place = 0; inside = omega arith; there = refl; alone = below1 (λ j. slice_index (n ∷ []) j ≡ n → j ≡ 0) (λ e. refl) }

one_order : (c : Child) (side : Side) (ss : List Spot) (m : ℕ) → m < length ss → IsSpreadOn c side (spot_at ss m) → ((k : ℕ) → k < length ss → side_of c (spot_at ss k) ≡ side → k ≡ m)
    → IsOrderOfSide c side ss ((spot_at ss m).number ∷ [])
one_order c side ss m there on alone =
    record {
      spread = below1 (λ i. (k : ℕ) × (k < length ss) × ((spot_at ss k).number ≡ slice_index ((spot_at ss m).number ∷ []) i) × IsSpreadOn c side (spot_at ss k)) (m, there, refl, on);
      once = λ k h also. rw (alone k h also.on_side) (held_alone (spot_at ss m).number);
      sorted = λ i j k l less h. absurd (omega (arith, less, h));
    }

first_of_two : HoldsOnce (0 ∷ 1 ∷ []) 0
first_of_two = record { place = 0; inside = omega arith; there = refl; alone = below2 (λ j. slice_index (0 ∷ 1 ∷ []) j ≡ 0 → j ≡ 0) (λ e. refl) (λ e. absurd (omega (arith, e))) }

second_of_two : HoldsOnce (0 ∷ 1 ∷ []) 1
second_of_two = record { place = 1; inside = omega arith; there = refl; alone = below2 (λ j. slice_index (0 ∷ 1 ∷ []) j ≡ 1 → j ≡ 1) (λ e. absurd (omega (arith, e))) (λ e. refl) }

two_order : (c : Child) (side : Side) (ss : List Spot) → length ss ≡ 2 → (spot_at ss 0).number ≡ 0 → (spot_at ss 1).number ≡ 1 → IsSpreadOn c side (spot_at ss 0) → IsSpreadOn c side (spot_at ss 1)
    → ComesFirst c.rule c side (spot_at ss 0) (spot_at ss 1) → IsOrderOfSide c side ss (0 ∷ 1 ∷ [])
two_order c side ss many n0 n1 on0 on1 first =
    record {
      spread = below2 (λ i. (k : ℕ) × (k < length ss) × ((spot_at ss k).number ≡ slice_index (0 ∷ 1 ∷ []) i) × IsSpreadOn c side (spot_at ss k)) (0, omega (arith, many), n0, on0) (1, omega (arith, many), n1, on1);
      once = λ k h on. below2 (λ j. HoldsOnce (0 ∷ 1 ∷ []) (spot_at ss j).number) (rw n0 first_of_two) (rw n1 second_of_two) k (omega (arith, h, many));
      sorted = sorted;
    }
  where
    sorted : (i j k l : ℕ) → i < j → j < 2 → k < length ss → l < length ss → (spot_at ss k).number ≡ slice_index (0 ∷ 1 ∷ []) i → (spot_at ss l).number ≡ slice_index (0 ∷ 1 ∷ []) j → ComesFirst c.rule c side (spot_at ss k) (spot_at ss l)
    sorted zero (suc zero) k l less h hk hl ek el = rw (at_first k (omega (arith, hk, many)) ek, at_second l (omega (arith, hl, many)) el) first
      where
        at_first : (k : ℕ) → k < 2 → (spot_at ss k).number ≡ 0 → k ≡ 0
        at_first = below2 (λ k. (spot_at ss k).number ≡ 0 → k ≡ 0) (λ e. refl) (λ e. absurd (let bad : 1 ≡ 0 = sym n1 ∙ e in cc))

        at_second : (k : ℕ) → k < 2 → (spot_at ss k).number ≡ 1 → k ≡ 1
        at_second = below2 (λ k. (spot_at ss k).number ≡ 1 → k ≡ 1) (λ e. absurd (let bad : 0 ≡ 1 = sym n0 ∙ e in cc)) (λ e. refl)
    sorted zero zero k l less h hk hl ek el = absurd (omega (arith, less))
    sorted zero (suc (suc j)) k l less h hk hl ek el = absurd (omega (arith, h))
    sorted (suc i) zero k l less h hk hl ek el = absurd (omega (arith, less))
    sorted (suc i) (suc j) k l less h hk hl ek el = absurd (omega (arith, less, h))

orders : AreOrders chained chained_plan chained_orders
orders zero North h = no_order _ _ _ (below2 (λ k. side_of (square [] Free) (spot_at (spots chained chained_plan 0) k) ≡ North → ⊥) (λ e. absurd cc) (λ e. absurd cc))
orders zero East h = two_order _ _ _ refl refl refl (record { spread = refl; on_side = refl }) (record { spread = refl; on_side = refl }) (inl (omega arith))
orders zero South h = no_order _ _ _ (below2 (λ k. side_of (square [] Free) (spot_at (spots chained chained_plan 0) k) ≡ South → ⊥) (λ e. absurd cc) (λ e. absurd cc))
orders zero West h = no_order _ _ _ (below2 (λ k. side_of (square [] Free) (spot_at (spots chained chained_plan 0) k) ≡ West → ⊥) (λ e. absurd cc) (λ e. absurd cc))
orders (suc zero) North h = no_order _ _ _ (below2 (λ k. side_of (square [] Free) (spot_at (spots chained chained_plan 1) k) ≡ North → ⊥) (λ e. absurd cc) (λ e. absurd cc))
orders (suc zero) East h = one_order _ _ (spots chained chained_plan 1) 1 (omega arith) (record { spread = refl; on_side = refl }) (below2 (λ k. side_of (square [] Free) (spot_at (spots chained chained_plan 1) k) ≡ East → k ≡ 1) (λ e. absurd cc) (λ e. refl))
orders (suc zero) South h = no_order _ _ _ (below2 (λ k. side_of (square [] Free) (spot_at (spots chained chained_plan 1) k) ≡ South → ⊥) (λ e. absurd cc) (λ e. absurd cc))
orders (suc zero) West h = one_order _ _ (spots chained chained_plan 1) 0 (omega arith) (record { spread = refl; on_side = refl }) (below2 (λ k. side_of (square [] Free) (spot_at (spots chained chained_plan 1) k) ≡ West → k ≡ 0) (λ e. refl) (λ e. absurd cc))
orders (suc (suc zero)) North h = no_order _ _ _ (below2 (λ k. side_of (square [] Free) (spot_at (spots chained chained_plan 2) k) ≡ North → ⊥) (λ e. absurd cc) (λ e. absurd cc))
orders (suc (suc zero)) East h = no_order _ _ _ (below2 (λ k. side_of (square [] Free) (spot_at (spots chained chained_plan 2) k) ≡ East → ⊥) (λ e. absurd cc) (λ e. absurd cc))
orders (suc (suc zero)) South h = no_order _ _ _ (below2 (λ k. side_of (square [] Free) (spot_at (spots chained chained_plan 2) k) ≡ South → ⊥) (λ e. absurd cc) (λ e. absurd cc))
orders (suc (suc zero)) West h = two_order _ _ _ refl refl refl (record { spread = refl; on_side = refl }) (record { spread = refl; on_side = refl }) (inl (omega arith))
orders (suc (suc (suc c))) side h = absurd (omega (arith, h))

-- the level
a_child : IsLevelChild (square [] Free)
a_child =
    record {
      sound = record {
        size = record { width = record { above = omega (arith, ints); below = omega (arith, ints) }; height = record { above = omega (arith, ints); below = omega (arith, ints) } };
        ports = λ k h. absurd (omega (arith, h));
      };
      near = λ k h. absurd (omega (arith, h));
    }

distances : IsSoundSpacing spacing
distances = omega (arith, ints)

an_edge : (e : ℕ) → e < 3 → IsLevelEdge chained e
an_edge =
    below3 (IsLevelEdge chained)
    (record { source = record { child = omega arith; port = tt }; target = record { child = omega arith; port = tt }; weight_above = omega arith; weight_below = omega arith })
    (record { source = record { child = omega arith; port = tt }; target = record { child = omega arith; port = tt }; weight_above = omega arith; weight_below = omega arith })
    (record { source = record { child = omega arith; port = tt }; target = record { child = omega arith; port = tt }; weight_above = omega arith; weight_below = omega arith })

level : IsLevel chained
level =
    record {
      few_children = omega arith;
      few_ports = omega arith;
      few_edges = omega arith;
      children = below3 (λ c. IsLevelChild (child_at chained c)) a_child a_child a_child;
      edges = an_edge;
      spacing = distances;
      widths = omega (arith, ints);
      heights = omega (arith, ints);
    }

-- its units and links
units_of : (c : ℕ) → c < 3 → IsUnitOf chained_plan c c
units_of =
    below3 (λ c. IsUnitOf chained_plan c c)
    (record { in_range = omega arith; child = refl; alone = below4 (λ u. (unit_at chained_plan.layered.units u).child ≡ Some 0 → u ≡ 0) (λ e. refl) (λ e. absurd cc) (λ e. absurd cc) (λ e. absurd cc); layer_is = refl })
    (record { in_range = omega arith; child = refl; alone = below4 (λ u. (unit_at chained_plan.layered.units u).child ≡ Some 1 → u ≡ 1) (λ e. absurd cc) (λ e. refl) (λ e. absurd cc) (λ e. absurd cc); layer_is = refl })
    (record { in_range = omega arith; child = refl; alone = below4 (λ u. (unit_at chained_plan.layered.units u).child ≡ Some 2 → u ≡ 2) (λ e. absurd cc) (λ e. absurd cc) (λ e. refl) (λ e. absurd cc); layer_is = refl })

enters_lane : (j : ℕ) → j < 4 → (link_at chained_plan.layered.links j).head ≡ 3 → j ≡ 2
enters_lane = below4 (λ j. (link_at chained_plan.layered.links j).head ≡ 3 → j ≡ 2) (λ e. absurd cc) (λ e. absurd cc) (λ e. refl) (λ e. absurd cc)

lane : IsLaneUnit chained_plan 3
lane = record { no_child = refl; flat = refl; entered = (2, omega arith, refl); once = λ j k hj hk ej ek. enters_lane j hj ej ∙ sym (enters_lane k hk ek) }

no_more_links : (i : ℕ) → i + 1 < 1 → ⊥
no_more_links i h = absurd (omega (arith, h))

chains : (e : ℕ) → e < 3 → HasChain chained chained_plan e
chains =
    below3 (HasChain chained chained_plan)
    (record { long = refl; some = omega arith; from = refl; to = refl; joined = λ i h. absurd (no_more_links i h); lanes = λ i h. absurd (no_more_links i h) })
    (record { long = refl; some = omega arith; from = refl; to = refl; joined = λ i h. absurd (no_more_links i h); lanes = λ i h. absurd (no_more_links i h) })
    (record { long = refl; some = omega arith; from = refl; to = refl; joined = one_joint; lanes = one_lane })
  where
    one_joint : (i : ℕ) → i + 1 < 2 → (link_at chained_plan.layered.links (chain_at chained_plan 2 i)).head ≡ (link_at chained_plan.layered.links (chain_at chained_plan 2 (i + 1))).tail
    one_joint zero h = refl
    one_joint (suc i) h = absurd (omega (arith, h))

    one_lane : (i : ℕ) → i + 1 < 2 → IsLaneUnit chained_plan (link_at chained_plan.layered.links (chain_at chained_plan 2 i)).head
    one_lane zero h = lane
    one_lane (suc i) h = absurd (omega (arith, h))

linked : AreLinked chained chained_plan (0 ∷ 1 ∷ 2 ∷ [])
linked =
    record {
      children = below3 (λ c. IsUnitOf chained_plan (slice_index (0 ∷ 1 ∷ 2 ∷ []) c) c) (units_of 0 (omega arith)) (units_of 1 (omega arith)) (units_of 2 (omega arith));
      units = below4 (λ u. IsLaneUnit chained_plan u ⊎ ((c : ℕ) × (c < 3) × (u ≡ unit_of chained_plan c))) (inr (0, omega arith, refl)) (inr (1, omega arith, refl)) (inr (2, omega arith, refl)) (inl lane);
      chains = λ e h no_loop. chains e h;
      links = below4 (λ k. IsLinkOf chained chained_plan k) (record { edge_in = omega arith; no_loop = refl }) (record { edge_in = omega arith; no_loop = refl }) (record { edge_in = omega arith; no_loop = refl }) (record { edge_in = omega arith; no_loop = refl });
    }

rooms : (c : ℕ) → c < 3 → HasRoom chained chained_plan chained_orders c
rooms =
    below3 (HasRoom chained chained_plan chained_orders)
    (record { height = refl; top = refl; body = refl; north = refl; south = refl })
    (record { height = refl; top = refl; body = refl; north = refl; south = refl })
    (record { height = refl; top = refl; body = refl; north = refl; south = refl })

pins : (k : ℕ) → k < 4 → HasPins chained chained_plan chained_orders k
pins =
    below4 (HasPins chained chained_plan chained_orders)
    (record { tail_at = refl; head_at = refl; tail_rank_is = refl; head_rank_is = refl })
    (record { tail_at = refl; head_at = refl; tail_rank_is = refl; head_rank_is = refl })
    (record { tail_at = refl; head_at = refl; tail_rank_is = refl; head_rank_is = refl })
    (record { tail_at = refl; head_at = refl; tail_rank_is = refl; head_rank_is = refl })

units : AreUnits chained chained_plan chained_orders (0 ∷ 1 ∷ 2 ∷ [])
units = record { orders = orders; linked = linked; rooms = rooms; pins = pins; node_node = refl; edge_node = refl; edge_edge = refl }

-- the layered drawing, its rows and tops
a_link : (k : ℕ) → k < 4 → IsSoundLink chained_plan.layered (link_at chained_plan.layered.links k)
a_link =
    below4 (λ k. IsSoundLink chained_plan.layered (link_at chained_plan.layered.links k))
    (record { tail = omega arith; head = omega arith; next_layer = refl; tail_rank = omega arith; head_rank = omega arith; tail_at = (omega (arith, ints), omega (arith, ints)); head_at = (omega (arith, ints), omega (arith, ints)) })
    (record { tail = omega arith; head = omega arith; next_layer = refl; tail_rank = omega arith; head_rank = omega arith; tail_at = (omega (arith, ints), omega (arith, ints)); head_at = (omega (arith, ints), omega (arith, ints)) })
    (record { tail = omega arith; head = omega arith; next_layer = refl; tail_rank = omega arith; head_rank = omega arith; tail_at = (omega (arith, ints), omega (arith, ints)); head_at = (omega (arith, ints), omega (arith, ints)) })
    (record { tail = omega arith; head = omega arith; next_layer = refl; tail_rank = omega arith; head_rank = omega arith; tail_at = (omega (arith, ints), omega (arith, ints)); head_at = (omega (arith, ints), omega (arith, ints)) })

few : (g : ℕ) → count_by (λ (u : LayerUnit). eqb u.layer g) chained_plan.layered.units ≤ 4096
few g = let most = count_by-le-length (λ (u : LayerUnit). eqb u.layer g) chained_plan.layered.units in omega (arith, most)

sound : IsSound chained_plan.layered
sound =
    record {
      node_node_is = record { low = omega (arith, ints); high = omega (arith, ints) };
      edge_node_is = record { low = omega (arith, ints); high = omega (arith, ints) };
      edge_edge_is = record { low = omega (arith, ints); high = omega (arith, ints) };
      few_units = omega arith;
      few_links = omega arith;
      layers_are = below4 (λ u. (unit_at chained_plan.layered.units u).layer < 3) (omega arith) (omega arith) (omega arith) (omega arith);
      few_in_layer = few;
      links_are = a_link;
      heights = below4 (λ u. pos 0 ≤ℤ (unit_at chained_plan.layered.units u).height) (omega (arith, ints)) (omega (arith, ints)) (omega (arith, ints)) (omega (arith, ints));
      together = omega (arith, ints);
      lanes_are_flat = below4 (λ u. is_lane chained_plan.layered u ≡ true → (unit_at chained_plan.layered.units u).height ≡ pos 0) (λ e. absurd cc) (λ e. absurd cc) (λ e. absurd cc) (λ e. refl);
      bodies = below4 (λ u. is_child chained_plan.layered u ≡ true → HasBodyWithin (unit_at chained_plan.layered.units u)) (λ e. body 0) (λ e. body 1) (λ e. body 2) (λ e. absurd cc);
    }
  where
    body : (c : ℕ) → HasBodyWithin (child_unit c)
    body c = record { top = omega (arith, ints); height = omega (arith, ints); bottom = omega (arith, ints) }

rows : AreRows chained_plan.layered chained_plan.rows
rows =
    record {
      as_many = refl;
      in_range = below3 (λ r. (i : ℕ) → i < length (row_at chained_plan.rows r) → slice_index (row_at chained_plan.rows r) i < 4) (below1 (λ i. slice_index (0 ∷ []) i < 4) (omega arith)) (below2 (λ i. slice_index (1 ∷ 3 ∷ []) i < 4) (omega arith) (omega arith)) (below1 (λ i. slice_index (2 ∷ []) i < 4) (omega arith));
      in_layer = below3 (λ r. (i : ℕ) → i < length (row_at chained_plan.rows r) → layer_of chained_plan.layered (slice_index (row_at chained_plan.rows r) i) ≡ r) (below1 (λ i. layer_of chained_plan.layered (slice_index (0 ∷ []) i) ≡ 0) refl) (below2 (λ i. layer_of chained_plan.layered (slice_index (1 ∷ 3 ∷ []) i) ≡ 1) refl refl) (below1 (λ i. layer_of chained_plan.layered (slice_index (2 ∷ []) i) ≡ 2) refl);
      complete = below4 (λ u. HasUnit (row_at chained_plan.rows (layer_of chained_plan.layered u)) u) (record { place = 0; within = omega arith; unit_is = refl }) (record { place = 0; within = omega arith; unit_is = refl }) (record { place = 0; within = omega arith; unit_is = refl }) (record { place = 1; within = omega arith; unit_is = refl });
      once = below3 (λ r. (i j : ℕ) → i < j → j < length (row_at chained_plan.rows r) → slice_index (row_at chained_plan.rows r) i ≢ slice_index (row_at chained_plan.rows r) j) (λ i j less h. absurd (omega (arith, less, h))) two (λ i j less h. absurd (omega (arith, less, h)));
    }
  where
    two : (i j : ℕ) → i < j → j < 2 → slice_index (1 ∷ 3 ∷ []) i ≢ slice_index (1 ∷ 3 ∷ []) j
    two zero (suc zero) less h e = absurd (omega (arith, e))
    two zero zero less h e = absurd (omega (arith, less))
    two zero (suc (suc j)) less h e = absurd (omega (arith, h))
    two (suc i) zero less h e = absurd (omega (arith, less))
    two (suc i) (suc j) less h e = absurd (omega (arith, less, h))

apart : AreApart chained_plan.layered chained_plan.rows chained_plan.tops
apart =
    record {
      as_many = refl;
      from_zero = below4 (λ u. pos 0 ≤ℤ top_of chained_plan.tops u) (omega (arith, ints)) (omega (arith, ints)) (omega (arith, ints)) (omega (arith, ints));
      room = below3 (λ r. Keeps (room chained_plan.layered) chained_plan.tops (row_at chained_plan.rows r)) (λ i h. absurd (no_more_links i h)) two (λ i h. absurd (no_more_links i h));
      body_room = below3 (λ r. Keeps (body_room chained_plan.layered) chained_plan.tops (filter (is_child chained_plan.layered) (row_at chained_plan.rows r))) (λ i h. absurd (no_more_links i h)) (λ i h. absurd (no_more_links i h)) (λ i h. absurd (no_more_links i h));
    }
  where
    two : Keeps (room chained_plan.layered) chained_plan.tops (1 ∷ 3 ∷ [])
    two zero h = omega (arith, ints)
    two (suc i) h = absurd (omega (arith, h))

pub chained_ready : IsReady chained chained_plan chained_orders (0 ∷ 1 ∷ 2 ∷ [])
chained_ready = record { level = level; units = units; sound = sound; rows = rows; apart = apart; layers_are = refl }
