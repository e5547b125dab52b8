-- The level of two children is what a table asks for.
use Rattle.std.proofs.Common.{◌≡◌, ◌≢◌, ◌⊎◌, ℕ, ◌<◌, ◌==◌, pos, ◌≤ℤ◌, List, [], ◌∷◌, length, get_or, true, Some, IsFalse, refl, sym, subst, inr, arith}
use Rattle.std.proofs.lemmas.Int.{ints}
use Rattle.std.proofs.lemmas.List.Sums.{count_by-le-length}
use Rattle.elk_layers.specs.declared.units.Unit.{Unit as LayerUnit}
use Rattle.elk_layers.specs.Layered.{AreRows, HasBodyWithin, HasUnit, IsSound, Plain, IsSoundLink, is_child, is_lane, layer_of, link_at, row_at, unit_at}
use Rattle.port_order.specs.Conditions.{IsChildPort, IsSmall}
use Rattle.level_model.specs.Conditions.{IsLevel, IsLevelChild, IsLevelEdge, IsNearPort}
use Rattle.level_model.specs.Level.{PlainLevel, PlainPlan, child_at, is_loop}
use Rattle.level_model.specs.Units.{AreLinked, HasChain, IsLaneUnit, IsLinkOf, IsUnitOf}
use Rattle.level_model.specs.Nets.{unit_of}
use Rattle.dock_table.specs.Examples.{west, west_layers, west_plan}
use Rattle.drawing_types.proofs.SmallNumbers.{below1, below2}

box_small : IsSmall (child_at west 0).size
box_small = record { width = record { above = omega (arith, ints); below = omega (arith, ints) }; height = record { above = omega (arith, ints); below = omega (arith, ints) } }

first_port : IsChildPort (child_at west 0) 0
first_port =
    record {
      size = record { width = record { above = omega (arith, ints); below = omega (arith, ints) }; height = record { above = omega (arith, ints); below = omega (arith, ints) } };
      place = record { x = record { above = omega (arith, ints); below = omega (arith, ints) }; y = record { above = omega (arith, ints); below = omega (arith, ints) } };
      half = record { above = omega (arith, ints); below = omega (arith, ints) };
      outside = λ leaf fixed. absurd cc;
    }

first_near : IsNearPort (child_at west 0) 0
first_near =
    record {
      leaf_x = λ leaf. record { above = omega (arith, ints); below = omega (arith, ints) };
      leaf_y = λ leaf. record { above = omega (arith, ints); below = omega (arith, ints) };
      pinned = λ bad. absurd cc;
    }

first_child : IsLevelChild (child_at west 0)
first_child =
    record {
      sound = record { size = box_small; ports = below1 (IsChildPort (child_at west 0)) first_port };
      near = below1 (IsNearPort (child_at west 0)) first_near;
    }

second_child : IsLevelChild (child_at west 1)
second_child = record { sound = record { size = box_small; ports = λ k h. absurd (omega (arith, h)) }; near = λ k h. absurd (omega (arith, h)) }

pub west_level : IsLevel west
west_level =
    record {
      few_children = omega arith;
      few_ports = omega arith;
      few_edges = omega arith;
      children = below2 (λ c. IsLevelChild (child_at west c)) first_child second_child;
      edges = below1 (IsLevelEdge west) (record {
        source = record { child = omega arith; port = omega arith };
        target = record { child = omega arith; port = tt };
        weight_above = omega arith;
        weight_below = omega arith;
      });
      spacing = record {
        node_node = record { above = omega (arith, ints); below = omega (arith, ints) };
        edge_node = record { above = omega (arith, ints); below = omega (arith, ints) };
        edge_edge = record { above = omega (arith, ints); below = omega (arith, ints) };
        node_layers = record { above = omega (arith, ints); below = omega (arith, ints) };
        edge_node_layers = record { above = omega (arith, ints); below = omega (arith, ints) };
        edge_edge_layers = record { above = omega (arith, ints); below = omega (arith, ints) };
      };
      widths = omega (arith, ints);
      heights = omega (arith, ints);
    }

body : (u : ℕ) → u < 2 → HasBodyWithin (unit_at west_plan.layered.units u)
body =
    below2 (λ u. HasBodyWithin (unit_at west_plan.layered.units u))
    (record { top = omega (arith, ints); height = omega (arith, ints); bottom = omega (arith, ints) })
    (record { top = omega (arith, ints); height = omega (arith, ints); bottom = omega (arith, ints) })

pub west_sound : IsSound west_plan.layered
west_sound =
    record {
      node_node_is = record { low = omega (arith, ints); high = omega (arith, ints) };
      edge_node_is = record { low = omega (arith, ints); high = omega (arith, ints) };
      edge_edge_is = record { low = omega (arith, ints); high = omega (arith, ints) };
      few_units = omega arith;
      few_links = omega arith;
      layers_are = below2 (λ u. layer_of west_plan.layered u < 2) (omega arith) (omega arith);
      few_in_layer = λ g. omega (arith, count_by-le-length (λ (u : LayerUnit). u.layer == g) west_plan.layered.units);
      links_are = below1 (λ k. IsSoundLink west_plan.layered (link_at west_plan.layered.links k))
          (record { tail = omega arith; head = omega arith; next_layer = refl; tail_rank = omega arith; head_rank = omega arith; tail_at = (omega (arith, ints), omega (arith, ints)); head_at = (omega (arith, ints), omega (arith, ints)) });
      heights = below2 (λ u. pos 0 ≤ℤ (unit_at west_plan.layered.units u).height) (omega (arith, ints)) (omega (arith, ints));
      together = omega (arith, ints);
      lanes_are_flat = below2 (λ u. is_lane west_plan.layered u ≡ true → (unit_at west_plan.layered.units u).height ≡ pos 0) (λ bad. absurd cc) (λ bad. absurd cc);
      bodies = below2 (λ u. is_child west_plan.layered u ≡ true → HasBodyWithin (unit_at west_plan.layered.units u)) (λ t. body 0 (omega arith)) (λ t. body 1 (omega arith));
    }

pub west_rows : AreRows west_plan.layered west_plan.rows
west_rows =
    record {
      as_many = refl;
      in_range = below2 (λ r. (i : ℕ) → i < length (row_at west_plan.rows r) → get_or (row_at west_plan.rows r) i 0 < 2) (below1 (λ i. get_or (0 ∷ []) i 0 < 2) (omega arith)) (below1 (λ i. get_or (1 ∷ []) i 0 < 2) (omega arith));
      in_layer = below2 (λ r. (i : ℕ) → i < length (row_at west_plan.rows r) → layer_of west_plan.layered (get_or (row_at west_plan.rows r) i 0) ≡ r)
          (below1 (λ i. layer_of west_plan.layered (get_or (0 ∷ []) i 0) ≡ 0) refl)
          (below1 (λ i. layer_of west_plan.layered (get_or (1 ∷ []) i 0) ≡ 1) refl);
      complete = below2 (λ u. HasUnit (row_at west_plan.rows (layer_of west_plan.layered u)) u) (record { place = 0; within = omega arith; unit_is = refl }) (record { place = 0; within = omega arith; unit_is = refl });
      once = below2 (λ r. (i j : ℕ) → i < j → j < length (row_at west_plan.rows r) → get_or (row_at west_plan.rows r) i 0 ≢ get_or (row_at west_plan.rows r) j 0)
          (λ i j less h. absurd (omega (arith, less, h)))
          (λ i j less h. absurd (omega (arith, less, h)));
    }

pub west_linked : AreLinked west west_plan west_layers
west_linked =
    record {
      children = below2 (λ c. IsUnitOf west_plan (get_or west_layers c 0) c)
          (record { in_range = omega arith; child = refl; alone = below2 (λ u. (unit_at west_plan.layered.units u).child ≡ Some 0 → u ≡ 0) (λ e. refl) (λ bad. absurd cc); layer_is = refl })
          (record { in_range = omega arith; child = refl; alone = below2 (λ u. (unit_at west_plan.layered.units u).child ≡ Some 1 → u ≡ 1) (λ bad. absurd cc) (λ e. refl); layer_is = refl });
      units = below2 (λ u. (IsLaneUnit west_plan u) ⊎ ((c : ℕ) × (c < 2) × (u ≡ unit_of west_plan c))) (inr (0, omega arith, refl)) (inr (1, omega arith, refl));
      chains = below1 (λ e. IsFalse (is_loop west e) → HasChain west west_plan e)
          (λ no_loop. record { long = refl; some = omega arith; from = refl; to = refl; joined = λ i h. absurd (omega (arith, h)); lanes = λ i h. absurd (omega (arith, h)) });
      links = below1 (IsLinkOf west west_plan) (record { edge_in = omega arith; no_loop = refl });
    }

-- a level, a layered drawing and rows that are these
pub level_is : (l : PlainLevel) → l ≡ west → IsLevel l
level_is l e = subst IsLevel (sym e) west_level

pub sound_is : (x : Plain) → x ≡ west_plan.layered → IsSound x
sound_is x e = subst IsSound (sym e) west_sound

pub rows_are : (x : Plain) (rows : List (List ℕ)) → x ≡ west_plan.layered → rows ≡ west_plan.rows → AreRows x rows
rows_are x rows e f = subst (λ ys. AreRows x ys) (sym f) (subst (λ y. AreRows y west_plan.rows) (sym e) west_rows)

-- the plan of a layered drawing and rows, before tops are known
abbrev plan_of : ℕ → Plain → List (List ℕ) → PlainPlan
plan_of layers x rows = record { layers = layers; layered = x; rows = rows; tops = []; reversed = [] }

pub linked_is : (l : PlainLevel) (x : Plain) (rows : List (List ℕ)) → l ≡ west → x ≡ west_plan.layered → rows ≡ west_plan.rows → (layers : List ℕ) × AreLinked l (plan_of x.layers x rows) layers
linked_is l x rows el ex er =
    subst (λ k. (layers : List ℕ) × AreLinked k (plan_of x.layers x rows) layers) (sym el)
    (subst (λ y. (layers : List ℕ) × AreLinked west (plan_of y.layers y rows) layers) (sym ex)
    (subst (λ rs. (layers : List ℕ) × AreLinked west (plan_of 2 west_plan.layered rs) layers) (sym er) (west_layers, west_linked)))
