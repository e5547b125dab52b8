-- What the checks find gives what the calls ask.
use Rattle.std.proofs.Common.{◌≡◌, ℕ, suc, ◌*◌, ◌<◌, ◌≤◌, ◌^◌, not, pos, ◌≤ℤ◌, List, [], ◌∷◌, length, Bool, true, false, ◌==◌, arith, refl, sym, is_some}
use Rattle.std.proofs.lemmas.Int.{ints}
use Rattle.std.proofs.lemmas.List.Sums.{count_by-le-length}
use Rattle.elk_layers.specs.declared.units.Unit.{Unit as LayerUnit}
use Rattle.elk_layers.specs.Layered.{Plain, IsSound, AreRows, IsSpacing, IsFromZero, unit_at, total_height}
use Rattle.bk_place.specs.Checked.{AreGoodUnits, AreGoodLinks, AreGoodRows, AreFound}

total_small : (units : List LayerUnit) → ((i : ℕ) → i < length units → IsFromZero (unit_at units i).height (pos (2 ^ 20)))
    → total_height units ≤ℤ pos (length units * 2 ^ 20)
total_small [] h = omega (arith, ints)
total_small (u ∷ units) h =
    let a = (h 0 (omega arith)).1 in
    let b = total_small units (λ i k. h (suc i) (omega (arith, k))) in
    omega (arith, ints, a, b)

is_not : (b : Bool) → not b ≡ true → b ≡ false
is_not true p = sym p
is_not false p = refl

pub sound_from : (l : Plain) → IsSpacing l.node_node → IsSpacing l.edge_node → IsSpacing l.edge_edge → length l.units ≤ 4096 → length l.links ≤ 4096
    → AreGoodUnits l.layers l.units → AreGoodLinks l.units l.links → IsSound l
sound_from l node_node edge_node edge_edge units_few links_few units links =
    record {
      node_node_is = node_node;
      edge_node_is = edge_node;
      edge_edge_is = edge_edge;
      few_units = omega (arith, units_few);
      few_links = omega (arith, links_few);
      layers_are = λ u h. (units u h).layer;
      few_in_layer = λ g. let c = count_by-le-length (λ (u : LayerUnit). u.layer == g) l.units in omega (arith, c, units_few);
      links_are = λ k h. let a = links k h in
          record { tail = a.tail; head = a.head; next_layer = a.next_layer; tail_rank = a.tail_rank; head_rank = a.head_rank; tail_at = a.tail_at; head_at = a.head_at };
      heights = λ u h. (units u h).height.0;
      together = let t = total_small l.units (λ i h. (units i h).height) in omega (arith, ints, t, units_few);
      lanes_are_flat = λ u h lane. (units u h).flat (is_not (is_some (unit_at l.units u).child) lane);
      bodies = λ u h child. (units u h).body child;
    }

pub rows_from : (l : Plain) (rows : List (List ℕ)) → length rows ≡ l.layers → AreGoodRows l.units rows → AreFound l.units rows → AreRows l rows
rows_from l rows as_many good found =
    record {
      as_many = as_many;
      in_range = λ r h j k. (good r h j k).in_range;
      in_layer = λ r h j k. (good r h j k).in_layer;
      complete = found;
      once = λ r h i j less k. (good r h j k).new i less;
    }
