-- One unit with two links to two units is sound, and its rows are those of its layers.
use Rattle.std.proofs.Common.{◌≡◌, ◌≢◌, ℕ, zero, suc, ◌<◌, ◌==◌, pos, ◌≤ℤ◌, List, [], ◌∷◌, length, get_or, true, refl, sym, subst, arith}
use Rattle.std.proofs.lemmas.Int.{ints}
use Rattle.std.proofs.lemmas.List.Sums.{count_by-le-length}
use Rattle.elk_layers.specs.declared.units.Unit.{Unit as LayerUnit}
use Rattle.elk_layers.specs.Layered.{Plain, IsSound, IsSoundLink, AreRows, HasUnit, HasBodyWithin, unit_at, link_at, row_at, layer_of, is_lane, is_child}
use Rattle.elk_layers.specs.PlaceExamples.{box, forked, forked_rows}
use Rattle.drawing_types.proofs.SmallNumbers.{below2, below3}

body : (layer : ℕ) → HasBodyWithin (box layer)
body layer = record { top = omega (arith, ints); height = omega (arith, ints); bottom = omega (arith, ints) }

pub forked_sound : IsSound forked
forked_sound =
    record {
      node_node_is = record { low = omega (arith, ints); high = omega (arith, ints) };
      edge_node_is = record { low = omega (arith, ints); high = omega (arith, ints) };
      edge_edge_is = record { low = omega (arith, ints); high = omega (arith, ints) };
      few_units = omega arith;
      few_links = omega arith;
      layers_are = below3 (λ u. layer_of forked u < 2) (omega arith) (omega arith) (omega arith);
      few_in_layer = λ g. omega (arith, count_by-le-length (λ (u : LayerUnit). u.layer == g) forked.units);
      links_are = below2 (λ k. IsSoundLink forked (link_at forked.links k))
          (record { tail = omega arith; head = omega arith; next_layer = refl; tail_rank = omega arith; head_rank = omega arith; tail_at = (omega (arith, ints), omega (arith, ints)); head_at = (omega (arith, ints), omega (arith, ints)) })
          (record { tail = omega arith; head = omega arith; next_layer = refl; tail_rank = omega arith; head_rank = omega arith; tail_at = (omega (arith, ints), omega (arith, ints)); head_at = (omega (arith, ints), omega (arith, ints)) });
      heights = below3 (λ u. pos 0 ≤ℤ (unit_at forked.units u).height) (omega (arith, ints)) (omega (arith, ints)) (omega (arith, ints));
      together = omega (arith, ints);
      lanes_are_flat = below3 (λ u. is_lane forked u ≡ true → (unit_at forked.units u).height ≡ pos 0) (λ bad. absurd cc) (λ bad. absurd cc) (λ bad. absurd cc);
      bodies = below3 (λ u. is_child forked u ≡ true → HasBodyWithin (unit_at forked.units u)) (λ t. body 0) (λ t. body 1) (λ t. body 1);
    }

pub forked_are_rows : AreRows forked forked_rows
forked_are_rows =
    record {
      as_many = refl;
      in_range = below2 (λ r. (i : ℕ) → i < length (row_at forked_rows r) → get_or (row_at forked_rows r) i 0 < 3) (one (λ u. u < 3) 0 (omega arith)) (below2 (λ i. get_or (1 ∷ 2 ∷ []) i 0 < 3) (omega arith) (omega arith));
      in_layer = below2 (λ r. (i : ℕ) → i < length (row_at forked_rows r) → layer_of forked (get_or (row_at forked_rows r) i 0) ≡ r) (one (λ u. layer_of forked u ≡ 0) 0 refl) (below2 (λ i. layer_of forked (get_or (1 ∷ 2 ∷ []) i 0) ≡ 1) refl refl);
      complete = below3 (λ u. HasUnit (row_at forked_rows (layer_of forked u)) u)
          (record { place = 0; within = omega arith; unit_is = refl })
          (record { place = 0; within = omega arith; unit_is = refl })
          (record { place = 1; within = omega arith; unit_is = refl });
      once = below2 (λ r. (i j : ℕ) → i < j → j < length (row_at forked_rows r) → get_or (row_at forked_rows r) i 0 ≢ get_or (row_at forked_rows r) j 0)
          (λ i j less h. absurd (omega (arith, less, h)))
          two_apart;
    }
  where
    one : (P : ℕ → Type 0) (u : ℕ) → P u → (i : ℕ) → i < 1 → P (get_or (u ∷ []) i 0)
    one P u p zero h = p
    one P u p (suc i) h = absurd (omega (arith, h))

    two_apart : (i j : ℕ) → i < j → j < 2 → get_or (row_at forked_rows 1) i 0 ≢ get_or (row_at forked_rows 1) j 0
    two_apart zero zero less h = absurd (omega (arith, less))
    two_apart zero (suc zero) less h = omega arith
    two_apart zero (suc (suc j)) less h = absurd (omega (arith, h))
    two_apart (suc i) j less h = absurd (omega (arith, less, h))

-- a drawing and an order that are these
pub is_sound : (l : Plain) → l ≡ forked → IsSound l
is_sound l e = subst IsSound (sym e) forked_sound

pub are_rows : (l : Plain) (rows : List (List ℕ)) → l ≡ forked → rows ≡ forked_rows → AreRows l rows
are_rows l rows e f = subst (λ xs. AreRows l xs) (sym f) (subst (λ x. AreRows x forked_rows) (sym e) forked_are_rows)
