-- One unit with a link to a unit and two links to another is sound, and has the rows of the fork.
use Rattle.std.proofs.Common.{◌≡◌, refl, sym, subst, arith, List, ℕ}
use Rattle.std.proofs.lemmas.Int.{ints}
use Rattle.elk_layers.specs.Layered.{Plain, IsSound, IsSoundLink, AreRows, link_at}
use Rattle.elk_layers.specs.PlaceExamples.{forked_rows}
use Rattle.elk_layers.proofs.ForkLemmas.{forked_sound, forked_are_rows}
use Rattle.drawing_types.proofs.SmallNumbers.{below3}
use Rattle.phase_tests.specs.DoubledFork.{doubled}

sound : IsSound doubled
sound =
    record {
      node_node_is = forked_sound.node_node_is;
      edge_node_is = forked_sound.edge_node_is;
      edge_edge_is = forked_sound.edge_edge_is;
      few_units = forked_sound.few_units;
      few_links = omega arith;
      layers_are = forked_sound.layers_are;
      few_in_layer = forked_sound.few_in_layer;
      links_are = below3 (λ k. IsSoundLink doubled (link_at doubled.links k))
          (record { tail = omega arith; head = omega arith; next_layer = refl; tail_rank = omega arith; head_rank = omega arith; tail_at = (omega (arith, ints), omega (arith, ints)); head_at = (omega (arith, ints), omega (arith, ints)) })
          (record { tail = omega arith; head = omega arith; next_layer = refl; tail_rank = omega arith; head_rank = omega arith; tail_at = (omega (arith, ints), omega (arith, ints)); head_at = (omega (arith, ints), omega (arith, ints)) })
          (record { tail = omega arith; head = omega arith; next_layer = refl; tail_rank = omega arith; head_rank = omega arith; tail_at = (omega (arith, ints), omega (arith, ints)); head_at = (omega (arith, ints), omega (arith, ints)) });
      heights = forked_sound.heights;
      together = forked_sound.together;
      lanes_are_flat = forked_sound.lanes_are_flat;
      bodies = forked_sound.bodies;
    }

rows_are : AreRows doubled forked_rows
rows_are =
    record {
      as_many = forked_are_rows.as_many;
      in_range = forked_are_rows.in_range;
      in_layer = forked_are_rows.in_layer;
      complete = forked_are_rows.complete;
      once = forked_are_rows.once;
    }

-- a drawing and an order that are these
pub is_sound : (l : Plain) → l ≡ doubled → IsSound l
is_sound l e = subst IsSound (sym e) sound

pub are_rows : (l : Plain) (rows : List (List ℕ)) → l ≡ doubled → rows ≡ forked_rows → AreRows l rows
are_rows l rows e f = subst (λ xs. AreRows l xs) (sym f) (subst (λ x. AreRows x forked_rows) (sym e) rows_are)
