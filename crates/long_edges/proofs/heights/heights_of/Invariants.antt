use Rattle.std.proofs.Common.{◌≡◌, vec_len}
use Rattle.long_edges.specs.Layers.{AreHeightsTo}
use Rattle.long_edges.proofs.heights.heights_of.Given as goal

abbrev pub invariant-loop-at : goal.invariant-loop-at
invariant-loop-at l =
    record {
      count : vec_len l.heights ≡ l.at;
      so_far : AreHeightsTo l.arena l.layer l.heights.items;
    }
