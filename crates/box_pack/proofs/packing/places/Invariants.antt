use Rattle.std.proofs.Common.{◌≡◌, length}
use Rattle.box_pack.specs.Walk.{before, AreSpots}
use Rattle.box_pack.proofs.packing.places.Given as goal

abbrev pub invariant-loop-size : goal.invariant-loop-size
invariant-loop-size l = record {
  at : l.cursor ≡ before l.sizes l.page l.size-index;
  count : length l.at.items ≡ l.size-index;
  spots : AreSpots l.sizes l.page l.size-index l.at.items;
}
