use Rattle.std.proofs.Common.{◌≡◌}
use Rattle.box_pack.specs.Walk.{before, measured_to, next_to}
use Rattle.box_pack.proofs.walk.measure.Given as goal

abbrev pub invariant-loop-size : goal.invariant-loop-size
invariant-loop-size l = record {
  at : l.cursor ≡ before l.sizes l.page l.size-index;
  extent : l.measured.extent ≡ (measured_to l.sizes l.page l.size-index).extent;
  next : l.measured.next ≡ next_to l.sizes l.page l.size-index;
}
