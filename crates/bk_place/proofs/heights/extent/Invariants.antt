use Rattle.std.proofs.Common.{◌≡◌, pos, ◌≤ℤ◌, drop}
use Rattle.std.specs.Int.{int_max}
use Rattle.elk_layers.specs.Layered.{plain}
use Rattle.elk_layers.specs.Lines.{extent_from}
use Rattle.bk_place.proofs.heights.extent.Given as goal

abbrev pub invariant-loop-u : goal.invariant-loop-u
invariant-loop-u l =
    (pos 0 ≤ℤ l.height)
    × (l.height ≤ℤ pos 1152921504606846976)
    × (int_max l.height (extent_from (drop l.u (plain l.layered).units) (drop l.u l.fn.lines.top.items)) ≡ extent_from (plain l.layered).units l.fn.lines.top.items)
