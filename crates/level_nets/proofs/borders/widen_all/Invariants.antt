use Rattle.std.proofs.Common.{◌≡◌, ◌+◌, length}
use Rattle.level_nets.specs.Reach.{parts_in}
use Rattle.level_nets.specs.Placed.{AreWidest}
use Rattle.level_nets.proofs.borders.widen_all.Given as goal

abbrev pub invariant-children : goal.invariant-children
invariant-children l =
    record {
      as_many : length l.widths ≡ l.sheet.layered.now.layers + 1;
      widest : AreWidest (parts_in l.sheet) l.done l.widths;
    }
