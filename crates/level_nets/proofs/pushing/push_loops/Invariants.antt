use Rattle.std.proofs.Common.{◌≡◌, ◌+◌, length}
use Rattle.level_nets.specs.Reach.{parts_in}
use Rattle.level_nets.specs.Read.{HoldNets}
use Rattle.level_nets.specs.Held.{plain_gaps, AreLoopLegs, behind_loops}
use Rattle.level_nets.proofs.pushing.push_loops.Given as goal

abbrev pub invariant-edges : goal.invariant-edges
invariant-edges l =
    record {
      long : length l.gaps ≡ l.sheet.layered.now.layers + 1;
      held : HoldNets (parts_in l.sheet) (behind_loops (parts_in l.sheet) l.edge) (plain_gaps l.gaps);
      legs : AreLoopLegs (parts_in l.sheet) l.edge l.legs.items;
    }
