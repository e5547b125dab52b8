use Rattle.std.proofs.Common.{◌≡◌}
use Rattle.level_nets.specs.Reach.{parts_in}
use Rattle.level_nets.specs.Read.{left_of}
use Rattle.level_nets.specs.Held.{plain_gaps}
use Rattle.level_nets.specs.Placed.{HaveBorders, counts_of}
use Rattle.level_nets.proofs.borders.place_gaps.Given as goal

abbrev pub invariant-gaps : goal.invariant-gaps
invariant-gaps l =
    record {
      placed : HaveBorders (parts_in l.sheet) l.number (plain_gaps l.initial.gaps) (plain_gaps l.gaps);
      left_is : l.left ≡ left_of (parts_in l.sheet) (counts_of (plain_gaps l.gaps)) l.number;
    }
