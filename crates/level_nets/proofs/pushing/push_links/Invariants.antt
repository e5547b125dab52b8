use Rattle.std.proofs.Common.{◌≡◌, ◌+◌, length}
use Rattle.level_nets.specs.Reach.{parts_in}
use Rattle.level_nets.specs.Read.{HoldNets, link_names}
use Rattle.level_nets.specs.Held.{plain_gaps, AreLinkLegs}
use Rattle.level_nets.proofs.pushing.push_links.Given as goal

abbrev pub invariant-links : goal.invariant-links
invariant-links l =
    record {
      long : length l.gaps ≡ l.sheet.layered.now.layers + 1;
      held : HoldNets (parts_in l.sheet) (link_names l.link) (plain_gaps l.gaps);
      legs : AreLinkLegs (parts_in l.sheet) l.link l.legs.items;
    }
