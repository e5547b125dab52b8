use Rattle.level_nets.specs.Reach.{parts_in}
use Rattle.level_nets.proofs.RoutedLemmas.{nets_in_range}
use Rattle.level_nets.proofs.routing.fill_and_place.Goals as goal

pub place_gaps-requires-clause-nets : goal.place_gaps-requires-clause-nets
place_gaps-requires-clause-nets c = nets_in_range (parts_in c.args.sheet.now) c.fill_gaps.new.gaps c.requires.given c.in_ok-places.ensures.held
