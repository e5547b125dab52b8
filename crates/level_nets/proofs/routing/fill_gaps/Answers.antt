use Rattle.level_nets.specs.Reach.{parts_in}
use Rattle.level_nets.specs.Held.{plain_gaps}
use Rattle.level_nets.proofs.RoutedLemmas.{none_held}
use Rattle.level_nets.proofs.routing.fill_gaps.Goals as goal

pub push_links-requires-clause-held : goal.push_links-requires-clause-held
push_links-requires-clause-held c = none_held (parts_in c.args.sheet.now) (plain_gaps c.args.gaps.now) c.requires.empty
