use Rattle.route_lines.specs.Points.{plain_gap}
use Rattle.route_lines.proofs.Gathering.{one_in_range, both_in_range}
use Rattle.route_lines.proofs.joining.push_leg.Goals as goal

pub slot_x-x-requires-clause-there : goal.slot_x-x-requires-clause-there
slot_x-x-requires-clause-there c =
    one_in_range (plain_gap c.args.gap.now) c.args.route c.args.from_a c.args.rise.before c.args.rise.after c.in-One.slot c.in-One.is c.requires.there

pub slot_x-requires-clause-there : goal.slot_x-requires-clause-there
slot_x-requires-clause-there c =
    (both_in_range (plain_gap c.args.gap.now) c.args.route c.args.from_a c.args.rise.before c.args.rise.after c.in-Two.first c.in-Two.height c.in-Two.second c.in-Two.is c.requires.there).0

pub slot_x-requires-in-Two-clause-there : goal.slot_x-requires-in-Two-clause-there
slot_x-requires-in-Two-clause-there c =
    (both_in_range (plain_gap c.args.gap.now) c.args.route c.args.from_a c.args.rise.before c.args.rise.after c.in-Two.first c.in-Two.height c.in-Two.second c.in-Two.is c.requires.there).1
