use Rattle.std.proofs.Common.{refl}
use Rattle.level_model.specs.Nets.{gap_left}
use Rattle.plan_laws.proofs.WestRoute.{west_parts}
use Rattle.plan_laws.proofs.laws.examples.Goals as goal

pub returns-clause-parallel : goal.returns-clause-parallel
unfolding gap_left
returns-clause-parallel c = record { nets = refl; first = refl; second = refl; width = refl; gap = refl; next = refl }

pub returns-clause-west : goal.returns-clause-west
returns-clause-west c = record { lane = refl; body = refl; height = refl; left_nets = refl; right_nets = refl; steps = refl; points = refl; fine = refl }

pub returns-clause-parts : goal.returns-clause-parts
returns-clause-parts c = west_parts

pub returns-clause-north : goal.returns-clause-north
returns-clause-north c = record { outline = refl; port = refl; lane = refl; height = refl; left_nets = refl; right_nets = refl; first = refl; second = refl; first_points = refl; second_points = refl }

pub returns-clause-loops : goal.returns-clause-loops
returns-clause-loops c =
    record {
      north_lanes = refl;
      south_lanes = refl;
      body = refl;
      height = refl;
      left_gap = refl;
      right_gap = refl;
      north_north = refl;
      north_east = refl;
      north_south = refl;
      north_west = refl;
      east_east = refl;
      east_south = refl;
      east_west = refl;
      south_south = refl;
      south_west = refl;
      west_west = refl;
    }
