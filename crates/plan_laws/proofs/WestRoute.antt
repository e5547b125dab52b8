-- The pieces of the route of a small level, each of its kind.
use Rattle.std.proofs.Common.{inl, inr, refl, true, false, ℕ, ◌≤◌, pos, ◌≤ℤ◌, arith}
use Rattle.std.proofs.lemmas.Int.{ints, clamps}
use Rattle.drawing_types.specs.Segments.{IsBetween}
use Rattle.net_routes.specs.Pieces.{left_border, slot, right_border, corner}
use Rattle.level_model.specs.Stage.{dock_lane}
use Rattle.level_model.specs.Level.{dock_of, end_at}
use Rattle.level_model.specs.Law.{IsPart, lane_part, border_part, net_part}
use Rattle.level_model.specs.Examples.{west, west_plan, west_orders, west_stage, WestParts, at}

le : (m n : ℕ) → m ≤ n → pos m ≤ℤ pos n
le m n h = omega (arith, ints)

between : (p q z : ℕ) → p ≤ z → z ≤ q → IsBetween (pos p) (pos q) (pos z)
between p q z h k = (omega (arith, ints, clamps), omega (arith, ints, clamps))

from_anchor : IsPart west_stage 0 (at 10 40) (at 10 40)
from_anchor =
    border_part (record {
      edge_in = omega arith;
      at_source = true;
      in_use = refl;
      height = refl;
      level = inr refl;
      reach = pos 10;
      reach_left = le 10 10 (omega arith);
      reach_right = le 10 50 (omega arith);
      outside_east = λ e. absurd cc;
      outside_west = λ e. le 10 20 (omega arith);
      a_y = refl;
      b_y = refl;
      a_x = between 10 10 10 (omega arith) (omega arith);
      b_x = between 10 10 10 (omega arith) (omega arith);
    })

to_anchor : IsPart west_stage 0 (at 70 15) (at 70 15)
to_anchor =
    border_part (record {
      edge_in = omega arith;
      at_source = false;
      in_use = refl;
      height = refl;
      level = inr refl;
      reach = pos 70;
      reach_left = le 70 70 (omega arith);
      reach_right = le 70 100 (omega arith);
      outside_east = λ e. absurd cc;
      outside_west = λ e. le 70 70 (omega arith);
      a_y = refl;
      b_y = refl;
      a_x = between 70 70 70 (omega arith) (omega arith);
      b_x = between 70 70 70 (omega arith) (omega arith);
    })

to_slot : IsPart west_stage 0 (at 10 40) (at 0 40)
to_slot =
    net_part (record {
      gap = 0;
      net = 0;
      from = corner right_border (pos 40);
      to = corner (slot 0) (pos 40);
      gap_there = omega arith;
      net_there = omega arith;
      owner = refl;
      piece = record { i = 2; i_in = omega arith; ends = inr (refl, refl) };
      straight = inl refl;
      from_in = tt;
      to_in = omega arith;
      a_is = refl;
      b_is = refl;
    })

in_slot : IsPart west_stage 0 (at 0 40) (at 0 15)
in_slot =
    net_part (record {
      gap = 0;
      net = 0;
      from = corner (slot 0) (pos 40);
      to = corner (slot 0) (pos 15);
      gap_there = omega arith;
      net_there = omega arith;
      owner = refl;
      piece = record { i = 1; i_in = omega arith; ends = inr (refl, refl) };
      straight = inr (0, refl, refl);
      from_in = omega arith;
      to_in = omega arith;
      a_is = refl;
      b_is = refl;
    })

from_slot : IsPart west_stage 0 (at 0 15) (at 10 15)
from_slot =
    net_part (record {
      gap = 0;
      net = 0;
      from = corner (slot 0) (pos 15);
      to = corner right_border (pos 15);
      gap_there = omega arith;
      net_there = omega arith;
      owner = refl;
      piece = record { i = 0; i_in = omega arith; ends = inr (refl, refl) };
      straight = inl refl;
      from_in = omega arith;
      to_in = tt;
      a_is = refl;
      b_is = refl;
    })

along_lane : IsPart west_stage 0 (at 10 15) (at 50 15)
along_lane =
    lane_part (record {
      lane = dock_lane (dock_of west west_plan west_orders (end_at 0 true));
      in_use = refl;
      is_lane = tt;
      a_y = refl;
      b_y = refl;
      a_x = between 10 50 10 (omega arith) (omega arith);
      b_x = between 10 50 50 (omega arith) (omega arith);
    })

across : IsPart west_stage 0 (at 50 15) (at 70 15)
across =
    net_part (record {
      gap = 1;
      net = 0;
      from = corner left_border (pos 15);
      to = corner right_border (pos 15);
      gap_there = omega arith;
      net_there = omega arith;
      owner = refl;
      piece = record { i = 0; i_in = omega arith; ends = inl (refl, refl) };
      straight = inl refl;
      from_in = tt;
      to_in = tt;
      a_is = refl;
      b_is = refl;
    })

pub west_parts : WestParts
west_parts = (from_anchor, (to_slot, (in_slot, (from_slot, (along_lane, (across, (to_anchor, tt)))))))
