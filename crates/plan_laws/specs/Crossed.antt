-- How often two links cross in the slots of a gap, and how often in the rows.
use Rattle.std.specs.Prelude.{◌≡◌, ◌≢◌, ℕ, ◌<◌, nat_lt, int_lt, length, slice_index_or}
use Rattle.elk_layers.specs.Layered.{IsSound, head_key, link_at, tail_key}
use Rattle.elk_layers.specs.Crossings.{cross}
use Rattle.route_lines.specs.Points.{gap_in}
use Rattle.net_routes.specs.Crossings.{one}
use Rattle.net_routes.specs.Uncrossed.{CrossAsAsked, crossed}
use Rattle.level_model.specs.Level.{PlainLevel, PlainPlan, Orders}
use Rattle.level_model.specs.Nets.{gap_of, head_line, height_of, names_in, of_link, tail_line}
use Rattle.level_model.specs.FromPlan.{IsGap, LevelDrawing}

-- net i of the gap is that of the link
pub record IsNetOfLink (l : PlainLevel) (p : PlainPlan) (o : Orders) (g i k : ℕ) : Type 0 where
  pub link_in : k < length p.layered.links
  pub gap_is : gap_of l p o (of_link k) ≡ g
  pub net_in : i < length (names_in l p o g)
  pub name_is : slice_index_or (names_in l p o g) i (of_link k) ≡ of_link k

-- The pins of link a lie above those of link b just where its ends come first in the rows.
pub record StandAsInRows (l : PlainLevel) (p : PlainPlan) (o : Orders) (a b : ℕ) : Type 0 where
  pub tails : int_lt (height_of l p o (tail_line l p o a)) (height_of l p o (tail_line l p o b))
      ≡ nat_lt (tail_key p.layered p.rows (link_at p.layered.links a)) (tail_key p.layered p.rows (link_at p.layered.links b))
  pub heads : int_lt (height_of l p o (head_line l p o a)) (height_of l p o (head_line l p o b))
      ≡ nat_lt (head_key p.layered p.rows (link_at p.layered.links a)) (head_key p.layered p.rows (link_at p.layered.links b))

-- Where the nets of a gap cross no more often than they have to, two links whose pins stand as in the rows cross in it once
-- where they cross in the rows, and else not at all.
abbrev pub LinksCrossAsInRows : Type 0
LinksCrossAsInRows =
    (l : PlainLevel) (p : PlainPlan) (o : Orders) (d : LevelDrawing) (g i j a b : ℕ) → IsSound p.layered → IsGap l p o d g
    → CrossAsAsked (gap_in d.gaps g).nets (gap_in d.gaps g).routes → i ≢ j → IsNetOfLink l p o g i a → IsNetOfLink l p o g j b
    → StandAsInRows l p o a b → StandAsInRows l p o b a
    → crossed (gap_in d.gaps g).nets (gap_in d.gaps g).routes i j
    ≡ one (cross p.layered p.rows (link_at p.layered.links a) (link_at p.layered.links b))
