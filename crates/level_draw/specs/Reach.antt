-- What lies in range, so that boxes and steps can be read off without a number that doesn't fit.
use Rattle.std.specs.Prelude.{◌≡◌, ℕ, ◌*◌, ◌<◌, ◌≤◌, ◌^◌, Bool, pos, neg_ℤ, length, IsFalse}
use Rattle.drawing_types.specs.Ranges.{IsWithin}
use Rattle.drawing_types.specs.declared.shape.Point.{Point}
use Rattle.elk_layers.specs.Layered.{unit_at, IsFromZero}
use Rattle.level_model.specs.declared.table.Table.{Table}
use Rattle.level_model.specs.Level.{is_loop, end_at, spoke}
use Rattle.level_model.specs.Table.{child_in, end_in, loop_in}
use Rattle.level_nets.specs.declared.routing.Routing.{Routing}
use Rattle.level_nets.specs.Parts.{Parts}
use Rattle.level_nets.specs.Reach.{IsBelow}
use Rattle.level_draw.specs.Read.{links_of, tail_of, head_of}
use Rattle.level_draw.specs.Chains.{AreSingle, IsChain}

pub record IsNearPoint (q : Point) : Type 0 where
  pub x : IsBelow q.x
  pub y : IsBelow q.y

-- the corner of a box: from -2^52 to 2^52
pub record IsBoxPoint (q : Point) : Type 0 where
  pub x : IsWithin (neg_ℤ (pos (2 ^ 52))) (pos (2 ^ 52)) q.x
  pub y : IsWithin (neg_ℤ (pos (2 ^ 52))) (pos (2 ^ 52)) q.y

-- all numbers of the table are in range
pub record AreNumbersIn (t : Table) : Type 0 where
  pub outlines_x : (c : ℕ) → c < length t.children → IsBelow (child_in t.children c).outline.x
  pub outlines_y : (c : ℕ) → c < length t.children → IsBelow (child_in t.children c).outline.y
  pub anchors : (i : ℕ) → i < length t.ends → IsNearPoint (end_in t.ends i).anchor
  pub lanes : (i : ℕ) → i < length t.ends → IsBelow (end_in t.ends i).lane
  pub north : (e : ℕ) → e < length t.loops → IsBelow (loop_in t.loops e).north
  pub south : (e : ℕ) → e < length t.loops → IsBelow (loop_in t.loops e).south

-- there is a number of a leg for each link, each end and each edge
pub record HaveLegs (s : Parts) (r : Routing) : Type 0 where
  pub links : length r.links ≡ length s.layered.links
  pub docks : length r.docks ≡ 2 * length s.level.edges
  pub loops : length r.loops ≡ length s.level.edges

-- Each edge that is no self-loop has its chain of links, each end is at a child, and the outlines of the few children begin within
-- their units.
pub record IsLinked (s : Parts) : Type 0 where
  pub single : AreSingle s
  pub chains : (e : ℕ) → e < length s.level.edges → IsFalse (is_loop s.level e) → IsChain s e (tail_of s e) (head_of s e) (links_of s e)
  pub ends : (e : ℕ) (at_source : Bool) → e < length s.level.edges → (spoke s.level (end_at e at_source)).child < length s.level.children
  pub few : length s.level.children ≤ 2048
  pub bodies : (c : ℕ) → c < length s.level.children
      → IsFromZero (unit_at s.layered.units (child_in s.table.children c).unit).body_top (pos (2 ^ 49))
