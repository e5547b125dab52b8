-- The parts of a drawing that is moved, and how far they reach.
use Rattle.std.specs.Prelude.{◌≡◌, map, ℤ, Option, Some, None}
use Rattle.drawing_types.specs.Shapes.{origin}
use Rattle.working_frame.specs.declared.spanning.Reach.{Reach}
use Rattle.working_frame.specs.Moved.{moved_gap, moved_point, moved_section, moved_trace}
use Rattle.working_frame.specs.Ranges.{IsFarPoint}
use Rattle.level_nets.specs.Held.{plain_gaps}
use Rattle.level_draw.specs.Traced.{plain_traces}
use Rattle.level_draw.specs.declared.parts.Parts.{Parts}

-- one number is taken from all abscissae, and one from all heights; ports and outlines stay
pub record AreShifted (x y : ℤ) (old new : Parts) : Type 0 where
  pub gaps : plain_gaps new.gaps.items ≡ map (moved_gap x y) (plain_gaps old.gaps.items)
  pub traces : plain_traces new.traces.items ≡ map (moved_trace x y) (plain_traces old.traces.items)
  pub boxes : new.boxes.items ≡ map (moved_point x y) old.boxes.items
  pub ports : new.ports ≡ old.ports
  pub sections : new.sections.items ≡ map (moved_section x y) old.sections.items

-- the reach of a drawing, which is at 0 where it has no parts
abbrev pub reach_or : Option Reach → Reach
reach_or None = record { low = origin; high = origin }
reach_or (Some r) = r

pub record IsFarReach (r : Reach) : Type 0 where
  pub low : IsFarPoint r.low
  pub high : IsFarPoint r.high
