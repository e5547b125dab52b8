-- The steps of each edge make a trace through the gaps of the level.
use Rattle.std.specs.Prelude.{◌≡◌, ℕ, ◌+◌, ◌<◌, List, ℤ, length}
use Rattle.std.specs.List.{All}
use Rattle.route_lines.specs.Points.{PlainGap, gap_in, Alternates, IsStepIn, IsTrace}
use Rattle.level_model.specs.Level.{PlainLevel, PlainPlan, Orders}
use Rattle.level_model.specs.Nets.{nets_in}
use Rattle.level_model.specs.Traces.{steps_of}
use Rattle.level_model.specs.Ready.{IsReady}

-- There is a gap on both sides of each layer; it holds the nets of the plan, moved up by the shift, and a route for each.
pub record HoldNets (l : PlainLevel) (p : PlainPlan) (o : Orders) (shift : ℤ) (gaps : List PlainGap) : Type 0 where
  pub as_many : length gaps ≡ p.layers + 1
  pub nets : (g : ℕ) → g < length gaps → (gap_in gaps g).nets ≡ nets_in l p o shift g
  pub routes : (g : ℕ) → g < length gaps → length (gap_in gaps g).routes ≡ length (gap_in gaps g).nets

-- Lanes and legs alternate along the steps of each edge.
abbrev pub StepsAlternate : Type 0
StepsAlternate =
    (l : PlainLevel) (p : PlainPlan) (o : Orders) (shift : ℤ) (layers : List ℕ) → IsReady l p o layers
    → (e : ℕ) → e < length l.edges → Alternates (steps_of l p o shift e)

-- Each leg of each edge names a net of a gap.
abbrev pub LegsAreThere : Type 0
LegsAreThere =
    (l : PlainLevel) (p : PlainPlan) (o : Orders) (shift : ℤ) (layers : List ℕ) (gaps : List PlainGap) → IsReady l p o layers
    → HoldNets l p o shift gaps
    → (e : ℕ) → e < length l.edges → All (IsStepIn gaps) (steps_of l p o shift e)

-- The steps of each edge make a trace.
abbrev pub TracesJoin : Type 0
TracesJoin =
    (l : PlainLevel) (p : PlainPlan) (o : Orders) (shift : ℤ) (layers : List ℕ) (gaps : List PlainGap) → IsReady l p o layers
    → HoldNets l p o shift gaps
    → (e : ℕ) → e < length l.edges → IsTrace gaps (steps_of l p o shift e)
