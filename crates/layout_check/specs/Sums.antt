-- For each node, sums over the edges that have their end there.
use Rattle.std.specs.Prelude.{◌≡◌, ℕ, ◌<◌, ◌≤◌, ◌*◌, ◌^◌, Bool, List, length, slice_index, slice_index_or}
use Rattle.elk_doc.specs.declared.drawing.Certificate.{Certificate}
use Rattle.elk_doc.specs.declared.drawing.Placed.{Placed}
use Rattle.elk_doc.specs.Document.{Document}
use Rattle.elk_doc.specs.Drawing.{flow_in as flow_of}
use Rattle.elk_doc.specs.FlowProof.{enters_child, leaves_child, weight_at}
use Rattle.elk_doc.specs.Numbers.{sum_below}
use Rattle.layout_check.specs.declared.sums.LevelSums.{LevelSums}
use Rattle.layout_check.specs.FirstLevels.{ends_at}

-- the sums of f over the edges below m that have their end at each node
pub record AreSumsAt (d : Document) (at : ℕ → ℕ → Bool) (f : ℕ → ℕ) (m : ℕ) (sums : List ℕ) : Type 0 where
  pub count : length sums ≡ length d.nodes
  pub each : (a other : ℕ) → a < length d.nodes → slice_index_or sums a other ≡ sum_below (at a) f m
  pub few : (a other : ℕ) → a < length d.nodes → slice_index_or sums a other ≤ m * 2 ^ 64

-- the sums of the numbers of a list over the edges below m, and over all edges, by a list of all ends
abbrev pub AreSumsBelow : Document → ℕ → List ℕ → List ℕ → ℕ → List ℕ → Type 0
AreSumsBelow d n ends values m sums = AreSumsAt d (ends_at d n ends) (slice_index values) m sums

abbrev pub AreSums : Document → ℕ → List ℕ → List ℕ → List ℕ → Type 0
AreSums d n ends values sums = AreSumsBelow d n ends values (length d.edges) sums

-- the sums of the written flow and of the weights of a level where edges enter, and where they leave
pub record AreLevelSums (d : Document) (p : Placed) (n : ℕ) (c : Certificate) (s : LevelSums) : Type 0 where
  pub flow_in : AreSumsAt d (enters_child d p n) (flow_of d n c) (length d.edges) s.flow_in.items
  pub flow_out : AreSumsAt d (leaves_child d p n) (flow_of d n c) (length d.edges) s.flow_out.items
  pub weight_in : AreSumsAt d (enters_child d p n) (weight_at d) (length d.edges) s.weight_in.items
  pub weight_out : AreSumsAt d (leaves_child d p n) (weight_at d) (length d.edges) s.weight_out.items
