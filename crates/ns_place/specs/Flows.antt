-- The flow of the network, as numbers on links and pairs.
use Rattle.std.specs.Prelude.{◌≡◌, ℕ, ◌+◌, ◌*◌, ◌<◌, ◌≤◌, ℤ, pos, ◌+ℤ◌, List, length, slice_index, slice_index_or, false}
use Rattle.ns_place.specs.declared.least.PairFlow.{PairFlow}

abbrev pub pair_at : List PairFlow → ℕ → PairFlow
pair_at pairs i = slice_index_or pairs i (record { upper = 0; lower = 0; body = false; flow = 0 })

abbrev pub flow_at : List ℤ → ℕ → ℤ
flow_at fs k = slice_index_or fs k (pos 0)

-- each link's number is less than the flow to its tail by its weight
pub record TellFlows (flow weights : List ℕ) (fs : List ℤ) : Type 0 where
  pub as_many : length fs ≡ length weights
  pub told : (k : ℕ) → k < length weights → flow_at fs k +ℤ pos (slice_index weights k) ≡ pos (slice_index flow (2 * k))

-- the first pairs have the flows of their edges, and nothing else changed
pub record WritesFlows (flow : List ℕ) (first : ℕ) (old : List PairFlow) (count : ℕ) (new : List PairFlow) : Type 0 where
  pub as_many : length new ≡ length old
  pub written : (i : ℕ) → i < count
      → pair_at new i ≡ record {
        upper = (pair_at old i).upper;
        lower = (pair_at old i).lower;
        body = (pair_at old i).body;
        flow = slice_index flow (first + i);
      }
  pub kept : (i : ℕ) → count ≤ i → pair_at new i ≡ pair_at old i
