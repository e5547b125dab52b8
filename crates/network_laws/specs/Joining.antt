-- One pass over the edges that lowers the names of their ends.
use Rattle.std.specs.Prelude.{◌≡◌, ℕ, ◌<◌, Bool, true, false, List, length, slice_index}
use Rattle.std.specs.List.{sum}
use Rattle.network_laws.specs.declared.network.NetEdge.{NetEdge}
use Rattle.network_laws.specs.Network.{edge_at}
use Rattle.network_laws.specs.Parts.{AreNames, HaveOneName}

-- the first edges are passed: nothing changed and their ends have one name, or the names are lower
pub record ArePassed (edges : List NetEdge) (i : ℕ) (old new : List ℕ) (changed : Bool) : Type 0 where
  pub names : AreNames (length old) edges new
  pub unchanged : changed ≡ false → (new ≡ old) × HaveOneName edges old i
  pub less : changed ≡ true → sum new < sum old

-- the same of one edge
pub record IsPassed (edges : List NetEdge) (k : ℕ) (old new : List ℕ) (changed : Bool) : Type 0 where
  pub names : AreNames (length old) edges new
  pub unchanged : changed ≡ false → (new ≡ old) × (slice_index old (edge_at edges k).tail ≡ slice_index old (edge_at edges k).head)
  pub less : changed ≡ true → sum new < sum old
