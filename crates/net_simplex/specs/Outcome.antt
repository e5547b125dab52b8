-- What a chain of pivots leads to.
use Rattle.std.specs.Prelude.{ℕ, ◌≤◌, Bool, ℤ, List, Option, Some, None}
use Rattle.network_laws.specs.declared.network.NetEdge.{NetEdge}
use Rattle.network_laws.specs.Tight.{IsDone}
use Rattle.net_simplex.specs.Tree.{State}
use Rattle.net_simplex.specs.Pivots.{Pivots, NoneNegative, HasNegative}
use Rattle.net_simplex.specs.Answer.{EndsInTime, RunsOut}
use Rattle.net_simplex.specs.Cuts.{AreCutValues}
use Rattle.net_simplex.specs.Kept.{kept_state, StandsFor}

-- so many pivots lead from each state that the first lists stand for to one that the others stand for
abbrev pub Reaches : ℕ → List NetEdge → ℕ → List Bool → List ℤ → List Bool → List ℤ → Type 0
Reaches nodes edges n tree layers tree' layers' =
    (s : State) → StandsFor nodes s tree layers → (t : State) × Pivots nodes edges s n t × StandsFor nodes t tree' layers'

-- the chain ends within the budget, or a cut value is negative after it
abbrev pub Leads : ℕ → List NetEdge → ℕ → Option ℕ → List Bool → List ℤ → List Bool → List ℤ → List ℤ → Type 0
Leads nodes edges budget (Some n) tree layers tree' layers' cut =
    (n ≤ budget) × Reaches nodes edges n tree layers tree' layers' × AreCutValues nodes edges tree' cut
    × NoneNegative nodes edges (kept_state tree' layers')
Leads nodes edges budget None tree layers tree' layers' cut =
    Reaches nodes edges budget tree layers tree' layers' × HasNegative nodes edges (kept_state tree' layers')

-- the answer within the budget, or none
abbrev pub Outcome : ℕ → List NetEdge → ℕ → Option ℕ → List ℤ → List ℕ → Type 0
Outcome nodes edges budget (Some n) layers flow =
    EndsInTime nodes edges budget n layers flow × IsDone nodes edges layers flow
Outcome nodes edges budget None layers flow = RunsOut nodes edges budget
