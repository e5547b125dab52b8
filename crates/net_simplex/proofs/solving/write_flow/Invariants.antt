use Rattle.std.proofs.Common.{◌≡◌, ℕ, ◌<◌, cond, length, get_or}
use Rattle.network_laws.specs.Layering.{layer_of, natural}
use Rattle.network_laws.specs.Linked.{is_marked}
use Rattle.net_simplex.proofs.solving.write_flow.Given as goal

abbrev pub invariant-loop-k : goal.invariant-loop-k
invariant-loop-k l =
    (length l.flow ≡ length l.marks)
    × ((j : ℕ) → j < l.k → get_or l.flow j 0 ≡ cond (is_marked l.marks j) (natural (layer_of l.cut j)) 0)
