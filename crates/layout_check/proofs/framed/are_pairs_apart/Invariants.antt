use Rattle.std.proofs.Common.{ℕ, ◌<◌}
use Rattle.layout_check.specs.Framed.{AreSpaced, IsBehind, child_at}
use Rattle.layout_check.proofs.framed.are_pairs_apart.Given as goal

abbrev pub invariant-loop-i : goal.invariant-loop-i
invariant-loop-i l =
    record {
      behind : (k : ℕ) → k < l.i → IsBehind l.front (child_at l.children k);
      spaced : (j k : ℕ) → j < k → k < l.i → AreSpaced (child_at l.children j) (child_at l.children k);
    }
