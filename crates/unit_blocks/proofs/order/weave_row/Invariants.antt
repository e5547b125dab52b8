use Rattle.std.proofs.Common.{◌≡◌, ℕ, ◌<◌, ◌+◌, Bool, List, length}
use Rattle.unit_blocks.specs.Chains.{IsChain, IsWeavable, IsWovenAt}
use Rattle.unit_blocks.proofs.order.weave_row.Given as goal

abbrev pub invariant-loop-unit : goal.invariant-loop-unit
invariant-loop-unit l =
    (length l.next ≡ l.end + 1) × (l.cursor < l.end + 1)
    × ((known : ℕ → Bool) (order : List ℕ) → IsWeavable known order l.row l.into l.names l.end → IsChain l.initial.next l.end order l.end
    → IsWovenAt known order l.row l.names l.end l.unit-index l.cursor l.next)
