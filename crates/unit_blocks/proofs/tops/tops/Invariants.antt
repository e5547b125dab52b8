use Rattle.std.proofs.Common.{◌≡◌, ℕ, ◌<◌, ◌+ℤ◌, length}
use Rattle.separation.specs.Lines.{value_at}
use Rattle.unit_blocks.specs.Constraints.{block_at, offset_at}
use Rattle.unit_blocks.proofs.tops.tops.Given as goal

abbrev pub invariant-loop-u : goal.invariant-loop-u
invariant-loop-u l = (length l.top.items ≡ l.u) × ((u : ℕ) → u < l.u → value_at l.top.items u ≡ value_at l.values (block_at l.blocks u) +ℤ offset_at l.offsets u)
