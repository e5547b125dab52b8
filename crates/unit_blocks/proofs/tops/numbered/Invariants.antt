use Rattle.std.proofs.Common.{◌≡◌, ℕ, ◌<◌, length, get_or}
use Rattle.elk_layers.specs.Layered.{place_in}
use Rattle.unit_blocks.proofs.tops.numbered.Given as goal

abbrev pub invariant-loop-name : goal.invariant-loop-name
invariant-loop-name l = (length l.blocks.items ≡ l.name-index) × ((u : ℕ) → u < l.name-index → get_or l.blocks.items u 0 ≡ place_in l.roots (get_or l.names u 0))
