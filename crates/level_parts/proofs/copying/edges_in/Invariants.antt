use Rattle.std.proofs.Common.{◌≡◌, map, take, slice_index}
use Rattle.level_model.specs.Conditions.{plain_level}
use Rattle.level_model.specs.Level.{edge_at}
use Rattle.level_parts.specs.Divided.{placed_at}
use Rattle.level_parts.proofs.copying.edges_in.Given as goal

abbrev pub invariant-loop-number : goal.invariant-loop-number
invariant-loop-number l = l.edges.items ≡ map (λ e. placed_at (slice_index l.places) (edge_at (plain_level l.level) e)) (take l.number-index l.row)
