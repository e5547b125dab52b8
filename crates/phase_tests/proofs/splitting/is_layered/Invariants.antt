use Rattle.std.proofs.Common.{◌≡◌, ℕ, ◌<◌, Some}
use Rattle.std.specs.List.{slice_index}
use Rattle.graph_arena.specs.Graph.{Ends, ends_at}
use Rattle.phase_tests.proofs.splitting.is_layered.Given as goal

abbrev pub invariant-loop-at : goal.invariant-loop-at
invariant-loop-at l = (e : ℕ) (x : Ends) → e < l.at → ends_at l.arena e ≡ Some x → slice_index l.layer x.tail < slice_index l.layer x.head
