use Rattle.std.proofs.Common.{◌≡◌, ◌<◌, ℕ, length, map, take, slice_index}
use Rattle.elk_doc.specs.Level.{IsEdge}
use Rattle.working_frame.specs.Rotated.{level_edge}
use Rattle.level_io.proofs.reading.read_edges.Given as goal

abbrev pub invariant-loop-edge : goal.invariant-loop-edge
invariant-loop-edge l =
    (n : ℕ) → ((i : ℕ) → i < length l.numbers → IsEdge l.source.doc.now n (slice_index l.numbers i)) → l.found.items ≡ map (level_edge l.source.doc.now n) (take l.edge-index l.numbers)
