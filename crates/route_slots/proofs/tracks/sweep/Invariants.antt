use Rattle.std.proofs.Common.{◌≡◌, length}
use Rattle.route_slots.proofs.tracks.sweep.Given as goal

abbrev pub invariant-tracks : goal.invariant-tracks
invariant-tracks l = length l.tracks ≡ length l.initial.tracks
