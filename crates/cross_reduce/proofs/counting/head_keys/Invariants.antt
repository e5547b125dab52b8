use Rattle.std.proofs.Common.{◌≡◌, map, take}
use Rattle.cross_reduce.specs.declared.counting.LinkEnd.{LinkEnd}
use Rattle.cross_reduce.proofs.counting.head_keys.Given as goal

abbrev pub invariant-loop-pin : goal.invariant-loop-pin
invariant-loop-pin l = l.heads.items ≡ map (λ (p : LinkEnd). p.head) (take l.pin-index l.pins)
