use Rattle.std.proofs.Common.{ℤ}
use Rattle.std.specs.Int.{int_gap}
use Rattle.box_pack.proofs.Limiting.{IsWalked}
use Rattle.box_pack.proofs.squarest.least_limit.Given as goal

abbrev pub invariant-limits : goal.invariant-limits
invariant-limits l = (tried : ℤ) × IsWalked l.sizes l.gap l.limit l.least tried l.measured.next

abbrev pub decreases-limits : goal.decreases-limits
decreases-limits l = int_gap l.measured.next l.least
