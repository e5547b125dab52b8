use Rattle.std.proofs.Common.{ℕ, List}
use Rattle.unit_blocks.specs.Chains.{HoldList, IsWalked}
use Rattle.unit_blocks.proofs.order.listed.Given as goal

abbrev pub invariant-loop : goal.invariant-loop
invariant-loop l = (order : List ℕ) → HoldList l.next l.end order → IsWalked order l.end l.counter l.at l.found.items
