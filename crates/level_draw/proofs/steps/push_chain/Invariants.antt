use Rattle.level_nets.specs.Reach.{parts_in}
use Rattle.level_draw.specs.Read.{links_of}
use Rattle.level_draw.proofs.Walking.{IsWalk}
use Rattle.level_draw.proofs.steps.push_chain.Given as goal

abbrev pub invariant-loop : goal.invariant-loop
invariant-loop l = IsWalk (parts_in l.sheet) l.routing (links_of (parts_in l.sheet) l.edge) l.initial.steps.items l.steps.items l.counter l.link
