use Rattle.std.proofs.Common.{rules}
use Rattle.graph_arena.specs.Paths.{Reaches}
use Rattle.cycle_break.specs.Ways.{Step, Leads, edge_keys}
use Rattle.cycle_break.proofs.Reaching.{leads_reach}
use Rattle.cycle_break.proofs.Listing.{chosen_by, kept_by}
use Rattle.cycle_break.proofs.orienting.stays_listed.Goals as goal

pub returns-in-Some-clause-settled : goal.returns-in-Some-clause-settled
returns-in-Some-clause-settled c =
    λ chosen rest s.
    let h = c.head-head.result.at in
    let t = c.tail-tail.result.at in
    let way : Leads c.args.kept.now h (edge_keys c.in-Some._way.items) t = search rules in
    chosen_by c.args.arena.now c.args.kept.now chosen rest c.args.edge.at t h c.tail-tail.ensures c.head-head.ensures (leads_reach c.args.kept.now h (edge_keys c.in-Some._way.items) t way) s

pub returns-in_ok-add_edge-in-None-clause-settled : goal.returns-in_ok-add_edge-in-None-clause-settled
returns-in_ok-add_edge-in-None-clause-settled c =
    λ chosen rest s.
    let h = c.head-head.result.at in
    let t = c.tail-tail.result.at in
    let none : Reaches (Step c.args.kept.now) h t → ⊥ = rw c.in-None.is at c.in_ok-_way.ensures.answer in
    kept_by c.args.arena.now c.args.kept.now c.add_edge.new.self chosen rest c.args.edge.at c.in_ok-add_edge-in-None.field-0.at t h c.tail-tail.ensures c.head-head.ensures none c.in_ok-add_edge-in-None.ensures.added s
