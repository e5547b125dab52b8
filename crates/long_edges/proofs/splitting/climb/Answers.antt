use Rattle.std.proofs.Common.{◌≡◌, ℕ, ◌+◌, refl, ap, subst, is_some, arith, rules}
use Rattle.graph_arena.specs.Graph.{ends_at}
use Rattle.long_edges.specs.declared.chains.Lane.{Lane}
use Rattle.long_edges.specs.Growing.{Extended}
use Rattle.long_edges.proofs.Growth.{ends_of, extended_start, extended_more}
use Rattle.long_edges.proofs.splitting.climb.Goals as goal

pub loop-step-init : goal.loop-step-init
loop-step-init c =
    record {
      live = c.requires.live;
      extended = extended_start c.args.arena.now c.args.edge.at c.args.low c.args.lanes.now.items c.args.edges.now.items c.put.new.items.items c.args.edge refl c.put.ensures.items;
      node_room = omega arith;
      edge_room = omega arith;
      lane_count = omega arith;
      lane_capacity = omega arith;
      chain_capacity = omega arith;
    }

pub loop-step-preserved : goal.loop-step-preserved
loop-step-preserved c =
    let y = ends_of (ends_at c.loop-step.arena c.loop-step.top.at) c.loop-step.invariant.live in
    let s = c.split_in_room.ensures.parted y.0 y.1 in
    let lane : Lane = record { node = c.split_in_room.result.0; layer = c.args.low + c.loop-step.step; edge = c.args.edge } in
    let more =
    extended_more c.args.arena.now c.loop-step.arena c.split_in_room.new.arena c.args.edge.at c.loop-step.top.at c.args.low c.loop-step.step c.split_in_room.result.0.at c.args.lanes.now.items c.loop-step.lanes.items c.args.edges.now.items c.loop-step.edges.items c.loop-step.invariant.extended c.split_in_room.result.1 y.0 y.1 s lane refl refl refl
    in
    record {
      live = ap is_some s.far;
      extended = rw (c.put-in-loop-step.ensures.items, c.put-in-loop-step-2.ensures.items) more;
      node_room = search rules;
      edge_room = search rules;
      lane_count = search rules;
      lane_capacity = search rules;
      chain_capacity = search rules;
    }

pub returns-clause-extended : goal.returns-clause-extended
returns-clause-extended c =
    let end : c.loop-step.step ≡ c.args.height = omega arith in
    (c.loop-step.top.at, subst (λ (n : ℕ). Extended c.args.arena.now c.loop-step.arena c.args.edge.at c.loop-step.top.at c.args.low n c.args.lanes.now.items c.loop-step.lanes.items c.args.edges.now.items c.loop-step.edges.items) end c.loop-step.invariant.extended)
