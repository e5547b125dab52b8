use Rattle.std.proofs.Common.{◌≡◌, ℕ, ◌+◌, ◌-◌, ◌<◌, List, [], length, get_or, Some, None, arith, sym, ap, ◌∙◌, subst}
use Rattle.std.specs.List.{slice_index}
use Rattle.std.proofs.lemmas.List.Sums.{sum_by-drop_more}
use Rattle.std.proofs.lemmas.List.{length-drop}
use Rattle.graph_arena.specs.Graph.{Ends, ends_at, IsEdge}
use Rattle.graph_arena.specs.declared.keys.EdgeKey.{EdgeKey}
use Rattle.long_edges.specs.declared.chains.Lane.{Lane}
use Rattle.long_edges.specs.declared.chains.Span.{Span}
use Rattle.long_edges.specs.Growing.{AddsChain, Reached}
use Rattle.long_edges.proofs.Reaching.{is_same, same_back, reached_start, reached_next, tall_live, zero_dead, layered_same, heights_same, live_now, tail_now}
use Rattle.long_edges.proofs.splitting.climb_all.Goals as goal

pub loop-at-init : goal.loop-at-init
loop-at-init c =
    let f = c.args.found.now in
    let g = c.args.arena.now in
    let layer = c.args.layer.now in
    record {
      count = f.spans.ok.0 ∙ ap (λ (l : List Span). length l) c.requires.empty.no_spans;
      rooms = c.requires.rooms;
      reached = λ old s.
          subst (λ (l : List Lane). Reached old g layer l f.edges.items f.spans.items) (sym c.requires.empty.no_lanes)
          (subst (λ (l : List EdgeKey). Reached old g layer [] l f.spans.items) (sym c.requires.empty.no_edges)
          (subst (λ (l : List Span). Reached old g layer [] [] l) (sym c.requires.empty.no_spans)
          (reached_start old g layer c.incidence.ensures s)));
    }

pub climb_key-requires : goal.climb_key-requires
climb_key-requires c =
    let hs = c.args.heights.now in
    let i = c.loop-at.at in
    let g = c.args.arena.now in
    let now = c.loop-at.arena in
    let f = c.loop-at.found in
    let layer = c.args.layer.now in
    let b : i < length hs = c.loop-at-test.true in
    let r = c.loop-at.invariant.reached g (is_same g) in
    let over = sum_by-drop_more (λ (h : ℕ). h - 1) hs i 0 b in
    let all = sum_by-drop_more (λ (h : ℕ). h - 0) hs i 0 b in
    let rooms = c.loop-at.invariant.rooms in
    record {
      live = λ tall. live_now g now layer f.lanes.items f.edges.items f.spans.items r i (tall_live g layer hs i c.requires.heights tall);
      listed = λ tall y is. (
          let x = tail_now g now layer f.lanes.items f.edges.items f.spans.items r i (tall_live g layer hs i c.requires.heights tall) y is in
          subst (λ (v : ℕ). v < length layer) x.2 (c.requires.layered.listed x.0.tail (c.incidence.ensures.tails i x.0 x.1)));
      high = λ tall y is. (
          let x = tail_now g now layer f.lanes.items f.edges.items f.spans.items r i (tall_live g layer hs i c.requires.heights tall) y is in
          let q = c.requires.heights.values.live i x.0 b x.1 in
          let fits = c.type_inv.layer x.0.head in
          let t : slice_index layer x.0.tail ≡ slice_index layer y.tail = ap (λ (v : ℕ). slice_index layer v) x.2 in
          omega (arith, q, fits, t));
      node_room = (let n = rooms.for_nodes in omega (arith, over, n));
      edge_room = (let n = rooms.for_edges in omega (arith, over, n));
      lane_room = (let n = rooms.for_lanes in omega (arith, over, n));
      chain_room = (let n = rooms.for_chains in omega (arith, all, n));
    }

pub loop-at-preserved : goal.loop-at-preserved
loop-at-preserved c =
    let hs = c.args.heights.now in
    let i = c.loop-at.at in
    let f = c.loop-at.found in
    let g = c.loop-at.arena in
    let h = c.climb_key.new.arena in
    let layer = c.args.layer.now in
    let height = get_or hs i 0 in
    let b : i < length hs = c.loop-at-test.true in
    let over = sum_by-drop_more (λ (h : ℕ). h - 1) hs i 0 b in
    let all = sum_by-drop_more (λ (h : ℕ). h - 0) hs i 0 b in
    let rooms = c.loop-at.invariant.rooms in
    let for_nodes = rooms.for_nodes in
    let for_edges = rooms.for_edges in
    let for_lanes = rooms.for_lanes in
    let for_chains = rooms.for_chains in
    let for_spans = rooms.for_spans in
    let past = length-drop i hs in
    let past_next = length-drop (i + 1) hs in
    let e : length f.spans.items ≡ i = sym f.spans.ok.0 ∙ c.loop-at.invariant.count in
    let span : Span = record { start = c.len-start.result; end = c.len-end.result } in
    let added : AddsChain g h layer i height f.lanes.items c.climb_key.new.lanes.items f.edges.items c.climb_key.new.edges.items = c.climb_key.ensures.added in
    record {
      count = (let l = c.put.ensures.len in let k = c.loop-at.invariant.count in omega (arith, l, k));
      rooms =
          record {
            for_nodes = (let q = c.climb_key.ensures.node_room in omega (arith, over, for_nodes, q));
            for_edges = (let q = c.climb_key.ensures.edge_room in omega (arith, over, for_edges, q));
            for_lanes = (let q = c.climb_key.ensures.lane_count in let k = c.climb_key.ensures.lane_capacity in omega (arith, over, for_lanes, q, k));
            for_chains = (let q = c.climb_key.ensures.chain_count in let k = c.climb_key.ensures.chain_capacity in omega (arith, all, for_chains, q, k));
            for_spans = (let q = c.put.ensures.len in let k = c.put.ensures.capacity in omega (arith, for_spans, q, k, past, past_next, b));
          };
      reached = λ old s. (
          let heights = heights_same c.args.arena.now old layer hs (same_back old c.args.arena.now s) c.requires.heights in
          let layered = layered_same c.args.arena.now old layer (same_back old c.args.arena.now s) c.requires.layered in
          subst (λ (l : List Span). Reached old h layer c.climb_key.new.lanes.items c.climb_key.new.edges.items l) (sym c.put.ensures.items)
          (reached_next old g h layer f.lanes.items c.climb_key.new.lanes.items f.edges.items c.climb_key.new.edges.items f.spans.items height span (c.loop-at.invariant.reached old s)
          (subst (λ (k : ℕ). AddsChain g h layer k height f.lanes.items c.climb_key.new.lanes.items f.edges.items c.climb_key.new.edges.items) (sym e) added)
          (c.len-start.ensures ∙ f.edges.ok.0)
          (c.len-end.ensures ∙ c.climb_key.new.edges.ok.0)
          (subst (λ (k : ℕ). (x : Ends) → ends_at old k ≡ Some x → slice_index layer x.tail + height ≡ slice_index layer x.head) (sym e) (λ x is. heights.values.live i x b is))
          (subst (λ (k : ℕ). height ≡ 0 → ends_at old k ≡ None) (sym e) (λ z. zero_dead old layer hs i layered heights b z))
          (subst (λ (k : ℕ). 0 < height → IsEdge old k) (sym e) (λ t. tall_live old layer hs i heights t))));
    }
