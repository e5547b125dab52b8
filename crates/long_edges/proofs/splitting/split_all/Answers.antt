use Rattle.std.proofs.Common.{◌≡◌, ℕ, List, length, ap, sym, ◌∙◌}
use Rattle.long_edges.proofs.Reaching.{grown_all, one_a_layer}
use Rattle.long_edges.proofs.splitting.split_all.Goals as goal

pub returns-clause-chains : goal.returns-clause-chains
returns-clause-chains c =
    let f = c.climb_all.new.found in
    let count : length f.spans.items ≡ length c.in_ok-heights.heights.items = sym f.spans.ok.0 ∙ (c.climb_all.ensures.count ∙ ap (λ (l : List ℕ). length l) c.as_slice-2.ensures.value) in
    (grown_all c.args.arena.now c.climb_all.new.arena c.args.layer.now c.in_ok-heights.heights.items f.lanes.items f.edges.items f.spans.items (c.climb_all.ensures.reached c.args.arena.now c.in_ok-found.ensures.same) c.in_ok-heights.ensures count).chains

pub returns-clause-heights : goal.returns-clause-heights
returns-clause-heights c =
    let f = c.climb_all.new.found in
    let count : length f.spans.items ≡ length c.in_ok-heights.heights.items = sym f.spans.ok.0 ∙ (c.climb_all.ensures.count ∙ ap (λ (l : List ℕ). length l) c.as_slice-2.ensures.value) in
    one_a_layer c.args.arena.now c.climb_all.new.arena c.args.layer.now c.in_ok-heights.heights.items f.lanes.items f.edges.items f.spans.items (c.climb_all.ensures.reached c.args.arena.now c.in_ok-found.ensures.same) c.in_ok-heights.ensures count

pub returns-clause-once : goal.returns-clause-once
returns-clause-once c =
    let f = c.climb_all.new.found in
    let count : length f.spans.items ≡ length c.in_ok-heights.heights.items = sym f.spans.ok.0 ∙ (c.climb_all.ensures.count ∙ ap (λ (l : List ℕ). length l) c.as_slice-2.ensures.value) in
    (grown_all c.args.arena.now c.climb_all.new.arena c.args.layer.now c.in_ok-heights.heights.items f.lanes.items f.edges.items f.spans.items (c.climb_all.ensures.reached c.args.arena.now c.in_ok-found.ensures.same) c.in_ok-heights.ensures count).edges

pub returns-clause-orders : goal.returns-clause-orders
returns-clause-orders c =
    let f = c.climb_all.new.found in
    let count : length f.spans.items ≡ length c.in_ok-heights.heights.items = sym f.spans.ok.0 ∙ (c.climb_all.ensures.count ∙ ap (λ (l : List ℕ). length l) c.as_slice-2.ensures.value) in
    (grown_all c.args.arena.now c.climb_all.new.arena c.args.layer.now c.in_ok-heights.heights.items f.lanes.items f.edges.items f.spans.items (c.climb_all.ensures.reached c.args.arena.now c.in_ok-found.ensures.same) c.in_ok-heights.ensures count).orders
