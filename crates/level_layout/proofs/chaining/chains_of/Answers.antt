use Rattle.std.proofs.Common.{ℕ, length, ap, arith, sym, subst}
use Rattle.std.proofs.lemmas.List.{length-replicate}
use Rattle.level_model.specs.Conditions.{plain_level}
use Rattle.level_layout.specs.Marks.{AreNodes}
use Rattle.level_layout.proofs.LongEdgeLemmas.{all_chained, rising}
use Rattle.level_layout.proofs.chaining.chains_of.Goals as goal

pub split_by-requires-clause-nodes : goal.split_by-requires-clause-nodes
split_by-requires-clause-nodes c = subst (λ n. AreNodes c.add_links.new.arena n c.as_slice-children.result.now) (sym c.requires.layers) c.in_ok-keys.ensures.nodes

pub split_by-requires-clause-room : goal.split_by-requires-clause-room
split_by-requires-clause-room c = λ v live.
    let below = c.node_bound.ensures v live in
    let items = ap length (c.in_ok-by_node.ensures.items_if_clones_equal (λ y e. e)) in
    let same = ap length c.as_mut_slice-room.ensures.value in
    let long = length-replicate {A = ℕ} c.node_bound.result 0 in
    omega (arith, below, items, same, long)

pub split_by-requires-clause-rising : goal.split_by-requires-clause-rising
split_by-requires-clause-rising c =
    rising (plain_level c.args.level.now) c.args.is_reversed.now c.as_slice-children.result.now c.args.layers.now c.add_links.new.arena c.in_ok-keys.keys.items c.requires.level c.requires.layers
    c.in_ok-keys.ensures.links c.requires.onward

pub returns : goal.returns
returns c =
    all_chained (plain_level c.args.level.now) c.args.is_reversed.now c.as_slice-children.result.now c.args.layers.now c.add_links.new.arena c.in_ok-keys.keys.items c.in_ok-chains.chains
    c.requires.level c.requires.layers c.in_ok-keys.ensures.links c.in_ok-chains.ensures
