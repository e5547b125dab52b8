use Rattle.std.proofs.Common.{◌<◌, length, sym, subst}
use Rattle.level_layout.proofs.LongEdgeLemmas.{has_chain, layered}
use Rattle.level_layout.proofs.chaining.split_by.Goals as goal

pub note_layers-requires-clause-as_many : goal.note_layers-requires-clause-as_many
note_layers-requires-clause-as_many c = sym c.requires.nodes.as_many

pub note_layers-requires-clause-within : goal.note_layers-requires-clause-within
note_layers-requires-clause-within c = λ v h. c.requires.room _ (c.requires.nodes.live v (subst (λ n. v < n) c.requires.nodes.as_many h))

pub note_layers-requires-clause-once : goal.note_layers-requires-clause-once
note_layers-requires-clause-once c = λ a b g h.
    c.requires.nodes.once a b (subst (λ n. a < n) c.requires.nodes.as_many g) (subst (λ n. b < n) c.requires.nodes.as_many h)

pub split_all-requires : goal.split_all-requires
split_all-requires c =
    layered c.args.arena.now c.args.nodes.now c.args.layers.now c.note_layers.new.by_node (length c.args.by_node.now) (sym c.requires.nodes.as_many) c.requires.room
    c.note_layers.ensures.long c.note_layers.ensures.each c.requires.rising

pub returns : goal.returns
returns c = λ k a b in_a in_b is.
    has_chain c.args.arena.now c.split_all.new.arena c.args.nodes.now c.args.layers.now c.note_layers.new.by_node c.in_ok-chains.chains k a b (sym c.requires.nodes.as_many)
    c.note_layers.ensures.each c.in_ok-chains.ensures.chains c.in_ok-chains.ensures.heights in_a in_b is
