use Rattle.std.proofs.Common.{◌<◌, length, take, get_or, is_some, rules, ap, ◌∙◌}
use Rattle.cycle_break.specs.Ways.{edge_keys}
use Rattle.cycle_break.proofs.Keys.{keys_more}
use Rattle.cycle_break.proofs.Turning.{key_new, key_there, turns_next}
use Rattle.cycle_break.proofs.orienting.turn_all.Goals as goal

pub reverse-requires : goal.reverse-requires
reverse-requires c =
    let b : c.edges.edge-index < length c.args.edges.now = search rules in
    let k = (get_or c.args.edges.now c.edges.edge-index (record { at = 0 })).at in
    ap is_some (c.edges.invariant.others k (key_new c.args.edges.now c.edges.edge-index b c.requires.once)) ∙ c.requires.live k (key_there c.args.edges.now c.edges.edge-index b)

pub edges-preserved : goal.edges-preserved
edges-preserved c =
    let b : c.edges.edge-index < length c.args.edges.now = search rules in
    let k = (get_or c.args.edges.now c.edges.edge-index (record { at = 0 })).at in
    turns_next c.args.arena.now c.edges.arena c.reverse.new.self (edge_keys (take c.edges.edge-index c.args.edges.now)) _ k c.edges.invariant
    (ap is_some (c.edges.invariant.others k (key_new c.args.edges.now c.edges.edge-index b c.requires.once)) ∙ c.requires.live k (key_there c.args.edges.now c.edges.edge-index b))
    c.reverse.ensures.is_reversed (key_new c.args.edges.now c.edges.edge-index b c.requires.once) (keys_more c.args.edges.now c.edges.edge-index b)
