use Rattle.std.proofs.Common.{◌<◌, List, ◌∙◌, ap, length, subst, sym}
use Rattle.graph_arena.specs.Graph.{IsEdge}
use Rattle.graph_arena.specs.declared.keys.EdgeKey.{EdgeKey}
use Rattle.cycle_break.specs.Ways.{edge_keys}
use Rattle.std.proofs.lemmas.Result.{IfOk-weaker}
use Rattle.level_model.specs.Conditions.{plain_level}
use Rattle.level_layout.specs.Marks.{key_of}
use Rattle.level_layout.proofs.ReversedLemmas.{are_reversed_in, still_edges}
use Rattle.level_layout.proofs.orienting.orientation.Goals as goal

pub reversed_marks-requires-clause-live : goal.reversed_marks-requires-clause-live
reversed_marks-requires-clause-live c =
    λ e h. subst (λ (ks : List EdgeKey). IsEdge c.orient.new.arena (key_of ks e)) (sym c.as_slice-3.ensures.value)
    (still_edges (plain_level c.args.level.now) c.as_slice.result.now c.in_ok-keys.keys.items c.add_edges.new.arena c.orient.new.arena (edge_keys c.in_ok-_reversed._reversed.edges.items) c.in_ok-keys.ensures c.in_ok-_reversed.ensures.is_reversed e
    (subst (λ n. e < n) (ap length c.as_slice-3.ensures.value ∙ c.in_ok-keys.ensures.edges_are.as_many) h))

pub returns-clause-reversed : goal.returns-clause-reversed
returns-clause-reversed c =
    IfOk-weaker c.reversed_marks.result _ _
    (λ marks fact. are_reversed_in (plain_level c.args.level.now) c.as_slice.result.now c.as_slice-2.result.now c.in_ok-keys.keys.items c.as_slice-3.result.now c.add_edges.new.arena c.orient.new.arena (edge_keys c.in_ok-_reversed._reversed.edges.items) marks.items c.requires c.in_ok-keys.ensures
    c.in_ok-_reversed.ensures.reversed c.in_ok-_reversed.ensures.is_reversed (c.as_slice-2.ensures.value ∙ sym c.as_slice.ensures.value) c.as_slice-3.ensures.value fact)
    c.reversed_marks.ensures
