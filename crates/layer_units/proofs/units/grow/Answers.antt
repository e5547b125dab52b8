use Rattle.std.proofs.Common.{◌≡◌, ◌∙◌, ◌<◌, ◌≤◌, [], false, length, get_or, sym, subst, ap, arith}
use Rattle.std.proofs.lemmas.Int.{ints}
use Rattle.level_model.specs.Conditions.{plain_level}
use Rattle.level_model.specs.Level.{holds}
use Rattle.layer_units.specs.Layering.{layering, tail_child}
use Rattle.layer_units.specs.Marks.{listed}
use Rattle.layer_units.specs.Numbered.{lane_on, link_on, gaps_at, gaps_of, lanes_of, run_of}
use Rattle.layer_units.specs.Grown.{IsShort, child_units, units_to, links_to}
use Rattle.layer_units.proofs.GrownLemmas.{all_none}
use Rattle.layer_units.proofs.MarkLemmas.{marks_listed}
use Rattle.layer_units.proofs.NumberLemmas.{lanes_begin}
use Rattle.layer_units.proofs.RunLemmas.{tail_in, few_gaps, few_lanes, is_short}
use Rattle.layer_units.proofs.GrowingLemmas.{run_here, units_more, links_more}
use Rattle.layer_units.proofs.units.grow.Goals as goal

pub loop-edge-init : goal.loop-edge-init
loop-edge-init c =
    let s = layering (plain_level c.args.level.now) (listed c.args.is_reversed.now) c.args.layers.now in
    record {
      units_are = c.in_ok-units.ensures ∙ sym (all_none (λ d i. lane_on (run_of s d) i) (lanes_of s) (child_units c.args.layers.now (length c.args.layers.now)));
      links_are = c.new-links.ensures.items ∙ sym (all_none (λ d i. link_on (run_of s d) i) (gaps_of s) []);
    }

pub bounds-keys-edge : goal.bounds-keys-edge
bounds-keys-edge c =
    let h : c.loop-edge.edge < length c.args.level.now.edges = omega (arith, c.len-edge-end.ensures, c.loop-edge-test.true) in
    let many = c.requires.chained.as_many in
    omega (arith, h, many)

pub links_at-gaps-requires : goal.links_at-gaps-requires
links_at-gaps-requires c =
    let s = layering (plain_level c.args.level.now) (listed c.args.is_reversed.now) c.args.layers.now in
    let h : c.loop-edge.edge < length c.args.level.now.edges = omega (arith, c.len-edge-end.ensures, c.loop-edge-test.true) in
    let few = few_gaps s c.requires.level c.requires.layering c.loop-edge.edge h in
    record { few = (gaps_of s c.loop-edge.edge, c.requires.chained.each c.loop-edge.edge h, omega (arith, few)) }

pub run_of-run-requires : goal.run_of-run-requires
run_of-run-requires c =
    let s = layering (plain_level c.args.level.now) (listed c.args.is_reversed.now) c.args.layers.now in
    let l = plain_level c.args.level.now in
    let e = c.loop-edge.edge in
    let h : c.loop-edge.edge < length c.args.level.now.edges = omega (arith, c.len-edge-end.ensures, c.loop-edge-test.true) in
    let way : get_or c.args.is_reversed.now c.loop-edge.edge false ≡ holds (listed c.args.is_reversed.now) c.loop-edge.edge =
    (marks_listed c.args.is_reversed.now (length c.args.level.now.edges) c.requires.marks).each c.loop-edge.edge h
    in
    record {
      edge = h;
      tail = subst (λ t. tail_child l t e < length c.args.layers.now) (sym way) (tail_in s c.requires.level c.requires.layering e h);
      gaps = subst (λ t. c.links_at-gaps.result ≡ gaps_at l c.args.layers.now t e) (sym way) (c.links_at-gaps.ensures (gaps_of s e) (c.requires.chained.each e h));
    }

pub overflow_cast-len : goal.overflow_cast-len
overflow_cast-len c =
    let s = layering (plain_level c.args.level.now) (listed c.args.is_reversed.now) c.args.layers.now in
    let h : c.loop-edge.edge ≤ length c.args.level.now.edges = omega (arith, c.len-edge-end.ensures, c.loop-edge-test.true) in
    let long = ap length c.loop-edge.invariant.units_are ∙ lanes_begin s c.loop-edge.edge c.requires.layering.as_many in
    let few = few_lanes s c.requires.level c.requires.layering c.loop-edge.edge h in
    let children = c.requires.level.few_children in
    omega (arith, long, few, children, c.len.ensures, c.loop-edge.units.ok.0)

pub push_lanes-requires : goal.push_lanes-requires
push_lanes-requires c =
    let s = layering (plain_level c.args.level.now) (listed c.args.is_reversed.now) c.args.layers.now in
    let h : c.loop-edge.edge < length c.args.level.now.edges = omega (arith, c.len-edge-end.ensures, c.loop-edge-test.true) in
    let run =
    run_here s c.loop-edge.edge c.len.result c.args.is_reversed.now c.loop-edge.units.items c.run_of-run.result c.requires.layering.as_many (marks_listed c.args.is_reversed.now (length c.args.level.now.edges) c.requires.marks)
    h c.loop-edge.invariant.units_are (omega (arith, c.len.ensures, c.loop-edge.units.ok.0)) c.run_of-run.ensures
    in
    subst IsShort (sym run) (is_short s c.requires.level c.requires.layering c.loop-edge.edge h)

pub push_links-requires : goal.push_links-requires
push_links-requires c =
    let s = layering (plain_level c.args.level.now) (listed c.args.is_reversed.now) c.args.layers.now in
    let h : c.loop-edge.edge < length c.args.level.now.edges = omega (arith, c.len-edge-end.ensures, c.loop-edge-test.true) in
    let run =
    run_here s c.loop-edge.edge c.len.result c.args.is_reversed.now c.loop-edge.units.items c.run_of-run.result c.requires.layering.as_many (marks_listed c.args.is_reversed.now (length c.args.level.now.edges) c.requires.marks)
    h c.loop-edge.invariant.units_are (omega (arith, c.len.ensures, c.loop-edge.units.ok.0)) c.run_of-run.ensures
    in
    subst IsShort (sym run) (is_short s c.requires.level c.requires.layering c.loop-edge.edge h)

pub loop-edge-preserved : goal.loop-edge-preserved
loop-edge-preserved c =
    let s = layering (plain_level c.args.level.now) (listed c.args.is_reversed.now) c.args.layers.now in
    let h : c.loop-edge.edge < length c.args.level.now.edges = omega (arith, c.len-edge-end.ensures, c.loop-edge-test.true) in
    let run =
    run_here s c.loop-edge.edge c.len.result c.args.is_reversed.now c.loop-edge.units.items c.run_of-run.result c.requires.layering.as_many (marks_listed c.args.is_reversed.now (length c.args.level.now.edges) c.requires.marks)
    h c.loop-edge.invariant.units_are (omega (arith, c.len.ensures, c.loop-edge.units.ok.0)) c.run_of-run.ensures
    in
    record {
      units_are = units_more s c.loop-edge.edge c.loop-edge.units.items c.push_lanes.new.units.items c.run_of-run.result c.loop-edge.invariant.units_are run c.in_ok-push_lanes.ensures;
      links_are = links_more s c.loop-edge.edge c.loop-edge.links.items c.push_links.new.links.items c.run_of-run.result c.loop-edge.invariant.links_are run c.in_ok-push_links.ensures;
    }

pub returns : goal.returns
returns c =
    let s = layering (plain_level c.args.level.now) (listed c.args.is_reversed.now) c.args.layers.now in
    let all : c.loop-edge.edge ≡ length c.args.level.now.edges = omega (arith, c.loop-edge-test.false, c.loop-edge.auto.edge-end, c.len-edge-end.ensures) in
    let a = c.requires.level.spacing.node_node.above in
    let b = c.requires.level.spacing.node_node.below in
    let d = c.requires.level.spacing.edge_node.above in
    let e = c.requires.level.spacing.edge_node.below in
    let f = c.requires.level.spacing.edge_edge.above in
    let g = c.requires.level.spacing.edge_edge.below in
    record {
      units_are = subst (λ n. c.loop-edge.units.items ≡ units_to s n) all c.loop-edge.invariant.units_are;
      links_are = subst (λ n. c.loop-edge.links.items ≡ links_to s n) all c.loop-edge.invariant.links_are;
      count_is = c.layer_count.ensures;
      node_node_is = omega (arith, ints, a, b);
      edge_node_is = omega (arith, ints, d, e);
      edge_edge_is = omega (arith, ints, f, g);
    }
