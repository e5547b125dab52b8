use Rattle.std.proofs.Common.{List, ◌++◌, subst, arith}
use Rattle.drawing_types.specs.declared.shape.Side.TheVariants.{West}
use Rattle.level_model.specs.Nets.{Name, if_passed}
use Rattle.level_nets.specs.Read.{HoldNets, passes_west}
use Rattle.level_nets.specs.Reach.{parts_in}
use Rattle.level_nets.specs.Held.{plain_gaps, behind_loops}
use Rattle.level_nets.proofs.Holding.{behind_loops_more}
use Rattle.level_nets.proofs.PushLemmas.{few_loops, few_passing}
use Rattle.level_nets.proofs.pushing.push_loop.Goals as goal

pub push_passage-requires-clause-few : goal.push_passage-requires-clause-few
push_passage-requires-clause-few c =
    few_loops (parts_in c.args.sheet.now) c.args.edge (plain_gaps c.args.gaps.now) c.requires.sheet.sound c.requires.sheet.reach.few_edges (let less = c.requires.edge in omega (arith, less)) c.requires.held

pub push_passage-requires-2-clause-few : goal.push_passage-requires-2-clause-few
push_passage-requires-2-clause-few c =
    few_passing (parts_in c.args.sheet.now) c.args.edge (plain_gaps c.push_passage.new.gaps) c.requires.sheet.sound c.requires.sheet.reach.few_edges (let less = c.requires.edge in omega (arith, less))
    (c.in_ok-west.ensures.held (behind_loops (parts_in c.args.sheet.now) c.args.edge) c.requires.held)

pub returns-clause-held : goal.returns-clause-held
returns-clause-held c =
    let s = parts_in c.args.sheet.now in
    let e = c.args.edge in
    let west = c.in_ok-west.ensures.held (behind_loops s e) c.requires.held in
    let east = c.in_ok-east.ensures.held (behind_loops s e ++ if_passed (passes_west s e) e West) west in
    subst (λ (ns : List Name). HoldNets s ns (plain_gaps c.push_passage-2.new.gaps)) (behind_loops_more s e) east

pub returns-clause-legs : goal.returns-clause-legs
returns-clause-legs c =
    let s = parts_in c.args.sheet.now in
    let e = c.args.edge in
    let west = c.in_ok-west.ensures.held (behind_loops s e) c.requires.held in
    record {
      west = c.in_ok-west.ensures.leg (behind_loops s e) c.requires.held;
      east = c.in_ok-east.ensures.leg (behind_loops s e ++ if_passed (passes_west s e) e West) west;
    }
