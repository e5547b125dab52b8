use Rattle.std.proofs.Common.{◌≡◌, ◌∙◌, List, length, subst, ap, arith}
use Rattle.level_model.specs.Nets.{Name}
use Rattle.level_nets.specs.Read.{HoldNets}
use Rattle.level_nets.specs.Reach.{parts_in}
use Rattle.level_nets.specs.Held.{plain_gaps, behind_loops}
use Rattle.level_nets.proofs.Holding.{behind_loops_all}
use Rattle.level_nets.proofs.PushLemmas.{loop_legs_more}
use Rattle.level_nets.proofs.pushing.push_loops.Goals as goal

pub edges-preserved : goal.edges-preserved
edges-preserved c =
    let s = parts_in c.args.sheet.now in
    record {
      long = let kept = c.push_loop.auto.gaps in let long = c.edges.invariant.long in omega (arith, kept, long);
      held = c.in_ok-push_loop.ensures.held;
      legs = loop_legs_more s c.edges.edge c.edges.legs.items c.push.new.self.items c.in_ok-push_loop.field-0 c.in_ok-push.ensures.items c.edges.invariant.legs c.in_ok-push_loop.ensures.legs;
    }

pub returns-clause-held : goal.returns-clause-held
returns-clause-held c =
    let s = parts_in c.args.sheet.now in
    let done : c.edges.edge ≡ length s.level.edges = omega arith in
    subst (λ (ns : List Name). HoldNets s ns (plain_gaps c.edges.gaps)) (ap (behind_loops s) done ∙ behind_loops_all s) c.edges.invariant.held
