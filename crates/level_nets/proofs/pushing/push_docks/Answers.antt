use Rattle.std.proofs.Common.{◌≡◌, ◌∙◌, ℕ, List, ◌++◌, ◌∷◌, [], length, true, subst, ap, arith}
use Rattle.level_model.specs.Level.{end_at}
use Rattle.level_model.specs.Nets.{Name}
use Rattle.level_nets.specs.Read.{HoldNets, dock_names}
use Rattle.level_nets.specs.Reach.{parts_in}
use Rattle.level_nets.specs.Held.{plain_gaps, behind_docks}
use Rattle.level_nets.proofs.Holding.{behind_docks_more, behind_docks_all}
use Rattle.level_nets.proofs.PushLemmas.{few_docks, few_between, dock_legs_more}
use Rattle.level_nets.proofs.pushing.push_docks.Goals as goal

pub push_dock-requires-clause-few : goal.push_dock-requires-clause-few
push_dock-requires-clause-few c =
    few_docks (parts_in c.args.sheet.now) c.edges.edge (plain_gaps c.edges.gaps) c.requires.sheet.sound c.requires.sheet.reach.few_edges (omega arith) c.edges.invariant.held

pub push_dock-requires-in-edges-clause-few : goal.push_dock-requires-in-edges-clause-few
push_dock-requires-in-edges-clause-few c =
    few_between (parts_in c.args.sheet.now) c.edges.edge (plain_gaps c.push_dock.new.gaps) c.requires.sheet.sound c.requires.sheet.reach.few_edges (omega arith)
    (c.in_ok-push_dock.ensures.held (behind_docks (parts_in c.args.sheet.now) c.edges.edge) c.edges.invariant.held)

pub edges-preserved : goal.edges-preserved
edges-preserved c =
    let s = parts_in c.args.sheet.now in
    let e = c.edges.edge in
    let between = c.in_ok-push_dock.ensures.held (behind_docks s e) c.edges.invariant.held in
    let both = c.in_ok-push_dock-2.ensures.held (behind_docks s e ++ dock_names s (end_at e true ∷ [])) between in
    record {
      long = let a = c.push_dock.auto.gaps in let b = c.push_dock-in-edges.auto.gaps in let long = c.edges.invariant.long in omega (arith, a, b, long);
      held = subst (λ (ns : List Name). HoldNets s ns (plain_gaps c.push_dock-in-edges.new.gaps)) (behind_docks_more s e) both;
      legs = dock_legs_more s e c.edges.legs.items c.push-in-edges.new.self.items c.in_ok-push_dock.field-0 c.in_ok-push_dock-2.field-0
          (c.in_ok-push-2.ensures.items ∙ ap (λ (ns : List ℕ). ns ++ c.in_ok-push_dock-2.field-0 ∷ []) c.in_ok-push.ensures.items)
          c.edges.invariant.legs (c.in_ok-push_dock.ensures.leg (behind_docks s e) c.edges.invariant.held) (c.in_ok-push_dock-2.ensures.leg (behind_docks s e ++ dock_names s (end_at e true ∷ [])) between);
    }

pub returns-clause-held : goal.returns-clause-held
returns-clause-held c =
    let s = parts_in c.args.sheet.now in
    let done : c.edges.edge ≡ length s.level.edges = omega arith in
    subst (λ (ns : List Name). HoldNets s ns (plain_gaps c.edges.gaps)) (ap (behind_docks s) done ∙ behind_docks_all s) c.edges.invariant.held
