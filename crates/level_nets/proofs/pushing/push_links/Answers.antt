use Rattle.std.proofs.Common.{◌≡◌, ◌∙◌, List, length, sym, subst, ap, arith}
use Rattle.level_nets.specs.Read.{HoldNets}
use Rattle.level_nets.specs.Reach.{parts_in}
use Rattle.level_nets.specs.Held.{plain_gaps}
use Rattle.level_model.specs.Nets.{Name}
use Rattle.level_nets.specs.Read.{link_names}
use Rattle.level_nets.proofs.Holding.{link_names_more, behind_docks_none}
use Rattle.level_nets.proofs.PushLemmas.{few_links, link_legs_more}
use Rattle.level_nets.proofs.pushing.push_links.Goals as goal

pub push_link-requires-clause-few : goal.push_link-requires-clause-few
push_link-requires-clause-few c =
    few_links (parts_in c.args.sheet.now) c.links.link (plain_gaps c.links.gaps) c.requires.sheet.sound (omega arith) c.links.invariant.held

pub links-preserved : goal.links-preserved
links-preserved c =
    let s = parts_in c.args.sheet.now in
    record {
      long = let kept = c.push_link.auto.gaps in let long = c.links.invariant.long in omega (arith, kept, long);
      held = subst (λ (ns : List Name). HoldNets s ns (plain_gaps c.push_link.new.gaps)) (sym (link_names_more c.links.link)) (c.in_ok-push_link.ensures.held (link_names c.links.link) c.links.invariant.held);
      legs = link_legs_more s c.links.link c.links.legs.items c.push.new.self.items c.in_ok-push_link.field-0 c.in_ok-push.ensures.items c.links.invariant.legs (c.in_ok-push_link.ensures.leg (link_names c.links.link) c.links.invariant.held);
    }

pub returns-clause-held : goal.returns-clause-held
returns-clause-held c =
    let s = parts_in c.args.sheet.now in
    let done : c.links.link ≡ length s.layered.links = omega arith in
    subst (λ (ns : List Name). HoldNets s ns (plain_gaps c.links.gaps)) (ap link_names done ∙ behind_docks_none s) c.links.invariant.held
