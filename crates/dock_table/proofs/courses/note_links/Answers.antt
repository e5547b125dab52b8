use Rattle.std.proofs.Common.{◌≡◌, ◌<◌, ◌+◌, ◌-◌, ℕ, List, length, sym, subst, arith}
use Rattle.elk_layers.specs.Layered.{plain}
use Rattle.dock_table.specs.Courses.{AreFirstFrom, is_near}
use Rattle.dock_table.proofs.CourseLemmas.{links_more}
use Rattle.dock_table.proofs.courses.note_links.Goals as goal

pub links-preserved : goal.links-preserved
links-preserved c =
    let some = c.links-test.true in
    let within = c.links.invariant.within in
    let k : ℕ = c.links.link - 1 in
    let inside : c.links.link - 1 < length c.args.layered.now.links.items = omega (arith, some, within) in
    let next : c.links.link ≡ c.links.link - 1 + 1 = omega (arith, some) in
    record {
      within = omega (arith, within);
      firsts = subst (λ (fs : List ℕ). AreFirstFrom (is_near (plain c.args.layered.now) c.args.at_head) (c.links.link - 1) (length c.args.layered.now.links.items) (length c.args.firsts.now) fs) (sym c.note_link.ensures)
          (links_more (plain c.args.layered.now) c.args.at_head (c.links.link - 1) (length c.args.firsts.now) c.links.firsts inside c.requires.edges
          (subst (λ m. AreFirstFrom (is_near (plain c.args.layered.now) c.args.at_head) m (length c.args.layered.now.links.items) (length c.args.firsts.now) c.links.firsts) next c.links.invariant.firsts));
    }
