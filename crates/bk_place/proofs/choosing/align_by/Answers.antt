use Rattle.std.proofs.Common.{length, ap, sym, arith, ◌∙◌, subst, rules}
use Rattle.std.proofs.lemmas.List.{length-map, length-replicate}
use Rattle.elk_layers.specs.Layered.{plain, rows_of}
use Rattle.bk_place.proofs.ChoosingLemmas.{last_start, nothing_noted}
use Rattle.elk_layers.specs.Straight.{AreStraight}
use Rattle.bk_place.proofs.StraightLemmas.{aligned_straight}
use Rattle.bk_place.proofs.choosing.align_by.Goals as goal

pub visit_all-requires-clause-last : goal.visit_all-requires-clause-last
visit_all-requires-clause-last c =
    let items = c.in_ok-last.ensures.items_if_clones_equal (λ y e. search rules) in
    let long = length-map c.args.order.now.rows.items (λ v. v.items) in
    let same = ap length c.as_slice.ensures.value in
    let many = c.requires.can.can.are_rows.as_many in
    rw (c.as_mut_slice.ensures.value, items)
    (last_start (plain c.args.layered.now) (rows_of c.args.order.now) c.args.sweep _ (length-replicate _ _ ∙ omega (arith, long, same, many)) (nothing_noted _))

pub returns-clause-straight : goal.returns-clause-straight
returns-clause-straight c =
    subst (AreStraight (plain c.args.layered.now) (rows_of c.args.order.now)) (sym c.in_ok-links.ensures)
    (aligned_straight (plain c.args.layered.now) (rows_of c.args.order.now) c.args.sweep c.requires.can.can.sound c.requires.can.can.are_rows)
