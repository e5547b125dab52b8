use Rattle.std.proofs.Common.{◌∙◌, ◌<◌, pos, length, get_or, w64, to_z, sym, subst, ap, arith}
use Rattle.std.proofs.lemmas.List.{length-map}
use Rattle.route_lines.specs.Points.{PlainGap, plain_gap}
use Rattle.level_nets.specs.Reach.{parts_in, AreNetsIn}
use Rattle.level_nets.specs.Held.{plain_gaps}
use Rattle.level_nets.specs.Placed.{counts_of}
use Rattle.level_nets.proofs.BorderLemmas.{AreAsked, stepped, border_range, placed_none, left_none, gap_read, less_range}
use Rattle.level_nets.proofs.borders.place_gaps.Goals as goal

pub gaps-init : goal.gaps-init
gaps-init c = record { placed = placed_none (parts_in c.args.sheet.now) (plain_gaps c.args.gaps.now); left_is = left_none (parts_in c.args.sheet.now) (counts_of (plain_gaps c.args.gaps.now)) }

pub place_gap-requires-clause-nets : goal.place_gap-requires-clause-nets
place_gap-requires-clause-nets c =
    let inside : c.gaps.number < length c.gaps.gaps = omega arith in
    let less : c.gaps.number < length c.args.gaps.now = omega arith in
    let many = length-map c.args.gaps.now plain_gap in
    subst AreNetsIn
    (sym (ap (λ (q : PlainGap). q.nets) (gap_read c.gaps.gaps c.gaps.number c.index-gaps-number.result inside) ∙ c.gaps.invariant.placed.nets c.gaps.number (omega (arith, less, many))))
    (c.requires.nets c.gaps.number less)

pub place_gap-requires-clause-left : goal.place_gap-requires-clause-left
place_gap-requires-clause-left c =
    let less : c.gaps.number < length c.args.gaps.now = omega arith in
    let asked : AreAsked (parts_in c.args.sheet.now) c.args.gaps.now = record { sound = c.requires.spacing; layers = c.requires.layers; columns = c.requires.columns; long = c.requires.long; nets = c.requires.nets } in
    less_range _ _ c.gaps.invariant.left_is (border_range (parts_in c.args.sheet.now) c.gaps.number c.args.gaps.now c.gaps.gaps asked (omega arith) c.gaps.invariant.placed)

pub overflow_add-left : goal.overflow_add-left
overflow_add-left c =
    let asked : AreAsked (parts_in c.args.sheet.now) c.args.gaps.now = record { sound = c.requires.spacing; layers = c.requires.layers; columns = c.requires.columns; long = c.requires.long; nets = c.requires.nets } in
    (stepped (parts_in c.args.sheet.now) c.gaps.number c.args.gaps.now c.gaps.gaps c.place_gap.new.gap c.index-gaps-number-in-gaps.result c.index-gaps-number.result (to_z w64 c.gaps.left-bits) (get_or c.args.widths.now c.gaps.number (pos 0))
    asked c.gaps-test.true c.gaps.auto.gaps c.gaps.invariant.placed c.gaps.invariant.left_is c.in_ok-place_gap.ensures.placed c.in_ok-place_gap.ensures.nets
    (c.requires.widths.each c.gaps.number (let wide = c.requires.widths.as_many in let long = c.requires.long in let less = c.gaps-test.true in omega (arith, wide, long, less)))).fits

pub gaps-preserved : goal.gaps-preserved
gaps-preserved c =
    let asked : AreAsked (parts_in c.args.sheet.now) c.args.gaps.now = record { sound = c.requires.spacing; layers = c.requires.layers; columns = c.requires.columns; long = c.requires.long; nets = c.requires.nets } in
    let step = stepped (parts_in c.args.sheet.now) c.gaps.number c.args.gaps.now c.gaps.gaps c.place_gap.new.gap c.index-gaps-number-in-gaps.result c.index-gaps-number.result (to_z w64 c.gaps.left-bits) (get_or c.args.widths.now c.gaps.number (pos 0))
    asked c.gaps-test.true c.gaps.auto.gaps c.gaps.invariant.placed c.gaps.invariant.left_is c.in_ok-place_gap.ensures.placed c.in_ok-place_gap.ensures.nets
    (c.requires.widths.each c.gaps.number (let wide = c.requires.widths.as_many in let long = c.requires.long in let less = c.gaps-test.true in omega (arith, wide, long, less))) in
    record { placed = step.placed; left_is = step.left }
