use Rattle.std.proofs.Common.{◌∙◌, map, arith, refl, subst, sym, ap}
use Rattle.std.proofs.lemmas.List.{get_or-map, length-map, map-set}
use Rattle.route_lines.specs.Points.{plain_gap}
use Rattle.working_frame.specs.Ranges.{IsFarGap}
use Rattle.working_frame.specs.Moved as spec
use Rattle.working_frame.proofs.MapLemmas.{change_next, not_yet, all_changed}
use Rattle.working_frame.proofs.moving.move_gaps.Goals as goal

pub loop-i-init : goal.loop-i-init
loop-i-init c = refl

pub move_gap-requires-clause-gap : goal.move_gap-requires-clause-gap
move_gap-requires-clause-gap c =
    let f = spec.moved_gap c.args.by.x c.args.by.y in
    let test = c.loop-i-test.true in
    let long = c.loop-i.auto.gaps in
    let few = length-map c.args.gaps.now plain_gap in
    let old = c.index-gaps-i.result in
    subst IsFarGap (get_or-map plain_gap c.loop-i.gaps c.loop-i.i old (plain_gap old) (omega (arith, test, long)))
    (not_yet IsFarGap f (map plain_gap c.args.gaps.now) (map plain_gap c.loop-i.gaps) c.loop-i.i (plain_gap old) c.requires.gaps c.loop-i.invariant (omega (arith, test, long, few)))

pub loop-i-preserved : goal.loop-i-preserved
loop-i-preserved c =
    let f = spec.moved_gap c.args.by.x c.args.by.y in
    let test = c.loop-i-test.true in
    let long = c.loop-i.auto.gaps in
    let few = length-map c.args.gaps.now plain_gap in
    let old = c.index-gaps-i.result in
    map-set plain_gap c.loop-i.gaps c.loop-i.i c.move_gap.new.gap
    ∙ change_next f (map plain_gap c.args.gaps.now) (map plain_gap c.loop-i.gaps) c.loop-i.i (plain_gap old) (plain_gap c.move_gap.new.gap) c.loop-i.invariant (omega (arith, test, long, few))
    (c.move_gap.ensures ∙ ap f (sym (get_or-map plain_gap c.loop-i.gaps c.loop-i.i old (plain_gap old) (omega (arith, test, long)))))

pub returns : goal.returns
returns c =
    let f = spec.moved_gap c.args.by.x c.args.by.y in
    let test = c.loop-i-test.false in
    let end = c.loop-i.auto.i-end in
    let few = length-map c.args.gaps.now plain_gap in
    c.loop-i.invariant ∙ all_changed f (map plain_gap c.args.gaps.now) c.loop-i.i (omega (arith, test, end, few))
