use Rattle.std.proofs.Common.{◌≡◌, [], ap, arith, length, subst}
use Rattle.level_model.specs.Conditions.{plain_level, plain_plan}
use Rattle.dock_table.specs.Courses.{AreCourses}
use Rattle.dock_table.proofs.ChainLemmas.{tables, first_read, last_read, course_pushed}
use Rattle.dock_table.proofs.courses.courses_of.Goals as goal

pub course_of-requires-clause-first : goal.course_of-requires-clause-first
course_of-requires-clause-first c =
    let l = plain_level c.args.level.now in
    let p = plain_plan c.args.layered.now c.args.order.now [] c.requires.is_reversed.0 in
    let are = tables l p c.in_ok-place.place.items c.args.is_reversed.now c.in_ok-firsts.firsts.items c.in_ok-lasts.lasts.items c.as_slice-edges.result.now c.as_slice-edges.ensures.value c.requires.level c.requires.sound c.requires.rows c.requires.is_reversed.1 c.in_ok-place.ensures c.in_ok-firsts.ensures c.in_ok-lasts.ensures in
    first_read l p c.in_ok-place.place.items c.args.is_reversed.now c.in_ok-firsts.firsts.items c.in_ok-lasts.lasts.items c.as_slice-edges.result.now c.loop-e.e _ c.as_slice.result.now c.as_slice-in-loop-e.result.now c.index.result.now
    are c.as_slice-edges.ensures.value c.loop-e-test.true c.as_slice.ensures.value c.as_slice-in-loop-e.ensures.value c.index.ensures

pub course_of-requires-clause-last : goal.course_of-requires-clause-last
course_of-requires-clause-last c =
    let l = plain_level c.args.level.now in
    let p = plain_plan c.args.layered.now c.args.order.now [] c.requires.is_reversed.0 in
    let are = tables l p c.in_ok-place.place.items c.args.is_reversed.now c.in_ok-firsts.firsts.items c.in_ok-lasts.lasts.items c.as_slice-edges.result.now c.as_slice-edges.ensures.value c.requires.level c.requires.sound c.requires.rows c.requires.is_reversed.1 c.in_ok-place.ensures c.in_ok-firsts.ensures c.in_ok-lasts.ensures in
    last_read l p c.in_ok-place.place.items c.args.is_reversed.now c.in_ok-firsts.firsts.items c.in_ok-lasts.lasts.items c.as_slice-edges.result.now c.loop-e.e _ c.as_slice.result.now c.as_slice-in-loop-e.result.now c.index-in-loop-e.result.now
    are c.as_slice-edges.ensures.value c.loop-e-test.true c.as_slice.ensures.value c.as_slice-in-loop-e.ensures.value c.index-in-loop-e.ensures

pub loop-e-preserved : goal.loop-e-preserved
loop-e-preserved c = λ reversed is_reversed.
    let l = plain_level c.args.level.now in
    let p = plain_plan c.args.layered.now c.args.order.now [] reversed in
    let are = tables l p c.in_ok-place.place.items c.args.is_reversed.now c.in_ok-firsts.firsts.items c.in_ok-lasts.lasts.items c.as_slice-edges.result.now c.as_slice-edges.ensures.value c.requires.level c.requires.sound c.requires.rows is_reversed c.in_ok-place.ensures c.in_ok-firsts.ensures c.in_ok-lasts.ensures in
    course_pushed l p c.in_ok-place.place.items c.args.is_reversed.now c.in_ok-firsts.firsts.items c.in_ok-lasts.lasts.items c.as_slice-edges.result.now c.loop-e.e _ c.as_slice.result.now c.as_slice-in-loop-e.result.now c.index.result.now c.index-in-loop-e.result.now
    c.course_of.result c.loop-e.courses.items c.push.new.self.items
    are c.as_slice-edges.ensures.value c.loop-e-test.true c.as_slice.ensures.value c.as_slice-in-loop-e.ensures.value c.index.ensures c.index-in-loop-e.ensures
    c.course_of.ensures.looped c.course_of.ensures.is_reversed c.course_of.ensures.after c.course_of.ensures.before c.in_ok-push.ensures.items (c.loop-e.invariant reversed is_reversed)

pub returns : goal.returns
returns c = λ reversed is_reversed.
    let l = plain_level c.args.level.now in
    let p = plain_plan c.args.layered.now c.args.order.now [] reversed in
    let many = ap length c.as_slice-edges.ensures.value in
    let all : c.loop-e.e ≡ length c.args.level.now.edges = omega (arith, many, c.loop-e-test.false, c.loop-e.auto.e-end) in
    subst (λ n. AreCourses l p n c.loop-e.courses.items) all (c.loop-e.invariant reversed is_reversed)
