use Rattle.std.proofs.Common.{◌∙◌, map, arith, refl, subst, sym, ap}
use Rattle.std.proofs.lemmas.List.{get_or-map, length-map, map-set}
use Rattle.working_frame.specs.Ranges.{IsFarTrace, plain_trace}
use Rattle.working_frame.specs.Moved as spec
use Rattle.working_frame.proofs.MapLemmas.{change_next, not_yet, all_changed}
use Rattle.working_frame.proofs.moving.move_traces.Goals as goal

pub loop-i-init : goal.loop-i-init
loop-i-init c = refl

pub move_trace-requires-clause-trace : goal.move_trace-requires-clause-trace
move_trace-requires-clause-trace c =
    let f = spec.moved_trace c.args.by.x c.args.by.y in
    let test = c.loop-i-test.true in
    let long = c.loop-i.auto.traces in
    let few = length-map c.args.traces.now plain_trace in
    let old = c.index-traces-i.result in
    subst IsFarTrace (get_or-map plain_trace c.loop-i.traces c.loop-i.i old (plain_trace old) (omega (arith, test, long)))
    (not_yet IsFarTrace f (map plain_trace c.args.traces.now) (map plain_trace c.loop-i.traces) c.loop-i.i (plain_trace old) c.requires.traces c.loop-i.invariant (omega (arith, test, long, few)))

pub loop-i-preserved : goal.loop-i-preserved
loop-i-preserved c =
    let f = spec.moved_trace c.args.by.x c.args.by.y in
    let test = c.loop-i-test.true in
    let long = c.loop-i.auto.traces in
    let few = length-map c.args.traces.now plain_trace in
    let old = c.index-traces-i.result in
    map-set plain_trace c.loop-i.traces c.loop-i.i c.move_trace.new.trace
    ∙ change_next f (map plain_trace c.args.traces.now) (map plain_trace c.loop-i.traces) c.loop-i.i (plain_trace old) (plain_trace c.move_trace.new.trace) c.loop-i.invariant (omega (arith, test, long, few))
    (c.move_trace.ensures ∙ ap f (sym (get_or-map plain_trace c.loop-i.traces c.loop-i.i old (plain_trace old) (omega (arith, test, long)))))

pub returns : goal.returns
returns c =
    let f = spec.moved_trace c.args.by.x c.args.by.y in
    let test = c.loop-i-test.false in
    let end = c.loop-i.auto.i-end in
    let few = length-map c.args.traces.now plain_trace in
    c.loop-i.invariant ∙ all_changed f (map plain_trace c.args.traces.now) c.loop-i.i (omega (arith, test, end, few))
