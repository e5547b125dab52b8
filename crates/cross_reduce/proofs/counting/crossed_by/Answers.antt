use Rattle.std.proofs.Common.{◌∙◌, arith, length, ap}
use Rattle.std.proofs.lemmas.List.{length-map}
use Rattle.cross_reduce.specs.declared.counting.LinkEnd.{LinkEnd}
use Rattle.cross_reduce.specs.Pins.{start_of, pin_at}
use Rattle.cross_reduce.proofs.WindowLemmas.{window_of, ends_all, begin_at_most}
use Rattle.cross_reduce.proofs.counting.crossed_by.Goals as goal

pub count_over-requires : goal.count_over-requires
count_over-requires c =
    let start = c.begin_before_pin-end.ensures in
    let bound = start.bound in
    let long = ap length c.requires.heads ∙ length-map c.args.pins.now (λ (p : LinkEnd). p.head) in
    ends_all c.args.heads.now c.args.gap.count c.begin_before_pin-end.result c.args.i c.args.gap.highest
    (begin_at_most c.args.pins.now c.args.i (start_of (pin_at c.args.pins.now c.args.i)) c.begin_before_pin-end.result (omega arith) start)
    (omega (arith, bound, long)) c.requires.highest

pub returns : goal.returns
returns c =
    c.count_over.ensures
    ∙ rw c.requires.heads
    (window_of c.args.pins.now c.args.i c.args.gap.place c.args.gap.count c.begin_before_pin-end.result c.requires.fits c.requires.pin c.requires.place c.requires.gap c.begin_before_pin-end.ensures)
