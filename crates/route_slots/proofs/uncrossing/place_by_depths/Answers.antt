use Rattle.std.proofs.Common.{subst, sym}
use Rattle.route_slots.specs.Marks.{AreNetMarks}
use Rattle.route_slots.specs.Choosing.{AreGood}
use Rattle.route_slots.specs.NetDepths.{StandByDepths}
use Rattle.route_slots.proofs.Ordered.{are_marks, none_split, all_proper, as_asked}
use Rattle.route_slots.proofs.Least.{no_better}
use Rattle.route_slots.proofs.uncrossing.place_by_depths.Goals as goal

pub place-requires-clause-marks : goal.place-requires-clause-marks
place-requires-clause-marks c =
    subst (AreNetMarks c.args.nets.now) (sym c.as_slice-2.ensures.value) (are_marks c.args.nets.now c.args.depths.now c.in_ok-marks.marks.items c.requires.depths c.in_ok-marks.ensures)

pub returns : goal.returns
returns c =
    let nets = c.args.nets.now in
    let slots = c.in_ok-slots.slots in
    let ms = c.in_ok-marks.marks.items in
    let good = subst (λ ms. AreGood c.args.nets.now ms slots.count slots.routes.items) c.as_slice-2.ensures.value c.in_ok-slots.ensures.good in
    let by = subst (λ ms. StandByDepths c.args.nets.now ms slots.routes.items) c.as_slice-2.ensures.value c.in_ok-slots.ensures.order in
    let counted = as_asked nets c.args.depths.now ms slots.count slots.routes.items (all_proper nets c.requires.pins) c.requires.depths c.in_ok-marks.ensures good.free good.apart good.splits by in
    let whole = none_split nets c.args.depths.now ms c.in_ok-marks.ensures slots.routes.items good.splits in
    record {
      free = good.free;
      apart = good.apart;
      splits = λ k s h t l e. absurd (whole k s h t l e);
      uncrossed = λ ranked. counted;
      one_conflict = λ one. counted;
      exchanges = λ few. no_better nets slots.count slots.routes.items good.free whole counted;
    }
