use Rattle.std.proofs.Common.{subst, sym, true, ◌≡◌, ◌<◌, ℕ, List, length, rules}
use Rattle.route_slots.specs.declared.marks.Mark.{Mark}
use Rattle.net_routes.specs.Pieces.{net_at}
use Rattle.route_slots.specs.Depths.{depth}
use Rattle.route_slots.specs.Marks.{mark_at, AreNetMarks}
use Rattle.route_slots.specs.Choosing.{AreMovedMarks, AreInOrder, AreGood}
use Rattle.route_slots.proofs.MovedLemmas.{other_marks, good_marks, laid}
use Rattle.route_slots.proofs.untangling.relaid.Goals as goal

pub place-requires-clause-marks : goal.place-requires-clause-marks
place-requires-clause-marks c =
    let nets = c.args.nets.now in
    let others = c.in_ok-others.others.items in
    let yes : c.all_keep_order.result ≡ true = search rules in
    let keep =
    subst (λ (ms : List Mark). (j k : ℕ) → j < length c.args.nets.now → k < length c.args.nets.now → AreInOrder (net_at c.args.nets.now j) (mark_at ms j) (net_at c.args.nets.now k) (mark_at ms k)) c.as_slice-6.ensures.value (c.all_keep_order.ensures yes) in
    let same = subst (λ ms. AreMovedMarks ms c.in_ok-others.others.items) c.as_slice-4.ensures.value c.in_ok-others.ensures in
    subst (AreNetMarks nets) (sym c.as_slice-7.ensures.value) (other_marks nets c.in_ok-marks.marks.items others c.in_ok-marks.ensures.marks same keep)

pub returns-clause-laid : goal.returns-clause-laid
returns-clause-laid c =
    let nets = c.args.nets.now in
    let depths = c.in_ok-depths.depths in
    let ms = c.in_ok-marks.marks.items in
    let slots = c.in_ok-slots.slots in
    let same = subst (λ ms. AreMovedMarks ms c.in_ok-others.others.items) c.as_slice-4.ensures.value c.in_ok-others.ensures in
    let good = subst (λ ms. AreGood c.args.nets.now ms slots.count slots.routes.items) c.as_slice-7.ensures.value c.in_ok-slots.ensures.good in
    laid nets depths.splits.items (depth depths) ms slots.count slots.routes.items c.in_ok-marks.ensures.marked c.in_ok-depths.ensures.cycles
    (good_marks nets ms c.in_ok-others.others.items c.in_ok-marks.ensures.marks same slots.count slots.routes.items good)
